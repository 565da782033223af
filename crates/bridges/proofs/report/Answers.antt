use Rattle.std.proofs.Common.{refl}
use Rattle.rules.specs.Calls.{report}
use Rattle.bridges.proofs.AtIndex.{as_read}
use Rattle.bridges.proofs.report.Goals as goal

pub returns : goal.returns
returns c = as_read c.args.t.now c.requires c.args.s c.args.n report c.call.ensures.made (λ b. refl) c.report.ensures
