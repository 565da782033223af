use Rattle.std.proofs.Common.{refl}
use Rattle.one_bridge.specs.Answers.{asked_for}
use Rattle.bridges.proofs.AtIndex.{as_read}
use Rattle.bridges.proofs.address.Goals as goal

pub returns : goal.returns
returns c = as_read c.args.t.now c.requires c.args.s c.args.n (asked_for c.args.asked) c.call.ensures.made (λ b. refl) c.address.ensures
