use Rattle.std.proofs.Common.{refl}
use Rattle.rules.specs.Calls.{register_values}
use Rattle.bridges.proofs.AtIndex.{as_read}
use Rattle.bridges.proofs.register_values.Goals as goal

pub returns : goal.returns
returns c = as_read c.args.t.now c.requires c.args.s c.args.n (register_values c.args.slot.now c.args.block.now c.args.current.now) c.call.ensures.made (λ b. refl) c.register_values.ensures
