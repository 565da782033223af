use Rattle.std.proofs.Common.{refl, ◌∙◌}
use Rattle.rules.specs.Calls.{step}
use Rattle.locate.proofs.Found.{read_back_is}
use Rattle.bridges.proofs.locate.Goals as goal

pub returns : goal.returns
unfolding step
returns c = (c.locate.ensures ∙ read_back_is c.args.t.now c.requires c.args.s c.args.address, refl)
