use Rattle.osc.proofs.Masks.{granted_as}
use Rattle.osc.proofs.granted_bits.Goals as goal

pub returns-in-V3_0 : goal.returns-in-V3_0
returns-in-V3_0 c = rw (c.granted.ensures, c.declared-declared.ensures) (granted_as c.args.b _ c.args.support c.args.requested c.in-V3_0.ensures)

pub returns-in-V3_3 : goal.returns-in-V3_3
returns-in-V3_3 c = rw (c.granted-in-V3_3.ensures, c.declared-declared.ensures) (granted_as c.args.b _ c.args.support c.args.requested c.in-V3_3.ensures)
