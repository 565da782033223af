-- The window of the bridge that was found has the address.
use Rattle.std.proofs.Common.{rules}
use Rattle.locate.proofs.Found.{in_found}
use Rattle.locate.proofs.locate.Goals as goal

pub place_of-requires : goal.place_of-requires
place_of-requires c = in_found c.args.bridges.now c.args.s c.args.address c.in_ok-i.i (search rules)
