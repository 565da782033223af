use Rattle.hpx.proofs.Searches.{inside}
use Rattle.hpx.proofs.try_find_record.Goals as goal

pub cut-requires : goal.cut-requires
cut-requires c = rw c.deciding.ensures.0 (inside c.args.slot.now c.args.block.now c.args.record_type c.in_ok-at.at c.in_ok-at.ensures)
