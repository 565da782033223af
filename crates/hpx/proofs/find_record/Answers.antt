use Rattle.hpx.proofs.Searches.{found_fits}
use Rattle.hpx.proofs.find_record.Goals as goal

pub found-requires : goal.found-requires
found-requires c = rw (c.search.ensures, c.deciding.ensures.0) (found_fits c.args.slot.now c.args.block.now c.args.record_type)
