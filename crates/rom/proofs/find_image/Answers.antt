use Rattle.rom.proofs.Walking.{found_fits}
use Rattle.rom.proofs.find_image.Goals as goal

pub found-requires : goal.found-requires
found-requires c = rw c.search.ensures (found_fits c.args.rom.now c.args.vendor c.args.device c.args.code_type)
