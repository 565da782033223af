-- the images left give the answer; the measure is the bytes left
use Rattle.std.proofs.Common.{length, ◌-◌}
use Rattle.rules.specs.Rom.{find_image}
use Rattle.rom.proofs.Walking.{Left, answer}
use Rattle.rom.proofs.search.Given as goal

abbrev pub invariant-loop-at : goal.invariant-loop-at
invariant-loop-at l = Left l.rom (answer l.rom l.vendor l.device l.code_type) (find_image l.rom l.vendor l.device l.code_type) l.at

abbrev pub decreases-loop-at : goal.decreases-loop-at
decreases-loop-at l = length l.rom - l.at
