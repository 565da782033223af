-- the images left give whether the chain is sound; the measure is the bytes left
use Rattle.std.proofs.Common.{length, ◌-◌}
use Rattle.rom.specs.Images.{chain_sound}
use Rattle.rom.proofs.Walking.{Left, chain}
use Rattle.rom.proofs.chain_sound.Given as goal

abbrev pub invariant-loop-at : goal.invariant-loop-at
invariant-loop-at l = Left l.rom (chain l.rom) (chain_sound l.rom l.from) l.at

abbrev pub decreases-loop-at : goal.decreases-loop-at
decreases-loop-at l = length l.rom - l.at
