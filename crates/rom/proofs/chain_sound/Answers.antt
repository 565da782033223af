use Rattle.std.proofs.Common.{◌≡◌, ℕ, List, [], sym, ◌∙◌}
use Rattle.std.proofs.Math.Option.{Option, some}
use Rattle.rules.specs.Lists.{prepend}
use Rattle.rules.specs.Rom.{sound_images}
use Rattle.rules.specs.declared.Image.{Image}
use Rattle.rom.specs.Images.{image_read, chain_sound}
use Rattle.std.specs.Prelude.{Ok}
use Rattle.rom.proofs.Walking.{Left, ended, sound, at_last, goes_on, chain, chain_from, same_chain}
use Rattle.rom.proofs.chain_sound.Goals as goal

-- an image that was read is sound, so it adds nothing
adds_nothing : (l : List ℕ) (from i : ℕ) → Left l (chain l) (chain_sound l from) i → (m : Image) → Ok m ≡ image_read l i
    → (o : Option (List Image)) → sound_images l (prepend m o) ≡ sound_images l o
adds_nothing l from i w m e = same_chain l m (sound l (chain l) (chain_sound l from) i w m e)

pub loop-at-init : goal.loop-at-init
loop-at-init c = chain_from c.args.rom.now c.args.from c.requires

pub returns-in_default : goal.returns-in_default
returns-in_default c = ended _ _ _ _ c.loop-at.invariant _ c.in_default.ensures

pub returns-then-is_last : goal.returns-then-is_last
returns-then-is_last c =
    let l = c.args.rom.now in
    sym (adds_nothing l c.args.from c.loop-at.at c.loop-at.invariant c.in-Ok.m c.in-Ok.ensures (some []))
    ∙ at_last l (chain l) _ c.loop-at.at c.loop-at.invariant c.in-Ok.m c.in-Ok.ensures (sym c.if-is_last.ensures)

pub loop-at-preserved : goal.loop-at-preserved
loop-at-preserved c =
    let l = c.args.rom.now in
    goes_on l (chain l) _ c.loop-at.at c.loop-at.invariant c.in-Ok.m c.in-Ok.ensures (sym c.if-is_last.ensures)
    (adds_nothing l c.args.from c.loop-at.at c.loop-at.invariant c.in-Ok.m c.in-Ok.ensures)
