use Rattle.std.proofs.Common.{◌≡◌, ℕ, ◌+◌, ◌||◌, List, true, sym, ap, ◌∙◌, arith}
use Rattle.std.proofs.lemmas.Result.{err_from_is_err_and}
use Rattle.codes.specs.Numbers.{number_of}
use Rattle.rules.specs.Parts.{refused}
use Rattle.rules.specs.Rom.{is_last, image_sound, find_image}
use Rattle.rules.specs.declared.Image.{Image}
use Rattle.rom.specs.Images.{image_read, chain_sound, chosen_if}
use Rattle.std.specs.Prelude.{Ok}
use Rattle.rom.proofs.Reading.{image_fits, is_broken}
use Rattle.rom.proofs.Walking.{Left, ended, at_end, sound, at_last, goes_on, answer, too_large, at_start, no_match, none_found, is_chosen}
use Rattle.rom.proofs.search.Goals as goal

-- an image that was read is sound
is_sound : (l : List ℕ) (vendor device code_type i : ℕ) → Left l (answer l vendor device code_type) (find_image l vendor device code_type) i
    → (m : Image) → Ok m ≡ image_read l i → image_sound l m ≡ true
is_sound l vendor device code_type i w m e = sound l (answer l vendor device code_type) (find_image l vendor device code_type) i w m e

pub returns-then-too_large : goal.returns-then-too_large
returns-then-too_large c =
    let a = c.args in
    too_large a.rom.now a.vendor a.device a.code_type (sym c.if-too_large.ensures)

pub loop-at-init : goal.loop-at-init
loop-at-init c =
    let a = c.args in
    at_start a.rom.now a.vendor a.device a.code_type (sym c.if-too_large.ensures)

pub returns-in_err-m : goal.returns-in_err-m
returns-in_err-m c =
    let p = err_from_is_err_and c.from_residual.result c.from_residual.ensures.1 in
    rw (p.1, p.2) (ap (λ r. refused (number_of r)) (is_broken c.args.rom.now c.loop-at.at _ c.in_err-m.ensures).1 ∙ ended _ _ _ _ c.loop-at.invariant _ c.in_err-m.ensures)

pub returns-then-is_asked : goal.returns-then-is_asked
returns-then-is_asked c =
    let a = c.args in
    let l = a.rom.now in
    let m = c.in_ok-m.m in
    c.chosen.ensures
    ∙ ap (λ (n : ℕ). chosen_if (is_last l m || chain_sound l (m.size + n)) m) (image_fits l c.loop-at.at m c.in_ok-m.ensures).3
    ∙ is_chosen l a.vendor a.device a.code_type c.loop-at.at c.loop-at.invariant m c.in_ok-m.ensures (sym c.if-is_asked.ensures)

pub returns-then-is_last : goal.returns-then-is_last
returns-then-is_last c =
    let a = c.args in
    let l = a.rom.now in
    let m = c.in_ok-m.m in
    let s = is_sound l a.vendor a.device a.code_type c.loop-at.at c.loop-at.invariant m c.in_ok-m.ensures in
    none_found l a.vendor a.device a.code_type m s (sym c.if-is_asked.ensures)
    ∙ at_last _ _ _ c.loop-at.at c.loop-at.invariant m c.in_ok-m.ensures (sym c.if-is_last.ensures)

pub loop-at-preserved : goal.loop-at-preserved
loop-at-preserved c =
    let a = c.args in
    let l = a.rom.now in
    let m = c.in_ok-m.m in
    let s = is_sound l a.vendor a.device a.code_type c.loop-at.at c.loop-at.invariant m c.in_ok-m.ensures in
    goes_on _ _ _ c.loop-at.at c.loop-at.invariant m c.in_ok-m.ensures (sym c.if-is_last.ensures)
    (no_match l a.vendor a.device a.code_type m s (sym c.if-is_asked.ensures))

pub returns : goal.returns
returns c = at_end _ _ _ _ c.loop-at.invariant (omega arith)
