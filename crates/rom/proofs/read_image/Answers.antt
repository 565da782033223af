-- where no condition failed, the image is whole
use Rattle.std.proofs.Common.{◌≡◌, ◌+◌, ◌*◌, ℕ, sym, ap, ◌∙◌, arith}
use borrow.Author.Tests.{eq-eqb}
use Rattle.rules.specs.Numbers.{word}
use Rattle.rules.specs.Rom.{structure_signature, structure_at, image_at}
use Rattle.rom.proofs.Reading.{from_to, as_number, whole}
use Rattle.rom.proofs.read_image.Goals as goal

pub returns : goal.returns
returns c =
    let l = c.args.rom.now in
    let i = c.args.at in
    let pointed : c.from-pointer.result + i ≡ structure_at l i = ap (λ (n : ℕ). n + i) (c.from-pointer.ensures ∙ c.read16-2.ensures) in
    let long : 512 * c.from-size.result ≡ (image_at l i).size = ap (λ (n : ℕ). 512 * n) (c.from-size.ensures ∙ c.read16-3.ensures ∙ ap (λ (n : ℕ). word l (16 + n)) pointed) in
    whole l i _ _ pointed long
    (as_number l i (omega arith) (λ k. (c.type_inv.rom k).fits) ∙ eq-eqb (word l i) 0xAA55 (sym c.read16.ensures ∙ c.if-read16.false))
    (from_to l structure_signature (c.from-pointer.result + i) 4 _ c.if-not-same.ensures)
    (omega arith)
    (omega arith)
    c.if-size-eq0.false
