-- The image reader: an image is read where all that is sound of it holds.
-- Assumes nothing.
use Prim.Native.Nat.{ℕ, suc, ◌+◌, ◌-◌, ◌≤◌, ◌<◌}
use mathlib.Core.Path.{◌≡◌, refl, sym, ap, ◌∙◌, subst}
use mathlib.Core.Bool.{Bool, true, false, cond, ◌&&◌, true≢false}
use mathlib.Core.List.{List, ◌∷◌}
use native.Mathlib.Nat.{add-sub_cancel}
use native.Mathlib.Omega.{arith}
use lib.ListN.{length, take, drop}
use borrow.Author.Tests.{eqb-true, eq-eqb, le-leb, ne_eqb}
use lib.Dec.{eqb}
use lib.Seq.{drop-cons}
use Rattle.rules.specs.Numbers.{byte, word, same_bytes}
use Rattle.rules.specs.Rom.{image_signature, structure_signature, structure_at, image_at, image_sound}
use Rattle.rules.specs.declared.Image.{Image}
use Rattle.rules.proofs.Rom.{sound_image, unit}
use Rattle.rom.specs.Images.{image_read}
use Rattle.std.specs.Prelude.{Ok, Err}
use Rattle.codes.specs.declared.Refusal.{Refusal}
use Rattle.codes.specs.declared.Refusal.TheVariants.{Rom}

-- n bytes from byte i on, as the code cuts them
pub from_to : (l s : List ℕ) (i n : ℕ) (q : Bool) → q ≡ same_bytes (take (n + i - i) (drop i l)) s → same_bytes (take n (drop i l)) s ≡ q
from_to l s i n q e = sym (e ∙ ap (λ (k : ℕ). same_bytes (take k (drop i l)) s) (add-sub_cancel n i))

-- the two bytes of a signature, read as a number
pub as_number : (l : List ℕ) (i : ℕ) → 2 + i ≤ length l → ((k : ℕ) → byte l k < 256) → same_bytes (take 2 (drop i l)) image_signature ≡ eqb (word l i) 0xAA55
as_number l i h bytes =
    ap (λ (r : List ℕ). same_bytes (take 2 r) image_signature) two ∙ go (eqb (byte l i) 0x55) refl (eqb (byte l (1 + i)) 0xAA) refl
  where
    two : drop i l ≡ byte l i ∷ byte l (1 + i) ∷ drop (2 + i) l
    two =
        let one : 1 + i ≡ suc i = omega arith in
        let more : 2 + i ≡ suc (suc i) = omega arith in
        rw (one, more, drop-cons l i 0 (omega arith), drop-cons l (suc i) 0 (omega arith))

    go : (p : Bool) → eqb (byte l i) 0x55 ≡ p → (q : Bool) → eqb (byte l (1 + i)) 0xAA ≡ q → (p && (q && true)) ≡ eqb (word l i) 0xAA55
    go true e true f = sym (eq-eqb (word l i) 0xAA55 (omega (arith, eqb-true (byte l i) 0x55 e, eqb-true (byte l (1 + i)) 0xAA f)))
    go true e false f = sym (ne_eqb (word l i) 0xAA55 (λ z. true≢false (sym (eq-eqb (byte l (1 + i)) 0xAA (omega (arith, eqb-true (byte l i) 0x55 e))) ∙ f)))
    go false e q f = sym (ne_eqb (word l i) 0xAA55 (λ z. true≢false (sym (eq-eqb (byte l i) 0x55 (omega (arith, bytes i, bytes (1 + i)))) ∙ e)))

-- an image of which all holds that the reader asks
pub whole : (l : List ℕ) (i structure size : ℕ) → structure ≡ structure_at l i → size ≡ (image_at l i).size
    → same_bytes (take 2 (drop i l)) image_signature ≡ true → same_bytes (take 4 (drop structure l)) structure_signature ≡ true
    → size + i ≤ length l → 24 + structure ≤ length l → (size ≡ 0 → ⊥) → Ok (record { start = i; structure = structure; size = size }) ≡ image_read l i
whole l i structure size at long signature letters ends structure_ends not_empty =
    ap Ok image ∙ rw (sym (ap (image_sound l) image) ∙ sound)
  where
    image : record { start = i; structure = structure; size = size } ≡ image_at l i
    image = rw (at, long)

    sound : image_sound l (record { start = i; structure = structure; size = size }) ≡ true
    sound = rw (signature, letters, le-leb (size + i) (length l) ends, le-leb (24 + structure) (length l) structure_ends, ne_eqb size 0 not_empty)

-- ---- what was read

-- an image that was read is the one at its byte, and sound
pub is_read : (l : List ℕ) (i : ℕ) (m : Image) → Ok m ≡ image_read l i → (m ≡ image_at l i) × (image_sound l (image_at l i) ≡ true)
is_read l i m e = go (image_sound l (image_at l i)) e
  where
    go : (t : Bool) → Ok m ≡ cond t (Ok (image_at l i)) (Err Rom) → (m ≡ image_at l i) × (t ≡ true)
    go true q = (cc, refl)
    go false q = let z : ◌≡◌ {A = ℕ} 0 1 = cc in absurd (omega arith)

-- it starts there, and it and its structure lie inside the ROM
pub image_fits : (l : List ℕ) (i : ℕ) (m : Image) → Ok m ≡ image_read l i
    → (m.size + i ≤ length l) × (24 + m.structure ≤ length l) × (512 ≤ m.size) × (m.start ≡ i)
image_fits l i m e =
    let r = is_read l i m e in
    let s = sound_image l (image_at l i) r.1 in
    subst (λ (x : Image). (x.size + i ≤ length l) × (24 + x.structure ≤ length l) × (512 ≤ x.size) × (x.start ≡ i)) (sym r.0) (s.ends, s.structure_ends, unit l i s, refl)

pub is_broken : (l : List ℕ) (i : ℕ) (r : Refusal) → Err r ≡ image_read l i → (image_sound l (image_at l i) ≡ false) × (r ≡ Rom)
is_broken l i r e = go (image_sound l (image_at l i)) e
  where
    go : (t : Bool) → Err r ≡ cond t (Ok (image_at l i)) (Err Rom) → (t ≡ false) × (r ≡ Rom)
    go true q = let z : ◌≡◌ {A = ℕ} 0 1 = cc in absurd (omega arith)
    go false q = (refl, cc)
