-- A sound ROM is one with a chain of sound images to a last one; the image chosen is one of the chain, inside the ROM, and is as asked for.
-- Assumes nothing.
use mathlib.Core.Path.{◌≡◌, refl, sym, ap, ◌∙◌, subst}
use mathlib.Core.Bool.{Bool, true, false, not, cond, true≢false}
use mathlib.Core.List.{List, [], ◌∷◌}
use mathlib.Core.Option.{Option, none, some, none-ne-some}
use Prim.Native.Nat.{ℕ, zero, suc, ◌+◌, ◌*◌, ◌/◌, ◌≤◌, ◌<◌}
use native.Mathlib.Omega.{arith}
use borrow.Author.Tests.{eqb-true, leb-true, le-leb, eq-eqb, not-false}
use lib.Dec.{eqb, leb}
use lib.ListN.{length, take, drop}
use Rattle.rules.specs.Limits.{max_rom}
use Rattle.rules.specs.Lists.{every, first, is_none, prepend}
use Rattle.rules.specs.Numbers.{byte, word, same_bytes}
use Rattle.rules.specs.Parts.{part_by}
use Rattle.rules.specs.Refusals.{◌if◌, first_of}
use Rattle.rules.specs.Rom.{image_signature, structure_signature, structure_at, image_at, is_last, images_from, images_of, image_sound, sound_images, rom_sound, is_asked, image_among, image_in, image_refusals, image_part, Chain, last, next}
use Rattle.rules.specs.Claims.{ImagePart, SoundChain}
use Rattle.rules.proofs.Tests.{and-true, and_is, same_test}
use Rattle.rules.proofs.Refusals.{clear}
use Rattle.rules.proofs.Lists.{same_eq}
use Rattle.rules.specs.declared.Image.{Image}

-- ---- what is sound of an image

pub record SoundImage (l : List ℕ) (m : Image) : Type 0 where
  pub signature : same_bytes (take 2 (drop m.start l)) image_signature ≡ true
  pub letters : same_bytes (take 4 (drop m.structure l)) structure_signature ≡ true
  pub ends : m.size + m.start ≤ length l
  pub structure_ends : 24 + m.structure ≤ length l
  pub not_empty : m.size ≡ 0 → ⊥

pub sound_image : (l : List ℕ) (m : Image) → image_sound l m ≡ true → SoundImage l m
sound_image l m e =
    let a = and-true _ (not (eqb m.size 0)) e in
    let b = and-true _ (leb (24 + m.structure) (length l)) a.0 in
    let c = and-true _ (leb (m.size + m.start) (length l)) b.0 in
    let d = and-true _ (same_bytes (take 4 (drop m.structure l)) structure_signature) c.0 in
    record {
      signature = d.0;
      letters = d.1;
      ends = leb-true (m.size + m.start) (length l) c.1;
      structure_ends = leb-true (24 + m.structure) (length l) b.1;
      not_empty = λ z. true≢false (sym a.1 ∙ ap not (eq-eqb m.size 0 z));
    }

-- it has 512 bytes
pub unit : (l : List ℕ) (i : ℕ) → SoundImage l (image_at l i) → 512 ≤ (image_at l i).size
unit l i s = whole (word l (0x10 + structure_at l i)) s.not_empty
  where
    whole : (n : ℕ) → (512 * n ≡ 0 → ⊥) → 512 ≤ 512 * n
    whole zero z = absurd (z refl)
    whole (suc n) z = omega arith

-- ---- the images to the last, and chains

to_chain : (n : ℕ) (l : List ℕ) (i : ℕ) (r : List Image) → images_from n l i ≡ some r → every (image_sound l) r ≡ true → Chain l i r
to_chain zero l i r e a = absurd (none-ne-some r e)
to_chain (suc n) l i r e a = go (λ k f s. to_chain n l (m.size + i) k f s) (is_last l m) refl (images_from n l (m.size + i)) refl e
  where
    m : Image
    m = image_at l i

    go : ((k : List Image) → images_from n l (m.size + i) ≡ some k → every (image_sound l) k ≡ true → Chain l (m.size + i) k)
        → (q : Bool) → is_last l m ≡ q → (o : Option (List Image)) → images_from n l (m.size + i) ≡ o → cond q (some (m ∷ [])) (prepend m o) ≡ some r → Chain l i r
    go ih true h o f z =
        let y : r ≡ m ∷ [] = cc in
        let s = and-true (image_sound l m) true (rw y at a) in
        subst (Chain l i) (sym y) (last s.0 h)
    go ih false h none f z = absurd (none-ne-some r z)
    go ih false h (some k) f z =
        let y : r ≡ m ∷ k = cc in
        let s = and-true (image_sound l m) (every (image_sound l) k) (rw y at a) in
        subst (Chain l i) (sym y) (next s.0 h (ih k f s.1))

-- so many images are enough, since each has 512 bytes
from_chain : (n : ℕ) (l : List ℕ) (i : ℕ) (r : List Image) → Chain l i r → length l < 512 + (512 * n + i)
    → (images_from n l i ≡ some r) × (every (image_sound l) r ≡ true)
from_chain zero l i r (last s e) h =
    let g = sound_image l (image_at l i) s in
    absurd (omega (arith, g.ends, unit l i g))
from_chain zero l i r (next s e c) h =
    let g = sound_image l (image_at l i) s in
    absurd (omega (arith, g.ends, unit l i g))
from_chain (suc n) l i r (last s e) h = (rw e, rw s)
from_chain (suc n) l i r (next {r = k} s e c) h =
    let g = sound_image l (image_at l i) s in
    let t = from_chain n l ((image_at l i).size + i) k c (omega (arith, unit l i g)) in
    (rw (e, t.0), rw (s, t.1))

pub enough : (n : ℕ) → n < 512 + (512 * (n / 512) + 0)
enough n = omega arith

-- whether there is a chain does not depend on the bound
pub any_bound : (l : List ℕ) (i n k : ℕ) → length l < 512 + (512 * n + i) → length l < 512 + (512 * k + i)
    → sound_images l (images_from n l i) ≡ sound_images l (images_from k l i)
any_bound l i n k h j = same_test (sound_images l (images_from n l i)) (sound_images l (images_from k l i)) (over n k j (images_from n l i) refl) (over k n h (images_from k l i) refl)
  where
    over : (n k : ℕ) → length l < 512 + (512 * k + i) → (o : Option (List Image)) → images_from n l i ≡ o → sound_images l o ≡ true → sound_images l (images_from k l i) ≡ true
    over n k j none e s = absurd (true≢false (sym s))
    over n k j (some r) e s =
        let t = from_chain k l i r (to_chain n l i r e s) j in
        ap (sound_images l) t.0 ∙ t.1

pub sound_chain : SoundChain
unfolding rom_sound images_of
sound_chain rom r = (
  λ (s, e).
      let h = and-true (leb (length rom) max_rom) (sound_images rom (images_of rom)) s in
      (leb-true (length rom) max_rom h.0, to_chain (length rom / 512) rom 0 r e (ap (sound_images rom) (sym e) ∙ h.1)),
  λ (h, c).
      let t = from_chain (length rom / 512) rom 0 r c (enough (length rom)) in
      (and_is (le-leb (length rom) max_rom h) (ap (sound_images rom) t.0 ∙ t.1), t.0),
)

-- ---- the image chosen

-- an image of the ROM, sound and as asked for
pub record Chosen (l : List ℕ) (vendor device code_type : ℕ) (m : Image) : Type 0 where
  pub is_image : m ≡ image_at l m.start
  pub is_sound_lem : image_sound l m ≡ true
  pub is_asked_lem : is_asked l vendor device code_type m ≡ true

module _ (l : List ℕ) (vendor device code_type : ℕ) where
  abbrev asked : Image → Bool
  asked m = is_asked l vendor device code_type m

  here : (i : ℕ) (m : Image) → image_at l i ≡ m → image_sound l (image_at l i) ≡ true → asked (image_at l i) ≡ true → Chosen l vendor device code_type m
  here i m y s a = subst (Chosen l vendor device code_type) y (record { is_image = refl; is_sound_lem = s; is_asked_lem = a })

  in_chain : (i : ℕ) (r : List Image) → Chain l i r → (m : Image) → first asked r ≡ some m → Chosen l vendor device code_type m
  in_chain i r (last s e) m f = go (asked (image_at l i)) refl f
    where
      go : (q : Bool) → asked (image_at l i) ≡ q → cond q (some (image_at l i)) none ≡ some m → Chosen l vendor device code_type m
      go true a z = let y : image_at l i ≡ m = cc in here i m y s a
      go false a z = absurd (none-ne-some m z)
  in_chain i r (next {r = k} s e c) m f = go (λ z. in_chain ((image_at l i).size + i) k c m z) (asked (image_at l i)) refl f
    where
      go : (first asked k ≡ some m → Chosen l vendor device code_type m)
          → (q : Bool) → asked (image_at l i) ≡ q → cond q (some (image_at l i)) (first asked k) ≡ some m → Chosen l vendor device code_type m
      go ih true a z = let y : image_at l i ≡ m = cc in here i m y s a
      go ih false a z = ih z

  pub chosen : rom_sound l ≡ true → (m : Image) → image_in l vendor device code_type ≡ some m → Chosen l vendor device code_type m
  unfolding image_in
  chosen s m e = go (images_of l) refl e
    where
      go : (o : Option (List Image)) → images_of l ≡ o → image_among l vendor device code_type o ≡ some m → Chosen l vendor device code_type m
      go none f z = absurd (none-ne-some m z)
      go (some r) f z = in_chain 0 r ((sound_chain l r).0 (s, f)).1 m z

pub image_part_lem : ImagePart
image_part_lem rom vendor device code_type = go (first_of (image_refusals rom vendor device code_type)) (image_in rom vendor device code_type) refl refl
  where
    go : (k : ℕ) (o : Option Image) → first_of (image_refusals rom vendor device code_type) ≡ k → image_in rom vendor device code_type ≡ o
        → let p = part_by image_part k o in let s = structure_at rom p.start in
        p.number ≡ 0
        → (p.start + p.size ≤ length rom) × (p.size ≡ 512 * word rom (0x10 + s)) × (take 2 (drop p.start rom) ≡ image_signature)
        × (word rom (4 + s) ≡ vendor) × (word rom (6 + s) ≡ device) × (byte rom (0x14 + s) ≡ code_type)
    go zero none e h z =
        let c = clear ((12 if not (rom_sound rom)) ∷ (13 if is_none (image_in rom vendor device code_type)) ∷ []) (omega arith) e in
        absurd (true≢false (ap is_none (sym h) ∙ c.1.0))
    go zero (some m) e h z =
        let c = clear ((12 if not (rom_sound rom)) ∷ (13 if is_none (image_in rom vendor device code_type)) ∷ []) (omega arith) e in
        let f = chosen rom vendor device code_type (not-false (rom_sound rom) c.0) m h in
        let g = sound_image rom m f.is_sound_lem in
        let s : m.structure ≡ structure_at rom m.start = ap (λ (x : Image). x.structure) f.is_image in
        let a = and-true _ (eqb (byte rom (0x14 + m.structure)) code_type) f.is_asked_lem in
        let b = and-true (eqb (word rom (4 + m.structure)) vendor) (eqb (word rom (6 + m.structure)) device) a.0 in (
          omega (arith, g.ends),
          ap (λ (x : Image). x.size) f.is_image,
          same_eq (take 2 (drop m.start rom)) image_signature g.signature,
          ap (λ (n : ℕ). word rom (4 + n)) (sym s) ∙ eqb-true (word rom (4 + m.structure)) vendor b.0,
          ap (λ (n : ℕ). word rom (6 + n)) (sym s) ∙ eqb-true (word rom (6 + m.structure)) device b.1,
          ap (λ (n : ℕ). byte rom (0x14 + n)) (sym s) ∙ eqb-true (byte rom (0x14 + m.structure)) code_type a.1,
        )
    go (suc k) o e h z = absurd (omega (arith, z))
