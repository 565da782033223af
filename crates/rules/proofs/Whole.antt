-- Fields that are whole records of a known type, by rising type: such a field is sound exactly where the values of its record break no range.
-- Assumes nothing.
use mathlib.Core.Path.{◌≡◌, refl, sym, ap, ap₂, ◌∙◌}
use mathlib.Core.Bool.{Bool, true, ◌&&◌}
use mathlib.Core.List.{List, [], ◌∷◌, map}
use Prim.Native.Nat.{ℕ, zero, suc, ◌/◌, ◌%◌, ◌≤◌}
use native.Mathlib.Omega.{arith}
use borrow.Author.Tests.{leb-true, eqb-true, le-leb, le-ltb, eq-eqb}
use lib.Dec.{eqb, leb, ltb}
use lib.ListN.{get_or}
use Rattle.rules.specs.Lists.{every, pairwise}
use Rattle.rules.specs.Records.{value, is_record, record_size, in_ranges, field_sound}
use Rattle.rules.specs.Writer.{Setting, setting_sound, numbers_from}
use Rattle.rules.specs.declared.Field.{Field}
use Rattle.rules.proofs.Tests.{and-true, and_is}
use Rattle.rules.proofs.Rising.{Rising}

-- the record that a field holds
abbrev pub setting_at : List ℕ → Field → Setting
setting_at l f = record { type = f.tag; numbers = numbers_from (f.size / 4) 0 l f }

-- a field of a known type, with revision 1 and the length of its type
pub record Whole (l : List ℕ) (f : Field) : Type 0 where
  pub known : f.tag ≤ 2
  pub revision : value l f 0 ≡ 1
  pub long : f.size ≡ record_size f.tag

-- such fields by rising type, from type t on
abbrev pub Fields : List ℕ → ℕ → List Field → Type 0
Fields l t r = Rising (λ (f : Field). f.tag) (Whole l) t r

-- a field of the asked type
abbrev pub is_of : ℕ → Field → Bool
is_of type f = eqb f.tag type

-- the length of every type is some DWORDs, at most 17
pub record SomeDwords (n : ℕ) : Type 0 where
  pub least : 4 ≤ n
  pub most : n ≤ 68
  pub exact : n % 4 ≡ 0

pub size_is : (t : ℕ) → SomeDwords (record_size t)
size_is zero = omega arith
size_is (suc zero) = omega arith
size_is (suc (suc t)) = omega arith

module _ (l : List ℕ) where
  -- its numbers, as many as its type has
  pub numbers_by : (f : Field) → Whole l f → numbers_from (f.size / 4) 0 l f ≡ numbers_from (record_size f.tag / 4) 0 l f
  numbers_by f w = ap (λ (n : ℕ). numbers_from (n / 4) 0 l f) w.long

  -- the ranges speak of these numbers alone
  ranges_by : (t : ℕ) (f : Field) → in_ranges t (value l f) ≡ in_ranges t (λ k. get_or (numbers_from (record_size t / 4) 0 l f) k 0)
  ranges_by zero f = refl
  ranges_by (suc zero) f = refl
  ranges_by (suc (suc t)) f = refl

  -- the record search takes it for a record
  pub is_record_lem : (f : Field) → Whole l f → is_record l f ≡ true
  is_record_lem f w = and_is (le-leb f.tag 2 w.known) (eq-eqb (value l f 0) 1 w.revision)

  -- it is sound where its values break no range
  sound_same : (f : Field) → Whole l f → field_sound l f ≡ setting_sound (setting_at l f)
  sound_same f w =
      let s : SomeDwords f.size = rw w.long (size_is f.tag) in
      rw (
        le-ltb 2 f.tag w.known,
        le-leb 4 f.size s.least,
        eq-eqb (f.size % 4) 0 s.exact,
        eq-eqb (value l f 0) 1 w.revision,
        eq-eqb f.size (record_size f.tag) w.long,
      ) (ranges_by f.tag f ∙ ap (λ (v : List ℕ). in_ranges f.tag (λ k. get_or v k 0)) (sym (numbers_by f w)))

  -- the same of all fields
  pub all_same : (t : ℕ) (r : List Field) → Fields l t r → every (field_sound l) r ≡ every setting_sound (map (setting_at l) r)
  all_same t [] w = refl
  all_same t (f ∷ r) w = ap₂ {B = Bool} (λ (x : Bool) y. x && y) (sound_same f w.1) (all_same (suc f.tag) r w.2)

  -- a sound field that is a record has the length of its type, and its values break no range
  pub record_keeps : (f : Field) → is_record l f ≡ true → field_sound l f ≡ true → (eqb f.size (record_size f.tag) ≡ true) × (in_ranges f.tag (value l f) ≡ true)
  record_keeps f e s =
      let a = and-true (leb f.tag 2) (eqb (value l f 0) 1) e in
      let b = rw (le-ltb 2 f.tag (leb-true f.tag 2 a.0), a.1) at s in
      let c = and-true (leb 4 f.size && eqb (f.size % 4) 0) (eqb f.size (record_size f.tag) && in_ranges f.tag (value l f)) b in
      and-true (eqb f.size (record_size f.tag)) (in_ranges f.tag (value l f)) c.1

  -- it is whole
  is_whole : (f : Field) → is_record l f ≡ true → field_sound l f ≡ true → Whole l f
  is_whole f e s =
      let a = and-true (leb f.tag 2) (eqb (value l f 0) 1) e in
      record { known = leb-true f.tag 2 a.0; revision = eqb-true (value l f 0) 1 a.1; long = eqb-true f.size (record_size f.tag) (record_keeps f e s).0 }

  -- so are all fields of a sound block that holds only such records
  pub all_whole : (t : ℕ) (r : List Field) → every (λ f. leb t f.tag) r ≡ true → every (is_record l) r ≡ true → pairwise (λ f g. ltb f.tag g.tag) r ≡ true
      → every (field_sound l) r ≡ true → Fields l t r
  all_whole t [] h e p s = tt
  all_whole t (f ∷ r) h e p s =
      let a = and-true (leb t f.tag) (every (λ g. leb t g.tag) r) h in
      let b = and-true (is_record l f) (every (is_record l) r) e in
      let c = and-true (every (λ g. ltb f.tag g.tag) r) (pairwise (λ f g. ltb f.tag g.tag) r) p in
      let d = and-true (field_sound l f) (every (field_sound l) r) s in
      (leb-true t f.tag a.0, is_whole f b.0 d.0, all_whole (suc f.tag) r c.0 b.1 c.1 d.1)
