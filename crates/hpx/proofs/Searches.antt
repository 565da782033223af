-- What the record search gives lies inside the deciding block; a type 2 record has its eight pairs, which give the register values.
-- Assumes nothing.
use Prim.Native.Nat.{ℕ, zero, suc, ◌+◌, ◌%◌, ◌≤◌}
use mathlib.Core.Path.{◌≡◌, refl, sym, ap, subst, ◌∙◌}
use mathlib.Core.Bool.{Bool, true, false, not, cond, ◌&&◌, ◌||◌, true≢false}
use mathlib.Core.List.{List, [], ◌∷◌}
use mathlib.Core.Option.{Option, none, some}
use native.Mathlib.Omega.{arith}
use lib.Dec.{eqb, leb, ltb}
use lib.ListN.{length}
use borrow.Author.Tests.{eqb-true, le-ltb, not-false}
use Rattle.rules.specs.Limits.{max_block}
use Rattle.rules.specs.Lists.{every, first, is_none}
use Rattle.rules.specs.Refusals.{first_of}
use Rattle.rules.specs.Records.{field_at, new_values, fields_of, value, is_record, record_size, in_ranges, field_sound, sound_fields, block_sound, deciding, record_among, record_in, record_refusals, found_by, find_record}
use Rattle.rules.specs.declared.Field.{Field}
use Rattle.rules.specs.declared.FoundAt.{FoundAt}
use Rattle.rules.proofs.Tests.{and-true, and_l, and_r, and_off}
use Rattle.rules.proofs.Refusals.{clear}
use Rattle.rules.proofs.Records.{record_part_lem}
use Rattle.parts.specs.declared.Part.{Part}
use Rattle.parts.specs.Found.{placed}
use Rattle.std.proofs.Common.{drop, length-take-le, length-drop}
use Rattle.rules.specs.Parts.{part}
use Rattle.hpx.specs.Answers.{values_at}
use Rattle.hpx.proofs.Values.{values_of_part}

-- ---- the part

pub found_fits : (slot block : List ℕ) (type : ℕ)
    → (find_record slot block type).start + (find_record slot block type).size ≤ length (deciding slot block)
found_fits slot block type = go (first_of (record_refusals slot block type)) (record_in l type) (λ e. (record_part_lem slot block type e).0)
  where
    l : List ℕ
    l = deciding slot block

    go : (k : ℕ) (o : Option Field) → ((found_by k o).number ≡ 0 → (found_by k o).start + (found_by k o).size ≤ length l)
        → (found_by k o).start + (found_by k o).size ≤ length l
    go zero none h = omega arith
    go zero (some f) h = h refl
    go (suc k) o h = omega arith

-- ---- the number

number_is : (k : ℕ) (o : Option Field) → (found_by k o).number ≡ k
number_is zero none = refl
number_is zero (some f) = refl
number_is (suc k) o = refl

-- a search that gives 0 found a record in a sound block
record Finds (l : List ℕ) (type : ℕ) : Type 0 where
  is_sound_lem : block_sound l ≡ true
  is_there : is_none (record_in l type) ≡ false

finds : (slot block : List ℕ) (type : ℕ) → first_of (record_refusals slot block type) ≡ 0 → Finds (deciding slot block) type
finds slot block type e =
    let c = clear (record_refusals slot block type) (omega arith) e in
    record { is_sound_lem = not-false (block_sound (deciding slot block)) c.0; is_there = c.1.0 }

-- ---- a type 2 record is 71 bytes long

-- the first that passes one test, in a list that passes another, passes both
first_passes : {A : Type 0} (p q : A → Bool) (r : List A) (x : A) → first p r ≡ some x → every q r ≡ true → (p x ≡ true) × (q x ≡ true)
first_passes p q [] x e a = let z : ◌≡◌ {A = ℕ} 0 1 = cc in absurd (omega arith)
first_passes p q (y ∷ r) x e a =
    let h = and-true (q y) (every q r) a in
    go (p y) refl e h.0 (λ i. first_passes p q r x i h.1)
  where
    go : (t : Bool) → p y ≡ t → cond t (some y) (first p r) ≡ some x → q y ≡ true
        → (first p r ≡ some x → (p x ≡ true) × (q x ≡ true)) → (p x ≡ true) × (q x ≡ true)
    go true i e b ih = let s : y ≡ x = cc in (ap p (sym s) ∙ i, ap q (sym s) ∙ b)
    go false i e b ih = ih e

-- the length's test, out of all that is sound of a field
length_test : (a b c r s v : Bool) → (a || (b && c && (not r || (s && v)))) ≡ true → a ≡ false → r ≡ true → s ≡ true
length_test a b c r true v e p q = refl
length_test true b c r false v e p q = sym p
length_test false b c false false v e p q = q
length_test false b c true false v e p q = sym (and_off (b && c)) ∙ e

record_long : (l : List ℕ) (f : Field) → is_record l f && eqb f.tag 2 ≡ true → field_sound l f ≡ true → f.size ≡ 68
record_long l f p q =
    let h = and-true (is_record l f) (eqb f.tag 2) p in
    let t : f.tag ≡ 2 = eqb-true f.tag 2 h.1 in
    let low = le-ltb 2 f.tag (omega arith) in
    let revision = and_r (leb f.tag 2) (eqb (value l f 0) 1) h.0 in
    let s = length_test (ltb 2 f.tag) (leb 4 f.size) (eqb (f.size % 4) 0) (eqb (value l f 0) 1) _ (in_ranges f.tag (value l f)) q low revision in
    eqb-true f.size (record_size f.tag) s ∙ ap record_size t

among_long : (l : List ℕ) (o : Option (List Field)) (f : Field) → sound_fields l o ≡ true → record_among l 2 o ≡ some f → f.size ≡ 68
among_long l none f a e = let z : ◌≡◌ {A = ℕ} 0 1 = cc in absurd (omega arith)
among_long l (some r) f a e =
    let h = first_passes (λ g. is_record l g && eqb g.tag 2) (field_sound l) r f e (and_l (every (field_sound l) r) _ a) in
    record_long l f h.0 h.1

in_long : (l : List ℕ) (f : Field) → block_sound l ≡ true → record_in l 2 ≡ some f → f.size ≡ 68
unfolding block_sound record_in
in_long l f a e = among_long l (fields_of l) f (and_r (leb (length l) max_block) (sound_fields l (fields_of l)) a) e

-- ---- what the search of the code gives

-- a part that it gives lies inside the deciding block
pub inside : (slot block : List ℕ) (type : ℕ) (p : Part) → placed p ≡ find_record slot block type → p.start + p.size ≤ length (deciding slot block)
inside slot block type p e = subst (λ (q : FoundAt). q.start + q.size ≤ length (deciding slot block)) (sym e) (found_fits slot block type)

-- a type 2 record, handed back as these bytes
module _ (slot block bytes : List ℕ) (done : 0 ≡ (find_record slot block 2).number) (is : bytes ≡ part (find_record slot block 2) (deciding slot block)) where
  abbrev l : List ℕ
  l = deciding slot block

  abbrev k : ℕ
  k = first_of (record_refusals slot block 2)

  none_refused : k ≡ 0
  none_refused = sym (done ∙ number_is k (record_in l 2))

  -- has its eight pairs
  pub pairs_there : length bytes ≡ 71
  pairs_there =
      let c = finds slot block 2 none_refused in
      go k (record_in l 2) refl (found_fits slot block 2) c.is_there c.is_sound_lem none_refused is
    where
      go : (k : ℕ) (o : Option Field) → record_in l 2 ≡ o → (found_by k o).start + (found_by k o).size ≤ length l → is_none o ≡ false
          → block_sound l ≡ true → k ≡ 0 → bytes ≡ part (found_by k o) l → length bytes ≡ 71
      go zero none i h n b z e = absurd (true≢false n)
      go zero (some f) i h n b z e =
          let size : f.size ≡ 68 = in_long l f b i in
          let there : 3 + f.size ≤ length (drop f.start l) = omega (arith, length-drop f.start l) in
          ap length e ∙ length-take-le (3 + f.size) (drop f.start l) there ∙ omega (arith, size)
      go (suc k) o i h n b z e = absurd (omega arith)

  -- and gives the values
  pub values_there : (aer : Bool) (current : List ℕ) → length current ≡ 8
      → new_values aer bytes (field_at bytes 0) 0 current ≡ values_at (first_of (record_refusals slot block 2)) aer (deciding slot block) current (record_in (deciding slot block) 2)
  values_there aer current e =
      let c = finds slot block 2 none_refused in
      go k (record_in l 2) refl c.is_there c.is_sound_lem none_refused is
    where
      go : (k : ℕ) (o : Option Field) → record_in l 2 ≡ o → is_none o ≡ false → block_sound l ≡ true → k ≡ 0 → bytes ≡ part (found_by k o) l
          → new_values aer bytes (field_at bytes 0) 0 current ≡ values_at k aer l current o
      go zero none i n b z q = absurd (true≢false n)
      go zero (some f) i n b z q = rw q (sym (values_of_part l f (3 + f.size) aer (omega (arith, in_long l f b i)) 0 current (omega arith)))
      go (suc k) o i n b z q = absurd (omega arith)
