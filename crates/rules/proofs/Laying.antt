-- Records laid down one after the other are read as fields that hold them.
-- Assumes nothing.
use mathlib.Core.Path.{◌≡◌, refl, sym, ap, ap₂, ◌∙◌}
use mathlib.Core.Bool.{Bool, true, false, cond}
use mathlib.Core.List.{List, [], ◌∷◌, ◌++◌, map, append-nil, append_assoc}
use mathlib.Core.Option.{Option, some}
use Prim.Native.Nat.{ℕ, zero, suc, ◌+◌, ◌*◌, ◌/◌, ◌≤◌}
use native.Mathlib.Omega.{arith}
use borrow.Author.Tests.{ltb-true, eq-eqb, ne_eqb, le-leb}
use lib.Dec.{eqb, ltb}
use lib.ListN.{length, get_or, drop, length-append}
use lib.Seq.{drop_at}
use Rattle.rules.specs.Lists.{first, is_none}
use Rattle.rules.specs.Refusals.{◌if◌, first_of}
use Rattle.rules.specs.Numbers.{byte, word, dwords}
use Rattle.rules.specs.Records.{fields_from, value, record_size, found_by}
use Rattle.rules.specs.Writer.{Setting, pci_numbers, pci_x_numbers, express_numbers, if_present, present_in, record_bytes, laid_down, numbers_from, place_among, are_dwords, dwords_in}
use Rattle.rules.specs.declared.Field.{Field}
use Rattle.rules.specs.declared.FoundAt.{FoundAt}
use Rattle.rules.specs.declared.Settings.{Settings}
use Rattle.rules.proofs.Tests.{and-true}
use Rattle.rules.proofs.Bytes.{two_bytes, four_bytes, drop_in, byte_in, word_in, dword_in}
use Rattle.rules.proofs.Rising.{Rising, lower}
use Rattle.rules.proofs.Whole.{setting_at, Fields, is_of, size_is}

-- a record of a known type, with revision 1 and the length of its type
pub record Shaped (r : Setting) : Type 0 where
  pub known : r.type ≤ 2
  pub revision : get_or r.numbers 0 0 ≡ 1
  pub long : 4 * length r.numbers ≡ record_size r.type

-- such records by rising type, from type t on
abbrev pub Records : ℕ → List Setting → Type 0
Records t rs = Rising (λ (r : Setting). r.type) Shaped t rs

-- ---- lengths

pub dwords_length : (v : List ℕ) → length (dwords v) ≡ 4 * length v
dwords_length [] = refl
dwords_length (x ∷ v) = omega (arith, dwords_length v)

pub record_length : (r : Setting) → length (record_bytes r) ≡ 3 + 4 * length r.numbers
record_length r = omega (arith, dwords_length r.numbers)

laid_length : (r : Setting) (rs : List Setting) → length (laid_down (r ∷ rs)) ≡ 3 + 4 * length r.numbers + length (laid_down rs)
laid_length r rs = length-append (record_bytes r) (laid_down rs) ∙ ap (λ (n : ℕ). n + length (laid_down rs)) (record_length r)

-- at most 71 bytes for each type
pub laid_most : (t : ℕ) (rs : List Setting) → t ≤ 3 → Records t rs → 71 * t + length (laid_down rs) ≤ 213
laid_most t [] h k = omega arith
laid_most t (r ∷ rs) h k =
    omega (arith, (size_is r.type).most, laid_length r rs, laid_most (suc r.type) rs (omega arith) k.2)

-- ---- the fields of records laid down from byte i on

-- the field of one record, and where the next begins
abbrev placed : ℕ → Setting → Field
placed i r = record { start = i; tag = r.type; size = 4 * length r.numbers }

abbrev after : ℕ → Setting → ℕ
after i r = 3 + 4 * length r.numbers + i

abbrev pub placed_from : ℕ → List Setting → List Field
placed_from i [] = []
placed_from i (r ∷ rs) = placed i r ∷ placed_from (after i r) rs

module _ (l : List ℕ) where
  -- the numbers that stand at a field's number k are those read there
  numbers_read : (f : Field) (v q : List ℕ) (k : ℕ) → are_dwords v ≡ true → drop (3 + 4 * k + f.start) l ≡ dwords v ++ q → numbers_from (length v) k l f ≡ v
  numbers_read f [] q k a e = refl
  numbers_read f (x ∷ v) q k a e =
      let b = and-true (ltb x 4294967296) (are_dwords v) a in
      let m = dwords (x ∷ v) ++ q in
      let here = dword_in l m (3 + 4 * k + f.start) e (3 + 4 * k + f.start) 0 (omega arith) ∙ four_bytes x (ltb-true x 4294967296 b.0) in
      ap₂ {B = List ℕ} (λ (y : ℕ) w. y ∷ w) here (numbers_read f v q (suc k) b.1 (drop_in l m (3 + 4 * k + f.start) e (3 + 4 * suc k + f.start) 4 (omega arith)))

  module _ (i : ℕ) (r : Setting) (rs : List Setting) (e : drop i l ≡ laid_down (r ∷ rs)) where
    -- the header of the first record, what follows it, and the record itself
    tag_read : byte l i ≡ r.type
    tag_read = byte_in l (laid_down (r ∷ rs)) i e i 0 (omega arith)

    size_read : Shaped r → word l (1 + i) ≡ 4 * length r.numbers
    size_read s = word_in l (laid_down (r ∷ rs)) i e (1 + i) 1 refl ∙ two_bytes (4 * length r.numbers) (omega (arith, (size_is r.type).most))

    rest_read : drop (after i r) l ≡ laid_down rs
    rest_read =
        drop_in l (laid_down (r ∷ rs)) i e (after i r) (3 + 4 * length r.numbers) refl
        ∙ drop_at (record_bytes r) (laid_down rs) (3 + 4 * length r.numbers) (record_length r)

    setting_read : are_dwords r.numbers ≡ true → setting_at l (placed i r) ≡ r
    setting_read a =
        let n : 4 * length r.numbers / 4 ≡ length r.numbers = omega arith in
        ap (λ (v : List ℕ). record { type = r.type; numbers = v }) (ap (λ (k : ℕ). numbers_from k 0 l (placed i r)) n
        ∙ numbers_read (placed i r) r.numbers (laid_down rs) 0 a (drop_in l (laid_down (r ∷ rs)) i e (3 + i) 3 refl))

  -- the walk to the end of the block meets these fields
  pub fields_read : (n t i : ℕ) (rs : List Setting) → Records t rs → drop i l ≡ laid_down rs → length l ≡ length (laid_down rs) + i → length l ≤ n + i
      → fields_from n l i ≡ some (placed_from i rs)
  fields_read zero t i [] k e h m = rw (eq-eqb i (length l) (omega arith))
  fields_read zero t i (r ∷ rs) k e h m = absurd (omega (arith, laid_length r rs))
  fields_read (suc n) t i [] k e h m = rw (eq-eqb i (length l) (omega arith))
  fields_read (suc n) t i (r ∷ rs) k e h m =
      rw (
        tag_read i r rs e,
        size_read i r rs e k.1,
        ne_eqb i (length l) (λ z. omega (arith, laid_length r rs)),
        le-leb (after i r) (length l) (omega (arith, laid_length r rs)),
        fields_read n (suc r.type) (after i r) rs k.2 (rest_read i r rs e) (omega (arith, laid_length r rs)) (omega (arith, laid_length r rs)),
      )

  -- they hold the records
  pub settings_read : (i : ℕ) (rs : List Setting) → dwords_in rs ≡ true → drop i l ≡ laid_down rs
      → map (setting_at l) (placed_from i rs) ≡ rs
  settings_read i [] a e = refl
  settings_read i (r ∷ rs) a e =
      let b = and-true (are_dwords r.numbers) (dwords_in rs) a in
      ap₂ {B = List Setting} (λ (q : Setting) qs. q ∷ qs) (setting_read i r rs e b.0) (settings_read (after i r) rs b.1 (rest_read i r rs e))

  -- the first number is read as it stands
  first_read : (f : Field) (n : ℕ) → get_or (numbers_from n 0 l f) 0 0 ≡ 1 → value l f 0 ≡ 1
  first_read f zero e = absurd (omega arith)
  first_read f (suc n) e = e

  -- they are whole
  pub fields_whole : (t i : ℕ) (rs : List Setting) → Records t rs → dwords_in rs ≡ true → drop i l ≡ laid_down rs
      → Fields l t (placed_from i rs)
  fields_whole t i [] k a e = tt
  fields_whole t i (r ∷ rs) k a e =
      let b = and-true (are_dwords r.numbers) (dwords_in rs) a in
      let v = ap (λ (q : Setting). get_or q.numbers 0 0) (setting_read i r rs e b.0) ∙ k.1.revision in (
        k.0,
        record { known = k.1.known; revision = first_read (placed i r) (4 * length r.numbers / 4) v; long = k.1.long },
        fields_whole (suc r.type) (after i r) rs k.2 b.1 (rest_read i r rs e),
      )

-- the answer of the record search of a sound block, by what is found in it
abbrev pub answer_by : Option Field → FoundAt
answer_by o = found_by (first_of ((9 if is_none o) ∷ [])) o

-- among these fields it is the place of the record of the asked type
pub place_found : (type i : ℕ) (rs : List Setting) → answer_by (first (is_of type) (placed_from i rs)) ≡ place_among type i rs
place_found type i [] = refl
place_found type i (r ∷ rs) = go (eqb r.type type) (place_found type (after i r) rs)
  where
    go : (q : Bool) → answer_by (first (is_of type) (placed_from (after i r) rs)) ≡ place_among type (after i r) rs
        → answer_by (cond q (some (placed i r)) (first (is_of type) (placed_from (after i r) rs)))
        ≡ cond q (record { number = 0; start = i; size = length (record_bytes r) }) (place_among type (length (record_bytes r) + i) rs)
    go true ih = ap (λ (n : ℕ). record { number = 0; start = i; size = n }) (sym (record_length r))
    go false ih = ih ∙ ap (λ (n : ℕ). place_among type (n + i) rs) (sym (record_length r))

-- ---- the records present in settings

-- one more, of a lower type, or none
if_present_lem : (flag t : ℕ) (v : List ℕ) (rs : List Setting) → Shaped (record { type = t; numbers = v }) → Records (suc t) rs → Records t (if_present flag t v ++ rs)
if_present_lem flag t v rs s k = go (eqb flag 0)
  where
    go : (q : Bool) → Records t (cond q [] (record { type = t; numbers = v } ∷ []) ++ rs)
    go true = lower (λ (r : Setting). r.type) Shaped t (suc t) (omega arith) rs k
    go false = (omega arith, s, k)

-- one after the other, with nothing after them
pub one_by_one : (a b c : List Setting) → a ++ b ++ c ≡ a ++ (b ++ (c ++ []))
one_by_one a b c = append_assoc a b c ∙ ap (λ (x : List Setting). a ++ (b ++ x)) (sym (append-nil c))

-- those present are of known types, by rising type
pub present_rising : (s : Settings) → Records 0 (present_in s)
unfolding present_in
present_rising s =
    rw one_by_one (if_present_lem s.has_pci 0 (pci_numbers s.pci) _ (omega arith)
    (if_present_lem s.has_pci_x 1 (pci_x_numbers s.pci_x) _ (omega arith)
    (if_present_lem s.has_express 2 (express_numbers s.express) [] (omega arith) tt)))
