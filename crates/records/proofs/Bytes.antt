-- What is said of a field is said of its own bytes.
-- Assumes nothing.
use Rattle.std.proofs.Common.{ℕ, zero, suc, ◌+◌, ◌*◌, ◌/◌, ◌%◌, ◌<◌, ◌≤◌, ◌≡◌, Bool, true, false, not, ◌&&◌, ◌||◌, List, ◌∷◌, length, get_or, drop, refl, sym, ap, ap₂, ◌∙◌, eqb, leb, ltb, get_or-drop, get_or-take, length-take-le, length-drop, drop-drop, arith}
use borrow.Author.Tests.{eqb-true, leb-true, ltb-true, lt-leb}
use Rattle.rules.specs.Numbers.{byte, dword}
use Rattle.rules.specs.Records.{field_at, value, is_record, record_size, in_ranges, field_sound}
use Rattle.rules.specs.Writer.{numbers_from}
use Rattle.rules.specs.declared.Field.{Field}
use Rattle.records.specs.Fields.{bytes_of, field_of, IsSplit, judged}
use Rattle.records.specs.declared.Tagged.{Tagged}

-- a DWORD by its four bytes
pub same_dword : (l m : List ℕ) (i j : ℕ) → ((a b n : ℕ) → n < 4 → a ≡ n + i → b ≡ n + j → byte l a ≡ byte m b) → dword l i ≡ dword m j
same_dword l m i j h =
    let a : byte l i ≡ byte m j = h _ _ 0 (omega arith) (omega arith) (omega arith) in
    let b : byte l (1 + i) ≡ byte m (1 + j) = h _ _ 1 (omega arith) (omega arith) (omega arith) in
    let c : byte l (2 + i) ≡ byte m (2 + j) = h _ _ 2 (omega arith) (omega arith) (omega arith) in
    let d : byte l (1 + (2 + i)) ≡ byte m (1 + (2 + j)) = h _ _ 3 (omega arith) (omega arith) (omega arith) in
    cc

-- number k of the value
pub number_at : (t : Tagged) (k : ℕ) → value (bytes_of t) (field_of t) k ≡ dword t.value.now (4 * k)
number_at t k =
    same_dword (bytes_of t) t.value.now (3 + 4 * k + 0) (4 * k)
    (λ a b n h p q.
    let at : a ≡ 3 + b = omega arith in
    rw at (sym (get_or-drop 3 (bytes_of t) b 0)))

-- ---- two fields of one type and one length, with the same numbers

module _ (l m : List ℕ) (f g : Field) where
  numbers_same : (n k : ℕ) → ((j : ℕ) → j < n + k → value l f j ≡ value m g j) → numbers_from n k l f ≡ numbers_from n k m g
  numbers_same zero k h = refl
  numbers_same (suc n) k h =
      ap₂ {B = List ℕ} (λ (x : ℕ) r. x ∷ r) (h k (omega arith)) (numbers_same n (suc k) (λ j p. h j (omega arith)))

-- the ranges of a type are of the numbers that a record of it has
ranges_by : (n : ℕ) (l : List ℕ) (f : Field) → in_ranges n (value l f) ≡ in_ranges n (λ k. get_or (numbers_from (record_size n / 4) 0 l f) k 0)
ranges_by zero l f = refl
ranges_by (suc zero) l f = refl
ranges_by (suc (suc n)) l f = refl

module _ (l m : List ℕ) (f g : Field) (tag : f.tag ≡ g.tag) (size : f.size ≡ g.size) (same : (k : ℕ) → 4 + 4 * k ≤ f.size → value l f k ≡ value m g k) where
  ranges_same : f.size ≡ record_size f.tag → in_ranges f.tag (value l f) ≡ in_ranges f.tag (value m g)
  ranges_same e =
      ranges_by f.tag l f
      ∙ ap (λ (v : List ℕ). in_ranges f.tag (λ k. get_or v k 0)) (numbers_same l m f g (record_size f.tag / 4) 0 (λ j p. same j (omega arith)))
      ∙ sym (ranges_by f.tag m g)

  -- they are judged alike
  pub judged_same : judged (field_sound l f) (is_record l f) ≡ judged (field_sound m g) (is_record m g)
  judged_same = rw (← tag, ← size) (go (ltb 2 f.tag) (leb 4 f.size) (eqb f.size (record_size f.tag)) refl refl refl)
    where
      go : (a b c : Bool) → ltb 2 f.tag ≡ a → leb 4 f.size ≡ b → eqb f.size (record_size f.tag) ≡ c
          → judged (a || (b && eqb (f.size % 4) 0 && (not (eqb (value l f 0) 1) || (c && in_ranges f.tag (value l f))))) (leb f.tag 2 && eqb (value l f 0) 1)
          ≡ judged (a || (b && eqb (f.size % 4) 0 && (not (eqb (value m g 0) 1) || (c && in_ranges f.tag (value m g))))) (leb f.tag 2 && eqb (value m g 0) 1)
      go true b c p q r = rw (lt-leb f.tag 2 (ltb-true 2 f.tag p))
      go false false c p q r = refl
      go false true c p q r = rw (same 0 (leb-true 4 f.size q)) (last c r)
        where
          last : (c : Bool) → eqb f.size (record_size f.tag) ≡ c
              → judged (eqb (f.size % 4) 0 && (not (eqb (value m g 0) 1) || (c && in_ranges f.tag (value l f)))) (leb f.tag 2 && eqb (value m g 0) 1)
              ≡ judged (eqb (f.size % 4) 0 && (not (eqb (value m g 0) 1) || (c && in_ranges f.tag (value m g)))) (leb f.tag 2 && eqb (value m g 0) 1)
          last false r = refl
          last true r = rw (ranges_same (eqb-true f.size (record_size f.tag) r))

-- ---- the field at byte i, taken apart

module _ (l : List ℕ) (i : ℕ) where
  byte_from : (a b : ℕ) → a ≡ b + i → byte l a ≡ byte (drop i l) b
  byte_from a b e = let at : a ≡ i + b = omega arith in rw at (sym (get_or-drop i l b 0))

  pub size_from : (field_at l i).size ≡ (field_at (drop i l) 0).size
  size_from =
      let a = byte_from (1 + i) 1 (omega arith) in
      let b = byte_from (1 + (1 + i)) 2 (omega arith) in
      cc

  module _ (t : Tagged) (rest : List ℕ) (e : IsSplit (drop i l) t rest) where
    pub tag_is : t.tag ≡ (field_at l i).tag
    tag_is = e.1 ∙ sym (byte_from i 0 (omega arith))

    pub fits : 3 + (field_at l i).size + i ≤ length l
    fits = omega (arith, e.0, size_from, length-drop i l, tag_is)

    pub size_is : length t.value.now ≡ (field_at l i).size
    size_is =
        let n = (field_at (drop i l) 0).size in
        let inside : n ≤ length (drop 3 (drop i l)) = omega (arith, length-drop 3 (drop i l), e.0) in
        ap length e.2 ∙ length-take-le n (drop 3 (drop i l)) inside ∙ sym size_from

    pub rest_is : rest ≡ drop (3 + (field_at l i).size + i) l
    rest_is =
        let n = (field_at (drop i l) 0).size in
        let at : i + (3 + n) ≡ 3 + (field_at l i).size + i = omega (arith, size_from) in
        e.3 ∙ drop-drop (3 + n) i l ∙ ap (λ (j : ℕ). drop j l) at

    number_is : (k : ℕ) → 4 + 4 * k ≤ (field_at l i).size → value l (field_at l i) k ≡ dword t.value.now (4 * k)
    number_is k h =
        let n = (field_at (drop i l) 0).size in
        same_dword l t.value.now (3 + 4 * k + i) (4 * k)
        (λ a b j m p q.
        byte_from a (3 + b) (omega arith)
        ∙ sym (get_or-drop 3 (drop i l) b 0)
        ∙ sym (get_or-take n (drop 3 (drop i l)) b 0 (omega (arith, size_from)))
        ∙ ap (λ (v : List ℕ). byte v b) (sym e.2))

    pub judged_is : judged (field_sound (bytes_of t) (field_of t)) (is_record (bytes_of t) (field_of t))
        ≡ judged (field_sound l (field_at l i)) (is_record l (field_at l i))
    judged_is =
        sym (judged_same l (bytes_of t) (field_at l i) (field_of t) (sym tag_is) (sym size_is)
        (λ k h. number_is k h ∙ sym (number_at t k)))
