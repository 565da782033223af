-- The eight new register values, by the bytes of the type 2 record alone.
-- Assumes nothing.
use Rattle.std.proofs.Common.{ℕ, zero, suc, ◌+◌, ◌*◌, ◌<◌, ◌≤◌, ◌≡◌, Bool, List, [], ◌∷◌, length, get_or, take, drop, refl, sym, ap, ap₂, ◌∙◌, get_or-drop, get_or-take, zero-add, arith}
use Rattle.rules.specs.Records.{field_at, value, new_value, new_values}
use Rattle.rules.specs.declared.Field.{Field}
use Rattle.records.proofs.Bytes.{same_dword}

module _ (aer : Bool) (l : List ℕ) (f : Field) where
  pub values_length : (k : ℕ) (current : List ℕ) → length (new_values aer l f k current) ≡ length current
  values_length k [] = refl
  values_length k (c ∷ current) = ap suc (values_length (suc k) current)

  value_from : (k : ℕ) (current : List ℕ) (j : ℕ) → j < length current
      → get_or (new_values aer l f k current) j 0 ≡ new_value aer l f (k + j) (get_or current j 0)
  value_from k [] j h = absurd (omega arith)
  value_from k (c ∷ current) zero h = let plus : k + 0 ≡ k = omega arith in rw plus
  value_from k (c ∷ current) (suc j) h = let plus : k + suc j ≡ suc k + j = omega arith in rw plus (value_from (suc k) current j (omega arith))

  -- register k of eight, by itself
  pub value_of : (current : List ℕ) → length current ≡ 8 → (j : ℕ) → j < 8 → get_or (new_values aer l f 0 current) j 0 ≡ new_value aer l f j (get_or current j 0)
  value_of current e j h =
      value_from 0 current j (omega arith) ∙ ap (λ (k : ℕ). new_value aer l f k (get_or current j 0)) (zero-add j)

-- n bytes of a block, from the start of the field
module _ (l : List ℕ) (f : Field) (n : ℕ) where
  number_of_part : (k : ℕ) → 7 + 4 * k ≤ n → value l f k ≡ value (take n (drop f.start l)) (field_at (take n (drop f.start l)) 0) k
  number_of_part k h =
      same_dword l (take n (drop f.start l)) (3 + 4 * k + f.start) (3 + 4 * k + 0)
      (λ a b j m p q.
      let at : a ≡ f.start + b = omega arith in
      rw at (sym (get_or-take n (drop f.start l) b 0 (omega arith) ∙ get_or-drop f.start l b 0)))

  -- that have the eight pairs give the same values
  pub values_of_part : (aer : Bool) → 71 ≤ n → (k : ℕ) (current : List ℕ) → k + length current ≤ 8
      → new_values aer l f k current ≡ new_values aer (take n (drop f.start l)) (field_at (take n (drop f.start l)) 0) k current
  values_of_part aer h k [] e = refl
  values_of_part aer h k (c ∷ current) e =
      let and = number_of_part (1 + 2 * k) (omega arith) in
      let or = number_of_part (2 + 2 * k) (omega arith) in
      ap₂ {B = List ℕ} (λ (x : ℕ) r. x ∷ r) (cc) (values_of_part aer h (suc k) current (omega arith))
