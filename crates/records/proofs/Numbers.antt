-- Numbers made by a closure of their index, and the numbers of a field.
-- Assumes nothing.
use Rattle.std.proofs.Common.{ℕ, zero, suc, ◌+◌, ◌<◌, ◌≡◌, List, length, get_or, refl, sym, ap, ◌∙◌, subst, zero-add, arith}
use Rattle.std.specs.Array.{IsFromFnResult, IsFromFnResultFrom}
use Rattle.std.proofs.lemmas.Grind.{same_number_lists}
use Rattle.rules.specs.Records.{value}
use Rattle.rules.specs.Writer.{numbers_from}
use Rattle.rules.specs.declared.Field.{Field}
use denote.Param.Members.{Mut, Called}

-- a closure that gives h of its index, and changes nothing
module _ {F : Type 0} (g : Mut F (ℕ × Unit {0}) ℕ) (h : ℕ → ℕ) (p : F) (call : (i y : ℕ) (q : F) → Called g p (i, tt) y q → (y ≡ h i) × (q ≡ p)) where
  made_at : (n i j : ℕ) (ys : List ℕ) (q : F) → q ≡ p → IsFromFnResultFrom g q ys i n → j < n → get_or ys (i + j) 0 ≡ h (i + j)
  made_at zero i j ys q e m b = absurd (omega arith)
  made_at (suc n) i zero ys q e m b =
      let here = call i m.1 m.0 (subst (λ (s : F). Called g s (i, tt) m.1 m.0) e m.3) in
      let at_i : get_or ys i 0 ≡ h i = m.2.1 0 ∙ here.0 in
      let plus : i + 0 ≡ i = omega arith in
      rw plus at_i
  made_at (suc n) i (suc j) ys q e m b =
      let here = call i m.1 m.0 (subst (λ (s : F). Called g s (i, tt) m.1 m.0) e m.3) in
      let plus : i + suc j ≡ i + 1 + j = omega arith in
      rw plus (made_at n (i + 1) j ys m.0 here.1 m.4 (omega arith))

  -- makes the list that has them
  pub made : (ys zs : List ℕ) (n : ℕ) → IsFromFnResult g p ys n → length zs ≡ n → ((j : ℕ) → j < n → get_or zs j 0 ≡ h j) → ys ≡ zs
  made ys zs n m e at =
      same_number_lists ys zs (m.long ∙ sym e)
      (λ j b.
      let below : j < n = omega (arith, m.long) in
      rw (sym (zero-add j)) (made_at n 0 j ys p refl m.each below ∙ ap h (zero-add j) ∙ sym (at j below) ∙ ap (λ (k : ℕ). get_or zs k 0) (sym (zero-add j))))

module _ (l : List ℕ) (f : Field) where
  numbers_long : (n k : ℕ) → length (numbers_from n k l f) ≡ n
  numbers_long zero k = refl
  numbers_long (suc n) k = ap suc (numbers_long n (suc k))

  numbers_at : (n k j : ℕ) → j < n → get_or (numbers_from n k l f) j 0 ≡ value l f (k + j)
  numbers_at zero k j h = absurd (omega arith)
  numbers_at (suc n) k zero h = let plus : k + 0 ≡ k = omega arith in rw plus
  numbers_at (suc n) k (suc j) h = let plus : k + suc j ≡ suc k + j = omega arith in rw plus (numbers_at n (suc k) j (omega arith))

  pub numbers_length : (n : ℕ) → length (numbers_from n 0 l f) ≡ n
  numbers_length n = numbers_long n 0

  pub number_of_value : (n j : ℕ) → j < n → get_or (numbers_from n 0 l f) j 0 ≡ value l f j
  number_of_value n j h = numbers_at n 0 j h ∙ ap (λ (k : ℕ). value l f k) (zero-add j)
