-- Laws of `same_bytes`.
use Rattle.std.proofs.Common.{◌≡◌, ◌≢◌, Bool, true, false, ◌&&◌, eqb, List, [], ◌∷◌, length, ℕ, refl, arith, sym, ◌∙◌, ap}
use Rattle.std.specs.List.{fold, zip}
use mathlib.Core.Bool.{and-true, and_assoc}
use Rattle.rules.specs.Numbers.{same_bytes}
use Rattle.rules.proofs.Lists.{same_eq}

-- one pair of bytes more
abbrev pub and_equal : Bool → ℕ × ℕ → Bool
and_equal e p = e && eqb p.0 p.1

-- strings of one length are the same where each pair of bytes is
pub same_pairs : (a b : List ℕ) (e : Bool) → length a ≡ length b → fold and_equal e (zip a b) ≡ e && same_bytes a b
same_pairs [] [] e l = sym (and-true e)
same_pairs [] (y ∷ b) e l = cc
same_pairs (x ∷ a) [] e l = cc
same_pairs (x ∷ a) (y ∷ b) e l = same_pairs a b (e && eqb x y) (omega arith) ∙ and_assoc e (eqb x y) (same_bytes a b)

-- strings of different lengths differ
pub differ_length : (a b : List ℕ) → length a ≢ length b → same_bytes a b ≡ false
differ_length a b h = no (same_bytes a b) refl
  where
    no : (t : Bool) → same_bytes a b ≡ t → same_bytes a b ≡ false
    no true p = absurd (h (ap length (same_eq a b p)))
    no false p = p
