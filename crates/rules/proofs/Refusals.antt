-- A refusal's number is given exactly when its condition holds and no earlier one does.
-- Assumes nothing.
use mathlib.Core.Path.{◌≡◌, refl, subst}
use mathlib.Core.Logic.{◌↔◌}
use mathlib.Core.Bool.{true, false}
use mathlib.Core.List.{List, [], ◌∷◌}
use Prim.Native.Nat.{ℕ}
use Rattle.rules.specs.Refusals.{Refusal, ◌if◌, first_of, GivenBy, done, here, later}

first_given : (l : List Refusal) → GivenBy (first_of l) l
first_given [] = done
first_given ((n if true) ∷ l) = here
first_given ((n if false) ∷ l) = later (first_given l)

given_first : {n : ℕ} {l : List Refusal} → GivenBy n l → first_of l ≡ n
given_first done = refl
given_first here = refl
given_first (later f) = given_first f

pub exactly : (n : ℕ) (l : List Refusal) → first_of l ≡ n ↔ GivenBy n l
exactly n l = (λ e. subst (λ (k : ℕ). GivenBy k l) e (first_given l), given_first)

-- no condition holds
abbrev pub Clear : List Refusal → Type 0
Clear [] = Unit {0}
Clear ((n if b) ∷ l) = (b ≡ false) × Clear l

-- no number of the list is 0
abbrev pub NoZero : List Refusal → Type 0
NoZero [] = Unit {0}
NoZero ((n if b) ∷ l) = (n ≡ 0 → ⊥) × NoZero l

pub clear : (l : List Refusal) → NoZero l → first_of l ≡ 0 → Clear l
clear [] z e = tt
clear ((n if true) ∷ l) z e = absurd (z.0 e)
clear ((n if false) ∷ l) z e = (refl, clear l z.1 e)
