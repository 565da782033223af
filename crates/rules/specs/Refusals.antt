-- Document 01, "Refusal numbers": a call "gives the first that applies" of the numbers listed for it.
use Rattle.std.specs.Prelude.{Bool, true, false, List, [], ◌∷◌, ℕ}

infix 40 ◌if◌
-- a refusal number, and whether its condition holds
pub data Refusal : Type 0 where
  ◌if◌ : ℕ → Bool → Refusal

-- the first number whose condition holds; 0, done, where none does
abbrev pub first_of : List Refusal → ℕ
first_of [] = 0
first_of ((n if true) ∷ l) = n
first_of ((n if false) ∷ l) = first_of l

-- "given exactly when": n's condition holds and none listed before it; or n is 0 and none holds
pub data GivenBy : ℕ → List Refusal → Type 0 where
  done : GivenBy 0 []
  here : {n : ℕ} {l : List Refusal} → GivenBy n ((n if true) ∷ l)
  later : {n k : ℕ} {l : List Refusal} → GivenBy n l → GivenBy n ((k if false) ∷ l)
