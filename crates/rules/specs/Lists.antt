-- Tests over lists, positions in them, and lists that a walk makes.
use Rattle.std.specs.Prelude.{ℕ, zero, suc, Bool, true, false, cond, ◌&&◌, List, [], ◌∷◌}
use Rattle.std.proofs.Math.Option.{Option, none, some}

module _ {A : Type 0} where
  -- the test passes for every element
  abbrev pub every : (A → Bool) → List A → Bool
  every p [] = true
  every p (x ∷ l) = p x && every p l

  -- the test passes for every pair, each element with each later one
  abbrev pub pairwise : (A → A → Bool) → List A → Bool
  pairwise p [] = true
  pairwise p (x ∷ l) = every (p x) l && pairwise p l

  -- the list cut or filled up to n elements
  abbrev pub padded : A → ℕ → List A → List A
  padded d zero l = []
  padded d (suc n) [] = d ∷ padded d n []
  padded d (suc n) (x ∷ l) = x ∷ padded d n l

  -- the position of the first element that passes, counted from i
  abbrev pub find : (A → Bool) → List A → ℕ → Option ℕ
  find p [] i = none
  find p (x ∷ l) i = cond (p x) (some i) (find p l (suc i))

  -- the first element that passes
  abbrev pub first : (A → Bool) → List A → Option A
  first p [] = none
  first p (x ∷ l) = cond (p x) (some x) (first p l)

  -- an element before the rest of a walk
  abbrev pub prepend : A → Option (List A) → Option (List A)
  prepend x none = none
  prepend x (some l) = some (x ∷ l)

  -- nothing was found
  abbrev pub is_none : Option A → Bool
  is_none none = true
  is_none (some x) = false
