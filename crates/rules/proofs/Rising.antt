-- Lists whose elements rise by a key: what holds of every element and of every pair.
-- Assumes nothing.
use mathlib.Core.Path.{◌≡◌, refl}
use mathlib.Core.Bool.{Bool, true}
use mathlib.Core.List.{List, [], ◌∷◌}
use mathlib.Core.Option.{none}
use Prim.Native.Nat.{ℕ, suc, ◌≤◌, ◌<◌}
use native.Mathlib.Omega.{arith}
use borrow.Author.Tests.{ne_eqb}
use lib.Dec.{eqb}
use Rattle.rules.specs.Lists.{every, pairwise, first}
use Rattle.rules.proofs.Tests.{and_is}

module _ {A : Type 0} (key : A → ℕ) (P : A → Type 0) where
  -- keys from t on, each above the one before it, and P of each element
  abbrev pub Rising : ℕ → List A → Type 0
  Rising t [] = Unit {0}
  Rising t (x ∷ l) = (t ≤ key x) × P x × Rising (suc (key x)) l

  -- keys from u on are keys from any t below it on
  pub lower : (t u : ℕ) → t ≤ u → (l : List A) → Rising u l → Rising t l
  lower t u h [] r = tt
  lower t u h (x ∷ l) r = (omega arith, r.1, r.2)

  -- a test that passes by the key and P passes for every element
  pub every_of : (p : A → Bool) (t : ℕ) → ((x : A) → t ≤ key x → P x → p x ≡ true) → (l : List A) → Rising t l → every p l ≡ true
  every_of p t g [] r = refl
  every_of p t g (x ∷ l) r = and_is (g x r.0 r.1) (every_of p t g l (lower t (suc (key x)) (omega arith) l r.2))

  -- one that passes where the key rises passes for every pair
  pub pairwise_of : (q : A → A → Bool) → ((x y : A) → key x < key y → q x y ≡ true) → (t : ℕ) (l : List A) → Rising t l → pairwise q l ≡ true
  pairwise_of q g t [] r = refl
  pairwise_of q g t (x ∷ l) r =
      and_is (every_of (q x) (suc (key x)) (λ y h p. g x y h) l r.2) (pairwise_of q g (suc (key x)) l r.2)

  -- no element has a key below the first
  pub none_below : (t u : ℕ) → t < u → (l : List A) → Rising u l → first (λ x. eqb (key x) t) l ≡ none
  none_below t u h [] r = refl
  none_below t u h (x ∷ l) r = rw (ne_eqb (key x) t (λ e. omega arith)) (none_below t (suc (key x)) (omega arith) l r.2)
