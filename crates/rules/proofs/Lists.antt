-- What the tests over lists say of each element and each pair; padded lists; the first element that passes; byte strings that are the same.
-- Assumes nothing.
use mathlib.Core.Path.{◌≡◌, refl, ap}
use mathlib.Core.Bool.{Bool, true, false, cond, ◌&&◌, true≢false}
use mathlib.Core.List.{List, [], ◌∷◌, map}
use mathlib.Core.Option.{some}
use Prim.Native.Nat.{ℕ, zero, suc, ◌<◌}
use native.Mathlib.Nat.{le_of_suc-le-suc, not-suc-le-zero}
use native.Mathlib.Omega.{arith}
use borrow.Author.Tests.{eqb-true}
use lib.Dec.{eqb}
use lib.ListN.{length, get_or}
use Rattle.rules.specs.Lists.{every, pairwise, padded, first, is_none}
use Rattle.rules.specs.Numbers.{same_bytes}
use Rattle.rules.specs.Claims.{EveryAndPair}
use Rattle.rules.proofs.Tests.{and-true, and_is}

module _ {A : Type 0} (d : A) where
  pub every_at : (p : A → Bool) (l : List A) → every p l ≡ true → (i : ℕ) → i < length l → p (get_or l i d) ≡ true
  every_at p [] e i h = absurd (not-suc-le-zero h)
  every_at p (x ∷ l) e zero h = (and-true (p x) (every p l) e).0
  every_at p (x ∷ l) e (suc i) h = every_at p l (and-true (p x) (every p l) e).1 i (le_of_suc-le-suc h)

  at_every : (p : A → Bool) (l : List A) → ((i : ℕ) → i < length l → p (get_or l i d) ≡ true) → every p l ≡ true
  at_every p [] f = refl
  at_every p (x ∷ l) f = and_is (f 0 (omega arith)) (at_every p l (λ i h. f (suc i) (omega arith)))

  pub pairwise_at : (p : A → A → Bool) (l : List A) → pairwise p l ≡ true → (i j : ℕ) → i < j → j < length l → p (get_or l i d) (get_or l j d) ≡ true
  pairwise_at p [] e i j h k = absurd (not-suc-le-zero k)
  pairwise_at p (x ∷ l) e i zero h k = absurd (not-suc-le-zero h)
  pairwise_at p (x ∷ l) e zero (suc j) h k = every_at (p x) l (and-true (every (p x) l) (pairwise p l) e).0 j (le_of_suc-le-suc k)
  pairwise_at p (x ∷ l) e (suc i) (suc j) h k =
      pairwise_at p l (and-true (every (p x) l) (pairwise p l) e).1 i j (le_of_suc-le-suc h) (le_of_suc-le-suc k)

  at_pairwise : (p : A → A → Bool) (l : List A) → ((i j : ℕ) → i < j → j < length l → p (get_or l i d) (get_or l j d) ≡ true) → pairwise p l ≡ true
  at_pairwise p [] f = refl
  at_pairwise p (x ∷ l) f = and_is
      (at_every (p x) l (λ j h. f 0 (suc j) (omega arith) (omega arith)))
      (at_pairwise p l (λ i j h k. f (suc i) (suc j) (omega arith) (omega arith)))

  pub padded_length : (n : ℕ) (l : List A) → length (padded d n l) ≡ n
  padded_length zero l = refl
  padded_length (suc n) [] = ap suc (padded_length n [])
  padded_length (suc n) (x ∷ l) = ap suc (padded_length n l)

  -- the list stands first, whatever fills it up
  pub padded_in : (z : A) (n : ℕ) (l : List A) (i : ℕ) → i < length l → i < n → get_or (padded d n l) i z ≡ get_or l i z
  padded_in z zero l i k h = absurd (not-suc-le-zero h)
  padded_in z (suc n) [] i k h = absurd (not-suc-le-zero k)
  padded_in z (suc n) (x ∷ l) zero k h = refl
  padded_in z (suc n) (x ∷ l) (suc i) k h = padded_in z n l i (le_of_suc-le-suc k) (le_of_suc-le-suc h)

pub every_and_pair : EveryAndPair
every_and_pair A d l = (λ p. (every_at d p l, at_every d p l), λ p. (pairwise_at d p l, at_pairwise d p l))

pub map_at : {A B : Type 0} (f : A → B) (l : List A) (i : ℕ) (d : A) (z : B) → i < length l → get_or (map f l) i z ≡ f (get_or l i d)
map_at f [] i d z h = absurd (not-suc-le-zero h)
map_at f (x ∷ l) zero d z h = refl
map_at f (x ∷ l) (suc i) d z h = map_at f l i d z (le_of_suc-le-suc h)

-- an element that was found: where it stands, and that it passes
module _ {A : Type 0} (d : A) (p : A → Bool) where
  pub record Stands (l : List A) : Type 0 where
    pub at : ℕ
    pub in_list : at < length l
    pub is : first p l ≡ some (get_or l at d)
    pub passes : p (get_or l at d) ≡ true

  pub stands : (l : List A) → is_none (first p l) ≡ false → Stands l
  stands [] e = absurd (true≢false e)
  stands (x ∷ l) e = go (λ k. stands l k) (p x) refl e
    where
      go : (is_none (first p l) ≡ false → Stands l) → (q : Bool) → p x ≡ q → is_none (cond q (some x) (first p l)) ≡ false → Stands (x ∷ l)
      go ih true h k = record { at = 0; in_list = omega arith; is = rw h; passes = h }
      go ih false h k =
          let f = ih k in
          record { at = suc f.at; in_list = omega (arith, f.in_list); is = rw h f.is; passes = f.passes }

-- strings that are the same are equal
pub same_eq : (a b : List ℕ) → same_bytes a b ≡ true → a ≡ b
same_eq [] [] e = refl
same_eq [] (y ∷ b) e = cc
same_eq (x ∷ a) [] e = cc
same_eq (x ∷ a) (y ∷ b) e = both (eqb x y) refl (same_eq a b) e
  where
    both : (t : Bool) → eqb x y ≡ t → (same_bytes a b ≡ true → a ≡ b) → t && same_bytes a b ≡ true → x ∷ a ≡ y ∷ b
    both true p f q = cc (eqb-true x y p, f q)
    both false p f q = cc
