-- Tests over a list with one more element at its end, and over its front; lists padded.
-- Assumes nothing.
use Rattle.std.proofs.Common.{◌≡◌, ℕ, zero, suc, ◌<◌, Bool, true, ◌&&◌, List, [], ◌∷◌, ◌++◌, length, take, set, refl, sym, ap, ◌∙◌, arith}
use Rattle.std.specs.List.{list_all}
use mathlib.Core.Bool.{and-true, and_assoc}
use Rattle.rules.specs.Lists.{every, pairwise, padded}
use Rattle.rules.proofs.Tests.{and_l, and_r, and_is}
use Rattle.mcfg.proofs.Heads.{shuffle}

module _ {A : Type 0} where
  -- the test of the library
  pub every_is : (p : A → Bool) (l : List A) → list_all p l ≡ every p l
  every_is p [] = refl
  every_is p (x ∷ l) = ap (λ (t : Bool). p x && t) (every_is p l)

  -- one element more, at the end

  pub every_snoc : (p : A → Bool) (l : List A) (x : A) → every p (l ++ x ∷ []) ≡ (every p l && p x)
  every_snoc p [] x = and-true (p x)
  every_snoc p (y ∷ l) x = ap (λ (t : Bool). p y && t) (every_snoc p l x) ∙ sym (and_assoc (p y) (every p l) (p x))

  pub pairwise_snoc : (p : A → A → Bool) (l : List A) (x : A) → pairwise p (l ++ x ∷ []) ≡ (pairwise p l && every (λ (y : A). p y x) l)
  pairwise_snoc p [] x = refl
  pairwise_snoc p (y ∷ l) x =
      rw (every_snoc (p y) l x, pairwise_snoc p l x) (shuffle (every (p y) l) (p y x) (pairwise p l) (every (λ (z : A). p z x) l))

  pub padded_snoc : (d : A) (n : ℕ) (l : List A) (x : A) → length l < n → padded d n (l ++ x ∷ []) ≡ set (padded d n l) (length l) x
  padded_snoc d zero l x h = absurd (omega arith)
  padded_snoc d (suc n) [] x h = refl
  padded_snoc d (suc n) (y ∷ l) x h = ap (λ (k : List A). y ∷ k) (padded_snoc d n l x (omega arith))

  -- the front of a list that passes

  pub every_take : (p : A → Bool) (l : List A) (i : ℕ) → every p l ≡ true → every p (take i l) ≡ true
  every_take p l zero e = refl
  every_take p [] (suc i) e = refl
  every_take p (x ∷ l) (suc i) e = and_is (and_l (p x) (every p l) e) (every_take p l i (and_r (p x) (every p l) e))

  pub pairwise_take : (p : A → A → Bool) (l : List A) (i : ℕ) → pairwise p l ≡ true → pairwise p (take i l) ≡ true
  pairwise_take p l zero e = refl
  pairwise_take p [] (suc i) e = refl
  pairwise_take p (x ∷ l) (suc i) e = and_is (every_take (p x) l i (and_l (every (p x) l) (pairwise p l) e)) (pairwise_take p l i (and_r (every (p x) l) (pairwise p l) e))
