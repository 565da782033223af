-- Tests over a list, as the library's methods take them, and two tests of each pair.
-- Assumes nothing.
use Rattle.std.specs.Prelude.{Some}
use Rattle.std.specs.List.{list_all, find}
use mathlib.Core.Path.{◌≡◌, refl, ap, ◌∙◌}
use mathlib.Core.Bool.{Bool, true, false, cond, ◌&&◌}
use mathlib.Core.Option.{some}
use mathlib.Core.List.{List, [], ◌∷◌, map}
use Rattle.rules.specs.Lists.{every, pairwise, first}
use Rattle.rules.proofs.Tests.{and_is, and_l, and_r}
use Rattle.mcfg.specs.Found.{answer_of}

-- a test of all elements, each made of another
pub all_every : {A B : Type 0} (f : A → B) (p : B → Bool) (l : List A) → list_all (λ (x : A). p (f x)) l ≡ every p (map f l)
all_every f p [] = refl
all_every f p (x ∷ l) = ap (λ (t : Bool). p (f x) && t) (all_every f p l)

-- the first element that passes
pub find_first : {A : Type 0} (p : A → Bool) (l : List A) → find p l ≡ answer_of (first p l)
find_first p [] = refl
find_first p (x ∷ l) = go (p x) (find_first p l)
  where
    go : (t : Bool) → find p l ≡ answer_of (first p l) → cond t (Some x) (find p l) ≡ answer_of (cond t (some x) (first p l))
    go true e = refl
    go false e = e

-- a test of every element that follows from another
pub every_weaker : {A : Type 0} (p q : A → Bool) → ((x : A) → p x ≡ true → q x ≡ true) → (l : List A) → every p l ≡ true → every q l ≡ true
every_weaker p q h [] a = refl
every_weaker p q h (x ∷ l) a = and_is (h x (and_l (p x) (every p l) a)) (every_weaker p q h l (and_r (p x) (every p l) a))

-- conjunctions taken in pairs
pub shuffle : (a b c d : Bool) → (a && b && (c && d)) ≡ (a && c && (b && d))
shuffle true true c d = refl
shuffle true false true d = refl
shuffle true false false d = refl
shuffle false b c d = refl

every_both : {A : Type 0} (p q : A → Bool) (l : List A) → every (λ (x : A). p x && q x) l ≡ (every p l && every q l)
every_both p q [] = refl
every_both p q (x ∷ l) = ap (λ (t : Bool). p x && q x && t) (every_both p q l) ∙ shuffle (p x) (q x) (every p l) (every q l)

-- two tests of each pair
pub pairwise_both : {A : Type 0} (p q : A → A → Bool) (l : List A) → pairwise (λ (x y : A). p x y && q x y) l ≡ (pairwise p l && pairwise q l)
pairwise_both p q [] = refl
pairwise_both p q (x ∷ l) =
    rw (every_both (p x) (q x) l, pairwise_both p q l) (shuffle (every (p x) l) (every (q x) l) (pairwise p l) (pairwise q l))
