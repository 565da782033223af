-- What a test's connective says of its parts.
-- Assumes nothing.
use mathlib.Core.Path.{◌≡◌, refl, sym, ◌∙◌}
use mathlib.Core.Logic.{◌⊎◌, inl, inr}
use mathlib.Core.Bool.{Bool, true, false, ◌&&◌, ◌||◌, true≢false, and-true as and-on, and_assoc}
use mathlib.Core.List.{List, [], ◌∷◌}
use Rattle.rules.specs.Lists.{every}

pub or_false : (a b : Bool) → (a || b) ≡ false → (a ≡ false) × (b ≡ false)
or_false true b e = absurd (true≢false e)
or_false false b e = (refl, e)

pub and-true : (a b : Bool) → (a && b) ≡ true → (a ≡ true) × (b ≡ true)
and-true true b e = (refl, e)
and-true false b e = absurd (true≢false (sym e))

pub and_is : {a b : Bool} → a ≡ true → b ≡ true → (a && b) ≡ true
and_is {a} {b} p q = cc

pub or_true : (a b : Bool) → (a || b) ≡ true → (a ≡ true) ⊎ (b ≡ true)
or_true true b e = inl refl
or_true false b e = inr e

pub or_left : (a b : Bool) → a ≡ true → (a || b) ≡ true
or_left true b e = refl
or_left false b e = absurd (true≢false (sym e))

pub or_right : (a b : Bool) → b ≡ true → (a || b) ≡ true
or_right true b e = refl
or_right false b e = e

pub or_mono : (a b c : Bool) → (b ≡ true → c ≡ true) → (a || b) ≡ true → (a || c) ≡ true
or_mono true b c f e = refl
or_mono false b c f e = f e

pub and_l : (a b : Bool) → (a && b) ≡ true → a ≡ true
and_l a b e = (and-true a b e).0

pub and_r : (a b : Bool) → (a && b) ≡ true → b ≡ true
and_r a b e = (and-true a b e).1

pub and_off : (a : Bool) → (a && false) ≡ false
and_off true = refl
and_off false = refl

-- tests that hold together are the same
pub same_test : (a b : Bool) → (a ≡ true → b ≡ true) → (b ≡ true → a ≡ true) → a ≡ b
same_test true b f g = sym (f refl)
same_test false true f g = g refl
same_test false false f g = refl

pub fails : (q : Bool) → (q ≡ true → ⊥) → q ≡ false
fails true n = absurd (n refl)
fails false n = refl

-- tests joined from the left, as code does
abbrev pub joined : Bool → List Bool → Bool
joined a [] = a
joined a (b ∷ l) = joined (a && b) l

-- they are those of `every`
pub joined_every : (a : Bool) (l : List Bool) → joined a l ≡ every (λ q. q) (a ∷ l)
joined_every a [] = sym (and-on a)
joined_every a (b ∷ l) = joined_every (a && b) l ∙ and_assoc a b (every (λ q. q) l)
