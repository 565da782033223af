-- Lists changed by position.
-- Assumes nothing.
use mathlib.Core.Path.{◌≡◌, refl, sym, ap, ap₂}
use mathlib.Core.List.{List, [], ◌∷◌, map}
use Prim.Native.Nat.{ℕ, zero, suc}
use lib.ListN.{get_or, set, take}

module _ {A : Type 0} where
  abbrev pub map_idx : (ℕ → A → A) → List A → List A
  map_idx f [] = []
  map_idx f (x ∷ l) = f 0 x ∷ map_idx (λ i. f (suc i)) l

  pub map_idx_get_or : (f : ℕ → A → A) (l : List A) (n : ℕ) (d : A) → ((i : ℕ) → f i d ≡ d) → get_or (map_idx f l) n d ≡ f n (get_or l n d)
  map_idx_get_or f [] n d e = sym (e n)
  map_idx_get_or f (x ∷ l) zero d e = refl
  map_idx_get_or f (x ∷ l) (suc n) d e = map_idx_get_or (λ i. f (suc i)) l n d (λ i. e (suc i))

  pub map_idx_set : (f : ℕ → A → A) (l : List A) (n : ℕ) (x : A) → map_idx f (set l n x) ≡ set (map_idx f l) n (f n x)
  map_idx_set f [] n x = refl
  map_idx_set f (y ∷ l) zero x = refl
  map_idx_set f (y ∷ l) (suc n) x = ap (λ (r : List A). f 0 y ∷ r) (map_idx_set (λ i. f (suc i)) l n x)

  -- a store that f does not tell from what stood there
  pub map_idx_set_same : (f : ℕ → A → A) (l : List A) (n : ℕ) (x d : A) → f n x ≡ f n (get_or l n d) → map_idx f (set l n x) ≡ map_idx f l
  map_idx_set_same f [] n x d e = refl
  map_idx_set_same f (y ∷ l) zero x d e = ap (λ (z : A). z ∷ map_idx (λ i. f (suc i)) l) e
  map_idx_set_same f (y ∷ l) (suc n) x d e = ap (λ (r : List A). f 0 y ∷ r) (map_idx_set_same (λ i. f (suc i)) l n x d e)

  pub map-map_idx : (f : A → A) (g : ℕ → A → A) → ((i : ℕ) (x : A) → f (g i x) ≡ f x) → (l : List A) → map f (map_idx g l) ≡ map f l
  map-map_idx f g e [] = refl
  map-map_idx f g e (x ∷ l) = ap₂ {B = List A} (λ (y : A) r. y ∷ r) (e 0 x) (map-map_idx f (λ i. g (suc i)) (λ i. e (suc i)) l)

  pub take_map : (f : A → A) (n : ℕ) (l : List A) → take n (map f l) ≡ map f (take n l)
  take_map f zero l = refl
  take_map f (suc n) [] = refl
  take_map f (suc n) (x ∷ l) = ap (λ (r : List A). f x ∷ r) (take_map f n l)
