-- Laws of `sum`: sums that wrap at each step, and eights of bytes.
use Rattle.std.proofs.Common.{◌≡◌, ℕ, zero, suc, ◌+◌, ◌*◌, ◌%◌, List, [], ◌∷◌, length, take, drop, refl, ap, ◌∙◌, arith, drop-drop}
use Rattle.std.specs.List.{fold, sum_by}
use Rattle.std.specs.Simd.{first_chunks}
use Rattle.std.specs.Simd.Lanes.{fold_l, zip2}
use Rattle.std.proofs.lemmas.List.Sums.{sum_by-cons}
use Rattle.rules.specs.Numbers.{sum}

-- two bytes added, modulo 256
abbrev pub plus : ℕ → ℕ → ℕ
plus x y = (x + y) % 256

-- a sum that wraps at each step is the sum modulo 256
pub wrapped : (l : List ℕ) (a : ℕ) → fold plus (a % 256) l ≡ (a + sum l) % 256
wrapped [] a = omega arith
wrapped (x ∷ l) a = omega (arith, wrapped l (a + x), ap (λ (t : ℕ). fold plus t l) once)
  where
    once : (a % 256 + x) % 256 ≡ (a + x) % 256
    once = omega arith

-- the same of lanes
pub lanes_wrapped : (l : List ℕ) (a : ℕ) → fold_l plus (a % 256) l ≡ (a + sum l) % 256
lanes_wrapped l a = folded l (a % 256) ∙ wrapped l a
  where
    folded : (l : List ℕ) (t : ℕ) → fold_l plus t l ≡ fold plus t l
    folded [] t = refl
    folded (x ∷ l) t = folded l (plus t x)

-- as many bytes added to as many lanes
pub added : (l b : List ℕ) → length l ≡ length b → sum (zip2 plus l b) % 256 ≡ (sum l + sum b) % 256
added [] [] e = refl
added [] (y ∷ b) e = cc
added (x ∷ l) [] e = cc
added (x ∷ l) (y ∷ b) e = omega (arith, added l b (omega arith))

-- a string's sum is that of its first bytes and that of the others
pub sum_split : (b : List ℕ) (i : ℕ) → sum (take i b) + sum (drop i b) ≡ sum b
sum_split b zero = omega arith
sum_split [] (suc i) = refl
sum_split (x ∷ b) (suc i) = omega (arith, sum_split b i)

-- it is that of its first eights and that of the others
pub sum_eights : (k : ℕ) (b : List ℕ) → sum_by sum (first_chunks 8 k b) + sum (drop (k * 8) b) ≡ sum b
sum_eights zero b = omega arith
sum_eights (suc k) b = omega (arith, sum_split b 8, sum_eights k (drop 8 b), first, others)
  where
    first : sum_by sum (first_chunks 8 (suc k) b) ≡ sum (take 8 b) + sum_by sum (first_chunks 8 k (drop 8 b))
    first = sum_by-cons sum (take 8 b) (first_chunks 8 k (drop 8 b))

    others : sum (drop (k * 8) (drop 8 b)) ≡ sum (drop (suc k * 8) b)
    others = ap sum (drop-drop (k * 8) 8 b) ∙ ap (λ (n : ℕ). sum (drop n b)) (omega arith)
