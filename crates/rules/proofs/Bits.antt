-- Single bits of `&` and `|`, and numbers that have the same bits.
-- Assumes nothing.
use mathlib.Core.Path.{◌≡◌, refl, sym, ap, ◌∙◌}
use mathlib.Core.Bool.{Bool, true, false, not, ◌&&◌, ◌||◌}
use Prim.Native.Nat.{ℕ, zero, suc, ◌+◌, ◌-◌, ◌*◌, ◌/◌, ◌%◌, ◌^◌, ◌<◌, min, max}
use native.Mathlib.Nat.{zero-mul}
use native.Mathlib.Omega.{arith}
use lib.Dec.{eqb}
use lib.Pow.{shr-shr, pow_pos}
use borrow.Author.Tests.{ne_eqb}
use lib.Bits.{bit_and, bit_or, and_step, or_step, and_shr, or_shr, and_high}
use Rattle.rules.specs.Numbers.{bit}

-- an operation on digits is the one on tests that has its four values
digits : (f : ℕ → ℕ → ℕ) (g : Bool → Bool → Bool)
    → eqb (f 0 0) 1 ≡ g false false → eqb (f 0 1) 1 ≡ g false true → eqb (f 1 0) 1 ≡ g true false → eqb (f 1 1) 1 ≡ g true true
    → (d e : ℕ) → d < 2 → e < 2 → eqb (f d e) 1 ≡ g (eqb d 1) (eqb e 1)
digits f g a b c z zero zero h k = a
digits f g a b c z zero (suc zero) h k = b
digits f g a b c z (suc zero) zero h k = c
digits f g a b c z (suc zero) (suc zero) h k = z
digits f g a b c z zero (suc (suc e)) h k = absurd (omega arith)
digits f g a b c z (suc zero) (suc (suc e)) h k = absurd (omega arith)
digits f g a b c z (suc (suc d)) e h k = absurd (omega arith)

odd_and : (x y : ℕ) → bit_and x y % 2 ≡ min (x % 2) (y % 2)
odd_and x y = ap (λ (n : ℕ). n % 2) (and_step x y) ∙ omega arith

odd_or : (x y : ℕ) → bit_or x y % 2 ≡ max (x % 2) (y % 2)
odd_or x y = ap (λ (n : ℕ). n % 2) (or_step x y) ∙ omega arith

pub bit_and_lem : (a b i : ℕ) → bit (bit_and a b) i ≡ (bit a i && bit b i)
unfolding bit
bit_and_lem a b i =
    ap (λ (n : ℕ). eqb (n % 2) 1) (and_shr a b i) ∙ ap (λ (n : ℕ). eqb n 1) (odd_and (a / 2 ^ i) (b / 2 ^ i))
    ∙ digits min ◌&&◌ refl refl refl refl (a / 2 ^ i % 2) (b / 2 ^ i % 2) (omega arith) (omega arith)

pub bit_or_lem : (a b i : ℕ) → bit (bit_or a b) i ≡ (bit a i || bit b i)
unfolding bit
bit_or_lem a b i =
    ap (λ (n : ℕ). eqb (n % 2) 1) (or_shr a b i) ∙ ap (λ (n : ℕ). eqb n 1) (odd_or (a / 2 ^ i) (b / 2 ^ i))
    ∙ digits max ◌||◌ refl refl refl refl (a / 2 ^ i % 2) (b / 2 ^ i % 2) (omega arith) (omega arith)

-- a mask of one bit leaves something just where the number has the bit
pub mask_test : (x i : ℕ) → not (eqb (bit_and x (2 ^ (1 + i) - 2 ^ i)) 0) ≡ bit x i
unfolding bit
mask_test x i = ap (λ (n : ℕ). not (eqb n 0)) (and_high x 1 i) ∙ go (x / 2 ^ i % 2 ^ 1) (omega arith)
  where
    go : (d : ℕ) → d < 2 → not (eqb (d * 2 ^ i) 0) ≡ eqb d 1
    go zero h = ap (λ (n : ℕ). not (eqb n 0)) (zero-mul (2 ^ i))
    go (suc zero) h = ap not (ne_eqb (1 * 2 ^ i) 0 (λ e. omega (arith, e, pow_pos i)))
    go (suc (suc d)) h = absurd (omega arith)

-- ---- numbers below 2 ^ k with the same k bits are the same

digit_same : (d e : ℕ) → d < 2 → e < 2 → eqb d 1 ≡ eqb e 1 → d ≡ e
digit_same zero zero h k q = refl
digit_same (suc zero) (suc zero) h k q = refl
digit_same zero (suc zero) h k q = let z : ◌≡◌ {A = ℕ} 0 1 = cc in absurd (omega arith)
digit_same (suc zero) zero h k q = let z : ◌≡◌ {A = ℕ} 0 1 = cc in absurd (omega arith)
digit_same zero (suc (suc e)) h k q = absurd (omega arith)
digit_same (suc zero) (suc (suc e)) h k q = absurd (omega arith)
digit_same (suc (suc d)) e h k q = absurd (omega arith)

pub bit_half : (a i : ℕ) → bit (a / 2) i ≡ bit a (1 + i)
unfolding bit
bit_half a i = ap (λ (n : ℕ). eqb (n % 2) 1) (shr-shr a 1 i)

pub same_bits : (k a b : ℕ) → a < 2 ^ k → b < 2 ^ k → ((i : ℕ) → i < k → bit a i ≡ bit b i) → a ≡ b
unfolding bit
same_bits zero a b h g f = omega arith
same_bits (suc k) a b h g f =
    let q : a / 2 ≡ b / 2 = same_bits k (a / 2) (b / 2) (omega arith) (omega arith)
    (λ i j. bit_half a i ∙ f (1 + i) (omega arith) ∙ sym (bit_half b i)) in
    let r : a / 1 % 2 ≡ b / 1 % 2 = digit_same (a / 1 % 2) (b / 1 % 2) (omega arith) (omega arith) (f 0 (omega arith)) in
    omega arith
