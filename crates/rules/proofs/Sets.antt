-- Numbers as sets of bits.
-- Assumes nothing.
use mathlib.Core.Path.{◌≡◌, refl, sym, ap, ◌∙◌, subst}
use mathlib.Core.Logic.{◌⊎◌, inl, inr}
use mathlib.Core.Bool.{Bool, true, false, cond, ◌&&◌, true≢false}
use Prim.Native.Nat.{ℕ, zero, suc, ◌+◌, ◌*◌, ◌/◌, ◌%◌, ◌^◌, ◌≤◌, ◌<◌}
use native.Mathlib.Nat.{div-eq_of_lt}
use native.Mathlib.Omega.{arith}
use native.Mathlib.Decide.{dec_lt}
use borrow.Author.Tests.{eqb-true, eq-eqb}
use lib.Dec.{eqb}
use lib.Pow.{pow_mono}
use lib.Bits.{bit_and, bit_or}
use Rattle.rules.specs.Numbers.{bit, within, number}
use Rattle.rules.proofs.Tests.{and-true, and_is, or_true, or_left, or_right, same_test}
use Rattle.rules.proofs.Bits.{bit_and_lem, bit_or_lem, bit_half, same_bits}

abbrev digit : Bool → ℕ
digit q = cond q 1 0

digit_lt : (q : Bool) → digit q < 2
digit_lt true = omega arith
digit_lt false = omega arith

pub number_lt : (n : ℕ) (f : ℕ → Bool) → number n f < 2 ^ n
number_lt zero f = omega arith
number_lt (suc n) f = omega (arith, number_lt n (λ i. f (suc i)), digit_lt (f 0))

low_bit : (q : Bool) (y : ℕ) → bit (digit q + 2 * y) 0 ≡ q
unfolding bit
low_bit q y = ap (λ (n : ℕ). eqb n 1) d ∙ is q
  where
    d : (digit q + 2 * y) / 2 ^ 0 % 2 ≡ digit q
    d = omega (arith, digit_lt q)

    is : (q : Bool) → eqb (digit q) 1 ≡ q
    is true = refl
    is false = refl

one_more : (i : ℕ) → suc i ≡ 1 + i
one_more i = omega arith

pub bit_number : (n : ℕ) (f : ℕ → Bool) (i : ℕ) → i < n → bit (number n f) i ≡ f i
bit_number zero f i h = absurd (omega arith)
bit_number (suc n) f zero h = low_bit (f 0) (number n (λ i. f (suc i)))
bit_number (suc n) f (suc i) h =
    let y = number n (λ i. f (suc i)) in
    let e : (digit (f 0) + 2 * y) / 2 ≡ y = omega (arith, digit_lt (f 0)) in
    ap (bit (digit (f 0) + 2 * y)) (one_more i) ∙ sym (bit_half (digit (f 0) + 2 * y) i) ∙ ap (λ (x : ℕ). bit x i) e ∙ bit_number n (λ i. f (suc i)) i (omega arith)

-- a number below 2 ^ n has no bit from n up
pub bit_high : (n a i : ℕ) → a < 2 ^ n → n ≤ i → bit a i ≡ false
unfolding bit
bit_high n a i h k =
    let g : a < 2 ^ i = omega (arith, pow_mono k) in
    ap (λ (x : ℕ). eqb (x % 2) 1) (div-eq_of_lt g)

pub bit_below : (n a i : ℕ) → a < 2 ^ n → bit a i ≡ true → i < n
bit_below n a i h e = elim (dec_lt i n) [ yes p ↦ p | no p ↦ absurd (true≢false (sym e ∙ bit_high n a i h (omega arith))) ]

-- a bit of a number that is made from a test
pub number_bit : (n : ℕ) (f : ℕ → Bool) (i : ℕ) → bit (number n f) i ≡ true → (i < n) × (f i ≡ true)
number_bit n f i e =
    let h = bit_below n (number n f) i (number_lt n f) e in
    (h, sym (bit_number n f i h) ∙ e)

-- where the test fails from n up, the number's bits are the test's
pub bits_are : (n : ℕ) (f : ℕ → Bool) → ((i : ℕ) → n ≤ i → f i ≡ false) → (i : ℕ) → bit (number n f) i ≡ f i
bits_are n f z i = elim (dec_lt i n) [ yes p ↦ bit_number n f i p | no p ↦ high (omega arith) ]
  where
    high : n ≤ i → bit (number n f) i ≡ f i
    high h = bit_high n (number n f) i (number_lt n f) h ∙ sym (z i h)

lt_pow : (n : ℕ) → n < 2 ^ n
lt_pow zero = omega arith
lt_pow (suc n) = omega (arith, lt_pow n)

-- two numbers with the same bits are the same
pub same_set : (a b : ℕ) → ((i : ℕ) → bit a i ≡ bit b i) → a ≡ b
same_set a b f =
    let p : 2 ^ a ≤ 2 ^ (a + b) = pow_mono (omega arith) in
    let q : 2 ^ b ≤ 2 ^ (a + b) = pow_mono (omega arith) in
    same_bits (a + b) a b (omega (arith, lt_pow a)) (omega (arith, lt_pow b)) (λ i k. f i)

-- each bit of a is one of b
abbrev pub Sub : ℕ → ℕ → Type 0
Sub a b = (i : ℕ) → bit a i ≡ true → bit b i ≡ true

pub same_sub : (a b : ℕ) → Sub a b → Sub b a → a ≡ b
same_sub a b f g = same_set a b (λ i. same_test (bit a i) (bit b i) (f i) (g i))

pub within_sub : (a b : ℕ) → within a b ≡ true → Sub a b
within_sub a b e i q = (and-true (bit a i) (bit b i) (sym (bit_and_lem a b i) ∙ ap (λ (x : ℕ). bit x i) (eqb-true (bit_and a b) a e) ∙ q)).1

pub sub_within : (a b : ℕ) → Sub a b → within a b ≡ true
sub_within a b f = eq-eqb (bit_and a b) a
    (same_set (bit_and a b) a (λ i. bit_and_lem a b i ∙ same_test (bit a i && bit b i) (bit a i) (λ q. (and-true (bit a i) (bit b i) q).0) (λ q. and_is q (f i q))))

-- two sets lie within a third where their union does
pub within_or : (a b c : ℕ) → within (bit_or a b) c ≡ (within a c && within b c)
within_or a b c = same_test (within (bit_or a b) c) (within a c && within b c)
    (λ e. and_is (sub_within a c (λ i q. within_sub (bit_or a b) c e i (bit_or_lem a b i ∙ or_left (bit a i) (bit b i) q)))
    (sub_within b c (λ i q. within_sub (bit_or a b) c e i (bit_or_lem a b i ∙ or_right (bit a i) (bit b i) q))))
    (λ e. let t = and-true (within a c) (within b c) e in
    sub_within (bit_or a b) c (λ i q. either i t.0 t.1 (or_true (bit a i) (bit b i) (sym (bit_or_lem a b i) ∙ q))))
  where
    either : (i : ℕ) → within a c ≡ true → within b c ≡ true → (bit a i ≡ true) ⊎ (bit b i ≡ true) → bit c i ≡ true
    either i x y (inl q) = within_sub a c x i q
    either i x y (inr q) = within_sub b c y i q

-- ---- how many of the first n bits a number has

abbrev pub ones : ℕ → ℕ → ℕ
ones zero g = 0
ones (suc n) g = digit (bit g n) + ones n g

pub ones_le : (n g : ℕ) → ones n g ≤ n
ones_le zero g = omega arith
ones_le (suc n) g = omega (arith, ones_le n g, digit_lt (bit g n))

digit_le : (p q : Bool) → (p ≡ true → q ≡ true) → digit p ≤ digit q
digit_le true q f = rw (f refl) (omega arith)
digit_le false q f = omega arith

digit_eq : (p q : Bool) → digit p ≡ digit q → p ≡ q
digit_eq true true e = refl
digit_eq false false e = refl
digit_eq true false e = absurd (omega arith)
digit_eq false true e = absurd (omega arith)

-- a smaller set has as many at most
pub ones_sub : (n f g : ℕ) → Sub f g → ones n f ≤ ones n g
ones_sub zero f g s = omega arith
ones_sub (suc n) f g s = omega (arith, ones_sub n f g s, digit_le (bit f n) (bit g n) (s n))

last : (i n : ℕ) → i < suc n → (i < n → ⊥) → n ≡ i
last i n h k = omega arith

-- where it has as many, it has the same
pub ones_same : (n f g : ℕ) → Sub f g → ones n f ≡ ones n g → (i : ℕ) → i < n → bit f i ≡ bit g i
ones_same zero f g s e i h = absurd (omega arith)
ones_same (suc n) f g s e i h =
    let a = ones_sub n f g s in
    let b = digit_le (bit f n) (bit g n) (s n) in
    let p : ones n f ≡ ones n g = omega arith in
    let q : digit (bit f n) ≡ digit (bit g n) = omega arith in
    let r : i < n → bit f i ≡ bit g i = ones_same n f g s p i in
    elim (dec_lt i n) [ yes k ↦ r k | no k ↦ subst (λ (j : ℕ). bit f j ≡ bit g j) (last i n h k) (digit_eq (bit f n) (bit g n) q) ]

-- where it has none, each bit is off
pub ones_none : (n g : ℕ) → ones n g ≤ 0 → (i : ℕ) → i < n → bit g i ≡ false
ones_none zero g z i h = absurd (omega arith)
ones_none (suc n) g z i h =
    let r : i < n → bit g i ≡ false = ones_none n g (omega arith) i in
    let q : digit (bit g n) ≡ digit false = omega arith in
    elim (dec_lt i n) [ yes k ↦ r k | no k ↦ subst (λ (j : ℕ). bit g j ≡ false) (last i n h k) (digit_eq (bit g n) false q) ]
