-- Numbers read from the bytes where they were written, and written again from the bytes where they were read.
-- Assumes nothing. The computed lines are named, so that they come first, and a wrong rule is refused at one of them.
use mathlib.Core.Path.{◌≡◌, sym, ap, ap₂, ◌∙◌}
use mathlib.Core.Bool.{true}
use mathlib.Core.List.{List, [], ◌∷◌, ◌++◌}
use Prim.Native.Nat.{ℕ, zero, suc, ◌+◌, ◌*◌, ◌/◌, ◌%◌, ◌^◌, ◌≤◌, ◌<◌}
use native.Mathlib.Nat.{add_comm, mod-eq_of_lt}
use native.Mathlib.Omega.{arith}
use borrow.Author.Tests.{ltb-true}
use lib.Dec.{ltb}
use lib.ListN.{length, drop}
use lib.Pow.{shr-shr, shr_lt, split}
use lib.Seq.{get_or-drop, drop-drop, drop-cons}
use Rattle.rules.specs.Numbers.{byte, word, dword, le16, le32}
use Rattle.rules.specs.Writer.{are_bytes}
use Rattle.rules.proofs.Tests.{and-true}

-- ---- the bytes of a number, and the number of bytes

pub two_bytes : (x : ℕ) → x < 2 ^ 16 → x % 256 + x / 2 ^ 8 % 256 * 2 ^ 8 ≡ x
two_bytes x h = omega arith

pub four_bytes : (x : ℕ) → x < 2 ^ 32 → x % 256 + x / 2 ^ 8 % 256 * 2 ^ 8 + (x / 2 ^ 16 % 256 + x / 2 ^ 24 % 256 * 2 ^ 8) * 2 ^ 16 ≡ x
four_bytes x h =
    let a : x / 2 ^ 24 % 256 ≡ x / 2 ^ 24 = mod-eq_of_lt (shr_lt 8 24 h) in
    let b : x / 2 ^ 24 * 256 + x / 2 ^ 16 % 256 ≡ x / 2 ^ 16 = ap (λ (q : ℕ). q * 256 + x / 2 ^ 16 % 256) (sym (shr-shr x 16 8)) ∙ split (x / 2 ^ 16) 8 in
    let c : x / 2 ^ 16 * 256 + x / 2 ^ 8 % 256 ≡ x / 2 ^ 8 = ap (λ (q : ℕ). q * 256 + x / 2 ^ 8 % 256) (sym (shr-shr x 8 8)) ∙ split (x / 2 ^ 8) 8 in
    let d : x / 2 ^ 8 * 256 + x % 256 ≡ x = split x 8 in
    omega arith

module _ (a b : ℕ) (ha : a < 256) (hb : b < 256) where
  le16_of : le16 (a + b * 2 ^ 8) ≡ a ∷ b ∷ []
  le16_of = ap₂ (λ (x y : ℕ). x ∷ y ∷ []) low high
    where
      low : (a + b * 2 ^ 8) % 256 ≡ a
      low = omega arith

      high : (a + b * 2 ^ 8) / 2 ^ 8 % 256 ≡ b
      high = omega arith

  module _ (c d : ℕ) (hc : c < 256) (hd : d < 256) where
    abbrev four : ℕ
    four = a + b * 2 ^ 8 + (c + d * 2 ^ 8) * 2 ^ 16

    byte_0 : four % 256 ≡ a
    byte_0 = omega arith

    byte_1 : four / 2 ^ 8 % 256 ≡ b
    byte_1 = omega arith

    byte_2 : four / 2 ^ 16 % 256 ≡ c
    byte_2 = omega arith

    byte_3 : four / 2 ^ 24 % 256 ≡ d
    byte_3 = omega arith

    le32_of : le32 four ≡ a ∷ b ∷ c ∷ d ∷ []
    le32_of = rw (byte_0, byte_1, byte_2, byte_3)

-- ---- the bytes from byte i on, read at k in m and at k + i in l

module _ (l m : List ℕ) (i : ℕ) (e : drop i l ≡ m) where
  pub drop_in : (j k : ℕ) → j ≡ k + i → drop j l ≡ drop k m
  drop_in j k h = ap (λ (x : ℕ). drop x l) (h ∙ add_comm k i) ∙ sym (drop-drop k i l) ∙ ap (drop k) e

  pub byte_in : (j k : ℕ) → j ≡ k + i → byte l j ≡ byte m k
  byte_in j k h = ap (byte l) (h ∙ add_comm k i) ∙ sym (get_or-drop i l k 0) ∙ ap (λ (x : List ℕ). byte x k) e

  pub word_in : (j k : ℕ) → j ≡ k + i → word l j ≡ word m k
  word_in j k h = ap₂ (λ (x y : ℕ). x + y * 2 ^ 8) (byte_in j k h) (byte_in (1 + j) (1 + k) (omega arith))

  pub dword_in : (j k : ℕ) → j ≡ k + i → dword l j ≡ dword m k
  dword_in j k h = ap₂ (λ (x y : ℕ). x + y * 2 ^ 16) (word_in j k h) (word_in (2 + j) (2 + k) (omega arith))

-- ---- bytes read and written again

byte_fits : (l : List ℕ) → are_bytes l ≡ true → (i : ℕ) → byte l i < 256
byte_fits [] h i = omega arith
byte_fits (x ∷ l) h zero = ltb-true x 256 (and-true (ltb x 256) (are_bytes l) h).0
byte_fits (x ∷ l) h (suc i) = byte_fits l (and-true (ltb x 256) (are_bytes l) h).1 i

-- two bytes, and what stands after them
two_at : (l : List ℕ) (i : ℕ) → 2 + i ≤ length l → drop i l ≡ byte l i ∷ byte l (1 + i) ∷ drop (2 + i) l
two_at l i k =
    let a : 1 + i ≡ suc i = omega arith in
    let b : 2 + i ≡ suc (suc i) = omega arith in
    drop-cons l i 0 (omega arith) ∙ ap (λ (m : List ℕ). byte l i ∷ m) (drop-cons l (suc i) 0 (omega arith)) ∙ rw (a, b)

module _ (l : List ℕ) (h : are_bytes l ≡ true) where
  pub word_again : (i : ℕ) → 2 + i ≤ length l → drop i l ≡ le16 (word l i) ++ drop (2 + i) l
  word_again i k = two_at l i k ∙ ap (λ (m : List ℕ). m ++ drop (2 + i) l) (sym (le16_of (byte l i) (byte l (1 + i)) (byte_fits l h i) (byte_fits l h (1 + i))))

  pub dword_again : (i : ℕ) → 4 + i ≤ length l → drop i l ≡ le32 (dword l i) ++ drop (4 + i) l
  dword_again i k =
      let a : 2 + (2 + i) ≡ 4 + i = omega arith in
      two_at l i (omega arith) ∙ ap (λ (m : List ℕ). byte l i ∷ byte l (1 + i) ∷ m) (two_at l (2 + i) (omega arith)) ∙ ap (λ (n : ℕ). four ++ drop n l) a
      ∙ ap (λ (m : List ℕ). m ++ drop (4 + i) l) (sym (le32_of (byte l i) (byte l (1 + i)) (byte_fits l h i) (byte_fits l h (1 + i))
      (byte l (2 + i)) (byte l (1 + (2 + i))) (byte_fits l h (2 + i)) (byte_fits l h (1 + (2 + i)))))
    where
      four : List ℕ
      four = byte l i ∷ byte l (1 + i) ∷ byte l (2 + i) ∷ byte l (1 + (2 + i)) ∷ []
