-- An error's answer, written from the front on: the buffer is right up to `at`.
use Prim.Native.Nat.{ℕ, suc, ◌+◌, ◌-◌, ◌≤◌}
use mathlib.Core.Path.{◌≡◌, sym, ap, ◌∙◌}
use mathlib.Core.List.{List, ◌++◌}
use native.Mathlib.Omega.{arith}
use lib.ListN.{length, take, drop, replicate, length-append, length-replicate}
use lib.Seq.{take_all, take_at, take-add, length-take-le}
use Rattle.std.proofs.lemmas.List.{drop-replicate, take-replicate}
use Rattle.rules.specs.Numbers.{le32}

-- a status, and zeros to length n
abbrev pub error_bytes : ℕ → ℕ → List ℕ
error_bytes x n = le32 x ++ replicate (n - 4) 0

-- a buffer that is right up to its end is the answer
pub all_right : (a : List ℕ) (x n at : ℕ) → 4 ≤ n → n ≤ at → length a ≡ n → take at a ≡ take at (error_bytes x n) → a ≡ error_bytes x n
all_right a x n at f h l i = sym (take_all at a (omega arith)) ∙ i ∙ take_all at (error_bytes x n) (simp length-replicate (omega arith))

-- zeros from `at` on
zeros_left : (x n at : ℕ) → 4 ≤ at → drop at (error_bytes x n) ≡ replicate (n - 4 - (at - 4)) 0
zeros_left x n at f = ap (λ (k : ℕ). drop k (error_bytes x n)) (past_status at f) ∙ drop-replicate (at - 4) (n - 4) 0
  where
    past_status : (at : ℕ) → 4 ≤ at → at ≡ suc (suc (suc (suc (at - 4))))
    past_status at f = omega arith

-- a DWORD of 0 more
pub more_right : (a : List ℕ) (x n at : ℕ) (a₁ : List ℕ) → 4 ≤ at → at + 4 ≤ n → length a ≡ n → a₁ ≡ take at a ++ le32 0 ++ drop (4 + at) a
    → take at a ≡ take at (error_bytes x n) → take (at + 4) a₁ ≡ take (at + 4) (error_bytes x n)
more_right a x n at a₁ f h l e i =
    ap (take (at + 4)) e ∙ front ∙ ap (λ (y : List ℕ). y ++ le32 0) i ∙ sym back
  where
    long : length (take at a ++ le32 0) ≡ at + 4
    long = length-append (take at a) (le32 0) ∙ ap (λ (k : ℕ). k + 4) (length-take-le at a (omega arith))

    front : take (at + 4) (take at a ++ le32 0 ++ drop (4 + at) a) ≡ take at a ++ le32 0
    front = take_at (take at a ++ le32 0) (drop (4 + at) a) (at + 4) long

    back : take (at + 4) (error_bytes x n) ≡ take at (error_bytes x n) ++ le32 0
    back =
        take-add at 4 (error_bytes x n)
        ∙ ap (λ (y : List ℕ). take at (error_bytes x n) ++ y) (ap (take 4) (zeros_left x n at f) ∙ take-replicate 4 (n - 4 - (at - 4)) 0 (omega arith))
