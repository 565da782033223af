-- Bytes written one after the other: two splices side by side are one.
-- Assumes nothing.
use Prim.Native.Nat.{ℕ, suc, ◌+◌, ◌*◌, ◌≤◌, ◌<◌}
use mathlib.Core.Path.{◌≡◌, refl, sym, ap, ap₂, ◌∙◌}
use mathlib.Core.List.{List, [], ◌∷◌, ◌++◌, append_assoc}
use native.Mathlib.Nat.{add_comm}
use native.Mathlib.Omega.{arith}
use lib.ListN.{length, get_or, take, drop, set, length-append}
use lib.Seq.{length-take-le, take-suc, take_at, drop_at, drop-drop, set_split}
use Rattle.rules.specs.Numbers.{le16, le32, dwords}
use Rattle.rules.specs.Writer.{record_bytes}
use Rattle.rules.proofs.Laying.{dwords_length}
use Rattle.writer.specs.Splices.{splice}

-- at the start
pub splice_first : (x b : List ℕ) → splice 0 x b ≡ x ++ drop (length x) b
splice_first x b = ap (λ (n : ℕ). x ++ drop n b) (none (length x))
  where
    none : (n : ℕ) → n + 0 ≡ n
    none n = omega arith

-- bytes behind those already written
pub splice_next : (at : ℕ) (x y b : List ℕ) → at ≤ length b → (n : ℕ) → n ≡ length x + at → splice n y (splice at x b) ≡ splice at (x ++ y) b
splice_next at x y b h n e =
    ap₂ (λ (p q : List ℕ). p ++ y ++ q) front back ∙ ap₂ (λ (p : List ℕ) (k : ℕ). p ++ drop k b) (append_assoc (take at b) x y) (all (length x) (length y) n at e ∙ ap (λ (k : ℕ). k + at) (sym (length-append x y)))
  where
    long : length (take at b ++ x) ≡ n
    long = length-append (take at b) x ∙ ap (λ (k : ℕ). k + length x) (length-take-le at b h) ∙ swap (length x) n at e
      where
        swap : (k n at : ℕ) → n ≡ k + at → at + k ≡ n
        swap k n at e = omega arith

    all : (k m n at : ℕ) → n ≡ k + at → n + m ≡ k + m + at
    all k m n at e = omega arith

    front : take n (splice at x b) ≡ take at b ++ x
    front = take_at (take at b ++ x) (drop (length x + at) b) n long

    back : drop (length y + n) (splice at x b) ≡ drop (n + length y) b
    back =
        ap (λ (k : ℕ). drop k (splice at x b)) (add_comm (length y) n)
        ∙ sym (drop-drop (length y) n (splice at x b))
        ∙ ap (drop (length y)) (drop_at (take at b ++ x) (drop (length x + at) b) n long ∙ ap (λ (k : ℕ). drop k b) (sym e))
        ∙ drop-drop (length y) n b

-- three, from the start on
pub three_written : (x y z b b₁ b₂ b₃ : List ℕ) (m n : ℕ) → m ≡ length x + 0 → n ≡ length y + m
    → b₁ ≡ splice 0 x b → b₂ ≡ splice m y b₁ → b₃ ≡ splice n z b₂ → b₃ ≡ (x ++ y ++ z) ++ drop (length (x ++ y ++ z)) b
three_written x y z b b₁ b₂ b₃ m n i j e f g =
    g
    ∙ ap (splice n z) (f ∙ ap (splice m y) e ∙ splice_next 0 x y b (omega arith) m i)
    ∙ splice_next 0 (x ++ y) z b (omega arith) n (omega (arith, length-append x y))
    ∙ splice_first (x ++ y ++ z) b

-- ---- numbers

dwords_append : (v w : List ℕ) → dwords (v ++ w) ≡ dwords v ++ dwords w
dwords_append [] w = refl
dwords_append (x ∷ v) w = ap (λ (l : List ℕ). le32 x ++ l) (dwords_append v w) ∙ sym (append_assoc (le32 x) (dwords v) (dwords w))

-- k numbers are written
abbrev pub numbers_written : ℕ → ℕ → (v b : List ℕ) → List ℕ
numbers_written k at v b = splice at (dwords (take k v)) b

-- one more
pub number_next : (k at : ℕ) (v b₀ b b₁ : List ℕ) → k < length v → at ≤ length b₀ → b ≡ numbers_written k at v b₀
    → b₁ ≡ splice (4 * k + at) (le32 (get_or v k 0)) b → b₁ ≡ numbers_written (k + 1) at v b₀
number_next k at v b₀ b b₁ h i e f =
    f
    ∙ ap (splice (4 * k + at) (le32 (get_or v k 0))) e
    ∙ splice_next at (dwords (take k v)) (le32 (get_or v k 0)) b₀ i (4 * k + at) place
    ∙ ap (λ (x : List ℕ). splice at x b₀) (sym more)
  where
    place : 4 * k + at ≡ length (dwords (take k v)) + at
    place = ap (λ (n : ℕ). n + at) (sym (dwords_length (take k v) ∙ ap (λ (n : ℕ). 4 * n) (length-take-le k v (omega arith))))

    next : (n : ℕ) → n + 1 ≡ suc n
    next n = omega arith

    more : dwords (take (k + 1) v) ≡ dwords (take k v) ++ le32 (get_or v k 0)
    more = ap dwords (ap (λ (n : ℕ). take n v) (next k) ∙ take-suc v k 0 h) ∙ dwords_append (take k v) (get_or v k 0 ∷ [])

-- ---- a record

-- a tag stored, a length and numbers written behind it
pub record_written : (at tag : ℕ) (v b b₁ b₂ : List ℕ) → 3 + 4 * length v + at ≤ length b
    → b₁ ≡ splice (1 + at) (le16 (4 * length v)) (set b at tag) → b₂ ≡ splice (3 + at) (dwords v) b₁
    → b₂ ≡ splice at (record_bytes (record { type = tag; numbers = v })) b
record_written at tag v b b₁ b₂ h e f =
    f
    ∙ ap (splice (3 + at) (dwords v)) (e ∙ ap (splice (1 + at) (le16 (4 * length v))) stored ∙ splice_next at (tag ∷ []) (le16 (4 * length v)) b (omega arith) (1 + at) refl)
    ∙ splice_next at (tag ∷ le16 (4 * length v)) (dwords v) b (omega arith) (3 + at) refl
  where
    stored : set b at tag ≡ splice at (tag ∷ []) b
    stored =
        set_split b at tag (omega arith)
        ∙ sym (append_assoc (take at b) (tag ∷ []) (drop (suc at) b))
        ∙ ap (λ (n : ℕ). take at b ++ (tag ∷ []) ++ drop n b) (next at)
      where
        next : (n : ℕ) → suc n ≡ 1 + n
        next n = omega arith
