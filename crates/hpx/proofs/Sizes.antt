-- The two masks of the code keep Device Control's sizes.
-- Assumes nothing.
use Prim.Native.Nat.{ℕ, ◌≤◌, ◌<◌}
use mathlib.Core.Path.{◌≡◌, refl, sym, ap, ◌∙◌}
use mathlib.Core.Bool.{Bool, true, false, not, cond, ◌&&◌, ◌||◌}
use native.Mathlib.Omega.{arith}
use native.Mathlib.Decide.{dec_lt}
use lib.Bits.{bit_and, bit_or}
use Rattle.rules.specs.Numbers.{bit, number}
use Rattle.rules.specs.Records.{size_bit, sizes_kept}
use Rattle.rules.proofs.Tests.{and_off}
use Rattle.rules.proofs.Bits.{bit_and_lem, bit_or_lem}
use Rattle.rules.proofs.Sets.{number_lt, bit_number, bit_high, same_set}

-- one of two, by a test
pick : (t a b : Bool) → (b && not t) || (a && t) ≡ cond t a b
pick true true true = refl
pick true true false = refl
pick true false true = refl
pick true false false = refl
pick false true true = refl
pick false true false = refl
pick false false true = refl
pick false false false = refl

-- `kept` has the size bits, `rest` the others of 32
module _ (kept rest : ℕ) (k : kept ≡ number 32 size_bit) (r : rest ≡ number 32 (λ i. not (size_bit i))) (current computed : ℕ) where
  abbrev chosen : ℕ → Bool
  chosen i = cond (size_bit i) (bit current i) (bit computed i)

  low : (i : ℕ) → i < 32 → (bit computed i && bit rest i) || (bit current i && bit kept i) ≡ bit (number 32 chosen) i
  low i p =
      ap (λ (t : Bool). (bit computed i && t) || (bit current i && bit kept i)) (ap (λ (x : ℕ). bit x i) r ∙ bit_number 32 (λ j. not (size_bit j)) i p)
      ∙ ap (λ (t : Bool). (bit computed i && not (size_bit i)) || (bit current i && t)) (ap (λ (x : ℕ). bit x i) k ∙ bit_number 32 size_bit i p)
      ∙ pick (size_bit i) (bit current i) (bit computed i)
      ∙ sym (bit_number 32 chosen i p)

  high : (i : ℕ) → 32 ≤ i → (bit computed i && bit rest i) || (bit current i && bit kept i) ≡ bit (number 32 chosen) i
  high i p =
      rw (
        bit_high 32 rest i (rw r (number_lt 32 (λ j. not (size_bit j)))) p,
        bit_high 32 kept i (rw k (number_lt 32 size_bit)) p,
        bit_high 32 (number 32 chosen) i (number_lt 32 chosen) p,
        and_off (bit computed i),
        and_off (bit current i),
      )

  pub by_masks : bit_or (bit_and computed rest) (bit_and current kept) ≡ sizes_kept current computed
  unfolding sizes_kept
  by_masks =
      same_set _ _
      (λ i. bit_or_lem (bit_and computed rest) (bit_and current kept) i
      ∙ ap (λ (t : Bool). t || bit (bit_and current kept) i) (bit_and_lem computed rest i)
      ∙ ap (λ (t : Bool). (bit computed i && bit rest i) || t) (bit_and_lem current kept i)
      ∙ elim (dec_lt i 32) [ yes p ↦ low i p | no p ↦ high i (omega arith) ])
