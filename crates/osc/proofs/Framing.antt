-- What a framed call has.
use Prim.Native.Nat.{ℕ, ◌*◌, ◌%◌, ◌≤◌}
use mathlib.Core.Path.{◌≡◌}
use mathlib.Core.Bool.{true, false, not, ◌&&◌}
use mathlib.Core.List.{List}
use native.Mathlib.Omega.{arith}
use lib.Dec.{eqb, ltb}
use lib.ListN.{length}
use borrow.Author.Tests.{eqb-true, eqb-false, ltb-false, not-false}
use Rattle.rules.specs.Numbers.{same_bytes}
use Rattle.rules.specs.Osc.{uuid_bytes, framing_bad, recognised}
use Rattle.rules.proofs.Tests.{or_false, and-true}

-- a call that refusal 3 does not meet
pub record Framed (count : ℕ) (caps answer : List ℕ) : Type 0 where
  pub some_dwords : (count ≡ 0 → ⊥)
  pub at_most_8 : count ≤ 8
  pub capabilities_long : length caps ≡ 4 * count
  pub answer_long : length answer ≡ 4 * count

pub framed : (count : ℕ) (uuid caps answer : List ℕ) → framing_bad count uuid caps answer ≡ false → Framed count caps answer
unfolding framing_bad
framed count uuid caps answer e =
    let a = or_false _ (not (eqb (length answer) (4 * count))) e in
    let c = or_false _ (not (eqb (length caps) (4 * count))) a.0 in
    let h = or_false _ (ltb 8 count) c.0 in
    let z = or_false (not (eqb (length uuid) 16)) (eqb count 0) h.0 in
    record {
      some_dwords = eqb-false count 0 z.1;
      at_most_8 = ltb-false 8 count h.1;
      capabilities_long = eqb-true (length caps) (4 * count) (not-false (eqb (length caps) (4 * count)) c.1);
      answer_long = eqb-true (length answer) (4 * count) (not-false (eqb (length answer) (4 * count)) a.1);
    }

-- one to eight DWORDs
pub some_to_8 : (count n : ℕ) → (count ≡ 0 → ⊥) → count ≤ 8 → n ≡ 4 * count → (4 ≤ n) × (n ≤ 32) × (n % 4 ≡ 0)
some_to_8 count n z m e = (omega (arith, positive count z), omega arith, omega arith)
  where
    positive : (k : ℕ) → (k ≡ 0 → ⊥) → 1 ≤ k
    positive k n = omega arith

-- a recognised call has three DWORDs
pub three : (revision count : ℕ) (uuid : List ℕ) (n : ℕ) → recognised revision count uuid ≡ true → n ≡ 4 * count → n ≡ 12
unfolding recognised
three revision count uuid n e l =
    let c = eqb-true count 3 (and-true (same_bytes uuid uuid_bytes && eqb revision 1) (eqb count 3) e).1 in
    omega arith

pub ruleset framing = (framed, some_to_8, three)
