-- A call leaves every lent buffer as long as it was.
-- Assumes nothing.
use mathlib.Core.Path.{◌≡◌, refl, sym, ap, ◌∙◌}
use mathlib.Core.Bool.{Bool, true, false, not, cond, ◌&&◌}
use mathlib.Core.List.{List, [], ◌∷◌, ◌++◌, map}
use Prim.Native.Nat.{ℕ, zero, suc, ◌-◌, ◌*◌, ◌≤◌}
use native.Mathlib.Omega.{arith}
use borrow.Author.Tests.{eqb-true, eqb-false, not-false}
use lib.Dec.{eqb, ltb}
use lib.ListN.{length, replicate, length-replicate}
use Rattle.rules.specs.Numbers.{le32, same_bytes}
use Rattle.rules.specs.Refusals.{◌if◌, first_of}
use Rattle.rules.specs.Tables.{bridge_at, fixed}
use Rattle.rules.specs.Osc.{granted, grant_status, uuid_bytes, framing_bad, recognised, error_status, support, control, osc_answer}
use Rattle.rules.specs.Calls.{Operation, osc, reset, report, address, register_values, on, locate, absent, foreign, accepted, lent, number_at, outcome_by, place_by, window_of, locate_refusals, locate_by, step}
use Rattle.rules.specs.Claims.{BuffersKeepLength}
use Rattle.rules.specs.declared.Bridge.{Bridge}
use Rattle.rules.specs.declared.BridgeNumber.{BridgeNumber}
use Rattle.rules.specs.declared.SessionNumber.{SessionNumber}
use Rattle.rules.proofs.Tests.{or_false, and-true}
use Rattle.rules.proofs.Refusals.{clear}
use Rattle.rules.specs.declared.Place.{Place}

-- what refusal 3 leaves of Count and the answer buffer
record Framed (count : ℕ) (answer : List ℕ) : Type 0 where
  some_dwords : 1 ≤ count
  full : length answer ≡ 4 * count

framed : (count : ℕ) (uuid caps answer : List ℕ) → framing_bad count uuid caps answer ≡ false → Framed count answer
unfolding framing_bad
framed count uuid caps answer e =
    let a = or_false _ (not (eqb (length answer) (4 * count))) e in
    let c = or_false _ (not (eqb (length caps) (4 * count))) a.0 in
    let d = or_false _ (ltb 8 count) c.0 in
    let f = or_false (not (eqb (length uuid) 16)) (eqb count 0) d.0 in
    let ne : (count ≡ 0 → ⊥) = eqb-false count 0 f.1 in
    record { some_dwords = omega arith; full = eqb-true (length answer) (4 * count) (not-false _ a.1) }

answer_length : (b : Bridge) (revision count : ℕ) (uuid caps answer : List ℕ) → Framed count answer
    → length (osc_answer b revision count uuid caps) ≡ length answer
unfolding recognised osc_answer
answer_length b revision count uuid caps answer h = go (recognised revision count uuid) refl ∙ sym h.full
  where
    g : ℕ
    g = granted b (support caps) (control caps)

    go : (q : Bool) → recognised revision count uuid ≡ q
        → length (cond q (le32 (grant_status (control caps) g) ++ le32 (support caps) ++ le32 g) (le32 (error_status revision uuid) ++ replicate (4 * count - 4) 0)) ≡ 4 * count
    go true r = ap (λ (n : ℕ). 4 * n) (sym (eqb-true count 3 (and-true (same_bytes uuid uuid_bytes && eqb revision 1) (eqb count 3) r).1))
    go false r = omega (arith, length-replicate {A = ℕ} (4 * count - 4) 0, h.some_dwords)

accepted_length : (bridges : ℕ) (s : SessionNumber) (n : BridgeNumber) (b : Bridge) (o : Operation) → number_at bridges s n b o ≡ 0
    → map length (accepted b o).left ≡ map length (lent o)
accepted_length bridges s n b (osc revision count uuid caps answer) e =
    let z = clear ((1 if absent bridges n) ∷ (2 if foreign s b) ∷ (3 if framing_bad count uuid caps answer) ∷ []) (omega arith) e in
    ap (λ (k : ℕ). length uuid ∷ length caps ∷ k ∷ []) (answer_length b revision count uuid caps answer (framed count uuid caps answer z.1.1.0))
accepted_length bridges s n b reset e = refl
accepted_length bridges s n b report e = refl
accepted_length bridges s n b (address bus device function offset width) e = refl
accepted_length bridges s n b (register_values slot block current) e = refl

pub buffers_keep_length : BuffersKeepLength
unfolding step
buffers_keep_length t (on s n o) = go (number_at t.count s n (bridge_at t n.0) o) refl
  where
    go : (k : ℕ) → number_at t.count s n (bridge_at t n.0) o ≡ k → map length (outcome_by k (bridge_at t n.0) o).left ≡ map length (lent o)
    go zero e = accepted_length t.count s n (bridge_at t n.0) o e
    go (suc k) e = refl
buffers_keep_length t (locate s a) = go (first_of (locate_refusals (fixed t) s a)) (place_by (fixed t) a (window_of (fixed t) s a))
  where
    go : (k : ℕ) (p : Place) → map length (locate_by k p).left ≡ []
    go zero p = refl
    go (suc k) p = refl
