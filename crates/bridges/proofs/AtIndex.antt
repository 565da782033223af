-- A call on the bridge at a bridge number's index of the array is the call on the table: the remainder finds the bridge that the table has, and another number is refused.
use Prim.Native.Nat.{ℕ, zero, suc, ◌%◌, ◌^◌, ◌≤◌, ◌<◌}
use mathlib.Core.Path.{◌≡◌, refl, sym, ap, subst, ◌∙◌}
use native.Mathlib.Decide.{dec_lt}
use native.Mathlib.Nat.{mod-eq_of_lt}
use native.Mathlib.Omega.{arith}
use borrow.Author.Tests.{le-leb}
use Rattle.rules.specs.Limits.{max_rows}
use Rattle.rules.specs.Tables.{holding, with_holding, bridge_at, with_bridge}
use Rattle.rules.specs.Mcfg.{bus_end}
use Rattle.rules.specs.Start.{Sound, BridgeSound}
use Rattle.rules.specs.Calls.{Operation, Outcome, on, after, number_at, outcome_by, bridge_by, outcome_at, bridge_after, step}
use Rattle.rules.specs.declared.Bridge.{Bridge}
use Rattle.rules.specs.declared.BridgeNumber.{BridgeNumber}
use Rattle.rules.specs.declared.SessionNumber.{SessionNumber}
use Rattle.rules.specs.declared.Table.{Table}
use Rattle.rules.proofs.Local.{absent_first, same_bridge}
use Rattle.one_bridge.specs.Answers.{outcome_of}
use Rattle.one_bridge.specs.declared.BridgeCall.{BridgeCall}
use Rattle.bridges.specs.OnTable.{Steps, call_on}

-- a call changes nothing of a bridge but what it holds
bridge_held : (k : ℕ) (b : Bridge) (o : Operation) → with_holding b (holding (bridge_by k b o)) ≡ bridge_by k b o
bridge_held zero b o = refl
bridge_held (suc k) b o = refl

module _ (t : Table) (size : ℕ) (few : t.count ≤ size) (n : BridgeNumber) where
  -- the index of a bridge that the table has is its number
  there : n.0 < t.count → n.0 % size ≡ n.0
  there h = mod-eq_of_lt (omega arith)

  -- the bridge at the index is sound where the table is
  pub index_sound : Sound t → BridgeSound t.count n (bridge_at t (n.0 % size))
  index_sound h l = subst (λ (i : ℕ). bus_end (bridge_at t i).base (bridge_at t i).last_bus ≤ 2 ^ 64) (sym (there l)) (h.window_ends n.0 l)

module _ (t : Table) (size : ℕ) (few : t.count ≤ size) (s : SessionNumber) (n : BridgeNumber) (o : Operation) where
  abbrev index : ℕ
  index = n.0 % size

  refused : t.count ≤ n.0 → (i : ℕ) → number_at t.count s n (bridge_at t i) o ≡ 1
  refused h i = absent_first t.count s n (bridge_at t i) o (le-leb t.count n.0 h)

  pub index_outcome : outcome_at t.count s n (bridge_at t index) o ≡ (step t (on s n o)).outcome
  unfolding step
  index_outcome = elim (dec_lt n.0 t.count) [ yes h ↦ ap (λ (i : ℕ). outcome_at t.count s n (bridge_at t i) o) (there t size few n h) | no h ↦ out (omega arith) ]
    where
      out : t.count ≤ n.0 → outcome_at t.count s n (bridge_at t index) o ≡ outcome_at t.count s n (bridge_at t n.0) o
      out h =
          ap (λ (k : ℕ). outcome_by k (bridge_at t index) o) (refused h index)
          ∙ sym (ap (λ (k : ℕ). outcome_by k (bridge_at t n.0) o) (refused h n.0))

  index_table : with_bridge t index (bridge_after t.count s n (bridge_at t index) o) ≡ (step t (on s n o)).table
  unfolding step
  index_table = elim (dec_lt n.0 t.count) [ yes h ↦ ap (λ (i : ℕ). with_bridge t i (bridge_after t.count s n (bridge_at t i) o)) (there t size few n h) | no h ↦ out (omega arith) ]
    where
      kept : (i : ℕ) → t.count ≤ n.0 → with_bridge t i (bridge_after t.count s n (bridge_at t i) o) ≡ t
      kept i h = ap (λ (k : ℕ). with_bridge t i (bridge_by k (bridge_at t i) o)) (refused h i) ∙ same_bridge t i

      out : t.count ≤ n.0 → with_bridge t index (bridge_after t.count s n (bridge_at t index) o) ≡ with_bridge t n.0 (bridge_after t.count s n (bridge_at t n.0) o)
      out h = kept index h ∙ sym (kept n.0 h)

  -- the same where only what the bridge holds is stored
  pub index_held : (y : Bridge) → y ≡ bridge_after t.count s n (bridge_at t index) o → with_bridge t index (with_holding (bridge_at t index) (holding y)) ≡ (step t (on s n o)).table
  index_held y e =
      ap (λ (x : Bridge). with_bridge t index (with_holding (bridge_at t index) (holding x))) e
      ∙ ap (with_bridge t index) (bridge_held (number_at t.count s n (bridge_at t index) o) (bridge_at t index) o) ∙ index_table

  -- an operation that leaves what the bridge holds leaves the table
  pub table_kept : ((b : Bridge) → after b o ≡ holding b) → t ≡ (step t (on s n o)).table
  unfolding step
  table_kept f = sym (ap (with_bridge t n.0) (go (number_at t.count s n (bridge_at t n.0) o)) ∙ same_bridge t n.0)
    where
      go : (k : ℕ) → bridge_by k (bridge_at t n.0) o ≡ bridge_at t n.0
      go zero = ap (with_holding (bridge_at t n.0)) (f (bridge_at t n.0))
      go (suc k) = refl

-- What a call on the table does, from what `one_bridge`'s call on the bridge there ensures.
module _ (t : Table) (sound : Sound t) (s : SessionNumber) (n : BridgeNumber) (o : Operation) {q : BridgeCall} (made : q ≡ call_on t s n) where
  found : {x : Outcome} → x ≡ outcome_of q o → x ≡ (step t (on s n o)).outcome
  found e = e ∙ rw made (index_outcome t max_rows sound.few s n o)

  -- an operation that leaves what the bridge holds
  pub as_read : {x : Outcome} → ((b : Bridge) → after b o ≡ holding b) → x ≡ outcome_of q o → Steps t (on s n o) x t
  as_read keeps e = (found e, table_kept t max_rows sound.few s n o keeps)
