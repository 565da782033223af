-- Between a call on the table and that on the bridge at the bridge number's index. Assumes nothing.
--     bridge_sound        what the bridge's call may require
--     as_read          from what it ensures follows what the call on the table does: of an operation that leaves what the bridge holds
--     as_done          the same of one that hands back a `BridgeDone`, of which what `stored` says is stored
use mathlib.Core.Path.{◌≡◌, sym, ap, ◌∙◌}
use Prim.Native.Nat.{ℕ, zero, suc}
use native.Mathlib.Omega.{arith}
use mathlib.Core.List.{List}
use lib.Dec.{eqb-suc-zero}
use Rattle.walks.proofs.Kit.{Ura, ent, emp, id⊢, fact, fact_i, fact_use}
use Rattle.rules.specs.Limits.{max_rows}
use Rattle.rules.specs.Tables.{holding, bridge_at}
use Rattle.rules.specs.Start.{Sound, BridgeSound}
use Rattle.rules.specs.Calls.{Operation, on, Result, Outcome, outcome, outcome_at, bridge_after, after, step}
use Rattle.rules.specs.declared.Table.{Table}
use Rattle.rules.specs.declared.Bridge.{Bridge}
use Rattle.rules.specs.declared.SessionNumber.{SessionNumber}
use Rattle.rules.specs.declared.BridgeNumber.{BridgeNumber}
use Rattle.rules.proofs.Claims.{refused_changes_nothing}
use Rattle.one_bridge.specs.declared.BridgeDone.{BridgeDone}
use Rattle.bridges.proofs.AtIndex.{index_sound, index_outcome, index_held, table_kept}
use Rattle.lent.proofs.Ways.{index}
use Rattle.lent.proofs.BridgeSteps.{stored}

pub bridge_sound : {M : Type 1} (𝓤 : Ura M) (h : Table) → Sound h → (n : BridgeNumber) → ent 𝓤 (emp 𝓤) (fact 𝓤 (BridgeSound h.count n (bridge_at h (index n))))
bridge_sound 𝓤 h sound n = fact_i 𝓤 _ _ (index_sound h max_rows sound.few n sound)

module _ {M : Type 1} (𝓤 : Ura M) (h : Table) (sound : Sound h) (s : SessionNumber) (n : BridgeNumber) (o : Operation) where
  -- what the two calls say
  abbrev OnBridge : ℕ → Result → List (List ℕ) → Type 0
  OnBridge k r l = outcome k r l ≡ outcome_at h.count s n (bridge_at h (index n)) o

  abbrev OnTable : ℕ → Result → List (List ℕ) → Table → Type 0
  OnTable k r l t = (outcome k r l ≡ (step h (on s n o)).outcome) × (t ≡ (step h (on s n o)).table)

  pub as_read : ((b : Bridge) → after b o ≡ holding b) → (k : ℕ) (r : Result) (l : List (List ℕ)) → ent 𝓤 (fact 𝓤 (OnBridge k r l)) (fact 𝓤 (OnTable k r l h))
  as_read keeps k r l = fact_use 𝓤 (OnBridge k r l) (id⊢ 𝓤 _) (λ e. fact_i 𝓤 (OnTable k r l h) _ (e ∙ index_outcome h max_rows sound.few s n o, table_kept h max_rows sound.few s n o keeps))

  -- the table that is left: stored where the number is 0, and else as it was, which a refused call leaves
  stored_is : (k : ℕ) (y : Bridge) → k ≡ (step h (on s n o)).outcome.number → y ≡ bridge_after h.count s n (bridge_at h (index n)) o → stored h n k y ≡ (step h (on s n o)).table
  stored_is zero y e f = index_held h max_rows sound.few s n o y f
  stored_is (suc k) y e f = rw (eqb-suc-zero k) (sym (refused_changes_nothing.0 h (on s n o) (λ z. let c : suc k ≡ 0 = e ∙ z in absurd (omega arith))).0)

  pub as_done : (d : BridgeDone) (r : Result) (l : List (List ℕ)) → ent 𝓤 (fact 𝓤 (OnBridge d.number r l × (d.bridge ≡ bridge_after h.count s n (bridge_at h (index n)) o))) (fact 𝓤 (OnTable d.number r l (stored h n d.number d.bridge)))
  as_done d r l = fact_use 𝓤 (OnBridge d.number r l × (d.bridge ≡ bridge_after h.count s n (bridge_at h (index n)) o)) (id⊢ 𝓤 _) (λ e. let same = e.0 ∙ index_outcome h max_rows sound.few s n o in
      fact_i 𝓤 (OnTable d.number r l (stored h n d.number d.bridge)) _ (same, stored_is d.number d.bridge (ap (λ (x : Outcome). x.number) same) e.1))
