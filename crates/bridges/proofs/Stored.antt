-- Of the bridge that the call on it hands back, what it holds is stored where the number is 0; then the table is what the call on the table leaves.
-- The calls that store go by `steps_stored`, which follows from the two.
use Rattle.std.proofs.Common.{◌≡◌, ℕ, zero, suc, ◌%◌, ◌<◌, List, [], ◌∷◌, length, set, get_or, Result, Ok, Err, refl, ap, subst, sym, ◌∙◌, arith}
use Rattle.std.proofs.lemmas.List.{get_or-set_same}
use Rattle.rules.specs.Limits.{max_rows}
use Rattle.rules.specs.Tables.{no_bridge, holding, with_holding, bridge_at, with_bridges}
use Rattle.rules.specs.Start.{Sound}
use Rattle.rules.specs.Calls.{Operation, on, Outcome, outcome, nothing, outcome_at, bridge_after, step}
use Rattle.rules.specs.declared.Table.{Table}
use Rattle.rules.specs.declared.Bridge.{Bridge}
use Rattle.rules.specs.declared.SessionNumber.{SessionNumber}
use Rattle.rules.specs.declared.BridgeNumber.{BridgeNumber}
use Rattle.rules.specs.declared.Holding.{Holding}
use Rattle.rules.proofs.Claims.{refused_changes_nothing}
use Rattle.rules.proofs.Local.{same_bridge}
use Rattle.codes.specs.Numbers.{number, number_of}
use Rattle.codes.specs.declared.Refusal.{Refusal}
use Rattle.codes.specs.declared.Refusal.TheVariants.{NoSuchBridge}
use Rattle.one_bridge.specs.Answers.{outcome_of, after as bridge_left, keeping}
use Rattle.one_bridge.specs.declared.BridgeCall.{BridgeCall}
use Rattle.bridges.specs.OnTable.{Steps, call_on, storing}
use Rattle.bridges.proofs.AtIndex.{index_outcome, index_held}

-- a store over another at the same place
set_twice : (l : List Bridge) (i : ℕ) (a b : Bridge) → set (set l i a) i b ≡ set l i b
set_twice [] i a b = refl
set_twice (x ∷ l) zero a b = refl
set_twice (x ∷ l) (suc i) a b = ap (λ (k : List Bridge). x ∷ k) (set_twice l i a b)

-- the held bits of y are stored at i, and then its supported bits
abbrev held_stored : List Bridge → ℕ → Bridge → List Bridge
held_stored l i y = let b = get_or l i no_bridge in set l i (with_holding b (record { held = y.held; supported = b.supported }))

abbrev supported_stored : List Bridge → ℕ → Bridge → List Bridge
supported_stored l i y = let b = get_or l i no_bridge in set l i (with_holding b (record { held = b.held; supported = y.supported }))

abbrev pub stored : Table → ℕ → Bridge → Table
stored t i y = with_bridges t (supported_stored (held_stored t.bridges i y) i y)

both_stored : (l : List Bridge) (i : ℕ) (y : Bridge) → i < length l → supported_stored (held_stored l i y) i y ≡ set l i (with_holding (get_or l i no_bridge) (holding y))
both_stored l i y h =
    ap (λ (b : Bridge). set (held_stored l i y) i (with_holding b (record { held = b.held; supported = y.supported }))) (get_or-set_same l i _ no_bridge h)
    ∙ set_twice l i _ _

module _ (t : Table) (sound : Sound t) (s : SessionNumber) (n : BridgeNumber) (i : ℕ) (here : i ≡ n.0 % max_rows) (o : Operation) where
  same : {x : Outcome} → x ≡ outcome_at t.count s n (bridge_at t i) o → x ≡ (step t (on s n o)).outcome
  same e = e ∙ rw here (index_outcome t max_rows sound.few s n o)

  in_array : i < length t.bridges
  unfolding max_rows
  in_array = omega (arith, sound.full_length, here)

  -- the number is 0
  pub as_stored : {x : Outcome} {y : Bridge} → (x ≡ outcome_at t.count s n (bridge_at t i) o) × (y ≡ bridge_after t.count s n (bridge_at t i) o)
      → (x ≡ (step t (on s n o)).outcome) × (stored t i y ≡ (step t (on s n o)).table)
  as_stored {y = y} e = (
    same e.0,
    ap (with_bridges t) (both_stored t.bridges i y in_array)
        ∙ rw here (index_held t max_rows sound.few s n o y (subst (λ (j : ℕ). y ≡ bridge_after t.count s n (bridge_at t j) o) here e.1)),
  )

  -- the call was refused
  pub as_refused : {x : Outcome} {y : Bridge} → (x ≡ outcome_at t.count s n (bridge_at t i) o) × (y ≡ bridge_after t.count s n (bridge_at t i) o) → (x.number ≡ 0 → ⊥)
      → (x ≡ (step t (on s n o)).outcome) × (t ≡ (step t (on s n o)).table)
  as_refused e r = (same e.0, sym (refused_changes_nothing.0 t (on s n o) (λ z. r (ap (λ (k : Outcome). k.number) (same e.0) ∙ z))).0)

-- a refusal's number is none of a call that was done
refusal_counts : (r : Refusal) → number_of r ≡ 0 → ⊥
refusal_counts NoSuchBridge e = absurd (omega arith)
refusal_counts r e = absurd (omega arith)

-- What a call on the table does, of which what `one_bridge`'s call on the bridge there gave, or nothing where it is refused, is stored.
module _ (t : Table) (sound : Sound t) (s : SessionNumber) (n : BridgeNumber) (o : Operation) {q : BridgeCall} (made : q ≡ call_on t s n) where
  abbrev index : ℕ
  index = n.0 % max_rows

  -- the table that is left, by the two theorems
  left : {l : List (List ℕ)} (r : Result Holding Refusal)
      → (outcome (number r) nothing l ≡ outcome_at t.count s n (bridge_at t index) o) × (keeping (bridge_at t index) r ≡ bridge_after t.count s n (bridge_at t index) o)
      → Steps t (on s n o) (outcome (number r) nothing l) (storing t n r)
  left {l = l} (Ok h) e =
      let y : Bridge = with_holding (bridge_at t index) h in
      let both : (outcome 0 nothing l ≡ (step t (on s n o)).outcome) × (stored t index y ≡ (step t (on s n o)).table) = as_stored t sound s n index refl o e in
      (both.0, sym (ap (with_bridges t) (both_stored t.bridges index y (in_array t sound s n index refl o))) ∙ both.1)
  left {l = l} (Err f) e =
      let both : (outcome (number_of f) nothing l ≡ (step t (on s n o)).outcome) × (t ≡ (step t (on s n o)).table) = as_refused t sound s n index refl o e (refusal_counts f) in
      (both.0, same_bridge t index ∙ both.1)

  pub steps_stored : {k : ℕ} {l : List (List ℕ)} {u : Table} (r : Result Holding Refusal) → k ≡ number r → u ≡ storing t n r
      → (outcome (number r) nothing l ≡ outcome_of q o) × (keeping q.bridge r ≡ bridge_left q o) → Steps t (on s n o) (outcome k nothing l) u
  steps_stored {l = l} r same stored e =
      let steps = left {l = l} r (subst (λ (c : BridgeCall). (outcome (number r) nothing l ≡ outcome_of c o) × (keeping c.bridge r ≡ bridge_left c o)) made e) in
      (ap (λ (j : ℕ). outcome j nothing l) same ∙ steps.0, stored ∙ steps.1)
