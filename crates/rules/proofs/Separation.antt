-- What a session sees of a run is a run of its own calls alone, on the table with nothing held by the others' bridges.
-- Assumes nothing.
use mathlib.Core.Path.{◌≡◌, refl, sym, ap, ap₂, ◌∙◌}
use mathlib.Core.Bool.{Bool, true, false}
use mathlib.Core.List.{List, [], ◌∷◌}
use mathlib.Core.Option.{Option, none, some}
use Prim.Native.Nat.{ℕ}
use borrow.Author.Tests.{eqb-true, eqb-false, ne_eqb}
use lib.Dec.{eqb}
use Rattle.rules.specs.Tables.{holding, owns, bridge_at}
use Rattle.rules.specs.Calls.{Call, session_of, Outcome, step, table_after, is_under, calls_of, outcomes_of}
use Rattle.rules.specs.declared.Bridge.{Bridge}
use Rattle.rules.specs.declared.SessionNumber.{SessionNumber}
use Rattle.rules.specs.declared.Table.{Table}
use Rattle.rules.proofs.Local.{view, on_bridge, on_view, bridge_shown, cleared_view, same_bridges, none_table, none_outcome, shown_outcome, shown_table, hidden_table, other_table, other_outcome, fixed_step}

pub same_session : (r s : SessionNumber) → eqb r.0 s.0 ≡ true → r ≡ s
same_session r s e = ap (λ (k : ℕ). numbered k) (eqb-true r.0 s.0 e)
  where
    numbered : ℕ → SessionNumber
    numbered k = record { 0 = k }

-- a bridge of s is not another session's
owner_is : (s r : SessionNumber) (b : Bridge) → owns s b ≡ true → eqb r.0 s.0 ≡ false → owns r b ≡ false
owner_is s r b e h = ne_eqb b.owner.0 r.0 (λ k. eqb-false r.0 s.0 h (sym k ∙ eqb-true b.owner.0 s.0 e))

module _ (s : SessionNumber) (p : ℕ → Bool) where
  -- p says which bridges are the session's
  abbrev Own : Table → Type 0
  Own u = (i : ℕ) → p i ≡ owns s (bridge_at u i)

  own_step : (u : Table) (c : Call) → Own u → Own (step u c).table
  own_step u c m i = m i ∙ sym (ap (owns s) (same_bridges (step u c).table u (fixed_step u c) i))

  module _ (u : Table) (c : Call) (m : Own u) where
    not_own : (n : ℕ) → session_of c ≡ s → p n ≡ false → owns (session_of c) (bridge_at u n) ≡ false
    not_own n q h = ap (λ (x : SessionNumber). owns x (bridge_at u n)) q ∙ sym (m n) ∙ h

    -- by the bridge that the call is on, and whether it is the session's
    by_bridge : {P : Type 0} → (on_bridge u c ≡ none → P) → ((n : ℕ) → on_bridge u c ≡ some n → p n ≡ true → P)
        → ((n : ℕ) → on_bridge u c ≡ some n → p n ≡ false → P) → P
    by_bridge {P} none-case own-case other-case = go (on_bridge u c) refl
      where
        at : (n : ℕ) → on_bridge u c ≡ some n → (b : Bool) → p n ≡ b → P
        at n e true h = own-case n e h
        at n e false h = other-case n e h

        go : (o : Option ℕ) → on_bridge u c ≡ o → P
        go none e = none-case e
        go (some n) e = at n e (p n) refl

    own_outcome : session_of c ≡ s → (step (view p u) c).outcome ≡ (step u c).outcome
    own_outcome q = by_bridge
        (none_outcome p u c)
        (λ n e h. shown_outcome p u n c e h)
        (λ n e h. other_outcome p u n c e (not_own n q h))

    own_table : session_of c ≡ s → view p (step u c).table ≡ (step (view p u) c).table
    own_table q = by_bridge
        (λ e. ap (view p) (none_table u c e) ∙ sym (none_table (view p u) c (on_view p u c ∙ e)))
        (λ n e h. shown_table p u n c e h)
        (λ n e h. ap (view p) (other_table u n c e (not_own n q h))
        ∙ sym (other_table (view p u) n c (on_view p u c ∙ e) (ap (owns (session_of c)) (cleared_view p u n) ∙ not_own n q h)))

    others_table : eqb (session_of c).0 s.0 ≡ false → view p (step u c).table ≡ view p u
    others_table q = by_bridge
        (λ e. ap (view p) (none_table u c e))
        (λ n e h. ap (view p) (other_table u n c e (owner_is s (session_of c) (bridge_at u n) (sym (m n) ∙ h) q)))
        (λ n e h. hidden_table p u n c e h)

  -- ---- a list of calls

  module _ (c : Call) (l : List Call) where
    calls_own : is_under s c ≡ true → calls_of s (c ∷ l) ≡ c ∷ calls_of s l
    calls_own e = rw e

    calls_other : is_under s c ≡ false → calls_of s (c ∷ l) ≡ calls_of s l
    calls_other e = rw e

    outcomes_own : (t : Table) → is_under s c ≡ true → outcomes_of s t (c ∷ l) ≡ (step t c).outcome ∷ outcomes_of s (step t c).table l
    outcomes_own t e = rw e

    outcomes_other : (t : Table) → is_under s c ≡ false → outcomes_of s t (c ∷ l) ≡ outcomes_of s (step t c).table l
    outcomes_other t e = rw e

  outcomes_purged : (l : List Call) (u : Table) → Own u → outcomes_of s u l ≡ outcomes_of s (view p u) (calls_of s l)
  outcomes_purged [] u m = refl
  outcomes_purged (c ∷ l) u m = go (outcomes_purged l (step u c).table (own_step u c m)) (is_under s c) refl
    where
      go : outcomes_of s (step u c).table l ≡ outcomes_of s (view p (step u c).table) (calls_of s l) → (q : Bool) → is_under s c ≡ q
          → outcomes_of s u (c ∷ l) ≡ outcomes_of s (view p u) (calls_of s (c ∷ l))
      go ih true e =
          let q : session_of c ≡ s = same_session (session_of c) s e in
          outcomes_own c l u e
          ∙ ap₂ {B = List Outcome} (λ (o : Outcome) r. o ∷ r) (sym (own_outcome u c m q))
          (ih ∙ ap (λ (x : Table). outcomes_of s x (calls_of s l)) (own_table u c m q))
          ∙ sym (outcomes_own c (calls_of s l) (view p u) e)
          ∙ ap (outcomes_of s (view p u)) (sym (calls_own c l e))
      go ih false e =
          outcomes_other c l u e ∙ ih
          ∙ ap (λ (x : Table). outcomes_of s x (calls_of s l)) (others_table u c m e)
          ∙ ap (outcomes_of s (view p u)) (sym (calls_other c l e))

  table_purged : (l : List Call) (u : Table) → Own u → view p (table_after u l) ≡ table_after (view p u) (calls_of s l)
  table_purged [] u m = refl
  table_purged (c ∷ l) u m = go (table_purged l (step u c).table (own_step u c m)) (is_under s c) refl
    where
      go : view p (table_after (step u c).table l) ≡ table_after (view p (step u c).table) (calls_of s l) → (q : Bool) → is_under s c ≡ q
          → view p (table_after u (c ∷ l)) ≡ table_after (view p u) (calls_of s (c ∷ l))
      go ih true e =
          ih ∙ ap (λ (x : Table). table_after x (calls_of s l)) (own_table u c m (same_session (session_of c) s e))
          ∙ ap (table_after (view p u)) (sym (calls_own c l e))
      go ih false e =
          ih ∙ ap (λ (x : Table). table_after x (calls_of s l)) (others_table u c m e)
          ∙ ap (table_after (view p u)) (sym (calls_other c l e))

-- ---- two lists that agree on the session's calls

module _ (s : SessionNumber) (t : Table) (l m : List Call) (e : calls_of s l ≡ calls_of s m) where
  abbrev own : ℕ → Bool
  own i = owns s (bridge_at t i)

  pub same_outcomes : outcomes_of s t l ≡ outcomes_of s t m
  same_outcomes =
      outcomes_purged s own l t (λ j. refl) ∙ ap (outcomes_of s (view own t)) e ∙ sym (outcomes_purged s own m t (λ j. refl))

  purged : (k : List Call) (i : ℕ) → owns s (bridge_at t i) ≡ true → bridge_at (table_after t k) i ≡ bridge_at (table_after (view own t) (calls_of s k)) i
  purged k i o = sym (bridge_shown own (table_after t k) i o) ∙ ap (λ (x : Table). bridge_at x i) (table_purged s own k t (λ j. refl))

  pub same_holding : (i : ℕ) → owns s (bridge_at t i) ≡ true → holding (bridge_at (table_after t l) i) ≡ holding (bridge_at (table_after t m) i)
  same_holding i o =
      ap holding (purged l i o ∙ ap (λ (k : List Call). bridge_at (table_after (view own t) k) i) e ∙ sym (purged m i o))
