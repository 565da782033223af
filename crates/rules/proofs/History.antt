-- After any list of calls each bridge holds what the list gives.
-- Assumes nothing.
use mathlib.Core.Path.{◌≡◌, refl, sym, ap, ◌∙◌, subst}
use mathlib.Core.Bool.{Bool, true, false, not, cond, ◌&&◌}
use mathlib.Core.List.{List, [], ◌∷◌}
use Prim.Native.Nat.{ℕ, zero, suc, ◌<◌}
use native.Mathlib.Omega.{arith}
use borrow.Author.Tests.{eqb-true, eqb-false}
use lib.Dec.{eqb, eqb-suc-zero}
use lib.ListN.{length}
use lib.Seq.{get_or-set_same, get_or-set_other}
use Rattle.rules.specs.Numbers.{bit}
use Rattle.rules.specs.Refusals.{◌if◌, first_of}
use Rattle.rules.specs.Tables.{holding, with_holding, no_bridge, bridge_at, with_bridge, fixed}
use Rattle.rules.specs.Start.{Sound}
use Rattle.rules.specs.Osc.{support, control, granted, framing_bad, recognised, query, osc_after}
use Rattle.rules.specs.Calls.{Operation, absent, foreign, osc, reset, report, address, register_values, Call, on, locate, after, number_at, bridge_by, step, table_after}
use Rattle.rules.specs.History.{reaches, takes, added, history_step, history_from}
use Rattle.rules.specs.Claims.{Undisturbed}
use Rattle.rules.specs.declared.BridgeNumber.{BridgeNumber}
use Rattle.rules.specs.declared.SessionNumber.{SessionNumber}
use Rattle.rules.specs.declared.Table.{Table}
use Rattle.rules.proofs.Tests.{or_left}
use Rattle.rules.proofs.Bits.{bit_or_lem}
use Rattle.rules.proofs.Local.{bridge_fixed, fixed_step}
use Rattle.rules.proofs.Soundness.{same_length}
use Rattle.rules.specs.declared.Holding.{Holding}

-- what bridge i holds after an operation on bridge n
holding_by : (k : ℕ) (u : Table) (n i : ℕ) (o : Operation) → i < length u.bridges
    → holding (bridge_at (with_bridge u n (bridge_by k (bridge_at u n) o)) i) ≡ cond (eqb n i && eqb k 0) (after (bridge_at u i) o) (holding (bridge_at u i))
holding_by k u n i o h = go (eqb n i) refl
  where
    stored : (k : ℕ) → holding (bridge_by k (bridge_at u i) o) ≡ cond (eqb k 0) (after (bridge_at u i) o) (holding (bridge_at u i))
    stored zero = refl
    stored (suc k) = rw (eqb-suc-zero k)

    go : (q : Bool) → eqb n i ≡ q
        → holding (bridge_at (with_bridge u n (bridge_by k (bridge_at u n) o)) i) ≡ cond (q && eqb k 0) (after (bridge_at u i) o) (holding (bridge_at u i))
    go true e =
        rw (eqb-true n i e) (ap holding (get_or-set_same u.bridges i (bridge_by k (bridge_at u i) o) no_bridge h) ∙ stored k)
    go false e = ap holding (get_or-set_other u.bridges n i (bridge_by k (bridge_at u n) o) no_bridge (λ j. eqb-false n i e (sym j)))

none_of_1_2 : (a f : Bool) → eqb (first_of ((1 if a) ∷ (2 if f) ∷ [])) 0 ≡ (not a && not f)
none_of_1_2 true f = refl
none_of_1_2 false true = refl
none_of_1_2 false false = refl

none_of_1_2_3 : (a f m : Bool) → eqb (first_of ((1 if a) ∷ (2 if f) ∷ (3 if m) ∷ [])) 0 ≡ (not a && not f && not m)
none_of_1_2_3 true f m = refl
none_of_1_2_3 false true m = refl
none_of_1_2_3 false false true = refl
none_of_1_2_3 false false false = refl

cond_same : (q : Bool) (h : Holding) → cond q h h ≡ h
cond_same true h = refl
cond_same false h = refl

-- a choice within a choice
cond_cond : (m a o f q : Bool) (x y : Holding) → cond (m && (a && o && f)) (cond q x y) y ≡ cond ((m && (a && o)) && f && q) x y
cond_cond true true true true q x y = refl
cond_cond true true true false q x y = refl
cond_cond true true false f q x y = refl
cond_cond true false o f q x y = refl
cond_cond false a o f q x y = refl

-- an operation that leaves what the bridge holds
holding_kept : (u : Table) (k n i : ℕ) (o : Operation) → i < length u.bridges → after (bridge_at u i) o ≡ holding (bridge_at u i)
    → holding (bridge_at (with_bridge u n (bridge_by k (bridge_at u n) o)) i) ≡ holding (bridge_at u i)
holding_kept u k n i o h e = holding_by k u n i o h ∙ rw e (cond_same (eqb n i && eqb k 0) (holding (bridge_at u i)))

pub history_next : (u : Table) (i : ℕ) (c : Call) → i < length u.bridges → holding (bridge_at (step u c).table i) ≡ history_step u i (holding (bridge_at u i)) c
unfolding step osc_after
history_next u i (on s n (osc revision count uuid caps answer)) h =
    let o = osc revision count uuid caps answer in
    let b = bridge_at u n.0 in
    holding_by (number_at u.count s n b o) u n.0 i o h
    ∙ rw (none_of_1_2_3 (absent u.count n) (foreign s b) (framing_bad count uuid caps answer))
    (cond_cond (eqb n.0 i) (not (absent u.count n)) (not (foreign s b)) (not (framing_bad count uuid caps answer)) (recognised revision count uuid && not (query caps))
    (added (bridge_at u i) caps) (holding (bridge_at u i)))
history_next u i (on s n reset) h =
    holding_by (number_at u.count s n (bridge_at u n.0) reset) u n.0 i reset h
    ∙ rw (none_of_1_2 (absent u.count n) (foreign s (bridge_at u n.0)))
history_next u i (on s n report) h = holding_kept u (number_at u.count s n (bridge_at u n.0) report) n.0 i report h refl
history_next u i (on s n (address bus device function offset width)) h =
    let o = address bus device function offset width in
    holding_kept u (number_at u.count s n (bridge_at u n.0) o) n.0 i o h refl
history_next u i (on s n (register_values slot block current)) h =
    let o = register_values slot block current in
    holding_kept u (number_at u.count s n (bridge_at u n.0) o) n.0 i o h refl
history_next u i (locate s a) h = refl

-- the history reads of the table only what no call changes
step_fixed : (t : Table) (i : ℕ) (h : Holding) (c : Call) → history_step (fixed t) i h c ≡ history_step t i h c
step_fixed t i h (on s n (osc revision count uuid caps answer)) = simp bridge_fixed
step_fixed t i h (on s n reset) = simp bridge_fixed
step_fixed t i h (on s n report) = refl
step_fixed t i h (on s n (address bus device function offset width)) = refl
step_fixed t i h (on s n (register_values slot block current)) = refl
step_fixed t i h (locate s a) = refl

pub history_from_lem : (t : Table) (i : ℕ) (l : List Call) (u : Table) → fixed u ≡ fixed t → i < length u.bridges
    → holding (bridge_at (table_after u l) i) ≡ history_from t i (holding (bridge_at u i)) l
history_from_lem t i [] u e h = refl
history_from_lem t i (c ∷ l) u e h =
    history_from_lem t i l (step u c).table (fixed_step u c ∙ e) (subst (λ (k : ℕ). i < k) (sym (same_length (step u c).table u (fixed_step u c))) h)
    ∙ ap (λ (x : Holding). history_from t i x l)
    (history_next u i c h ∙ sym (step_fixed u i (holding (bridge_at u i)) c) ∙ ap (λ (x : Table). history_step x i (holding (bridge_at u i)) c) e
    ∙ step_fixed t i (holding (bridge_at u i)) c)

pub in_array : (t : Table) → Sound t → (i : ℕ) → i < t.count → i < length t.bridges
in_array t st i h = omega (arith, st.full_length, st.few)

-- ---- calls that neither take nor reset leave what the bridge holds

pub undisturbed : (t : Table) (i : ℕ) (h : Holding) (l : List Call) → Undisturbed t i l → history_from t i h l ≡ h
undisturbed t i h [] q = refl
undisturbed t i h (c ∷ l) q = ap (λ (x : Holding). history_from t i x l) (q.0 h) ∙ undisturbed t i h l q.1

-- ---- a held bit leaves only by an accepted reset

kept_bit : (t : Table) (i j : ℕ) (h : Holding) (c : Call) → bit h.held j ≡ true
    → ((s : SessionNumber) (n : BridgeNumber) → c ≡ on s n reset → reaches t i s n ≡ false) → bit (history_step t i h c).held j ≡ true
kept_bit t i j h (on s n (osc revision count uuid caps answer)) e r = go (takes t i s n revision count uuid caps answer)
  where
    g : ℕ
    g = granted (with_holding (bridge_at t i) h) (support caps) (control caps)

    go : (q : Bool) → bit (cond q (added (with_holding (bridge_at t i) h) caps) h).held j ≡ true
    go true = bit_or_lem h.held g j ∙ or_left (bit h.held j) (bit g j) e
    go false = e
kept_bit t i j h (on s n reset) e r = rw (r s n refl) e
kept_bit t i j h (on s n report) e r = e
kept_bit t i j h (on s n (address bus device function offset width)) e r = e
kept_bit t i j h (on s n (register_values slot block current)) e r = e
kept_bit t i j h (locate s a) e r = e

pub held_bit : (t : Table) → Sound t → (c : Call) (i j : ℕ) → i < t.count → bit (bridge_at t i).held j ≡ true
    → ((s : SessionNumber) (n : BridgeNumber) → c ≡ on s n reset → reaches t i s n ≡ false) → bit (bridge_at (step t c).table i).held j ≡ true
held_bit t st c i j h e r =
    ap (λ (x : Holding). bit x.held j) (history_next t i c (in_array t st i h)) ∙ kept_bit t i j (holding (bridge_at t i)) c e r
