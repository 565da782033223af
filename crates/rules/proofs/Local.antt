-- A call on a bridge reads and changes that bridge alone; a call on none reads what no call changes, and changes nothing.
-- All that separation and the history need to know of the kinds of calls stands here.
-- Assumes nothing.
use mathlib.Core.Path.{◌≡◌, refl, sym, ap, ◌∙◌}
use mathlib.Core.Bool.{Bool, true, false, cond}
use mathlib.Core.List.{List, [], ◌∷◌}
use mathlib.Core.Option.{Option, none, some, some-ne-none, none-ne-some}
use Prim.Native.Nat.{ℕ, zero, suc}
use lib.Dec.{leb}
use lib.ListN.{set, get_or-map}
use lib.Seq.{set-get_or, map-set_same}
use Rattle.rules.specs.Tables.{cleared, owns, no_bridge, bridge_at, with_bridges, with_bridge, fixed}
use Rattle.rules.specs.Calls.{Operation, osc, reset, report, address, register_values, Call, on, locate, number_at, outcome_by, bridge_by, locate_in, step, session_of, table_after}
use Rattle.rules.specs.declared.Bridge.{Bridge}
use Rattle.rules.specs.declared.BridgeNumber.{BridgeNumber}
use Rattle.rules.specs.declared.SessionNumber.{SessionNumber}
use Rattle.rules.specs.declared.Table.{Table}
use Rattle.rules.proofs.Indexed.{map_idx, map_idx_get_or, map_idx_set, map_idx_set_same, map-map_idx}

-- ---- the table as seen by one who sees only the bridges of p

abbrev view_bridge : (ℕ → Bool) → ℕ → Bridge → Bridge
view_bridge p i b = cond (p i) b (cleared b)

-- the table with nothing held by the bridges that are not seen
abbrev pub view : (ℕ → Bool) → Table → Table
view p t = with_bridges t (map_idx (view_bridge p) t.bridges)

view_cleared : (q : Bool) (b : Bridge) → cleared (cond q b (cleared b)) ≡ cleared b
view_cleared true b = refl
view_cleared false b = refl

view_no_bridge : (p : ℕ → Bool) (i : ℕ) → view_bridge p i no_bridge ≡ no_bridge
view_no_bridge p i = go (p i)
  where
    go : (q : Bool) → cond q no_bridge (cleared no_bridge) ≡ no_bridge
    go true = refl
    go false = refl

bridge_view : (p : ℕ → Bool) (t : Table) (n : ℕ) → bridge_at (view p t) n ≡ view_bridge p n (bridge_at t n)
bridge_view p t n = map_idx_get_or (view_bridge p) t.bridges n no_bridge (view_no_bridge p)

pub bridge_shown : (p : ℕ → Bool) (t : Table) (n : ℕ) → p n ≡ true → bridge_at (view p t) n ≡ bridge_at t n
bridge_shown p t n e = bridge_view p t n ∙ rw e

pub cleared_view : (p : ℕ → Bool) (t : Table) (n : ℕ) → cleared (bridge_at (view p t) n) ≡ cleared (bridge_at t n)
cleared_view p t n = ap cleared (bridge_view p t n) ∙ view_cleared (p n) (bridge_at t n)

fixed_view : (p : ℕ → Bool) (t : Table) → fixed (view p t) ≡ fixed t
fixed_view p t = ap (with_bridges t) (map-map_idx cleared (view_bridge p) (λ i b. view_cleared (p i) b) t.bridges)

pub bridge_fixed : (t : Table) (i : ℕ) → bridge_at (fixed t) i ≡ cleared (bridge_at t i)
bridge_fixed t i = get_or-map cleared t.bridges i no_bridge

-- tables that differ in nothing fixed have the same rows but for what they hold
pub same_bridges : (u t : Table) → fixed u ≡ fixed t → (i : ℕ) → cleared (bridge_at u i) ≡ cleared (bridge_at t i)
same_bridges u t e i = sym (bridge_fixed u i) ∙ ap (λ (x : Table). bridge_at x i) e ∙ bridge_fixed t i

-- ---- the bridge of the table that a call is on; none if it names none, or one that the table has not

abbrev pub on_bridge : Table → Call → Option ℕ
on_bridge t (on s n o) = cond (leb t.count n.0) none (some n.0)
on_bridge t (locate s a) = none

pub on_view : (p : ℕ → Bool) (t : Table) (c : Call) → on_bridge (view p t) c ≡ on_bridge t c
on_view p t (on s n o) = refl
on_view p t (locate s a) = refl

absent_is : (q : Bool) (n : ℕ) → cond {A = Option ℕ} q none (some n) ≡ none → q ≡ true
absent_is true n e = refl
absent_is false n e = absurd (some-ne-none n e)

present_is : (q : Bool) (n m : ℕ) → cond {A = Option ℕ} q none (some n) ≡ some m → n ≡ m
present_is true n m e = absurd (none-ne-some m e)
present_is false n m e = cc

-- ---- refusals 1 and 2 come first, whatever is asked

pub absent_first : (bridges : ℕ) (s : SessionNumber) (n : BridgeNumber) (b : Bridge) (o : Operation) → leb bridges n.0 ≡ true → number_at bridges s n b o ≡ 1
absent_first bridges s n b (osc revision count uuid caps answer) e = rw e
absent_first bridges s n b reset e = rw e
absent_first bridges s n b report e = rw e
absent_first bridges s n b (address bus device function offset width) e = rw e
absent_first bridges s n b (register_values slot block current) e = rw e

owner_first : (bridges : ℕ) (s : SessionNumber) (n : BridgeNumber) (b : Bridge) (o : Operation) → owns s b ≡ false
    → number_at bridges s n b o ≡ cond (leb bridges n.0) 1 2
owner_first bridges s n b o e = go (leb bridges n.0) refl o
  where
    go : (q : Bool) → leb bridges n.0 ≡ q → (o : Operation) → number_at bridges s n b o ≡ cond q 1 2
    go true h o = absent_first bridges s n b o h
    go false h (osc revision count uuid caps answer) = rw (h, e)
    go false h reset = rw (h, e)
    go false h report = rw (h, e)
    go false h (address bus device function offset width) = rw (h, e)
    go false h (register_values slot block current) = rw (h, e)

-- ---- the bridge after a call

pub cleared_by : (k : ℕ) (b : Bridge) (o : Operation) → cleared (bridge_by k b o) ≡ cleared b
cleared_by zero b o = refl
cleared_by (suc k) b o = refl

-- a bridge stored back as it was
pub same_bridge : (t : Table) (n : ℕ) → with_bridge t n (bridge_at t n) ≡ t
same_bridge t n = ap (with_bridges t) (set-get_or t.bridges n no_bridge)

-- a number that is 1 or 2 changes no table and hides the bridge
refused_by : (q : Bool) (t : Table) (n : ℕ) (o : Operation) → with_bridge t n (bridge_by (cond q 1 2) (bridge_at t n) o) ≡ t
refused_by true t n o = same_bridge t n
refused_by false t n o = same_bridge t n

refused_alike : (q : Bool) (b c : Bridge) (o : Operation) → outcome_by (cond q 1 2) b o ≡ outcome_by (cond q 1 2) c o
refused_alike true b c o = refl
refused_alike false b c o = refl

-- ---- a call on no bridge

pub none_table : (t : Table) (c : Call) → on_bridge t c ≡ none → (step t c).table ≡ t
unfolding step
none_table t (on s n o) e =
    ap (λ (k : ℕ). with_bridge t n.0 (bridge_by k (bridge_at t n.0) o)) (absent_first t.count s n (bridge_at t n.0) o (absent_is (leb t.count n.0) n.0 e))
    ∙ same_bridge t n.0
none_table t (locate s a) e = refl

pub none_outcome : (p : ℕ → Bool) (t : Table) (c : Call) → on_bridge t c ≡ none → (step (view p t) c).outcome ≡ (step t c).outcome
unfolding step
none_outcome p t (on s n o) e =
    let q = absent_is (leb t.count n.0) n.0 e in
    ap (λ (k : ℕ). outcome_by k (bridge_at (view p t) n.0) o) (absent_first t.count s n (bridge_at (view p t) n.0) o q)
    ∙ ap (λ (k : ℕ). outcome_by k (bridge_at t n.0) o) (sym (absent_first t.count s n (bridge_at t n.0) o q))
none_outcome p t (locate s a) e = ap (λ (x : Table). locate_in x s a) (fixed_view p t)

-- ---- a call on bridge n, which is seen

module _ (p : ℕ → Bool) (t : Table) (n : ℕ) where
  pub shown_outcome : (c : Call) → on_bridge t c ≡ some n → p n ≡ true → (step (view p t) c).outcome ≡ (step t c).outcome
  unfolding step
  shown_outcome (on s m o) e h =
      let q = present_is (leb t.count m.0) m.0 n e in
      ap (λ (b : Bridge). outcome_by (number_at t.count s m b o) b o) (bridge_shown p t m.0 (ap p q ∙ h))
  shown_outcome (locate s a) e h = absurd (none-ne-some n e)

  put_shown : (m : ℕ) (b : Bridge) → p m ≡ true → view p (with_bridge t m b) ≡ with_bridge (view p t) m b
  put_shown m b h = ap (with_bridges t) (map_idx_set (view_bridge p) t.bridges m b ∙ ap (set (map_idx (view_bridge p) t.bridges) m) (rw h))

  pub shown_table : (c : Call) → on_bridge t c ≡ some n → p n ≡ true → view p (step t c).table ≡ (step (view p t) c).table
  unfolding step
  shown_table (on s m o) e h =
      let q = ap p (present_is (leb t.count m.0) m.0 n e) ∙ h in
      put_shown m.0 (bridge_by (number_at t.count s m (bridge_at t m.0) o) (bridge_at t m.0) o) q
      ∙ ap (λ (b : Bridge). with_bridge (view p t) m.0 (bridge_by (number_at t.count s m b o) b o)) (sym (bridge_shown p t m.0 q))
  shown_table (locate s a) e h = refl

  -- ---- which is not seen

  pub hidden_table : (c : Call) → on_bridge t c ≡ some n → p n ≡ false → view p (step t c).table ≡ view p t
  unfolding step
  hidden_table (on s m o) e h =
      let q : p m.0 ≡ false = ap p (present_is (leb t.count m.0) m.0 n e) ∙ h in
      let b = bridge_at t m.0 in
      let k = number_at t.count s m b o in
      ap (with_bridges t) (map_idx_set_same (view_bridge p) t.bridges m.0 (bridge_by k b o) no_bridge
      (rw q (cleared_by k b o)))
  hidden_table (locate s a) e h = refl

-- ---- which the calling session does not own

not_owner : (s : SessionNumber) (t : Table) (m n : ℕ) → m ≡ n → owns s (bridge_at t n) ≡ false → owns s (bridge_at t m) ≡ false
not_owner s t m n e h = ap (λ (i : ℕ). owns s (bridge_at t i)) e ∙ h

pub other_table : (t : Table) (n : ℕ) (c : Call) → on_bridge t c ≡ some n → owns (session_of c) (bridge_at t n) ≡ false → (step t c).table ≡ t
unfolding step
other_table t n (on s m o) e h =
    let q = present_is (leb t.count m.0) m.0 n e in
    ap (λ (k : ℕ). with_bridge t m.0 (bridge_by k (bridge_at t m.0) o)) (owner_first t.count s m (bridge_at t m.0) o (not_owner s t m.0 n q h))
    ∙ refused_by (leb t.count m.0) t m.0 o
other_table t n (locate s a) e h = refl

pub other_outcome : (p : ℕ → Bool) (t : Table) (n : ℕ) (c : Call) → on_bridge t c ≡ some n → owns (session_of c) (bridge_at t n) ≡ false
    → (step (view p t) c).outcome ≡ (step t c).outcome
unfolding step
other_outcome p t n (on s m o) e h =
    let f = not_owner s t m.0 n (present_is (leb t.count m.0) m.0 n e) h in
    let b = bridge_at t m.0 in
    let v = bridge_at (view p t) m.0 in
    ap (λ (k : ℕ). outcome_by k v o) (owner_first t.count s m v o (ap (owns s) (cleared_view p t m.0) ∙ f))
    ∙ refused_alike (leb t.count m.0) v b o
    ∙ ap (λ (k : ℕ). outcome_by k b o) (sym (owner_first t.count s m b o f))
other_outcome p t n (locate s a) e h = absurd (none-ne-some n e)

-- ---- what no call changes

pub fixed_step : (t : Table) (c : Call) → fixed (step t c).table ≡ fixed t
unfolding step
fixed_step t (on s n o) =
    let b = bridge_at t n.0 in
    let k = number_at t.count s n b o in
    ap (with_bridges t) (map-set_same cleared t.bridges n.0 (bridge_by k b o) no_bridge (cleared_by k b o))
fixed_step t (locate s a) = refl

pub fixed_after : (l : List Call) (t : Table) → fixed (table_after t l) ≡ fixed t
fixed_after [] t = refl
fixed_after (c ∷ l) t = fixed_after l (step t c).table ∙ fixed_step t c
