-- The table that start hands back, refused or not, is sound and holds nothing.
-- Assumes nothing.
use mathlib.Core.Path.{◌≡◌, refl, sym, ap, ◌∙◌, subst}
use mathlib.Core.Logic.{◌⊎◌, inl, inr}
use mathlib.Core.Bool.{Bool, true, false, not, ◌&&◌}
use mathlib.Core.List.{List, [], ◌∷◌, map}
use Prim.Native.Nat.{ℕ, zero, suc, ◌^◌, ◌≤◌, ◌<◌}
use native.Mathlib.Nat.{not-suc-le-zero}
use native.Mathlib.Omega.{arith}
use borrow.Author.Tests.{eqb-true, eqb-false, leb-true, ltb-true, ltb-false, not-false, not-true}
use lib.Arith.{lt_of_le-ne}
use lib.Dec.{eqb, leb, ltb}
use lib.ListN.{length, get_or, length-map}
use Rattle.rules.specs.Limits.{max_rows}
use Rattle.rules.specs.Lists.{every, pairwise, padded, is_none}
use Rattle.rules.specs.Refusals.{◌if◌}
use Rattle.rules.specs.Mcfg.{entries, bus_start, bus_end, buses_apart, entry_sound, share_no_byte, mcfg_sound}
use Rattle.rules.specs.Tables.{nothing_held, holding, no_bridge, unused, bridge_at}
use Rattle.rules.specs.Place.{in_window}
use Rattle.rules.specs.Start.{StartInput, inside, entry_of, row_sound, rows_apart, rows_sound, start_number, bridge_of, table_of, start_by, start_table, Sound}
use Rattle.rules.specs.declared.Bridge.{Bridge}
use Rattle.rules.specs.declared.BridgeRow.{BridgeRow}
use Rattle.rules.specs.declared.Table.{Table}
use Rattle.rules.proofs.Tests.{and-true, and_l, and_r, or_true}
use Rattle.rules.proofs.Refusals.{clear}
use Rattle.rules.proofs.Lists.{every_at, pairwise_at, padded_length, padded_in, map_at, Stands, stands}
use Rattle.rules.specs.declared.Entry.{Entry}

-- ---- rows inside entries

record Inside (r : BridgeRow) (e : Entry) : Type 0 where
  segment_is : r.segment ≡ e.segment
  low : e.start_bus ≤ r.first_bus
  high : r.last_bus ≤ e.end_bus

inside_is : (r : BridgeRow) (e : Entry) → inside r e ≡ true → Inside r e
inside_is r e h =
    let a = and-true (eqb r.segment e.segment && leb e.start_bus r.first_bus) (leb r.last_bus e.end_bus) h in
    let b = and-true (eqb r.segment e.segment) (leb e.start_bus r.first_bus) a.0 in
    record { segment_is = eqb-true _ _ b.0; low = leb-true _ _ b.1; high = leb-true _ _ a.1 }

-- an address of the window from a first to a last bus
record At (x base first last : ℕ) : Type 0 where
  from : bus_start base first ≤ x
  below : x < bus_end base last

at_is : (x : ℕ) (b : Bridge) → in_window x b ≡ true → At x b.base b.first_bus b.last_bus
at_is x b h =
    let a = and-true (leb (bus_start b.base b.first_bus) x) (ltb x (bus_end b.base b.last_bus)) h in
    record { from = leb-true _ _ a.0; below = ltb-true _ _ a.1 }

-- two rows inside one entry
one_entry : (r q : BridgeRow) (e : Entry) → Inside r e → Inside q e → rows_apart r q ≡ true → (x : ℕ)
    → At x e.base r.first_bus r.last_bus → At x e.base q.first_bus q.last_bus → ⊥
one_entry r q e i j h x a b =
    go (or_true (not (eqb r.segment q.segment)) (buses_apart r.first_bus r.last_bus q.first_bus q.last_bus) h)
  where
    ranges : (ltb r.last_bus q.first_bus ≡ true) ⊎ (ltb q.last_bus r.first_bus ≡ true) → ⊥
    ranges (inl k) = omega (arith, ltb-true)
    ranges (inr k) = omega (arith, ltb-true)

    go : (not (eqb r.segment q.segment) ≡ true) ⊎ (buses_apart r.first_bus r.last_bus q.first_bus q.last_bus ≡ true) → ⊥
    go (inl k) = eqb-false r.segment q.segment (not-true (eqb r.segment q.segment) k) (i.segment_is ∙ sym j.segment_is)
    go (inr k) = ranges (or_true (ltb r.last_bus q.first_bus) (ltb q.last_bus r.first_bus) k)

-- two rows inside two entries whose windows share no byte
two_entries : (r q : BridgeRow) (e f : Entry) → Inside r e → Inside q f → share_no_byte e f ≡ true → (x : ℕ)
    → At x e.base r.first_bus r.last_bus → At x f.base q.first_bus q.last_bus → ⊥
two_entries r q e f i j h x a b =
    go (or_true (leb (bus_end e.base e.end_bus) (bus_start f.base f.start_bus)) (leb (bus_end f.base f.end_bus) (bus_start e.base e.start_bus)) h)
  where
    go : (leb (bus_end e.base e.end_bus) (bus_start f.base f.start_bus) ≡ true)
        ⊎ (leb (bus_end f.base f.end_bus) (bus_start e.base e.start_bus) ≡ true) → ⊥
    go (inl k) = omega (arith, leb-true)
    go (inr k) = omega (arith, leb-true)

-- ---- the table of a start that is not refused

no_entry : Entry
no_entry = record { base = 0; segment = 0; start_bus = 0; end_bus = 0 }

-- what stands past the end of a list of rows
abbrev pub no_row : BridgeRow
no_row = record { permitted = 0; segment = 0; owner = record { 0 = 0 }; first_bus = 0; last_bus = 0; kind = 0; edition = 0 }

module _ (es : List Entry) (rows : List BridgeRow) (se : every entry_sound es ≡ true) (pe : pairwise share_no_byte es ≡ true)
    (few : length rows ≤ max_rows) (sr : every (row_sound es) rows ≡ true) (pr : pairwise rows_apart rows ≡ true) where
  abbrev made : Table
  made = table_of (map (bridge_of es) rows)

  abbrev n : ℕ
  n = length rows

  count_is : made.count ≡ n
  count_is = length-map rows (bridge_of es)

  abbrev nth : ℕ → BridgeRow
  nth i = get_or rows i no_row

  bridge_is : (i : ℕ) → i < n → bridge_at made i ≡ bridge_of es (nth i)
  bridge_is i h = padded_in unused no_bridge max_rows (map (bridge_of es) rows) i (rw count_is h) (omega arith) ∙ map_at (bridge_of es) rows i no_row no_bridge h

  lies : (i : ℕ) → i < n → Stands no_entry (inside (nth i)) es
  lies i h =
      let a = every_at no_row (row_sound es) rows sr i h in
      let b : not (is_none (entry_of es (nth i))) ≡ true = search (and_l, and_r) in
      stands no_entry (inside (nth i)) es (not-true (is_none (entry_of es (nth i))) b)

  abbrev entry : (i : ℕ) → i < n → Entry
  entry i h = get_or es (lies i h).at no_entry

  -- the row's window, with its entry's base
  window : (i : ℕ) (h : i < n) (x : ℕ) → in_window x (bridge_at made i) ≡ true → At x (entry i h).base (nth i).first_bus (nth i).last_bus
  window i h x w = rw (lies i h).is at (at_is x (bridge_of es (nth i)) (ap (in_window x) (sym (bridge_is i h)) ∙ w))

  ordered : (i j : ℕ) (h : i < n) (k : j < n) → i < j → (x : ℕ) → in_window x (bridge_at made i) ≡ true → in_window x (bridge_at made j) ≡ true → ⊥
  ordered i j h k l x a b = go (eqb u v) (ltb u v) refl refl
    where
      u : ℕ
      u = (lies i h).at

      v : ℕ
      v = (lies j k).at

      ri : Inside (nth i) (entry i h)
      ri = inside_is (nth i) (entry i h) (lies i h).passes

      rj : Inside (nth j) (entry j k)
      rj = inside_is (nth j) (entry j k) (lies j k).passes

      go : (p q : Bool) → eqb u v ≡ p → ltb u v ≡ q → ⊥
      go true q e f =
          let same : entry j k ≡ entry i h = ap (λ (y : ℕ). get_or es y no_entry) (sym (eqb-true u v e)) in
          one_entry (nth i) (nth j) (entry i h) ri (subst (Inside (nth j)) same rj) (pairwise_at no_row rows_apart rows pr i j l k) x
          (window i h x a) (subst (λ (y : Entry). At x y.base (nth j).first_bus (nth j).last_bus) same (window j k x b))
      go false true e f =
          two_entries (nth i) (nth j) (entry i h) (entry j k) ri rj (pairwise_at no_entry share_no_byte es pe u v (ltb-true u v f) (lies j k).in_list) x
          (window i h x a) (window j k x b)
      go false false e f =
          two_entries (nth j) (nth i) (entry j k) (entry i h) rj ri
          (pairwise_at no_entry share_no_byte es pe v u (lt_of_le-ne (ltb-false u v f) (λ y. eqb-false u v e (sym y))) (lies i h).in_list) x
          (window j k x b) (window i h x a)

  made_sound : Sound made
  made_sound = record {
    full_length = padded_length unused max_rows (map (bridge_of es) rows);
    few = rw count_is few;
    windows_apart = λ i j h k ne x a b. sides i j (rw count_is at h) (rw count_is at k) ne x a b (ltb i j) refl;
    window_ends = λ i h. ending i (rw count_is at h);
  }
    where
      sides : (i j : ℕ) → i < n → j < n → (i ≡ j → ⊥) → (x : ℕ) → in_window x (bridge_at made i) ≡ true → in_window x (bridge_at made j) ≡ true
          → (q : Bool) → ltb i j ≡ q → ⊥
      sides i j h k ne x a b true e = ordered i j h k (ltb-true i j e) x a b
      sides i j h k ne x a b false e = ordered j i k h (lt_of_le-ne (ltb-false i j e) (λ y. ne (sym y))) x b a

      ending : (i : ℕ) → i < n → bus_end (bridge_at made i).base (bridge_at made i).last_bus ≤ 2 ^ 64
      ending i h =
          let e = every_at no_entry entry_sound es se (lies i h).at (lies i h).in_list in
          let t : leb (bus_end (entry i h).base (entry i h).end_bus) (2 ^ 64) ≡ true = search (and_l, and_r) in
          let u = leb-true (bus_end (entry i h).base (entry i h).end_bus) (2 ^ 64) t in
          let v = inside_is (nth i) (entry i h) (lies i h).passes in
          rw (bridge_is i h, (lies i h).is) (omega (arith, v.high, u))

no_bridges_lem : Sound (table_of [])
no_bridges_lem = record {
  full_length = padded_length unused max_rows [];
  few = omega arith;
  windows_apart = λ i j h k ne x a b. absurd (not-suc-le-zero h);
  window_ends = λ i h. absurd (not-suc-le-zero h);
}

-- ---- refused or not

pub start_sound : (x : StartInput) → Sound (start_table x)
unfolding start_table start_number mcfg_sound rows_sound
start_sound x = go (start_number x) refl
  where
    es : List Entry
    es = entries x.mcfg

    go : (k : ℕ) → start_number x ≡ k → Sound (start_by k x)
    go zero e =
        let z = clear ((6 if not (mcfg_sound x.mcfg)) ∷ (7 if not (rows_sound es x.rows)) ∷ []) (omega arith) e in
        let a = not-false (mcfg_sound x.mcfg) z.0 in
        let b = not-false (rows_sound es x.rows) z.1.0 in
        let f : leb (length x.rows) max_rows ≡ true = search (and_l, and_r) in
        made_sound es x.rows (search (and_l, and_r)) (search (and_l, and_r)) (leb-true (length x.rows) max_rows f) (search (and_l, and_r)) (search (and_l, and_r))
    go (suc k) e = no_bridges_lem

padded_holds : (es : List Entry) (n : ℕ) (rows : List BridgeRow) (i : ℕ) → holding (get_or (padded unused n (map (bridge_of es) rows)) i no_bridge) ≡ nothing_held
padded_holds es zero rows i = refl
padded_holds es (suc n) [] zero = refl
padded_holds es (suc n) [] (suc i) = padded_holds es n [] i
padded_holds es (suc n) (r ∷ rows) zero = refl
padded_holds es (suc n) (r ∷ rows) (suc i) = padded_holds es n rows i

pub start_holds : (x : StartInput) (i : ℕ) → holding (bridge_at (start_table x) i) ≡ nothing_held
unfolding start_table
start_holds x i = go (start_number x)
  where
    go : (k : ℕ) → holding (bridge_at (start_by k x) i) ≡ nothing_held
    go zero = padded_holds (entries x.mcfg) max_rows x.rows i
    go (suc k) = padded_holds [] max_rows [] i
