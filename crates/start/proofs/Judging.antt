-- Start's walk over the lent rows: what holds before the first row, is kept by each row, and gives start's answer where the walk ends or a row is refused.
-- Assumes nothing.
use Rattle.std.proofs.Common.{◌≡◌, ℕ, ◌+◌, ◌≤◌, ◌<◌, Bool, true, false, cond, List, [], length, take, get_or, set, map, Ok, Err, refl, sym, ap, ◌∙◌}
use Rattle.std.specs.Prelude.{leb}
use Rattle.std.specs.List.{list_all}
use Rattle.std.proofs.Math.ListN.{length-map}
use borrow.Author.Tests.{leb-true, leb-false}
use Rattle.rules.specs.Limits.{max_rows}
use Rattle.rules.specs.Lists.{every}
use Rattle.rules.specs.Mcfg.{entries, mcfg_sound}
use Rattle.rules.specs.Start.{StartInput, rows_apart, rows_sound, bridge_of, table_of, start_number, start_table}
use Rattle.rules.specs.declared.Bridge.{Bridge}
use Rattle.rules.specs.declared.BridgeRow.{BridgeRow}
use Rattle.rules.specs.declared.Entry.{Entry}
use Rattle.rules.specs.declared.Table.{Table}
use Rattle.rules.proofs.Starting.{no_row}
use Rattle.codes.specs.Numbers.{number_of}
use Rattle.codes.specs.declared.Refusal.{Refusal}
use Rattle.codes.specs.declared.Refusal.TheVariants.{Mcfg, Rows}
use Rattle.start.specs.Admission.{admitted, first_refusal, no_bridges, Judges}
use Rattle.start.proofs.Listing.{every_is}
use Rattle.start.proofs.Admission.{admissible, Listed, listed_none, listed_more, listed_stop, listed_all, too_many}

module _ (x : StartInput) where
  abbrev es : List Entry
  es = entries x.mcfg

  -- a refused start: its number, and no bridges
  abbrev pub Refused : ℕ → Type 0
  Refused n = (n ≡ start_number x) × (table_of [] ≡ start_table x)

  table_refused : mcfg_sound x.mcfg ≡ false → Refused 6
  unfolding start_table start_number
  table_refused m = rw m (refl, refl)

  pub rows_refused : mcfg_sound x.mcfg ≡ true → rows_sound es x.rows ≡ false → Refused 7
  unfolding start_table start_number
  rows_refused m r = rw (m, r) (refl, refl)

  -- a start that is not refused
  pub all_admitted : mcfg_sound x.mcfg ≡ true → rows_sound es x.rows ≡ true → (0 ≡ start_number x) × (table_of (map (bridge_of es) x.rows) ≡ start_table x)
  unfolding start_table start_number
  all_admitted m r = rw (m, r) (refl, refl)

  -- a refusal of start's number, with a cleared array
  refusal : (r : Refusal) → Refused (number_of r) → Judges x (Err r) no_bridges
  refusal r is = (is.0, ap (λ (t : Table). t.bridges) is.1, ap (λ (t : Table). t.count) is.1)

  -- no row is refused so far: the first i are judged
  pub record Reached (i : ℕ) (l : List Bridge) : Type 0 where
    pub sound : mcfg_sound x.mcfg ≡ true
    pub few : length x.rows ≤ max_rows
    pub listed : Listed es x.rows i l

  -- before the first row: the array is cleared
  pub reached_none : (l : List Bridge) → Ok (tt {0}) ≡ first_refusal x.mcfg (length x.rows) → l ≡ no_bridges → Reached 0 l
  reached_none l e is = go (mcfg_sound x.mcfg) (leb (length x.rows) max_rows) refl refl e
    where
      go : (a b : Bool) → mcfg_sound x.mcfg ≡ a → leb (length x.rows) max_rows ≡ b → Ok (tt {0}) ≡ cond a (cond b (Ok (tt {0})) (Err Rows)) (Err Mcfg) → Reached 0 l
      go true true p q e = record { sound = p; few = leb-true (length x.rows) max_rows q; listed = rw is (listed_none es x.rows) }
      go true false p q e = cc
      go false b p q e = cc

  -- what is refused before the first row
  pub first_refused : (r : Refusal) → Err r ≡ first_refusal x.mcfg (length x.rows) → Judges x (Err r) no_bridges
  first_refused r e = go (mcfg_sound x.mcfg) (leb (length x.rows) max_rows) refl refl e
    where
      go : (a b : Bool) → mcfg_sound x.mcfg ≡ a → leb (length x.rows) max_rows ≡ b → Err r ≡ cond a (cond b (Ok (tt {0})) (Err Rows)) (Err Mcfg) → Judges x (Err r) no_bridges
      go true true p q e = cc
      go true false p q e =
          let is : r ≡ Rows = cc in rw is (refusal Rows (rows_refused p (too_many es x.rows (leb-false (length x.rows) max_rows q))))
      go false b p q e = let is : r ≡ Mcfg = cc in rw is (refusal Mcfg (table_refused p))

  module _ (i : ℕ) (l : List Bridge) (reached : Reached i l) where
    -- the next row is judged
    module _ (left : i < length x.rows) where
      abbrev row : BridgeRow
      row = get_or x.rows i no_row

      abbrev apart : Bool
      apart = list_all (λ (q : BridgeRow). rows_apart q row) (take i x.rows)

      as_every : apart ≡ every (λ (q : BridgeRow). rows_apart q row) (take i x.rows)
      as_every = every_is (λ (q : BridgeRow). rows_apart q row) (take i x.rows)

      pub reached_next : (b : Bridge) → Ok b ≡ admitted es row apart → Reached (i + 1) (set l i b)
      reached_next b e = go (admissible es (take i x.rows) row) refl (rw as_every at e)
        where
          go : (t : Bool) → admissible es (take i x.rows) row ≡ t → Ok b ≡ cond t (Ok (bridge_of es row)) (Err Rows) → Reached (i + 1) (set l i b)
          go true ok e = let is : b ≡ bridge_of es row = cc in
              rw is (record { sound = reached.sound; few = reached.few; listed = listed_more es x.rows i l no_row reached.listed left reached.few ok })
          go false broken e = cc

      pub row_refused : (r : Refusal) → Err r ≡ admitted es row apart → Judges x (Err r) no_bridges
      row_refused r e = go (admissible es (take i x.rows) row) refl (rw as_every at e)
        where
          go : (t : Bool) → admissible es (take i x.rows) row ≡ t → Err r ≡ cond t (Ok (bridge_of es row)) (Err Rows) → Judges x (Err r) no_bridges
          go true ok e = cc
          go false broken e =
              let is : r ≡ Rows = cc in
              rw is (refusal Rows (rows_refused reached.sound (listed_stop es x.rows i l no_row reached.listed left broken)))

    -- the walk has ended
    pub answered : length x.rows ≤ i → Judges x (Ok (length x.rows)) l
    answered past =
        let listed = listed_all es x.rows i l reached.listed past reached.few in
        let all = all_admitted reached.sound listed.0 in
        (all.0, listed.1 ∙ ap (λ (t : Table). t.bridges) all.1, sym (length-map x.rows (bridge_of es)) ∙ ap (λ (t : Table). t.count) all.1)
