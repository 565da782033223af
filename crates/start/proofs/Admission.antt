-- Start row by row: the first i rows of a list are sound, apart and stored; one more row; the whole list.
-- Assumes nothing.
use Rattle.std.proofs.Common.{◌≡◌, ℕ, ◌+◌, ◌≤◌, ◌<◌, Bool, true, false, ◌&&◌, List, [], ◌∷◌, ◌++◌, map, length, take, get_or, set, sym, refl, ◌∙◌, add-one, arith}
use Rattle.std.proofs.lemmas.List.{take_all, length-take-le, map-append}
use Rattle.std.proofs.Math.Seq.{take-suc}
use Rattle.std.proofs.Math.ListN.{length-map}
use mathlib.Core.Bool.{true≢false}
use borrow.Author.Tests.{le-leb, lt-leb}
use Rattle.std.specs.Prelude.{leb}
use Rattle.rules.specs.Limits.{max_rows}
use Rattle.rules.specs.Lists.{every, pairwise, padded}
use Rattle.rules.specs.Tables.{unused}
use Rattle.rules.specs.Start.{row_sound, rows_apart, rows_sound, bridge_of}
use Rattle.rules.specs.declared.Bridge.{Bridge}
use Rattle.rules.specs.declared.BridgeRow.{BridgeRow}
use Rattle.rules.specs.declared.Entry.{Entry}
use Rattle.rules.proofs.Tests.{and_l, and_r, and_is, fails}
use Rattle.mcfg.proofs.Heads.{shuffle}
use Rattle.start.proofs.Listing.{every_snoc, pairwise_snoc, padded_snoc, every_take, pairwise_take}

module _ (es : List Entry) where
  -- each row is sound, and each pair apart
  abbrev pub rows_good : List BridgeRow → Bool
  rows_good rows = every (row_sound es) rows && pairwise rows_apart rows

  -- the array of the table of these rows
  abbrev pub array_of : List BridgeRow → List Bridge
  array_of rows = padded unused max_rows (map (bridge_of es) rows)

  -- the row is sound, and apart from the rows before it
  abbrev pub admissible : List BridgeRow → BridgeRow → Bool
  admissible rows r = row_sound es r && every (λ (q : BridgeRow). rows_apart q r) rows

  module _ (rows : List BridgeRow) (r : BridgeRow) where
    one_more : rows_good (rows ++ r ∷ []) ≡ (rows_good rows && admissible rows r)
    one_more =
        rw (every_snoc (row_sound es) rows r, pairwise_snoc rows_apart rows r)
        (shuffle (every (row_sound es) rows) (row_sound es r) (pairwise rows_apart rows) (every (λ (q : BridgeRow). rows_apart q r) rows))

    stored_more : length rows < max_rows → set (array_of rows) (length rows) (bridge_of es r) ≡ array_of (rows ++ r ∷ [])
    stored_more room =
        let n = length-map rows (bridge_of es) in
        rw (map-append, ← n) (sym (padded_snoc unused max_rows (map (bridge_of es) rows) (bridge_of es r) (rw n room)))

  -- the first i rows of a list are sound, apart and stored
  pub record Listed (rows : List BridgeRow) (i : ℕ) (l : List Bridge) : Type 0 where
    pub upto : i ≤ length rows
    pub stored : l ≡ array_of (take i rows)
    pub good : rows_good (take i rows) ≡ true

  pub listed_none : (rows : List BridgeRow) → Listed rows 0 (padded unused max_rows [])
  listed_none rows = record { upto = omega arith; stored = refl; good = refl }

  module _ (rows : List BridgeRow) (i : ℕ) (l : List Bridge) (d : BridgeRow) (listed : Listed rows i l) (left : i < length rows) where
    abbrev here : BridgeRow
    here = get_or rows i d

    next : take (i + 1) rows ≡ take i rows ++ here ∷ []
    next = rw (add-one i) (take-suc rows i d left)

    -- one row more, by whether it is admitted
    more : rows_good (take (i + 1) rows) ≡ admissible (take i rows) here
    more = rw (next, one_more (take i rows) here, listed.good)

    -- the row is admitted
    pub listed_more : length rows ≤ max_rows → admissible (take i rows) here ≡ true → Listed rows (i + 1) (set l i (bridge_of es here))
    listed_more few a = record { upto = omega arith; stored = put; good = more ∙ a }
      where
        front : length (take i rows) ≡ i
        front = length-take-le i rows listed.upto

        room : length (take i rows) < max_rows
        room = rw front (omega arith)

        put : set l i (bridge_of es here) ≡ array_of (take (i + 1) rows)
        put = rw (next, listed.stored) (rw front at (stored_more (take i rows) here room))

    -- it is not: the whole list breaks a rule
    pub listed_stop : admissible (take i rows) here ≡ false → rows_sound es rows ≡ false
    unfolding rows_sound
    listed_stop a = fails (leb (length rows) max_rows && every (row_sound es) rows && pairwise rows_apart rows) no
      where
        no : leb (length rows) max_rows && every (row_sound es) rows && pairwise rows_apart rows ≡ true → ⊥
        no s =
            let sound : every (row_sound es) rows ≡ true = search (and_l, and_r) in
            let apart : pairwise rows_apart rows ≡ true = search (and_l, and_r) in
            true≢false (sym (and_is (every_take (row_sound es) rows (i + 1) sound) (pairwise_take rows_apart rows (i + 1) apart)) ∙ more ∙ a)

  -- all rows are listed
  pub listed_all : (rows : List BridgeRow) (i : ℕ) (l : List Bridge) → Listed rows i l → length rows ≤ i → length rows ≤ max_rows → (rows_sound es rows ≡ true) × (l ≡ array_of rows)
  unfolding rows_sound
  listed_all rows i l listed past few =
      let w = take_all i rows past in
      let g : rows_good rows ≡ true = rw w at listed.good in (
        and_is
            (and_is (le-leb (length rows) max_rows few) (and_l (every (row_sound es) rows) (pairwise rows_apart rows) g))
            (and_r (every (row_sound es) rows) (pairwise rows_apart rows) g),
        rw w at listed.stored,
      )

-- a list of more rows than a table holds
pub too_many : (es : List Entry) (rows : List BridgeRow) → max_rows < length rows → rows_sound es rows ≡ false
unfolding rows_sound
too_many es rows h = rw (lt-leb (length rows) max_rows h)
