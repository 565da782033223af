-- Document 01, "The MCFG table and the starting list": the starting list, start, and what a call may require of its table.
use Rattle.std.specs.Prelude.{ℕ, zero, suc, ◌^◌, ◌≤◌, ◌<◌, ◌≡◌, Bool, true, not, cond, ◌&&◌, ◌||◌, List, [], ◌∷◌, map, eqb, leb, length}
use Rattle.std.proofs.Math.Option.{Option, none, some}
use Rattle.rules.specs.Limits.{max_rows, max_owner}
use Rattle.rules.specs.Lists.{every, pairwise, padded, first, is_none}
use Rattle.rules.specs.Numbers.{within}
use Rattle.rules.specs.Refusals.{Refusal, ◌if◌, first_of}
use Rattle.rules.specs.Mcfg.{entries, mcfg_sound, buses_apart, bus_end}
use Rattle.rules.specs.Tables.{unused, table_with, bridge_at}
use Rattle.rules.specs.Place.{in_window}
use Rattle.rules.specs.Editions.{edition30, edition33, known_control}
use Rattle.rules.specs.declared.Bridge.{Bridge}
use Rattle.rules.specs.declared.BridgeNumber.{BridgeNumber}
use Rattle.rules.specs.declared.BridgeRow.{BridgeRow}
use Rattle.rules.specs.declared.Table.{Table}
use Rattle.rules.specs.declared.Entry.{Entry}

-- all that is lent to start
pub record StartInput : Type 0 where
  pub mcfg : List ℕ
  pub rows : List BridgeRow

-- "the row's buses lie inside one MCFG entry of its segment": this one
abbrev pub inside : BridgeRow → Entry → Bool
inside r e = eqb r.segment e.segment && leb e.start_bus r.first_bus && leb r.last_bus e.end_bus

-- the entry that the row lies inside
abbrev pub entry_of : List Entry → BridgeRow → Option Entry
entry_of es r = first (inside r) es

-- the base of the entry found
abbrev pub base_of : Option Entry → ℕ
base_of none = 0
base_of (some e) = e.base

-- "kind (Express or conventional)": its two numbers at the boundary, which document 02, m) names too
abbrev pub express : ℕ
express = 0

abbrev pub conventional : ℕ
conventional = 1

-- the control bits that a row of this kind and edition may permit: those known, but "a conventional row of either still permits no bit but 1"
abbrev pub permissible : (kind edition : ℕ) → ℕ
permissible kind edition = cond (eqb kind conventional) 0x02 (known_control edition)

-- what is sound of one row
abbrev pub row_sound : List Entry → BridgeRow → Bool
row_sound es r =
    leb r.owner.0 max_owner  -- owner not above 63
    && leb r.first_bus r.last_bus  -- first not above last
    && not (is_none (entry_of es r))  -- the row's buses lie inside one MCFG entry of its segment
    && (eqb r.kind express || eqb r.kind conventional)  -- Express or conventional
    && (eqb r.edition edition30 || eqb r.edition edition33)  -- document 02, d: the old edition or 3.3
    && within r.permitted (permissible r.kind r.edition)  -- document 02, d: no "permitted bits not known in the row's edition"

-- "two rows of one segment share no bus"
abbrev pub rows_apart : BridgeRow → BridgeRow → Bool
rows_apart r q = not (eqb r.segment q.segment) || buses_apart r.first_bus r.last_bus q.first_bus q.last_bus

-- "Sound means"
unfoldable pub rows_sound : List Entry → List BridgeRow → Bool
rows_sound es rows =
    leb (length rows) max_rows  -- 0 to 64 rows
    && every (row_sound es) rows
    && pairwise rows_apart rows

-- "start 6, 7"
abbrev pub start_refusals : StartInput → List Refusal
start_refusals x = (6 if not (mcfg_sound x.mcfg)) ∷ (7 if not (rows_sound (entries x.mcfg) x.rows)) ∷ []

-- the number that start gives
unfoldable pub start_number : StartInput → ℕ
start_number x = first_of (start_refusals x)

-- "whose base the row takes"; "held and supported bits start at 0"
abbrev pub bridge_of : List Entry → BridgeRow → Bridge
bridge_of es r = record {
  base = base_of (entry_of es r);
  permitted = r.permitted;
  held = 0;
  supported = 0;
  segment = r.segment;
  owner = r.owner;
  first_bus = r.first_bus;
  last_bus = r.last_bus;
  edition = r.edition;
}

-- "Bridges are numbered from 0 in list order"
abbrev pub table_of : List Bridge → Table
table_of l = table_with (padded unused max_rows l) (length l)

-- "a refused start gives a table with no bridges"
abbrev pub start_by : ℕ → StartInput → Table
start_by zero x = table_of (map (bridge_of (entries x.mcfg)) x.rows)
start_by (suc k) x = table_of []

-- the table that start hands back, refused or not
unfoldable pub start_table : StartInput → Table
start_table x = start_by (start_number x) x

-- "a call may require of its table what start and every call are shown to leave": the array, the windows apart, none above 2^64
pub record Sound (t : Table) : Type 0 where
  pub full_length : length t.bridges ≡ max_rows
  pub few : t.count ≤ max_rows
  pub windows_apart : (i j : ℕ) → i < t.count → j < t.count → (i ≡ j → ⊥)
      → (a : ℕ) → in_window a (bridge_at t i) ≡ true → in_window a (bridge_at t j) ≡ true → ⊥
  pub window_ends : (i : ℕ) → i < t.count → bus_end (bridge_at t i).base (bridge_at t i).last_bus ≤ 2 ^ 64

-- what a call on one bridge may require of it, as `Sound` gives it: where the bridge is in the table, its window ends at 2^64 at most
abbrev pub BridgeSound : (bridges : ℕ) → BridgeNumber → Bridge → Type 0
BridgeSound bridges n b = n.0 < bridges → bus_end b.base b.last_bus ≤ 2 ^ 64
