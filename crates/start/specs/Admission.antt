-- What start takes row by row, as its functions say it.
use Rattle.std.specs.Prelude.{ℕ, ◌≡◌, Bool, cond, ◌&&◌, ◌||◌, List, [], eqb, leb, Result, Ok, Err}
use Rattle.rules.specs.Limits.{max_rows, max_owner}
use Rattle.rules.specs.Numbers.{within}
use Rattle.rules.specs.Editions.{edition30, edition33}
use Rattle.rules.specs.Mcfg.{mcfg_sound}
use Rattle.rules.specs.Start.{StartInput, express, conventional, permissible, row_sound, bridge_of, table_of, start_number, start_table}
use Rattle.rules.specs.declared.Bridge.{Bridge}
use Rattle.rules.specs.declared.BridgeRow.{BridgeRow}
use Rattle.rules.specs.declared.Entry.{Entry}
use Rattle.codes.specs.Numbers.{number, given}
use Rattle.codes.specs.declared.Refusal.{Refusal}
use Rattle.codes.specs.declared.Refusal.TheVariants.{Mcfg, Rows}

-- `row_sound`, with the entry already looked for
abbrev pub row_sound_if : (inside : Bool) → BridgeRow → Bool
row_sound_if inside r =
    leb r.owner.0 max_owner && leb r.first_bus r.last_bus && inside && (eqb r.kind express || eqb r.kind conventional)
    && (eqb r.edition edition30 || eqb r.edition edition33)
    && within r.permitted (permissible r.kind r.edition)

-- a row judged: its bridge, or 7 where it is not sound or shares a bus with a row before it
abbrev pub admitted : List Entry → BridgeRow → (apart : Bool) → Result Bridge Refusal
admitted es r apart = cond (row_sound es r && apart) (Ok (bridge_of es r)) (Err Rows)

-- what start refuses before it judges a row: 6, the MCFG table is not sound; 7, more rows than a table holds
abbrev pub first_refusal : List ℕ → ℕ → Result Unit Refusal
first_refusal mcfg count = cond (mcfg_sound mcfg) (cond (leb count max_rows) (Ok tt) (Err Rows)) (Err Mcfg)

-- the array of a table with no bridges
abbrev pub no_bridges : List Bridge
no_bridges = (table_of []).bridges

-- rows judged, as start judges them: its number, and its table's bridges and count
abbrev pub Judges : StartInput → (judged : Result ℕ Refusal) → (bridges : List Bridge) → Type 0
Judges x judged bridges = (number judged ≡ start_number x) × (bridges ≡ (start_table x).bridges) × (given 0 judged ≡ (start_table x).count)
