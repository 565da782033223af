-- Document 01, "What the service does" and "Proof of the pudding": the table of host bridges, owners, and what a bridge holds.
use Rattle.std.specs.Prelude.{ℕ, Bool, List, map, eqb, get_or, set, take}
use Rattle.rules.specs.declared.Bridge.{Bridge}
use Rattle.rules.specs.declared.SessionNumber.{SessionNumber}
use Rattle.rules.specs.declared.Table.{Table}
use Rattle.rules.specs.declared.Holding.{Holding}

-- what a bridge holds at start and after a reset
abbrev pub nothing_held : Holding
nothing_held = record { held = 0; supported = 0 }

-- what this bridge holds
abbrev pub holding : Bridge → Holding
holding b = record { held = b.held; supported = b.supported }

-- the bridge with another holding; all else is set at start
abbrev pub with_holding : Bridge → Holding → Bridge
with_holding b h = record {
  base = b.base;
  permitted = b.permitted;
  held = h.held;
  supported = h.supported;
  segment = b.segment;
  owner = b.owner;
  first_bus = b.first_bus;
  last_bus = b.last_bus;
  edition = b.edition;
}

-- the bridge with nothing held
abbrev pub cleared : Bridge → Bridge
cleared b = with_holding b nothing_held

-- "A session's bridges are those whose row names it as owner"
abbrev pub owns : SessionNumber → Bridge → Bool
owns s b = eqb b.owner.0 s.0

-- what a reading past the end of the table's array would give; no call's answer rests on it
abbrev pub no_bridge : Bridge
no_bridge = record { base = 0; permitted = 0; held = 0; supported = 0; segment = 0; owner = record { 0 = 0 }; first_bus = 0; last_bus = 0; edition = 0 }

-- what stands where the table has no bridge
abbrev pub unused : Bridge
unused = record { base = 0; permitted = 0; held = 0; supported = 0; segment = 0; owner = record { 0 = 0 }; first_bus = 0; last_bus = 0; edition = 0 }

-- a table of its parts
abbrev pub table_with : (bridges : List Bridge) (count : ℕ) → Table
table_with bridges count = record { bridges = bridges; count = count }

-- bridge i
abbrev pub bridge_at : Table → ℕ → Bridge
bridge_at t i = get_or t.bridges i no_bridge

-- the bridges that the table has, in list order
abbrev pub bridges_of : Table → List Bridge
bridges_of t = take t.count t.bridges

-- the table with this array
abbrev pub with_bridges : Table → List Bridge → Table
with_bridges t l = table_with l t.count

-- the table with bridge i stored back
abbrev pub with_bridge : Table → ℕ → Bridge → Table
with_bridge t i b = with_bridges t (set t.bridges i b)

-- the table with nothing held: what no call changes
abbrev pub fixed : Table → Table
fixed t = with_bridges t (map cleared t.bridges)
