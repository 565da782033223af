-- Document 01, "Place and address": what the tests of an address call leave.
use Rattle.std.specs.Prelude.{ℕ, ◌^◌, ◌≤◌}
use Rattle.rules.specs.Mcfg.{bus_end}
use Rattle.rules.specs.declared.Bridge.{Bridge}

-- a place that refusals 5 and 4 do not meet, and a window that ends at 2^64 at most
pub record PlaceFits (b : Bridge) (bus device function offset : ℕ) : Type 0 where
  pub first : b.first_bus ≤ bus
  pub last : bus ≤ b.last_bus
  pub devices : device ≤ 31
  pub functions : function ≤ 7
  pub offsets : offset ≤ 4095
  pub ends : bus_end b.base b.last_bus ≤ 2 ^ 64
