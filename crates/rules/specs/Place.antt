-- Document 01, "Place and address".
use Rattle.std.specs.Prelude.{ℕ, ◌+◌, ◌-◌, ◌*◌, ◌/◌, ◌%◌, ◌^◌, ◌≤◌, ◌<◌, Bool, not, ◌&&◌, ◌||◌, eqb, leb, ltb}
use Rattle.rules.specs.Mcfg.{bus_start, bus_end}
use Rattle.rules.specs.Tables.{owns}
use Rattle.rules.specs.declared.Bridge.{Bridge}
use Rattle.rules.specs.declared.SessionNumber.{SessionNumber}
use Rattle.rules.specs.declared.Place.{Place}

-- "Address = base + bus x 2^20 + device x 2^15 + function x 2^12 + offset"; the base belongs to bus 0
abbrev pub address_of : Bridge → (bus device function offset : ℕ) → ℕ
address_of b bus device function offset = b.base + bus * 2 ^ 20 + device * 2 ^ 15 + function * 2 ^ 12 + offset

-- refusal 5: "device above 31, function above 7, offset above 4095, width not 1, 2 or 4, or offset not a multiple of width"
abbrev pub place_bad : (device function offset width : ℕ) → Bool
place_bad device function offset width =
    ltb 31 device
    || ltb 7 function
    || ltb 4095 offset
    || not (eqb width 1 || eqb width 2 || eqb width 4)
    || not (eqb (offset % width) 0)

-- refusal 4: "the bus is outside the bridge's buses"
abbrev pub bus_outside : Bridge → ℕ → Bool
bus_outside b bus = ltb bus b.first_bus || ltb b.last_bus bus

-- the address lies in the window of the bridge's buses
abbrev pub in_window : ℕ → Bridge → Bool
in_window a b = leb (bus_start b.base b.first_bus) a && ltb a (bus_end b.base b.last_bus)

-- the address lies in this bridge, which is of this session
abbrev pub own_window : SessionNumber → ℕ → Bridge → Bool
own_window s a b = owns s b && in_window a b

-- "Reading back gives bridge, bus, device, function and offset"
abbrev pub place_of : ℕ → Bridge → ℕ → Place
place_of i b a =
    let o = a - b.base in
    record { bridge = record { 0 = i }; bus = o / 2 ^ 20; device = o / 2 ^ 15 % 32; function = o / 2 ^ 12 % 8; offset = o % 2 ^ 12 }

-- the zeros of a place
abbrev pub no_place : Place
no_place = record { bridge = record { 0 = 0 }; bus = 0; device = 0; function = 0; offset = 0 }

-- "An address given for a width has that many bytes in reach, starting at itself": x is one of them
pub record InReach (a width x : ℕ) : Type 0 where
  pub from : a ≤ x
  pub below : x < a + width
