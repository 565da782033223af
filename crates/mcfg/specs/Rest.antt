-- The conditions of `mcfg_sound` as the code tests them: the header first, then the records of the entries.
use Rattle.std.specs.Prelude.{ℕ, ◌+◌, ◌-◌, ◌*◌, ◌/◌, ◌%◌, ◌^◌, Bool, true, ◌&&◌, ◌||◌, List, [], ◌∷◌, eqb, leb, ltb, length, take}
use Rattle.rules.specs.Limits.{max_entries}
use Rattle.rules.specs.Numbers.{byte, dword, sum, same_bytes}
use Rattle.rules.specs.Mcfg.{entries, entry_at, signature, bus_start, bus_end, share_no_bus, share_no_byte}
use Rattle.rules.specs.declared.Entry.{Entry}

-- all that is sound of the table but its entries
unfoldable pub header_sound : List ℕ → Bool
header_sound m =
    same_bytes (take 4 m) signature
    && leb 44 (length m)
    && eqb (dword m 4) (length m)
    && eqb (byte m 8) 1
    && eqb (sum m % 256) 0
    && eqb ((length m - 44) % 16) 0
    && leb (length (entries m)) max_entries

-- the entry of a record of 16 bytes
abbrev pub entry_in : List ℕ → Entry
entry_in r = entry_at r 0

-- the first and the last MiB of an entry's window, counted from address 0: each bus has a MiB, where the base is a multiple of 2^20
abbrev pub first_mib : Entry → ℕ
first_mib e = e.base / 2 ^ 20 + e.start_bus

abbrev pub last_mib : Entry → ℕ
last_mib e = e.base / 2 ^ 20 + e.end_bus

-- two entries share neither a bus nor a byte
abbrev pub apart : Entry → Entry → Bool
apart e f = share_no_bus e f && share_no_byte e f

-- the same, by the first and the last MiB of their windows
abbrev pub windows_apart : Entry → Entry → Bool
windows_apart e f = ltb (last_mib e) (first_mib f) || ltb (last_mib f) (first_mib e)

abbrev pub seen_apart : Entry → Entry → Bool
seen_apart e f = share_no_bus e f && windows_apart e f

-- the buses of one entry come before those of another, by segment and bus
abbrev pub buses_below : Entry → Entry → Bool
buses_below e f = ltb (e.segment * 256 + e.end_bus) (f.segment * 256 + f.start_bus)

-- and so does its window
abbrev pub below : Entry → Entry → Bool
below e f = buses_below e f && leb (bus_end e.base e.end_bus) (bus_start f.base f.start_bus)

-- the same, by the first and the last MiB of their windows
abbrev pub seen_below : Entry → Entry → Bool
seen_below e f = buses_below e f && ltb (last_mib e) (first_mib f)

-- each entry is below the next
abbrev pub rising : (Entry → Entry → Bool) → List Entry → Bool
rising p [] = true
rising p (e ∷ []) = true
rising p (e ∷ f ∷ l) = p e f && rising p (f ∷ l)
