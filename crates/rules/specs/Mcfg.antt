-- Document 01, "The MCFG table and the starting list": the MCFG table, little-endian.
use Rattle.std.specs.Prelude.{ℕ, zero, suc, ◌+◌, ◌-◌, ◌*◌, ◌/◌, ◌%◌, ◌^◌, Bool, not, ◌&&◌, ◌||◌, List, [], ◌∷◌, eqb, leb, ltb, length, take}
use Rattle.rules.specs.Limits.{max_entries}
use Rattle.rules.specs.Lists.{every, pairwise}
use Rattle.rules.specs.Numbers.{byte, word, dword, qword, sum, same_bytes}
use Rattle.rules.specs.declared.Entry.{Entry}

-- the entry at byte i: "base 8, segment 2, start bus 1, end bus 1, reserved 4"
abbrev pub entry_at : List ℕ → ℕ → Entry
entry_at m i = record { base = qword m i; segment = word m (8 + i); start_bus = byte m (10 + i); end_bus = byte m (11 + i) }

-- n entries from byte i on
abbrev pub entries_from : ℕ → List ℕ → ℕ → List Entry
entries_from zero m i = []
entries_from (suc n) m i = entry_at m i ∷ entries_from n m (16 + i)

-- "header of 36 bytes, 8 reserved, then entries of 16"
unfoldable pub entries : List ℕ → List Entry
entries m = entries_from ((length m - 44) / 16) m 44

-- the first byte of a bus in the window of a base, and the byte after its last
abbrev pub bus_start : ℕ → ℕ → ℕ
bus_start base bus = base + bus * 2 ^ 20

abbrev pub bus_end : ℕ → ℕ → ℕ
bus_end base bus = base + (bus + 1) * 2 ^ 20

-- two ranges of buses, ends included, share none
abbrev pub buses_apart : ℕ → ℕ → ℕ → ℕ → Bool
buses_apart first last first' last' = ltb last first' || ltb last' first

-- "entries of one segment share no bus"
abbrev pub share_no_bus : Entry → Entry → Bool
share_no_bus e f = not (eqb e.segment f.segment) || buses_apart e.start_bus e.end_bus f.start_bus f.end_bus

-- "the address windows .. share no byte between any two entries"
abbrev pub share_no_byte : Entry → Entry → Bool
share_no_byte e f =
    leb (bus_end e.base e.end_bus) (bus_start f.base f.start_bus)
    || leb (bus_end f.base f.end_bus) (bus_start e.base e.start_bus)

-- "the four letters `MCFG` at 0"
abbrev pub signature : List ℕ
signature = 0x4D ∷ 0x43 ∷ 0x46 ∷ 0x47 ∷ []

-- what is sound of one entry
abbrev pub entry_sound : Entry → Bool
entry_sound e =
    leb e.start_bus e.end_bus  -- start not above end
    && eqb (e.base % 2 ^ 20) 0  -- base a multiple of 2^20
    && leb (bus_end e.base e.end_bus) (2 ^ 64)  -- base + (end + 1) x 2^20 at most 2^64

-- "Sound means"
unfoldable pub mcfg_sound : List ℕ → Bool
mcfg_sound m =
    same_bytes (take 4 m) signature  -- the four letters are there
    && leb 44 (length m)  -- at least 44 bytes are lent
    && eqb (dword m 4) (length m)  -- length field equals the lent length
    && eqb (byte m 8) 1  -- revision 1
    && eqb (sum m % 256) 0  -- all bytes sum to a multiple of 256
    && eqb ((length m - 44) % 16) 0  -- whole entries
    && leb (length (entries m)) max_entries  -- 0 to 64 of them
    && every entry_sound (entries m)
    && pairwise share_no_bus (entries m)
    && pairwise share_no_byte (entries m)
