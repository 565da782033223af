-- Example runs: starts, a run of two sessions on one table, record searches, pairs of masks, written records, images of a ROM, register values, grants, grants of both editions, a table that mixes them, and places.
use Rattle.std.specs.Prelude.{ℕ, zero, suc, ◌-◌, ◌/◌, ◌%◌, ◌^◌, true, false, cond, List, [], ◌∷◌, ◌++◌, map, eqb, leb, take, drop, set, replicate}
use Rattle.std.proofs.Math.Option.{none, some}
use Rattle.rules.specs.Limits.{max_rom}
use Rattle.rules.specs.Place.{place_bad, bus_outside}
use Rattle.rules.specs.Numbers.{dword, le32}
use Rattle.rules.specs.Tables.{holding}
use Rattle.rules.specs.Editions.{edition30, edition33}
use Rattle.rules.specs.Start.{StartInput, express, conventional, start_number, bridge_of, start_table}
use Rattle.rules.specs.Osc.{uuid_bytes}
use Rattle.rules.specs.Records.{find_record}
use Rattle.rules.specs.Rom.{find_image}
use Rattle.rules.specs.Writer.{present_in, write_records, buffer_after, read_settings, place_among, only_rising}
use Rattle.rules.specs.Calls.{osc, reset, report, address, register_values, Call, on, locate, nothing, reported, addressed, located, values, Outcome, outcome, bridge_by, outcomes}
use Rattle.rules.specs.Claims.{acpi_bit, answer_of}
use Rattle.rules.specs.BenchSheet.{Line, ◌gives◌, AllHold, bridge_in, bridge_with, number_on, outcome_on, osc_on, same_pairs, registers_on, new_registers}
use Rattle.rules.specs.declared.Bridge.{Bridge}
use Rattle.rules.specs.declared.BridgeNumber.{BridgeNumber}
use Rattle.rules.specs.declared.BridgeRow.{BridgeRow}
use Rattle.rules.specs.declared.SessionNumber.{SessionNumber}
use Rattle.rules.specs.declared.FoundAt.{FoundAt}
use Rattle.rules.specs.declared.Holding.{Holding}
use Rattle.rules.specs.declared.Masks.{Masks}
use Rattle.rules.specs.declared.Settings.{Settings}

-- ---- starts

-- one entry: base 0xE0000000, segment 0, buses 0 to 255
abbrev pub one_entry_table : List ℕ
one_entry_table =
    0x4D ∷ 0x43 ∷ 0x46 ∷ 0x47 ∷ 0x3C ∷ 0 ∷ 0 ∷ 0 ∷ 1 ∷ 0xC7 ∷ 0 ∷ 0 ∷ 0 ∷ 0 ∷ 0 ∷ 0
    ∷ 0 ∷ 0 ∷ 0 ∷ 0 ∷ 0 ∷ 0 ∷ 0 ∷ 0 ∷ 0 ∷ 0 ∷ 0 ∷ 0 ∷ 0 ∷ 0 ∷ 0 ∷ 0
    ∷ 0 ∷ 0 ∷ 0 ∷ 0 ∷ 0 ∷ 0 ∷ 0 ∷ 0 ∷ 0 ∷ 0 ∷ 0 ∷ 0 ∷ 0 ∷ 0 ∷ 0 ∷ 0xE0
    ∷ 0 ∷ 0 ∷ 0 ∷ 0 ∷ 0 ∷ 0 ∷ 0 ∷ 0xFF ∷ 0 ∷ 0 ∷ 0 ∷ 0 ∷ []

-- two entries: 0xE0000000, segment 0, buses 0 to 15; 0xE0F00000, segment 1, bus 0, whose window lies in the first
abbrev pub shared_byte : List ℕ
shared_byte =
    0x4D ∷ 0x43 ∷ 0x46 ∷ 0x47 ∷ 0x4C ∷ 0 ∷ 0 ∷ 0 ∷ 1 ∷ 0xD6 ∷ 0 ∷ 0 ∷ 0 ∷ 0 ∷ 0 ∷ 0
    ∷ 0 ∷ 0 ∷ 0 ∷ 0 ∷ 0 ∷ 0 ∷ 0 ∷ 0 ∷ 0 ∷ 0 ∷ 0 ∷ 0 ∷ 0 ∷ 0 ∷ 0 ∷ 0
    ∷ 0 ∷ 0 ∷ 0 ∷ 0 ∷ 0 ∷ 0 ∷ 0 ∷ 0 ∷ 0 ∷ 0 ∷ 0 ∷ 0 ∷ 0 ∷ 0 ∷ 0 ∷ 0xE0
    ∷ 0 ∷ 0 ∷ 0 ∷ 0 ∷ 0 ∷ 0 ∷ 0 ∷ 0x0F ∷ 0 ∷ 0 ∷ 0 ∷ 0 ∷ 0 ∷ 0 ∷ 0xF0 ∷ 0xE0
    ∷ 0 ∷ 0 ∷ 0 ∷ 0 ∷ 1 ∷ 0 ∷ 0 ∷ 0 ∷ 0 ∷ 0 ∷ 0 ∷ 0 ∷ []

abbrev pub row_in : (edition kind owner first last permitted : ℕ) → BridgeRow
row_in edition kind owner first last permitted = record { permitted = permitted; segment = 0; owner = record { 0 = owner }; first_bus = first; last_bus = last; kind = kind; edition = edition }

-- a row of the old edition
abbrev pub row : (kind owner first last permitted : ℕ) → BridgeRow
row = row_in edition30

abbrev pub starting : List ℕ → List BridgeRow → StartInput
starting m rows = record { mcfg = m; rows = rows }

-- a class bridge of session 3 and a plant bridge of session 5
abbrev pub lesson : StartInput
lesson = starting one_entry_table (row express 3 0 15 0x1F ∷ row express 5 128 159 0x1F ∷ [])

-- n entries, last to first: entry k has base k x 2^32, segment k, buses 0 to 255
abbrev pub segments : ℕ → List ℕ
segments zero = []
segments (suc n) = 0 ∷ 0 ∷ 0 ∷ 0 ∷ n ∷ 0 ∷ 0 ∷ 0 ∷ n ∷ 0 ∷ 0 ∷ 0xFF ∷ 0 ∷ 0 ∷ 0 ∷ 0 ∷ segments n

-- the MCFG tables of 64 and of 65 such entries: 1068 bytes, and 1084
abbrev pub entries64 : List ℕ
entries64 = set (set (set (take 44 one_entry_table) 4 0x2C) 5 4) 9 0x32 ++ segments 64

abbrev pub entries65 : List ℕ
entries65 = set (set (set (take 44 one_entry_table) 4 0x3C) 5 4) 9 0xA3 ++ segments 65

-- n rows of one bus each
abbrev pub one_bus_rows : ℕ → List BridgeRow
one_bus_rows zero = []
one_bus_rows (suc n) = row express 3 n n 0 ∷ one_bus_rows n

-- start's numbers for a row that permits one bit
abbrev pub permitting : (edition kind : ℕ) → List ℕ
permitting edition kind =
    map (λ i. start_number (starting one_entry_table (row_in edition kind 3 0 15 (2 ^ i) ∷ []))) (0 ∷ 1 ∷ 2 ∷ 3 ∷ 4 ∷ 5 ∷ 6 ∷ 7 ∷ 8 ∷ 9 ∷ 10 ∷ 31 ∷ [])

abbrev pub starts : List Line
starts =
    (start_number lesson gives 0)
    ∷ (start_number (starting one_entry_table []) gives 0)
    -- letters `mCFG`; 52 bytes; a byte too many; revision 2; buses 5 to 4; base 0xE0080000; two windows that share a byte
    ∷ (start_number (starting (set (set one_entry_table 0 0x6D) 9 0xA7) []) gives 6)
    ∷ (start_number (starting (set (set (take 52 one_entry_table) 4 52) 9 0xCE) []) gives 6)
    ∷ (start_number (starting (one_entry_table ++ 0 ∷ []) []) gives 6)
    ∷ (start_number (starting (set (set one_entry_table 8 2) 9 0xC6) []) gives 6)
    ∷ (start_number (starting (set (set (set one_entry_table 54 5) 55 4) 9 0xBD) []) gives 6)
    ∷ (start_number (starting (set (set one_entry_table 46 8) 9 0xBF) []) gives 6)
    ∷ (start_number (starting shared_byte []) gives 6)
    -- the second base 0x1E0F00000: bus 0 of two segments, and of one
    ∷ (start_number (starting (set (set shared_byte 64 1) 9 0xD5) []) gives 0)
    ∷ (start_number (starting (set (set shared_byte 64 1) 68 0) []) gives 6)
    -- a reserved byte, with the sum and without it
    ∷ (start_number (starting (set (set one_entry_table 36 1) 9 0xC6) []) gives 0)
    ∷ (start_number (starting (set one_entry_table 36 1) []) gives 6)
    -- document 02, e: 64 entries, and 65
    ∷ (start_number (starting entries64 []) gives 0)
    ∷ (start_number (starting entries65 []) gives 6)
    -- buses 9 to 8; buses over the end of the entry; the first and the last row share bus 15; permitted bit 5; a conventional row
    ∷ (start_number (starting one_entry_table (row express 3 9 8 0x1F ∷ [])) gives 7)
    ∷ (start_number (starting (set (set shared_byte 64 1) 9 0xD5) (row express 3 10 20 0x1F ∷ [])) gives 7)
    ∷ (start_number (starting one_entry_table (row express 3 0 15 0x1F ∷ row express 5 16 31 0x1F ∷ row express 5 15 15 0x1F ∷ [])) gives 7)
    ∷ (start_number (starting one_entry_table (row express 3 0 15 0x20 ∷ [])) gives 7)
    ∷ (start_number (starting one_entry_table (row conventional 3 0 15 0x12 ∷ [])) gives 7)
    ∷ (start_number (starting one_entry_table (row conventional 3 0 15 0x02 ∷ [])) gives 0)
    -- kinds 2 and 255; kind 2 with an MCFG table that is not sound
    ∷ (start_number (starting one_entry_table (row 2 3 0 15 0x02 ∷ [])) gives 7)
    ∷ (start_number (starting one_entry_table (row 255 3 0 15 0 ∷ [])) gives 7)
    ∷ (start_number (starting [] (row 2 3 0 15 0x02 ∷ [])) gives 6)
    -- document 02, d: edition 3.3 with every bit that it knows, with those of the old one, and with one that it does not know
    ∷ (start_number (starting one_entry_table (row_in edition33 express 3 0 15 0x3FF ∷ [])) gives 0)
    ∷ (start_number (starting one_entry_table (row_in edition33 express 3 0 15 0x1F ∷ [])) gives 0)
    ∷ (start_number (starting one_entry_table (row_in edition33 express 3 0 15 0x400 ∷ [])) gives 7)
    -- editions 2, of either kind, and 255; edition 2 with an MCFG table that is not sound
    ∷ (start_number (starting one_entry_table (row_in 2 express 3 0 15 0x1F ∷ [])) gives 7)
    ∷ (start_number (starting one_entry_table (row_in 2 conventional 3 0 15 0x02 ∷ [])) gives 7)
    ∷ (start_number (starting one_entry_table (row_in 255 express 3 0 15 0 ∷ [])) gives 7)
    ∷ (start_number (starting [] (row_in 2 express 3 0 15 0x1F ∷ [])) gives 6)
    -- bits 0 to 10, and 31, one at a time, by edition and kind; a conventional row of edition 3.3 with two
    ∷ (permitting edition30 express gives 0 ∷ 0 ∷ 0 ∷ 0 ∷ 0 ∷ 7 ∷ 7 ∷ 7 ∷ 7 ∷ 7 ∷ 7 ∷ 7 ∷ [])
    ∷ (permitting edition33 express gives 0 ∷ 0 ∷ 0 ∷ 0 ∷ 0 ∷ 0 ∷ 0 ∷ 0 ∷ 0 ∷ 0 ∷ 7 ∷ 7 ∷ [])
    ∷ (permitting edition30 conventional gives 7 ∷ 0 ∷ 7 ∷ 7 ∷ 7 ∷ 7 ∷ 7 ∷ 7 ∷ 7 ∷ 7 ∷ 7 ∷ 7 ∷ [])
    ∷ (permitting edition33 conventional gives 7 ∷ 0 ∷ 7 ∷ 7 ∷ 7 ∷ 7 ∷ 7 ∷ 7 ∷ 7 ∷ 7 ∷ 7 ∷ 7 ∷ [])
    ∷ (start_number (starting one_entry_table (row_in edition33 conventional 3 0 15 0x12 ∷ [])) gives 7)
    -- a row of the old edition permits no bit of the other's, in a list with one that does
    ∷ (start_number (starting one_entry_table (row_in edition33 express 3 0 15 0x3FF ∷ row_in edition30 express 5 16 31 0x1F ∷ [])) gives 0)
    ∷ (start_number (starting one_entry_table (row_in edition33 express 3 0 15 0x3FF ∷ row_in edition30 express 5 16 31 0x20 ∷ [])) gives 7)
    -- document 02, e: owner 63, and 64; 64 rows, and 65
    ∷ (start_number (starting one_entry_table (row express 63 0 15 0x1F ∷ [])) gives 0)
    ∷ (start_number (starting one_entry_table (row express 64 0 15 0x1F ∷ [])) gives 7)
    ∷ (start_number (starting one_entry_table (one_bus_rows 64)) gives 0)
    ∷ (start_number (starting one_entry_table (one_bus_rows 65)) gives 7)
    ∷ []

-- ---- a run

abbrev pub class : SessionNumber
class = record { 0 = 3 }

abbrev pub plant : SessionNumber
plant = record { 0 = 5 }

abbrev pub bridge : ℕ → BridgeNumber
bridge k = record { 0 = k }

-- an answer buffer as lent
abbrev pub lent_answer : List ℕ
lent_answer = replicate 12 0xAA

-- query, support 0x1F, control 0x1F; taking, support 0xFF, control 0x3F; taking, support 0, control 0x11
abbrev pub query_all : List ℕ
query_all = 1 ∷ 0 ∷ 0 ∷ 0 ∷ 0x1F ∷ 0 ∷ 0 ∷ 0 ∷ 0x1F ∷ 0 ∷ 0 ∷ 0 ∷ []

abbrev pub take_all : List ℕ
take_all = 0 ∷ 0 ∷ 0 ∷ 0 ∷ 0xFF ∷ 0 ∷ 0 ∷ 0 ∷ 0x3F ∷ 0 ∷ 0 ∷ 0 ∷ []

abbrev pub take_two : List ℕ
take_two = 0 ∷ 0 ∷ 0 ∷ 0 ∷ 0 ∷ 0 ∷ 0 ∷ 0 ∷ 0x11 ∷ 0 ∷ 0 ∷ 0 ∷ []

-- the type 2 record of document 002, table 6-9: the low bits of each register, four and Link Control's two, become 1, 2, 3, 4, 6, 2, 7, 8; the rest are kept
abbrev pub type2 : List ℕ
type2 =
    2 ∷ 0x44 ∷ 0 ∷ 1 ∷ 0 ∷ 0 ∷ 0
    ∷ 0xF1 ∷ 0xFF ∷ 0xFF ∷ 0xFF ∷ 1 ∷ 0 ∷ 0 ∷ 0
    ∷ 0xF2 ∷ 0xFF ∷ 0xFF ∷ 0xFF ∷ 2 ∷ 0 ∷ 0 ∷ 0
    ∷ 0xF3 ∷ 0xFF ∷ 0xFF ∷ 0xFF ∷ 3 ∷ 0 ∷ 0 ∷ 0
    ∷ 0xF4 ∷ 0xFF ∷ 0xFF ∷ 0xFF ∷ 4 ∷ 0 ∷ 0 ∷ 0
    ∷ 0xF6 ∷ 0xFF ∷ 0 ∷ 0 ∷ 6 ∷ 0 ∷ 0 ∷ 0
    ∷ 0xFE ∷ 0xFF ∷ 0 ∷ 0 ∷ 2 ∷ 0 ∷ 0 ∷ 0
    ∷ 0xF7 ∷ 0xFF ∷ 0xFF ∷ 0xFF ∷ 7 ∷ 0 ∷ 0 ∷ 0
    ∷ 0xF8 ∷ 0xFF ∷ 0xFF ∷ 0xFF ∷ 8 ∷ 0 ∷ 0 ∷ 0 ∷ []

-- a field that is skipped
abbrev pub skipped : List ℕ
skipped = 0x03 ∷ 0 ∷ 0 ∷ []

abbrev pub current : List ℕ
current = 0x1111F ∷ 0x2222F ∷ 0x3333F ∷ 0x4444F ∷ 0x2110 ∷ 0x43 ∷ 0x7777F ∷ 0x8888F ∷ []

abbrev pub calls : List Call
calls =
    on class (bridge 0) (osc 1 3 uuid_bytes query_all lent_answer)
    ∷ on class (bridge 0) report
    ∷ on class (bridge 0) (osc 1 3 uuid_bytes take_all lent_answer)
    ∷ on class (bridge 1) (osc 1 3 uuid_bytes take_all lent_answer)
    ∷ on class (bridge 2) report
    ∷ on plant (bridge 1) (osc 2 1 uuid_bytes (replicate 4 0) (replicate 4 0xAA))
    ∷ on plant (bridge 1) report
    ∷ on class (bridge 0) report
    ∷ on class (bridge 0) (address 1 2 3 0x10 4)
    ∷ on class (bridge 0) (address 15 31 7 4095 1)
    ∷ on plant (bridge 1) (address 128 0 0 0 4)
    ∷ on class (bridge 0) (address 16 32 0 0 4)
    ∷ on class (bridge 0) (address 16 0 0 0 4)
    ∷ locate class 0xE0113010
    ∷ locate class 0xE0FFFFFF
    ∷ locate plant 0xE0113010
    ∷ on class (bridge 0) (register_values [] type2 current)
    ∷ on class (bridge 0) (register_values skipped type2 current)
    ∷ on plant (bridge 1) (register_values [] type2 [])
    ∷ on class (bridge 0) (register_values [] type2 [])
    ∷ on plant (bridge 0) reset
    ∷ on class (bridge 0) reset
    ∷ on class (bridge 0) report
    ∷ on class (bridge 0) (osc 1 3 uuid_bytes take_two lent_answer)
    ∷ on class (bridge 0) (register_values type2 [] current)
    ∷ []

abbrev pub run : List Line
run =
    (outcomes (start_table lesson) calls gives
    outcome 0 nothing (uuid_bytes ∷ query_all ∷ (0 ∷ 0 ∷ 0 ∷ 0 ∷ 0x1F ∷ 0 ∷ 0 ∷ 0 ∷ 0x1F ∷ 0 ∷ 0 ∷ 0 ∷ []) ∷ [])
    ∷ outcome 0 (reported (record { held = 0; supported = 0 })) []
    ∷ outcome 0 nothing (uuid_bytes ∷ take_all ∷ (0x10 ∷ 0 ∷ 0 ∷ 0 ∷ 0xFF ∷ 0 ∷ 0 ∷ 0 ∷ 0x1F ∷ 0 ∷ 0 ∷ 0 ∷ []) ∷ [])
    ∷ outcome 2 nothing (uuid_bytes ∷ take_all ∷ lent_answer ∷ [])
    ∷ outcome 1 (reported (record { held = 0; supported = 0 })) []
    ∷ outcome 0 nothing (uuid_bytes ∷ replicate 4 0 ∷ (0x08 ∷ 0 ∷ 0 ∷ 0 ∷ []) ∷ [])
    ∷ outcome 0 (reported (record { held = 0; supported = 0 })) []
    ∷ outcome 0 (reported (record { held = 0x1F; supported = 0x1F })) []
    ∷ outcome 0 (addressed 0xE0113010) []
    ∷ outcome 0 (addressed 0xE0FFFFFF) []
    ∷ outcome 0 (addressed 0xE8000000) []
    ∷ outcome 5 (addressed 0) []
    ∷ outcome 4 (addressed 0) []
    ∷ outcome 0 (located (record { bridge = bridge 0; bus = 1; device = 2; function = 3; offset = 0x10 })) []
    ∷ outcome 0 (located (record { bridge = bridge 0; bus = 15; device = 31; function = 7; offset = 4095 })) []
    ∷ outcome 4 (located (record { bridge = bridge 0; bus = 0; device = 0; function = 0; offset = 0 })) []
    ∷ outcome 0 (values (0x1111F ∷ 0x2222F ∷ 0x3333F ∷ 0x4444F ∷ 0x2116 ∷ 0x42 ∷ 0x7777F ∷ 0x8888F ∷ [])) ([] ∷ type2 ∷ current ∷ [])
    ∷ outcome 9 (values (replicate 8 0)) (skipped ∷ type2 ∷ current ∷ [])
    ∷ outcome 11 (values (replicate 8 0)) ([] ∷ type2 ∷ [] ∷ [])
    ∷ outcome 10 (values (replicate 8 0)) ([] ∷ type2 ∷ [] ∷ [])
    ∷ outcome 2 nothing []
    ∷ outcome 0 nothing []
    ∷ outcome 0 (reported (record { held = 0; supported = 0 })) []
    ∷ outcome 0 nothing (uuid_bytes ∷ take_two ∷ (0 ∷ 0 ∷ 0 ∷ 0 ∷ 0 ∷ 0 ∷ 0 ∷ 0 ∷ 0x11 ∷ 0 ∷ 0 ∷ 0 ∷ []) ∷ [])
    ∷ outcome 0 (values (0x11111 ∷ 0x22222 ∷ 0x33333 ∷ 0x44444 ∷ 0x2116 ∷ 0x42 ∷ 0x77777 ∷ 0x88888 ∷ [])) (type2 ∷ [] ∷ current ∷ [])
    ∷ [])
    ∷ []

-- ---- record searches

-- records of types 0 and 1, the example of document 002
abbrev pub types01 : List ℕ
types01 =
    0 ∷ 0x14 ∷ 0 ∷ 1 ∷ 0 ∷ 0 ∷ 0 ∷ 8 ∷ 0 ∷ 0 ∷ 0 ∷ 0x40 ∷ 0 ∷ 0 ∷ 0 ∷ 1 ∷ 0 ∷ 0 ∷ 0 ∷ 0 ∷ 0 ∷ 0 ∷ 0
    ∷ 1 ∷ 0x10 ∷ 0 ∷ 1 ∷ 0 ∷ 0 ∷ 0 ∷ 3 ∷ 0 ∷ 0 ∷ 0 ∷ 4 ∷ 0 ∷ 0 ∷ 0 ∷ 7 ∷ 0 ∷ 0 ∷ 0 ∷ []

abbrev pub found : ℕ → ℕ → ℕ → FoundAt
found number start size = record { number = number; start = start; size = size }

abbrev pub searches : List Line
searches =
    (find_record [] types01 0 gives found 0 0 23)
    ∷ (find_record types01 [] 1 gives found 0 23 19)
    ∷ (find_record [] types01 2 gives found 9 0 0)
    ∷ (find_record [] [] 0 gives found 9 0 0)
    ∷ (find_record skipped types01 0 gives found 9 0 0)
    ∷ (find_record skipped [] 3 gives found 9 0 0)
    ∷ (find_record [] types01 256 gives found 9 0 0)
    -- two bytes left over; two records of type 0; length 3; SERR 2; cache line 0x80000008; Device Control mask 65536; a length past the end
    ∷ (find_record [] (types01 ++ 0 ∷ 0 ∷ []) 0 gives found 8 0 0)
    ∷ (find_record [] (types01 ++ types01) 7 gives found 8 0 0)
    ∷ (find_record [] (0x00 ∷ 3 ∷ 0 ∷ 1 ∷ 0 ∷ 0 ∷ []) 0 gives found 8 0 0)
    ∷ (find_record [] (set types01 15 2) 1 gives found 8 0 0)
    ∷ (find_record [] (set types01 10 0x80) 0 gives found 8 0 0)
    ∷ (find_record [] (set type2 41 1) 2 gives found 8 0 0)
    ∷ (find_record [] (0x05 ∷ 0xFF ∷ 0xFF ∷ []) 0 gives found 8 0 0)
    -- revision 2 is skipped; document 02, e: 4096 bytes, and 4097
    ∷ (find_record [] (set types01 3 2) 0 gives found 9 0 0)
    ∷ (find_record [] (0x03 ∷ 0xFD ∷ 0x0F ∷ replicate 4093 0) 0 gives found 9 0 0)
    ∷ (find_record [] (0x03 ∷ 0xFE ∷ 0x0F ∷ replicate 4094 0) 0 gives found 8 0 0)
    ∷ []

-- ---- pairs of masks, document 02, h

abbrev pub masks : List Line
masks =
    -- a bit that is kept, 1 and 0; cleared; set; the fourth case
    (acpi_bit true false true gives some true)
    ∷ (acpi_bit true false false gives some false)
    ∷ (acpi_bit false false true gives some false)
    ∷ (acpi_bit true true false gives some true)
    ∷ (acpi_bit false true true gives none)
    -- bits set, cleared and kept; OR 9 in a pair at a time, where bit 0 or bit 3 is clear in AND
    ∷ (find_record [] type2 2 gives found 0 0 71)
    ∷ (find_record [] (set type2 11 9) 2 gives found 8 0 0)
    ∷ (find_record [] (set type2 19 9) 2 gives found 8 0 0)
    ∷ (find_record [] (set type2 27 9) 2 gives found 8 0 0)
    ∷ (find_record [] (set type2 35 9) 2 gives found 8 0 0)
    ∷ (find_record [] (set type2 43 9) 2 gives found 8 0 0)
    ∷ (find_record [] (set type2 51 9) 2 gives found 8 0 0)
    ∷ (find_record [] (set type2 59 9) 2 gives found 8 0 0)
    ∷ (find_record [] (set type2 67 9) 2 gives found 8 0 0)
    -- bit 31 in the last pair, kept above: set, cleared, senseless
    ∷ (find_record [] (set type2 70 0x80) 2 gives found 0 0 71)
    ∷ (find_record [] (set type2 66 0x7F) 2 gives found 0 0 71)
    ∷ (find_record [] (set (set type2 66 0x7F) 70 0x80) 2 gives found 8 0 0)
    -- an AND mask of 0 with an OR mask of 0, and of 8
    ∷ (find_record [] (set (set (set (set (set type2 63 0) 64 0) 65 0) 66 0) 67 0) 2 gives found 0 0 71)
    ∷ (find_record [] (set (set (set (set type2 63 0) 64 0) 65 0) 66 0) 2 gives found 8 0 0)
    -- the starred pair, AND 0xFFFFFFF0 and OR 6
    ∷ (find_record [] (set (set type2 7 0xF0) 11 6) 2 gives found 8 0 0)
    -- the search for another type, in front of it and behind it, and behind a record without such a pair
    ∷ (find_record [] (types01 ++ set type2 67 9) 0 gives found 8 0 0)
    ∷ (find_record (set type2 67 9 ++ types01) [] 1 gives found 8 0 0)
    ∷ (find_record [] (types01 ++ set type2 67 9) 3 gives found 8 0 0)
    ∷ (find_record [] (type2 ++ types01) 1 gives found 0 94 19)
    -- the same record with revisions 2, 0, 3 and 257
    ∷ (find_record [] (set (set type2 67 9) 3 2) 2 gives found 9 0 0)
    ∷ (find_record [] (types01 ++ set (set type2 67 9) 3 2) 0 gives found 0 0 23)
    ∷ (find_record [] (set (set type2 67 9) 3 0) 2 gives found 9 0 0)
    ∷ (find_record [] (set (set type2 67 9) 3 3) 2 gives found 9 0 0)
    ∷ (find_record [] (set (set type2 67 9) 4 1) 2 gives found 9 0 0)
    -- tags 3 and 4 are skipped whatever their value; the slot's block alone decides
    ∷ (find_record [] (set (set type2 67 9) 0 3) 0 gives found 9 0 0)
    ∷ (find_record [] (set (set type2 67 9) 0 4) 2 gives found 9 0 0)
    ∷ (find_record type2 (set type2 67 9) 2 gives found 0 0 71)
    ∷ (find_record (set type2 67 9) type2 2 gives found 8 0 0)
    ∷ []

-- ---- written records, document 02, g

-- the settings of types01; for register k the masks 0xA3A2A1F0 + k and 0x83828180 + k, of Device Control and Link Control the low halves; by the three flags
abbrev pub settings : (pci pci_x express : ℕ) → Settings
settings a b c = record {
  pci = record { cache_line_size = 8; latency_timer = 0x40; enable_serr = 1; enable_perr = 0 };
  pci_x = record {
    maximum_memory_read_byte_count = 3;
    average_maximum_outstanding_split_transactions = 4;
    total_maximum_outstanding_split_transactions = 7;
  };
  express = record {
    uncorrectable_error_mask = record { and = 0xA3A2A1F0; or = 0x83828180 };
    uncorrectable_error_severity = record { and = 0xA3A2A1F1; or = 0x83828181 };
    correctable_error_mask = record { and = 0xA3A2A1F2; or = 0x83828182 };
    advanced_error_capabilities_and_control = record { and = 0xA3A2A1F3; or = 0x83828183 };
    device_control = record { and = 0xA1F4; or = 0x8184 };
    link_control = record { and = 0xA1F5; or = 0x8185 };
    secondary_uncorrectable_error_severity = record { and = 0xA3A2A1F6; or = 0x83828186 };
    secondary_uncorrectable_error_mask = record { and = 0xA3A2A1F7; or = 0x83828187 };
  };
  has_pci = a;
  has_pci_x = b;
  has_express = c;
}

-- the type 2 record of these
abbrev pub express_record : List ℕ
express_record =
    2 ∷ 0x44 ∷ 0 ∷ 1 ∷ 0 ∷ 0 ∷ 0
    ∷ 0xF0 ∷ 0xA1 ∷ 0xA2 ∷ 0xA3 ∷ 0x80 ∷ 0x81 ∷ 0x82 ∷ 0x83
    ∷ 0xF1 ∷ 0xA1 ∷ 0xA2 ∷ 0xA3 ∷ 0x81 ∷ 0x81 ∷ 0x82 ∷ 0x83
    ∷ 0xF2 ∷ 0xA1 ∷ 0xA2 ∷ 0xA3 ∷ 0x82 ∷ 0x81 ∷ 0x82 ∷ 0x83
    ∷ 0xF3 ∷ 0xA1 ∷ 0xA2 ∷ 0xA3 ∷ 0x83 ∷ 0x81 ∷ 0x82 ∷ 0x83
    ∷ 0xF4 ∷ 0xA1 ∷ 0 ∷ 0 ∷ 0x84 ∷ 0x81 ∷ 0 ∷ 0
    ∷ 0xF5 ∷ 0xA1 ∷ 0 ∷ 0 ∷ 0x85 ∷ 0x81 ∷ 0 ∷ 0
    ∷ 0xF6 ∷ 0xA1 ∷ 0xA2 ∷ 0xA3 ∷ 0x86 ∷ 0x81 ∷ 0x82 ∷ 0x83
    ∷ 0xF7 ∷ 0xA1 ∷ 0xA2 ∷ 0xA3 ∷ 0x87 ∷ 0x81 ∷ 0x82 ∷ 0x83 ∷ []

-- settings of one type alone, with other values
abbrev pub pci_alone : (cache latency serr perr : ℕ) → Settings
pci_alone a b c d =
    let s = settings 1 0 0 in
    record {
      pci = record { cache_line_size = a; latency_timer = b; enable_serr = c; enable_perr = d };
      pci_x = s.pci_x;
      express = s.express;
      has_pci = 1;
      has_pci_x = 0;
      has_express = 0;
    }

abbrev pub pci_x_alone : (read average total : ℕ) → Settings
pci_x_alone a b c =
    let s = settings 0 1 0 in
    record {
      pci = s.pci;
      pci_x = record {
        maximum_memory_read_byte_count = a;
        average_maximum_outstanding_split_transactions = b;
        total_maximum_outstanding_split_transactions = c;
      };
      express = s.express;
      has_pci = 0;
      has_pci_x = 1;
      has_express = 0;
    }

-- the pairs of registers 0 to 7
abbrev pub masks_alone : (express : ℕ) → (ℕ → Masks) → Settings
masks_alone flag m =
    let s = settings 0 0 1 in
    record {
      pci = s.pci;
      pci_x = s.pci_x;
      express = record {
        uncorrectable_error_mask = m 0;
        uncorrectable_error_severity = m 1;
        correctable_error_mask = m 2;
        advanced_error_capabilities_and_control = m 3;
        device_control = m 4;
        link_control = m 5;
        secondary_uncorrectable_error_severity = m 6;
        secondary_uncorrectable_error_mask = m 7;
      };
      has_pci = 0;
      has_pci_x = 0;
      has_express = flag;
    }

-- the same pair for every register but register k
abbrev pub but : (k : ℕ) (one rest : Masks) → ℕ → Masks
but k one rest j = cond (eqb j k) one rest

abbrev pub pair : (and or : ℕ) → Masks
pair a b = record { and = a; or = b }

-- every mask 0xFFFFFFFF but those of Device Control and Link Control; the flag says that type 2 is present, or that none is
abbrev pub words_alone : (express device_and device_or link_and link_or : ℕ) → Settings
words_alone flag a b c d = masks_alone flag (λ k. cond (eqb k 4) (pair a b) (but 5 (pair c d) (pair 0xFFFFFFFF 0xFFFFFFFF) k))

-- bit 0 is clear in AND and set in OR of register k alone; in the others both masks have it
abbrev pub senseless_at : (express k : ℕ) → Settings
senseless_at flag k = masks_alone flag (but k (pair 0xFFFE 0x8001) (pair 0xFFFF 0x8001))

-- settings with one value of each type other: cache line, read count, Link Control's OR mask; by the three flags
abbrev pub one_other : (pci pci_x express cache read link_or : ℕ) → Settings
one_other a b c cache read link_or =
    record {
      pci = (pci_alone cache 255 1 1).pci;
      pci_x = (pci_x_alone read 7 7).pci_x;
      express = (words_alone 1 65535 65535 65535 link_or).express;
      has_pci = a;
      has_pci_x = b;
      has_express = c;
    }

-- what the writer hands back, and the buffer after it
pub record Wrote : Type 0 where
  pub number : ℕ
  pub length : ℕ
  pub buffer : List ℕ

abbrev pub write : Settings → List ℕ → Wrote
write s b = record { number = (write_records s b).number; length = (write_records s b).length; buffer = buffer_after s b }

-- the number for a buffer that has room
abbrev pub number_of : Settings → ℕ
number_of s = (write_records s (replicate 113 0)).number

-- a buffer of n bytes
abbrev pub lent_bytes : ℕ → List ℕ
lent_bytes n = replicate n 0xAA

abbrev pub writes : List Line
writes =
    -- all three: 113 bytes, and a byte more; 112 bytes
    (write (settings 1 1 1) (lent_bytes 113) gives record { number = 0; length = 113; buffer = types01 ++ express_record })
    ∷ (write (settings 1 1 1) (lent_bytes 114) gives record { number = 0; length = 113; buffer = types01 ++ express_record ++ 0xAA ∷ [] })
    ∷ (write (settings 1 1 1) (lent_bytes 112) gives record { number = 15; length = 0; buffer = lent_bytes 112 })
    -- one alone, and a byte less; any flag but 0; types 0 and 2, 0 and 1, 1 and 2
    ∷ (write (settings 1 0 0) (lent_bytes 23) gives record { number = 0; length = 23; buffer = take 23 types01 })
    ∷ (write (settings 1 0 0) (lent_bytes 22) gives record { number = 15; length = 0; buffer = lent_bytes 22 })
    ∷ (write (settings 0 255 0) (lent_bytes 19) gives record { number = 0; length = 19; buffer = drop 23 types01 })
    ∷ (write (settings 0 255 0) (lent_bytes 18) gives record { number = 15; length = 0; buffer = lent_bytes 18 })
    ∷ (write (settings 0 0 2) (lent_bytes 72) gives record { number = 0; length = 71; buffer = express_record ++ 0xAA ∷ [] })
    ∷ (write (settings 0 0 2) (lent_bytes 70) gives record { number = 15; length = 0; buffer = lent_bytes 70 })
    ∷ (write (settings 1 0 1) (lent_bytes 94) gives record { number = 0; length = 94; buffer = take 23 types01 ++ express_record })
    ∷ (write (settings 1 1 0) (lent_bytes 44) gives record { number = 0; length = 42; buffer = types01 ++ 0xAA ∷ 0xAA ∷ [] })
    ∷ (write (settings 0 1 1) (lent_bytes 90) gives record { number = 0; length = 90; buffer = drop 23 types01 ++ express_record })
    -- none
    ∷ (write (settings 0 0 0) [] gives record { number = 0; length = 0; buffer = [] })
    ∷ (write (settings 0 0 0) (lent_bytes 3) gives record { number = 0; length = 0; buffer = lent_bytes 3 })
    -- a value out of its range and no room: 14 first; values of absent records
    ∷ (write (pci_alone 256 0 0 0) [] gives record { number = 14; length = 0; buffer = [] })
    ∷ (write (pci_alone 256 0 0 0) (lent_bytes 24) gives record { number = 14; length = 0; buffer = lent_bytes 24 })
    ∷ (write (words_alone 0 65536 65536 65536 65536) [] gives record { number = 0; length = 0; buffer = [] })
    -- each range at its limit, and one past it
    ∷ (number_of (pci_alone 255 255 1 1) gives 0)
    ∷ (number_of (pci_alone 256 255 1 1) gives 14)
    ∷ (number_of (pci_alone 255 256 1 1) gives 14)
    ∷ (number_of (pci_alone 255 255 2 1) gives 14)
    ∷ (number_of (pci_alone 255 255 1 2) gives 14)
    ∷ (number_of (pci_x_alone 3 7 7) gives 0)
    ∷ (number_of (pci_x_alone 4 7 7) gives 14)
    ∷ (number_of (pci_x_alone 3 8 7) gives 14)
    ∷ (number_of (pci_x_alone 3 7 8) gives 14)
    ∷ (number_of (words_alone 1 65535 65535 65535 65535) gives 0)
    ∷ (number_of (words_alone 1 65536 0 65535 65535) gives 14)
    ∷ (number_of (words_alone 1 65535 65536 65535 65535) gives 14)
    ∷ (number_of (words_alone 1 65535 65535 65536 0) gives 14)
    ∷ (number_of (words_alone 1 65535 65535 65535 65536) gives 14)
    -- all three present, one value of one type out of its range, no room, and room for the first record: 14 first
    ∷ (write (one_other 1 1 1 255 3 65536) [] gives record { number = 14; length = 0; buffer = [] })
    ∷ (write (one_other 1 1 1 255 4 65535) (lent_bytes 23) gives record { number = 14; length = 0; buffer = lent_bytes 23 })
    ∷ (write (one_other 1 1 1 256 3 65535) [] gives record { number = 14; length = 0; buffer = [] })
    -- values of absent records beside a present one
    ∷ (number_of (one_other 1 0 0 255 4 65536) gives 0)
    ∷ (number_of (one_other 0 1 0 256 3 65536) gives 0)
    ∷ (number_of (one_other 0 0 1 256 4 65535) gives 0)
    -- numbers above two bytes; 0; PERR without SERR; an average above the total
    ∷ (number_of (pci_alone 0x80000000 255 1 1) gives 14)
    ∷ (number_of (pci_alone 0 0 0 0) gives 0)
    ∷ (number_of (pci_alone 255 255 0 1) gives 0)
    ∷ (number_of (pci_x_alone 0 7 0) gives 0)
    -- document 02, h: no senseless pair; each of the eight; absent; no room: 14 first
    ∷ (number_of (senseless_at 1 8) gives 0)
    ∷ (number_of (senseless_at 1 0) gives 14)
    ∷ (number_of (senseless_at 1 1) gives 14)
    ∷ (number_of (senseless_at 1 2) gives 14)
    ∷ (number_of (senseless_at 1 3) gives 14)
    ∷ (number_of (senseless_at 1 4) gives 14)
    ∷ (number_of (senseless_at 1 5) gives 14)
    ∷ (number_of (senseless_at 1 6) gives 14)
    ∷ (number_of (senseless_at 1 7) gives 14)
    ∷ (number_of (senseless_at 0 7) gives 0)
    ∷ (write (senseless_at 1 7) (lent_bytes 70) gives record { number = 14; length = 0; buffer = lent_bytes 70 })
    -- flags of other bits
    ∷ (write (settings 2 4 128) (lent_bytes 113) gives record { number = 0; length = 113; buffer = types01 ++ express_record })
    ∷ []

-- blocks read, and which of them hold only revision 1 records of types 0 to 2 in rising order
abbrev pub reads : List Line
reads =
    (read_settings (types01 ++ express_record) gives settings 1 1 1)
    ∷ (present_in (read_settings (drop 23 types01)) gives present_in (settings 0 1 0))
    ∷ (present_in (read_settings (set types01 3 2)) gives present_in (settings 0 1 0))
    ∷ (present_in (read_settings []) gives [])
    ∷ (place_among 2 0 (present_in (settings 1 0 1)) gives found 0 23 71)
    ∷ (place_among 1 0 (present_in (settings 1 0 1)) gives found 9 0 0)
    ∷ (only_rising (types01 ++ express_record) gives true)
    ∷ (only_rising [] gives true)
    ∷ (only_rising (drop 23 types01 ++ take 23 types01) gives false)
    ∷ (only_rising (types01 ++ skipped) gives false)
    ∷ (only_rising (set types01 3 2) gives false)
    ∷ []

-- ---- images of a ROM, document 02, a

-- a structure of 24 bytes; its device list pointer is 0x18
abbrev pub structure : (vendor device units code_type indicator : ℕ) → List ℕ
structure vendor device units code_type indicator =
    0x50 ∷ 0x43 ∷ 0x49 ∷ 0x52 ∷ vendor % 256 ∷ vendor / 256 ∷ device % 256 ∷ device / 256 ∷ 0x18 ∷ 0 ∷ 0x18 ∷ 0 ∷ 3 ∷ 0 ∷ 0 ∷ 2
    ∷ units % 256 ∷ units / 256 ∷ 0 ∷ 0 ∷ code_type ∷ indicator ∷ 0 ∷ 0 ∷ []

-- so many bytes: the header, and a structure where its pointer leads; after the structure a device list of 0x8168
abbrev pub with_structure : (bytes pointer : ℕ) → List ℕ → List ℕ
with_structure bytes pointer s =
    take bytes (0x55 ∷ 0xAA ∷ replicate 22 0 ++ (pointer % 256 ∷ pointer / 256 ∷ replicate (pointer - 26) 0) ++ s ++ (0x68 ∷ 0x81 ∷ replicate bytes 0))

-- an image of 512 bytes with vendor 0x10EC and device 0x8139, its structure at 0x1C
abbrev pub image : (code_type indicator : ℕ) → List ℕ
image code_type indicator = with_structure 512 0x1C (structure 0x10EC 0x8139 1 code_type indicator)

-- code type 0, then 3, the last
abbrev pub two_images : List ℕ
two_images = image 0 0 ++ image 3 0x80

-- such a ROM, asked for vendor 0x10EC and device 0x8139
abbrev pub choose : List ℕ → (code_type : ℕ) → FoundAt
choose rom code_type = find_image rom 0x10EC 0x8139 code_type

abbrev pub images : List Line
images =
    (choose (image 0 0x80) 0 gives found 0 0 512)
    ∷ (choose two_images 0 gives found 0 0 512)
    ∷ (choose two_images 3 gives found 0 512 512)
    ∷ (choose (image 3 0 ++ image 3 0x80) 3 gives found 0 0 512)
    -- another code type; another device; another vendor; the device of the list; numbers above two bytes, and above one
    ∷ (choose two_images 1 gives found 13 0 0)
    ∷ (find_image two_images 0x10EC 0x8138 0 gives found 13 0 0)
    ∷ (find_image two_images 0x10ED 0x8139 0 gives found 13 0 0)
    ∷ (find_image two_images 0x10EC 0x8168 0 gives found 13 0 0)
    ∷ (find_image two_images 0x110EC 0x8139 0 gives found 13 0 0)
    ∷ (find_image two_images 0x10EC 0x18139 0 gives found 13 0 0)
    ∷ (choose two_images 256 gives found 13 0 0)
    -- the first matches, and the second has 0xAB in place of 0xAA; 0x54; `PCIX`
    ∷ (choose (set two_images 513 0xAB) 0 gives found 12 0 0)
    ∷ (choose (set two_images 0 0x54) 0 gives found 12 0 0)
    ∷ (choose (set (image 0 0x80) 0x1F 0x58) 0 gives found 12 0 0)
    -- no byte; 511; length 0; lengths 2 and 0x101 in 512 bytes
    ∷ (choose [] 0 gives found 12 0 0)
    ∷ (choose (take 511 (image 0 0x80)) 0 gives found 12 0 0)
    ∷ (choose (set (image 0 0x80) 0x2C 0) 0 gives found 12 0 0)
    ∷ (choose (set (image 0 0x80) 0x2C 2) 0 gives found 12 0 0)
    ∷ (choose (set (image 0 0x80) 0x2D 1) 0 gives found 12 0 0)
    -- indicators 0x7F and 0xFF; an image after the last, and a byte that is none
    ∷ (choose (image 0 0x7F) 0 gives found 12 0 0)
    ∷ (choose (image 0 0xFF) 0 gives found 0 0 512)
    ∷ (choose (image 0 0x80 ++ image 3 0x80) 3 gives found 13 0 0)
    ∷ (choose (image 0 0x80 ++ 0 ∷ []) 0 gives found 0 0 512)
    -- pointers 0x1E8 and 0x1E9 in 512 bytes; 0x1A; 0x200, past the image; length 2 in 1024 bytes, alone and before another image
    ∷ (choose (with_structure 512 0x1E8 (structure 0x10EC 0x8139 1 0 0x80)) 0 gives found 0 0 512)
    ∷ (choose (with_structure 512 0x1E9 (structure 0x10EC 0x8139 1 0 0x80)) 0 gives found 12 0 0)
    ∷ (choose (with_structure 512 0x1A (structure 0x10EC 0x8139 1 0 0x80)) 0 gives found 0 0 512)
    ∷ (choose (with_structure 1024 0x200 (structure 0x10EC 0x8139 1 0 0x80)) 0 gives found 0 0 512)
    ∷ (choose (with_structure 1024 0x1C (structure 0x10EC 0x8139 2 0 0x80)) 0 gives found 0 0 1024)
    ∷ (choose (with_structure 1024 0x1C (structure 0x10EC 0x8139 2 0 0) ++ image 3 0x80) 3 gives found 0 1024 512)
    ∷ []

-- 16 MiB, and a byte more
abbrev pub rom_sizes : List Line
rom_sizes = (leb 16777216 max_rom gives true) ∷ (leb 16777217 max_rom gives false) ∷ []

-- ---- register values beyond the sheet, document 02, f: AER held; every bit set by the record; every bit cleared by it

-- of a bridge that holds these bits
abbrev pub values_on : (held : ℕ) → (slot block current : List ℕ) → Outcome
values_on held slot block current = outcome_on (bridge_with 0x1F held) (register_values slot block current)

-- a type 2 record whose last pair is senseless
abbrev pub senseless : List ℕ
senseless = set type2 67 9

abbrev pub registers : List Line
registers =
    (registers_on 0x19 0x2810 0x5020 0x5020
    gives new_registers 0x2810 0x5020 0x5020 (0x2810 ∷ 0x2810 ∷ 0x2810 ∷ 0x2810 ∷ 0x2000 ∷ 0x5020 ∷ 0x2810 ∷ 0x2810 ∷ []))
    ∷ (registers_on 0x11 0 0xFFFF 0xFFFF
    gives new_registers 0 0xFFFF 0xFFFF (0xFFFF ∷ 0xFFFF ∷ 0xFFFF ∷ 0xFFFF ∷ 0x8F1F ∷ 0xFFFF ∷ 0xFFFF ∷ 0xFFFF ∷ []))
    ∷ (registers_on 0x11 0xFFFF 0 0 gives new_registers 0xFFFF 0 0 (0 ∷ 0 ∷ 0 ∷ 0 ∷ 0x70E0 ∷ 0 ∷ 0 ∷ 0 ∷ []))
    -- document 02, h: OR within AND, and the two exchanged; AER held, when six of the pairs are not used
    ∷ (registers_on 0x11 0x2810 0x0810 0x0010
    gives new_registers 0x2810 0x0810 0x0010 (0x0810 ∷ 0x0810 ∷ 0x0810 ∷ 0x0810 ∷ 0x2810 ∷ 0x0810 ∷ 0x0810 ∷ 0x0810 ∷ []))
    ∷ (registers_on 0x11 0x2810 0x0010 0x0810 gives outcome 8 (values (replicate 8 0)) ([] ∷ same_pairs 0x0010 0x0810 ∷ replicate 8 0x2810 ∷ []))
    ∷ (registers_on 0x19 0x2810 0x0010 0x0810 gives outcome 8 (values (replicate 8 0)) ([] ∷ same_pairs 0x0010 0x0810 ∷ replicate 8 0x2810 ∷ []))
    -- 10 and 11 come before 8, and 8 before 9; the slot's block alone decides
    ∷ (values_on 0x11 [] senseless (replicate 7 0) gives outcome 10 (values (replicate 8 0)) ([] ∷ senseless ∷ replicate 7 0 ∷ []))
    ∷ (values_on 0x1E [] senseless (replicate 8 0) gives outcome 11 (values (replicate 8 0)) ([] ∷ senseless ∷ replicate 8 0 ∷ []))
    ∷ (values_on 0x11 [] (take 70 type2) (replicate 8 0) gives outcome 8 (values (replicate 8 0)) ([] ∷ take 70 type2 ∷ replicate 8 0 ∷ []))
    ∷ (values_on 0x11 senseless type2 (replicate 8 0) gives outcome 8 (values (replicate 8 0)) (senseless ∷ type2 ∷ replicate 8 0 ∷ []))
    ∷ (values_on 0x11 type2 senseless (replicate 8 0) gives outcome 0 (values (1 ∷ 2 ∷ 3 ∷ 4 ∷ 6 ∷ 2 ∷ 7 ∷ 8 ∷ [])) (type2 ∷ senseless ∷ replicate 8 0 ∷ []))
    ∷ []

-- ---- grants beyond the sheet: a held bit that is not permitted, and bit 3 that is not; a bit above 4; bits 0 to 2 that are not permitted, with status and support of all bits;
-- document 02, b: a held bit 0 asked for again without bit 4; bit 0 with a bit 4 that is held and not permitted

abbrev pub grants : List Line
grants =
    (osc_on 0x15 0x02 (0 ∷ 0 ∷ 0 ∷ 0 ∷ 0 ∷ 0 ∷ 0 ∷ 0 ∷ 0x1A ∷ 0 ∷ 0 ∷ 0 ∷ []) gives record { answer = 0x10 ∷ 0 ∷ 0 ∷ 0 ∷ 0 ∷ 0 ∷ 0 ∷ 0 ∷ 0x12 ∷ 0 ∷ 0 ∷ 0 ∷ []; held = 0x12 })
    ∷ (osc_on 0x1F 0 (0 ∷ 0 ∷ 0 ∷ 0 ∷ 0 ∷ 0 ∷ 0 ∷ 0 ∷ 0 ∷ 0 ∷ 0 ∷ 0x80 ∷ []) gives record { answer = 0x10 ∷ 0 ∷ 0 ∷ 0 ∷ 0 ∷ 0 ∷ 0 ∷ 0 ∷ 0 ∷ 0 ∷ 0 ∷ 0 ∷ []; held = 0 })
    ∷ (osc_on 0x18 0 (0xFE ∷ 0xFF ∷ 0xFF ∷ 0xFF ∷ 0xEF ∷ 0xBE ∷ 0xAD ∷ 0xDE ∷ 0x1F ∷ 0 ∷ 0 ∷ 0 ∷ []) gives record { answer = 0x10 ∷ 0 ∷ 0 ∷ 0 ∷ 0xEF ∷ 0xBE ∷ 0xAD ∷ 0xDE ∷ 0x18 ∷ 0 ∷ 0 ∷ 0 ∷ []; held = 0x18 })
    ∷ (osc_on 0x1F 0x11 (0 ∷ 0 ∷ 0 ∷ 0 ∷ 0 ∷ 0 ∷ 0 ∷ 0 ∷ 0x01 ∷ 0 ∷ 0 ∷ 0 ∷ []) gives record { answer = 0 ∷ 0 ∷ 0 ∷ 0 ∷ 0 ∷ 0 ∷ 0 ∷ 0 ∷ 0x01 ∷ 0 ∷ 0 ∷ 0 ∷ []; held = 0x11 })
    ∷ (osc_on 0x01 0x10 (0 ∷ 0 ∷ 0 ∷ 0 ∷ 0 ∷ 0 ∷ 0 ∷ 0 ∷ 0x11 ∷ 0 ∷ 0 ∷ 0 ∷ []) gives record { answer = 0 ∷ 0 ∷ 0 ∷ 0 ∷ 0 ∷ 0 ∷ 0 ∷ 0 ∷ 0x11 ∷ 0 ∷ 0 ∷ 0 ∷ []; held = 0x11 })
    ∷ []

-- ---- document 02, d: what a bridge of either edition grants

-- the status and the control DWORD of the answer, and what the bridge holds after it
pub record Reply : Type 0 where
  pub status : ℕ
  pub control : ℕ
  pub holds : Holding

abbrev pub reply : (status control held supported : ℕ) → Reply
reply status control held supported = record { status = status; control = control; holds = record { held = held; supported = supported } }

-- a call with this status, support and control DWORD on the bridge
abbrev pub sent : Bridge → (status support control : ℕ) → Reply
sent b status support control =
    let o = osc 1 3 uuid_bytes (le32 status ++ le32 support ++ le32 control) lent_answer in
    let answer = answer_of (outcome_on b o) in
    record { status = dword answer 0; control = dword answer 8; holds = holding (bridge_by (number_on b o) b o) }

-- a taking call on a bridge of edition 3.3 that permits its ten bits and holds nothing; and of the old edition, with its five
abbrev pub take33 : (support control : ℕ) → Reply
take33 = sent (bridge_in edition33 0x3FF 0 0) 0

abbrev pub take30 : (support control : ℕ) → Reply
take30 = sent (bridge_in edition30 0x1F 0 0) 0

abbrev pub editions : List Line
editions =
    -- bits 3 and 7 need each other, and bit 4; 7 needs support bit 7 too
    (take33 0x80 0x98 gives reply 0 0x98 0x98 0x80)
    ∷ (take33 0x7F 0x98 gives reply 0x10 0x10 0x10 0x7F)
    ∷ (take33 0x80 0x18 gives reply 0x10 0x10 0x10 0x80)
    ∷ (take33 0x80 0x90 gives reply 0x10 0x10 0x10 0x80)
    ∷ (take33 0x80 0x88 gives reply 0x10 0 0 0x80)
    -- with what 3 and 7 need but bit 4, the other of them held
    ∷ (sent (bridge_in edition33 0x3FF 0x80 0) 0 0 0x88 gives reply 0x10 0x80 0x80 0)
    ∷ (sent (bridge_in edition33 0x3FF 0x08 0) 0 0x80 0x88 gives reply 0x10 0x08 0x08 0x80)
    -- all bits; without support bit 7; without bit 4; where 5 to 9 are not permitted, and where only 4 is; a bit that is not known
    ∷ (take33 0x1FF 0x3FF gives reply 0 0x3FF 0x3FF 0x1FF)
    ∷ (take33 0x1F 0x3FF gives reply 0x10 0x377 0x377 0x1F)
    ∷ (take33 0x1FF 0x3EF gives reply 0x10 0x240 0x240 0x1FF)
    ∷ (sent (bridge_in edition33 0x1F 0 0) 0 0x1FF 0x1F gives reply 0x10 0x17 0x17 0x1FF)
    ∷ (sent (bridge_in edition33 0x1F 0 0) 0 0x1FF 0x3FF gives reply 0x10 0x17 0x17 0x1FF)
    ∷ (sent (bridge_in edition33 0x10 0 0) 0 0x1FF 0x3FF gives reply 0x10 0x10 0x10 0x1FF)
    ∷ (take33 0 0x400 gives reply 0x10 0 0 0)
    -- bits 0, 1, 2, 5 and 8 with bit 4, and without it; 4, 6 and 9 alone
    ∷ (take33 0 0x11 gives reply 0 0x11 0x11 0)
    ∷ (take33 0 0x01 gives reply 0x10 0 0 0)
    ∷ (take33 0 0x12 gives reply 0 0x12 0x12 0)
    ∷ (take33 0 0x02 gives reply 0x10 0 0 0)
    ∷ (take33 0 0x14 gives reply 0 0x14 0x14 0)
    ∷ (take33 0 0x04 gives reply 0x10 0 0 0)
    ∷ (take33 0 0x30 gives reply 0 0x30 0x30 0)
    ∷ (take33 0 0x20 gives reply 0x10 0 0 0)
    ∷ (take33 0 0x110 gives reply 0 0x110 0x110 0)
    ∷ (take33 0 0x100 gives reply 0x10 0 0 0)
    ∷ (take33 0 0x10 gives reply 0 0x10 0x10 0)
    ∷ (take33 0 0x40 gives reply 0 0x40 0x40 0)
    ∷ (take33 0 0x200 gives reply 0 0x200 0x200 0)
    -- a bit 4 that is requested and forbidden; a conventional row, which permits bit 1 alone
    ∷ (sent (bridge_in edition33 0x3EF 0 0) 0 0x1FF 0x3FF gives reply 0x10 0x240 0x240 0x1FF)
    ∷ (sent (bridge_in edition33 0x02 0 0) 0 0 0x12 gives reply 0x10 0 0 0)
    -- held bits need nothing; a bit that is held and not asked for is not in the set; what is held and not permitted
    ∷ (sent (bridge_in edition33 0x3FF 0x98 0) 0 0 0x08 gives reply 0 0x08 0x98 0)
    ∷ (sent (bridge_in edition33 0x3FF 0x10 0) 0 0 0x01 gives reply 0x10 0 0x10 0)
    ∷ (sent (bridge_in edition33 0x3FF 0x08 0) 0 0x80 0x90 gives reply 0x10 0x10 0x18 0x80)
    ∷ (sent (bridge_in edition33 0x3FF 0x80 0) 0 0 0x18 gives reply 0x10 0x10 0x90 0)
    ∷ (sent (bridge_in edition33 0x3FF 0x80 0) 0 0 0x98 gives reply 0 0x98 0x98 0)
    ∷ (sent (bridge_in edition33 0 0x88 0) 0 0 0x3FF gives reply 0x10 0x88 0x88 0)
    -- support from earlier calls counts, and so does a query's own, which is not kept
    ∷ (sent (bridge_in edition33 0x3FF 0 0x80) 0 0 0x98 gives reply 0 0x98 0x98 0x80)
    ∷ (sent (bridge_in edition33 0x3FF 0 0) 1 0x80 0x98 gives reply 0 0x98 0 0)
    ∷ (sent (bridge_in edition33 0x3FF 0 0x80) 1 0 0x98 gives reply 0 0x98 0 0x80)
    ∷ (sent (bridge_in edition33 0x3FF 0x11 0) 1 0 0x01 gives reply 0 0x01 0x11 0)
    ∷ (sent (bridge_in edition30 0x1F 0x11 0) 1 0 0x01 gives reply 0 0x01 0x11 0)
    -- why the three negotiating calls carry the same support field: the second query leaves it out
    ∷ (sent (bridge_in edition33 0x3FF 0 0) 1 0 0x98 gives reply 0x10 0x10 0 0)
    -- the known support bits of each edition
    ∷ (take33 0x3FF 0 gives reply 0 0 0 0x1FF)
    ∷ (take33 0xFFFFFFFF 0x98 gives reply 0 0x98 0x98 0x1FF)
    ∷ (take30 0x3FF 0 gives reply 0 0 0 0x1F)
    -- the old edition: AER without bit 7 and SHPC without bit 4, whatever the support; no bit above 4, permitted or not
    ∷ (take30 0x1FF 0x3F gives reply 0x10 0x1F 0x1F 0x1F)
    ∷ (take30 0 0x18 gives reply 0 0x18 0x18 0)
    ∷ (take30 0 0x02 gives reply 0 0x02 0x02 0)
    ∷ (sent (bridge_in edition30 0x3FF 0 0) 0 0x1FF 0x3FF gives reply 0x10 0x1F 0x1F 0x1F)
    ∷ []

-- an Express and a conventional bridge of each edition, the class and the plant with one of each
abbrev pub mixed_lesson : StartInput
mixed_lesson = starting one_entry_table (
    row_in edition30 express 3 0 15 0x1F ∷ row_in edition33 express 5 128 159 0x3FF
    ∷ row_in edition33 conventional 3 16 31 0x02 ∷ row_in edition30 conventional 5 32 47 0x02 ∷ [])

-- a taking call: every support bit, control 0x3FF
abbrev pub take_every : List ℕ
take_every = 0 ∷ 0 ∷ 0 ∷ 0 ∷ 0xFF ∷ 0xFF ∷ 0xFF ∷ 0xFF ∷ 0xFF ∷ 3 ∷ 0 ∷ 0 ∷ []

-- it is answered with this status and these bits
abbrev pub got : (status low high : ℕ) → Outcome
got status low high = outcome 0 nothing (uuid_bytes ∷ take_every ∷ (status ∷ 0 ∷ 0 ∷ 0 ∷ 0xFF ∷ 0xFF ∷ 0xFF ∷ 0xFF ∷ low ∷ high ∷ 0 ∷ 0 ∷ []) ∷ [])

abbrev pub holds : (held supported : ℕ) → Outcome
holds held supported = outcome 0 (reported (record { held = held; supported = supported })) []

-- each takes what it can get and reports; the plant's bridge of edition 3.3 is reset, and takes all again
abbrev pub mixed : List Line
mixed =
    (outcomes (start_table mixed_lesson) (
    on class (bridge 0) (osc 1 3 uuid_bytes take_every lent_answer)
    ∷ on plant (bridge 1) (osc 1 3 uuid_bytes take_every lent_answer)
    ∷ on class (bridge 2) (osc 1 3 uuid_bytes take_every lent_answer)
    ∷ on plant (bridge 3) (osc 1 3 uuid_bytes take_every lent_answer)
    ∷ on class (bridge 0) report
    ∷ on plant (bridge 1) report
    ∷ on class (bridge 2) report
    ∷ on plant (bridge 3) report
    ∷ on class (bridge 1) (osc 1 3 uuid_bytes take_every lent_answer)
    ∷ on plant (bridge 1) reset
    ∷ on class (bridge 0) report
    ∷ on plant (bridge 1) report
    ∷ on plant (bridge 1) (osc 1 3 uuid_bytes take_every lent_answer)
    ∷ []) gives
    got 0x10 0x1F 0
    ∷ got 0 0xFF 3
    ∷ got 0x10 0 0
    ∷ got 0x10 0x02 0
    ∷ holds 0x1F 0x1F
    ∷ holds 0x3FF 0x1FF
    ∷ holds 0 0x1FF
    ∷ holds 0x02 0x1F
    ∷ outcome 2 nothing (uuid_bytes ∷ take_every ∷ lent_answer ∷ [])
    ∷ outcome 0 nothing []
    ∷ holds 0x1F 0x1F
    ∷ holds 0 0
    ∷ got 0 0xFF 3
    ∷ [])
    ∷ []

-- ---- refusals 5 and 4 of a place

abbrev pub with_buses : (first last : ℕ) → Bridge
with_buses first last = bridge_of [] (row express 3 first last 0)

abbrev pub places : List Line
places =
    (place_bad 31 7 4092 4 gives false)
    ∷ (place_bad 32 7 4092 4 gives true)
    ∷ (place_bad 31 8 4092 4 gives true)
    ∷ (place_bad 31 7 4094 4 gives true)
    ∷ (place_bad 31 7 4096 1 gives true)
    ∷ (place_bad 31 7 0 0 gives true)
    ∷ (place_bad 31 7 0 3 gives true)
    -- numbers above a byte, and above two
    ∷ (place_bad 256 0 0 4 gives true)
    ∷ (place_bad 0 256 0 4 gives true)
    ∷ (place_bad 0 0 65552 4 gives true)
    ∷ (place_bad 0 0 0 257 gives true)
    ∷ (bus_outside (with_buses 0 255) 255 gives false)
    ∷ (bus_outside (with_buses 0 255) 256 gives true)
    ∷ []

abbrev pub ExampleRuns : Type 0
ExampleRuns = AllHold starts × AllHold run × AllHold searches × AllHold masks × AllHold writes × AllHold reads × AllHold images × AllHold rom_sizes × AllHold registers × AllHold grants × AllHold editions × AllHold mixed × AllHold places
