-- The bench sheet: each starred line, and what document 02, f and h, work out, with what the definitions give and what the document states. P permitted, H held, R requested, G granted.
use Rattle.std.specs.Prelude.{ℕ, zero, suc, ◌≡◌, true, false, List, [], ◌∷◌, ◌++◌, replicate}
use Rattle.rules.specs.Numbers.{le32}
use Rattle.rules.specs.Mcfg.{entry_sound}
use Rattle.rules.specs.Editions.{edition30}
use Rattle.rules.specs.Records.{block_sound, and_or}
use Rattle.rules.specs.Calls.{Operation, osc, address, register_values, addressed, values, Outcome, outcome, number_at, outcome_by, bridge_by}
use Rattle.rules.specs.Claims.{answer_of}
use Rattle.rules.specs.declared.Bridge.{Bridge}

infix 30 ◌gives◌
pub data Line : Type 1 where
  ◌gives◌ : {A : Type 0} → A → A → Line

-- every line of a list holds
abbrev pub AllHold : List Line → Type 0
AllHold [] = Unit {0}
AllHold ((a gives b) ∷ l) = (a ≡ b) × AllHold l

-- an answer buffer, and H after the call
pub record Answered : Type 0 where
  pub answer : List ℕ
  pub held : ℕ

-- a bridge of session 1 with base 0xE0000000 and buses 1 to 2
abbrev pub bridge_in : (edition permitted held supported : ℕ) → Bridge
bridge_in e p h u = record { base = 0xE0000000; permitted = p; held = h; supported = u; segment = 0; owner = record { 0 = 1 }; first_bus = 1; last_bus = 2; edition = e }

-- one of the old edition
abbrev pub bridge_with : (permitted held : ℕ) → Bridge
bridge_with p h = bridge_in edition30 p h 0

-- the owner's operation on it, as bridge 0 of one
abbrev pub number_on : Bridge → Operation → ℕ
number_on b o = number_at 1 (record { 0 = 1 }) (record { 0 = 0 }) b o

-- its outcome
abbrev pub outcome_on : Bridge → Operation → Outcome
outcome_on b o = outcome_by (number_on b o) b o

-- an _OSC call with the right UUID, revision and Count
abbrev pub osc_on : (permitted held : ℕ) → (caps : List ℕ) → Answered
osc_on p h caps =
    let b = bridge_with p h in
    let o = osc 1 3 (0x5B ∷ 0x4D ∷ 0xDB ∷ 0x33 ∷ 0xF7 ∷ 0x1F ∷ 0x1C ∷ 0x40 ∷ 0x96 ∷ 0x57 ∷ 0x74 ∷ 0x41 ∷ 0xC0 ∷ 0x3D ∷ 0xD7 ∷ 0x66 ∷ []) caps (replicate 12 0xAA) in
    record { answer = answer_of (outcome_on b o); held = (bridge_by (number_on b o) b o).held }

-- n times the same AND/OR pair
abbrev pub pairs : ℕ → (and or : ℕ) → List ℕ
pairs zero and or = []
pairs (suc n) and or = le32 and ++ le32 or ++ pairs n and or

-- a block that is one type 2 record with the same pair for every register
abbrev pub same_pairs : (and or : ℕ) → List ℕ
same_pairs and or = 2 ∷ 68 ∷ 0 ∷ 1 ∷ 0 ∷ 0 ∷ 0 ∷ pairs 8 and or

-- a block that is one type 2 record with this pair for the first register; the low 16 bits of the others are kept
abbrev pub first_pair : (and or : ℕ) → List ℕ
first_pair and or = 2 ∷ 68 ∷ 0 ∷ 1 ∷ 0 ∷ 0 ∷ 0 ∷ pairs 1 and or ++ pairs 7 0xFFFF 0

-- the register values of a card on the bridge, whose registers all have the same value, by that block
abbrev pub registers_on : (held value and or : ℕ) → Outcome
registers_on held value and or = outcome_on (bridge_with 0x1F held) (register_values [] (same_pairs and or) (replicate 8 value))

-- the eight new values, Device Control the fifth, and what was lent as it was
abbrev pub new_registers : (value and or : ℕ) → List ℕ → Outcome
new_registers value and or new = outcome 0 (values new) ([] ∷ same_pairs and or ∷ replicate 8 value ∷ [])

-- the starred lines, in order, behind the AND/OR line what document 02, h, refuses; then the value that f works out
abbrev pub sheet : List Line
sheet =
    -- query, DWORDs 01000000 1F000000 1F000000, P 0x1F, H 0: answer 00000000 1F000000 1F000000, H 0
    (osc_on 0x1F 0 (1 ∷ 0 ∷ 0 ∷ 0 ∷ 0x1F ∷ 0 ∷ 0 ∷ 0 ∷ 0x1F ∷ 0 ∷ 0 ∷ 0 ∷ [])
    gives record { answer = 0 ∷ 0 ∷ 0 ∷ 0 ∷ 0x1F ∷ 0 ∷ 0 ∷ 0 ∷ 0x1F ∷ 0 ∷ 0 ∷ 0 ∷ []; held = 0 })
    -- P 0x1F, H 0, R 0x0D: G 0, status 0x10
    ∷ (osc_on 0x1F 0 (0 ∷ 0 ∷ 0 ∷ 0 ∷ 0 ∷ 0 ∷ 0 ∷ 0 ∷ 0x0D ∷ 0 ∷ 0 ∷ 0 ∷ [])
    gives record { answer = 0x10 ∷ 0 ∷ 0 ∷ 0 ∷ 0 ∷ 0 ∷ 0 ∷ 0 ∷ 0 ∷ 0 ∷ 0 ∷ 0 ∷ []; held = 0 })
    -- P 0x0F, H 0, R 0x1F: G 0x02, status 0x10
    ∷ (osc_on 0x0F 0 (0 ∷ 0 ∷ 0 ∷ 0 ∷ 0 ∷ 0 ∷ 0 ∷ 0 ∷ 0x1F ∷ 0 ∷ 0 ∷ 0 ∷ [])
    gives record { answer = 0x10 ∷ 0 ∷ 0 ∷ 0 ∷ 0 ∷ 0 ∷ 0 ∷ 0 ∷ 0x02 ∷ 0 ∷ 0 ∷ 0 ∷ []; held = 0x02 })
    -- P 0x1F, H 0x10, R 0x01: G 0, status 0x10, H 0x10 (document 02, b)
    ∷ (osc_on 0x1F 0x10 (0 ∷ 0 ∷ 0 ∷ 0 ∷ 0 ∷ 0 ∷ 0 ∷ 0 ∷ 0x01 ∷ 0 ∷ 0 ∷ 0 ∷ [])
    gives record { answer = 0x10 ∷ 0 ∷ 0 ∷ 0 ∷ 0 ∷ 0 ∷ 0 ∷ 0 ∷ 0 ∷ 0 ∷ 0 ∷ 0 ∷ []; held = 0x10 })
    -- P 0x1F, H 0, R 0x3F: G 0x1F, status 0x10
    ∷ (osc_on 0x1F 0 (0 ∷ 0 ∷ 0 ∷ 0 ∷ 0 ∷ 0 ∷ 0 ∷ 0 ∷ 0x3F ∷ 0 ∷ 0 ∷ 0 ∷ [])
    gives record { answer = 0x10 ∷ 0 ∷ 0 ∷ 0 ∷ 0 ∷ 0 ∷ 0 ∷ 0 ∷ 0x1F ∷ 0 ∷ 0 ∷ 0 ∷ []; held = 0x1F })
    -- P 0x1F, H 0x1F, R 0x02: G 0x02, status 0, H 0x1F
    ∷ (osc_on 0x1F 0x1F (0 ∷ 0 ∷ 0 ∷ 0 ∷ 0 ∷ 0 ∷ 0 ∷ 0 ∷ 0x02 ∷ 0 ∷ 0 ∷ 0 ∷ [])
    gives record { answer = 0 ∷ 0 ∷ 0 ∷ 0 ∷ 0 ∷ 0 ∷ 0 ∷ 0 ∷ 0x02 ∷ 0 ∷ 0 ∷ 0 ∷ []; held = 0x1F })
    -- base 0xE0000000, place 1/2/3 offset 0x10: 0xE0113010
    ∷ (outcome_on (bridge_with 0 0) (address 1 2 3 0x10 1) gives outcome 0 (addressed 0xE0113010) [])
    -- entry base 0xFFFFFFFFF0000000, buses 0 to 255: sound
    ∷ (entry_sound (record { base = 0xFFFFFFFFF0000000; segment = 0; start_bus = 0; end_bus = 255 }) gives true)
    -- base 0xFFFFFFFFF0100000, end 255: unsound; end 254: sound
    ∷ (entry_sound (record { base = 0xFFFFFFFFF0100000; segment = 0; start_bus = 0; end_bus = 255 }) gives false)
    ∷ (entry_sound (record { base = 0xFFFFFFFFF0100000; segment = 0; start_bus = 0; end_bus = 254 }) gives true)
    -- current 0x2110, AND 0xFFFFFFF0, OR 0x6: 0x2116
    ∷ (and_or 0x2110 0xFFFFFFF0 0x6 gives 0x2116)
    -- document 02, h: "no sound block carries that pair"
    ∷ (outcome_on (bridge_with 0x1F 0x11) (register_values [] (first_pair 0xFFFFFFF0 0x6) (replicate 8 0x2110))
    gives outcome 8 (values (replicate 8 0)) ([] ∷ first_pair 0xFFFFFFF0 0x6 ∷ replicate 8 0x2110 ∷ []))
    -- the 42-byte block, the example of document 002: sound
    ∷ (block_sound (
    0x00 ∷ 0x14 ∷ 0x00 ∷ 1 ∷ 0 ∷ 0 ∷ 0 ∷ 8 ∷ 0 ∷ 0 ∷ 0 ∷ 0x40 ∷ 0 ∷ 0 ∷ 0 ∷ 1 ∷ 0 ∷ 0 ∷ 0 ∷ 0 ∷ 0 ∷ 0 ∷ 0
    ∷ 0x01 ∷ 0x10 ∷ 0x00 ∷ 1 ∷ 0 ∷ 0 ∷ 0 ∷ 3 ∷ 0 ∷ 0 ∷ 0 ∷ 4 ∷ 0 ∷ 0 ∷ 0 ∷ 7 ∷ 0 ∷ 0 ∷ 0 ∷ []) gives true)
    -- document 02, f: current 0x2810, AND 0x5020, OR 0x5020: 0x2000 in Device Control, 0x5020 in the others
    ∷ (registers_on 0x11 0x2810 0x5020 0x5020
    gives new_registers 0x2810 0x5020 0x5020 (0x5020 ∷ 0x5020 ∷ 0x5020 ∷ 0x5020 ∷ 0x2000 ∷ 0x5020 ∷ 0x5020 ∷ 0x5020 ∷ []))
    ∷ []

abbrev pub BenchSheet : Type 0
BenchSheet = AllHold sheet
