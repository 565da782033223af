-- Document 02, d: the two editions of the control field, "chosen per bridge row at start": control bits with what each needs, and known support bits.
use Rattle.std.specs.Prelude.{ℕ, true, cond, List, [], ◌∷◌, eqb, length}
use Rattle.rules.specs.Numbers.{number}
use Rattle.rules.specs.Granting.{Needs, needing}

-- their numbers in a row and in the table: "the present one", of document 001, which is the specification's revision 3.0; "edition 3.3", of document 000
abbrev pub edition30 : ℕ
edition30 = 0

abbrev pub edition33 : ℕ
edition33 = 1

-- document 01: "0 Express hot plug, 1 SHPC hot plug, 2 PME, 3 AER, 4 Express capability structure"; what 0, 2 and 3 need is document 02, b
abbrev pub controls30 : List Needs
controls30 =
    needing (4 ∷ []) []  -- 0 Express hot plug
    ∷ needing [] []  -- 1 SHPC hot plug
    ∷ needing (4 ∷ []) []  -- 2 PME
    ∷ needing (4 ∷ []) []  -- 3 AER
    ∷ needing [] []  -- 4 Express capability structure
    ∷ []

-- document 000, tables 4-5 and 4-6 and section 4.5.2.4, all that they require together
abbrev pub controls33 : List Needs
controls33 =
    needing (4 ∷ []) []  -- 0 PCI Express Native Hot Plug: "must also set bit 4"
    ∷ needing (4 ∷ []) []  -- 1 SHPC Native Hot Plug: "must also set bit 4"
    ∷ needing (4 ∷ []) []  -- 2 PCI Express Native Power Management Events: "must also set bit 4"
    ∷ needing (4 ∷ 7 ∷ []) []  -- 3 PCI Express Advanced Error Reporting: bit 4; it stays with firmware "if it retains ownership of" bit 7
    ∷ needing [] []  -- 4 PCI Express Capability Structure
    ∷ needing (4 ∷ []) []  -- 5 Latency Tolerance Reporting: "must also set bit 4"
    ∷ needing [] []  -- 6 no title: all 1's reads are never taken for valid data
    ∷ needing (3 ∷ 4 ∷ []) (7 ∷ [])  -- 7 Downstream Port Containment: "bit 7 of the Support field .. and bits 3 and 4 of the Control field"
    ∷ needing (4 ∷ []) []  -- 8 PCI Express Completion Timeout: "must also set bit 4"
    ∷ needing [] []  -- 9 PCI Express System Firmware Intermediary
    ∷ []

-- the control bits of an edition, by its number
unfoldable pub control_bits : (edition : ℕ) → List Needs
control_bits edition = cond (eqb edition edition33) controls33 controls30

-- the known control bits: those of the list
unfoldable pub known_control : (edition : ℕ) → ℕ
known_control edition = number (length (control_bits edition)) (λ i. true)

-- the known support bits: document 01, "bits 0 to 4 known"; document 000, table 4-4, bits 0 to 8
unfoldable pub known_support : (edition : ℕ) → ℕ
known_support edition = cond (eqb edition edition33) 0x1FF 0x1F
