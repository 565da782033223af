-- Document 01, "Granting control": what a bridge grants, _OSC framing, the answer, and what a call adds.
use Rattle.std.specs.Prelude.{ℕ, ◌-◌, ◌*◌, Bool, not, cond, ◌&&◌, ◌||◌, List, [], ◌∷◌, ◌++◌, eqb, ltb, length, replicate}
use Rattle.std.specs.Int.Bits.{bit_and, bit_or}
use Rattle.rules.specs.Numbers.{dword, le32, same_bytes, bit, within}
use Rattle.rules.specs.Tables.{holding}
use Rattle.rules.specs.Granting.{granted_by}
use Rattle.rules.specs.Editions.{control_bits, known_support}
use Rattle.rules.specs.declared.Bridge.{Bridge}
use Rattle.rules.specs.declared.Holding.{Holding}

-- "declared (among the supported bits or the known ones of this call)"
abbrev pub declared : Bridge → (support : ℕ) → ℕ
declared b support = bit_or b.supported (bit_and support (known_support b.edition))

-- document 02, d: "the granted set", by the control bits of the bridge's edition
unfoldable pub granted : Bridge → (support requested : ℕ) → ℕ
granted b support requested = granted_by (control_bits b.edition) b.permitted b.held (declared b support) requested

-- "status 0x10 if any requested bit is not granted, else 0"
abbrev pub grant_status : (requested granted : ℕ) → ℕ
grant_status r g = cond (within r g) 0 0x10

-- the UUID as it "stands in the buffer"
abbrev pub uuid_bytes : List ℕ
uuid_bytes = 0x5B ∷ 0x4D ∷ 0xDB ∷ 0x33 ∷ 0xF7 ∷ 0x1F ∷ 0x1C ∷ 0x40 ∷ 0x96 ∷ 0x57 ∷ 0x74 ∷ 0x41 ∷ 0xC0 ∷ 0x3D ∷ 0xD7 ∷ 0x66 ∷ []

-- refusal 3: "UUID not 16 bytes, Count 0 or above 8, capability length or answer length not 4 x Count"
unfoldable pub framing_bad : (count : ℕ) (uuid caps answer : List ℕ) → Bool
framing_bad count uuid caps answer =
    not (eqb (length uuid) 16)
    || eqb count 0
    || ltb 8 count
    || not (eqb (length caps) (4 * count))
    || not (eqb (length answer) (4 * count))

-- "has the right UUID, revision 1, Count 3"
unfoldable pub recognised : (revision count : ℕ) (uuid : List ℕ) → Bool
recognised revision count uuid = same_bytes uuid uuid_bytes && eqb revision 1 && eqb count 3

-- "UUID differs, status 0x04; revision not 1, status 0x08; Count not 3, status 0x02"
abbrev pub error_status : (revision : ℕ) (uuid : List ℕ) → ℕ
error_status revision uuid = cond (not (same_bytes uuid uuid_bytes)) 0x04 (cond (not (eqb revision 1)) 0x08 0x02)

-- "Capability DWORDs are little-endian: first status, with bit 0 the query flag on input; second support; third control"
abbrev pub status : List ℕ → ℕ
status caps = dword caps 0

abbrev pub query : List ℕ → Bool
query caps = bit (status caps) 0

abbrev pub support : List ℕ → ℕ
support caps = dword caps 4

abbrev pub control : List ℕ → ℕ
control caps = dword caps 8

-- the answer buffer: status, "the support DWORD as it came; the granted bits"; with an error status "all later DWORDs are 0"
unfoldable pub osc_answer : Bridge → (revision count : ℕ) (uuid caps : List ℕ) → List ℕ
osc_answer b revision count uuid caps =
    let g = granted b (support caps) (control caps) in
    cond (recognised revision count uuid)
    (le32 (grant_status (control caps) g) ++ le32 (support caps) ++ le32 g)
    (le32 (error_status revision uuid) ++ replicate (4 * count - 4) 0)

-- "granted bits join the held ones and known support bits join the supported ones"
abbrev pub joined : Bridge → List ℕ → Holding
joined b caps = record { held = bit_or b.held (granted b (support caps) (control caps)); supported = declared b (support caps) }

-- "A query changes nothing", nor does a call with another UUID, revision or Count
unfoldable pub osc_after : Bridge → (revision count : ℕ) (uuid caps : List ℕ) → Holding
osc_after b revision count uuid caps = cond (recognised revision count uuid && not (query caps)) (joined b caps) (holding b)
