-- Document 01, "Record blocks and register values": _HPX setting records, the record search, register values.
use Rattle.std.specs.Prelude.{ℕ, zero, suc, ◌+◌, ◌*◌, ◌%◌, Bool, false, not, cond, ◌&&◌, ◌||◌, List, [], ◌∷◌, eqb, leb, ltb, length, get_or}
use Rattle.std.proofs.Math.Option.{Option, none, some}
use Rattle.std.specs.Int.Bits.{bit_and, bit_or}
use Rattle.rules.specs.Limits.{max_block}
use Rattle.rules.specs.Lists.{every, pairwise, first, is_none, prepend}
use Rattle.rules.specs.Numbers.{byte, word, dword, bit, within, number}
use Rattle.rules.specs.Parts.{part_by}
use Rattle.rules.specs.Refusals.{Refusal, ◌if◌, first_of}
use Rattle.rules.specs.declared.Field.{Field}
use Rattle.rules.specs.declared.FoundAt.{FoundAt}

-- the field at byte i: "tag (record type, 1 byte), length (2 bytes, little-endian)"
abbrev pub field_at : List ℕ → ℕ → Field
field_at l i = record { start = i; tag = byte l i; size = word l (1 + i) }

-- the fields from byte i "to its very end", at most n; none where "a length running past the end" or "one or two bytes left over" ends the walk
abbrev pub fields_from : ℕ → List ℕ → ℕ → Option (List Field)
fields_from zero l i = cond (eqb i (length l)) (some []) none
fields_from (suc n) l i =
    let next : ℕ = 3 + (field_at l i).size + i in
    let rest : Option (List Field) = prepend (field_at l i) (fields_from n l next) in
    cond (eqb i (length l)) (some []) (cond (leb next (length l)) rest none)

-- the fields of a block, which has no more fields than bytes
unfoldable pub fields_of : List ℕ → Option (List Field)
fields_of l = fields_from (length l) l 0

-- number k of the field's value, "the first being the revision"
abbrev pub value : List ℕ → Field → ℕ → ℕ
value l f k = dword l (3 + 4 * k + f.start)

-- a revision 1 record of type 0, 1 or 2
abbrev pub is_record : List ℕ → Field → Bool
is_record l f = leb f.tag 2 && eqb (value l f 0) 1

-- "Revision 1 has length 20, 16 or 68 for types 0, 1, 2"
abbrev pub record_size : ℕ → ℕ
record_size zero = 20
record_size (suc zero) = 16
record_size (suc (suc n)) = 68

-- the registers of table 6-9, from 0: Uncorrectable Error Mask and Severity, Correctable Error Mask, Advanced Error Capabilities and Control,
-- Device Control, Link Control, Secondary Uncorrectable Error Severity and Mask
abbrev pub device_control_register : ℕ
device_control_register = 4

abbrev pub link_control_register : ℕ
link_control_register = 5

-- type 2: "eight AND/OR pairs", which numbers those of register k are
abbrev pub and_number : ℕ → ℕ
and_number k = 1 + 2 * k

abbrev pub or_number : ℕ → ℕ
or_number k = 2 + 2 * k

-- the masks of register k
abbrev pub and_mask : List ℕ → Field → ℕ → ℕ
and_mask l f k = value l f (and_number k)

abbrev pub or_mask : List ℕ → Field → ℕ → ℕ
or_mask l f k = value l f (or_number k)

-- document 02, h: "a bit clear in the AND mask and set in the OR mask" has no meaning, so each bit of OR is one of AND
abbrev pub meaningful : (and or : ℕ) → Bool
meaningful and or = within or and

-- what the numbers of a value must keep: number k is at most so much; the pair of register k is meaningful
infix 40 ◌at_most◌
pub data Range : Type 0 where
  ◌at_most◌ : (number most : ℕ) → Range
  pair_of : (register : ℕ) → Range

-- the ranges of types 0, 1 and 2, once for the search and for the writer of document 02, g; the fields are those of document 002, tables 6-7 to 6-9
abbrev pub ranges : ℕ → List Range
-- "cache line and latency at most 255, SERR and PERR 0 or 1"
ranges zero = (1 at_most 255) ∷ (2 at_most 255) ∷ (3 at_most 1) ∷ (4 at_most 1) ∷ []
-- "read count at most 3, both split counts at most 7"
ranges (suc zero) = (1 at_most 3) ∷ (2 at_most 7) ∷ (3 at_most 7) ∷ []
-- "those of Device Control and Link Control at most 65535"; document 02, h, of all "eight AND/OR pairs"
ranges (suc (suc n)) =
    (and_number device_control_register at_most 65535) ∷ (or_number device_control_register at_most 65535)
    ∷ (and_number link_control_register at_most 65535) ∷ (or_number link_control_register at_most 65535)
    ∷ pair_of 0 ∷ pair_of 1 ∷ pair_of 2 ∷ pair_of 3 ∷ pair_of 4 ∷ pair_of 5 ∷ pair_of 6 ∷ pair_of 7 ∷ []

-- one range holds, where v k is number k of the value
abbrev pub in_range : (ℕ → ℕ) → Range → Bool
in_range v (k at_most m) = leb (v k) m
in_range v (pair_of k) = meaningful (v (and_number k)) (v (or_number k))

-- every range of the type holds
abbrev pub in_ranges : ℕ → (ℕ → ℕ) → Bool
in_ranges type v = every (in_range v) (ranges type)

-- what is sound of one field
abbrev pub field_sound : List ℕ → Field → Bool
field_sound l f =
    ltb 2 f.tag  -- tags above 2 are skipped whatever their value
    || (leb 4 f.size && eqb (f.size % 4) 0  -- a length of at least 4, a multiple of 4
    && (not (eqb (value l f 0) 1)  -- a revision other than 1 is skipped
    || (eqb f.size (record_size f.tag) && in_ranges f.tag (value l f))))

-- "at most once each"
abbrev pub not_twice : List ℕ → Field → Field → Bool
not_twice l f g = not (is_record l f && is_record l g && eqb f.tag g.tag)

-- the walk came to the end, and the fields are sound
abbrev pub sound_fields : List ℕ → Option (List Field) → Bool
sound_fields l none = false
sound_fields l (some r) = every (field_sound l) r && pairwise (not_twice l) r

-- "A block is .. fields to its very end", of 0 to 4096 bytes (document 02, e)
unfoldable pub block_sound : List ℕ → Bool
block_sound l = leb (length l) max_block && sound_fields l (fields_of l)

-- "If the slot's is not empty it alone decides"
abbrev pub deciding : (slot block : List ℕ) → List ℕ
deciding [] block = block
deciding (x ∷ slot) block = x ∷ slot

-- the revision 1 record of the asked type, "a type above 2 is never found"
abbrev pub record_among : List ℕ → ℕ → Option (List Field) → Option Field
record_among l type none = none
record_among l type (some r) = first (λ f. is_record l f && eqb f.tag type) r

-- the same of a block
unfoldable pub record_in : List ℕ → ℕ → Option Field
record_in l type = record_among l type (fields_of l)

-- ---- the record search: its number, and the part of the deciding block handed back

-- "Record search 8, 9"
abbrev pub record_refusals : (slot block : List ℕ) (type : ℕ) → List Refusal
record_refusals slot block type =
    (8 if not (block_sound (deciding slot block)))
    ∷ (9 if is_none (record_in (deciding slot block) type))
    ∷ []

-- a record as a part of its block, "header included"
abbrev pub record_part : Field → FoundAt
record_part f = record { number = 0; start = f.start; size = 3 + f.size }

-- by the number: the record, or the empty part
abbrev pub found_by : ℕ → Option Field → FoundAt
found_by k o = part_by record_part k o

-- the record search
abbrev pub find_record : (slot block : List ℕ) (type : ℕ) → FoundAt
find_record slot block type = found_by (first_of (record_refusals slot block type)) (record_in (deciding slot block) type)

-- where the deciding block lies, a region of memory and an offset
abbrev pub deciding_at : (slot : List ℕ) → (slot_at block_at : ℕ × ℕ) → ℕ × ℕ
deciding_at [] slot_at block_at = block_at
deciding_at (x ∷ slot) slot_at block_at = slot_at

-- ---- register values

-- refusal 10: "the register list is not 8 numbers, or its Device Control or Link Control is above 65535"
abbrev pub registers_bad : List ℕ → Bool
registers_bad current = not (eqb (length current) 8) || ltb 65535 (get_or current device_control_register 0) || ltb 65535 (get_or current link_control_register 0)

-- "New = (current AND mask) OR mask, bit by bit"
abbrev pub and_or : (current and or : ℕ) → ℕ
and_or current and or = bit_or (bit_and current and) or

-- document 02, f: Device Control's "bits 5 to 7 and 12 to 14", Max_Payload_Size and Max_Read_Request_Size
abbrev pub size_bit : ℕ → Bool
size_bit i = (leb 5 i && leb i 7) || (leb 12 i && leb i 14)

-- these bits "keep their current value whatever the record says"; the rest of the 32 are those computed
unfoldable pub sizes_kept : (current computed : ℕ) → ℕ
sizes_kept current computed = number 32 (λ i. cond (size_bit i) (bit current i) (bit computed i))

-- register k, by its pair; Device Control with its sizes kept; the six error registers "unless AER (bit 3) is held, when they stay"
abbrev pub new_value : (aer_held : Bool) → List ℕ → Field → (k current : ℕ) → ℕ
new_value aer_held l f k current =
    let computed = and_or current (and_mask l f k) (or_mask l f k) in
    cond (eqb k device_control_register) (sizes_kept current computed)
    (cond (aer_held && not (eqb k link_control_register)) current computed)

-- the new values of the registers from k on
abbrev pub new_values : (aer_held : Bool) → List ℕ → Field → ℕ → List ℕ → List ℕ
new_values aer_held l f k [] = []
new_values aer_held l f k (c ∷ current) = new_value aer_held l f k c ∷ new_values aer_held l f (suc k) current
