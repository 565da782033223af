-- Document 01, "Record blocks and register values": the fields of a block by their bytes, and what the parts of the walk answer.
use Rattle.std.specs.Prelude.{◌≡◌, ℕ, ◌+◌, ◌≤◌, Bool, true, false, List, ◌∷◌, ◌++◌, length, take, drop, Result, Ok, Err}
use Rattle.codes.specs.declared.Refusal.{Refusal}
use Rattle.codes.specs.declared.Refusal.TheVariants.{RecordBlock}
use Rattle.rules.specs.Numbers.{byte, le16}
use Rattle.rules.specs.Records.{field_at}
use Rattle.rules.specs.declared.Field.{Field}
use Rattle.records.specs.declared.Tagged.{Tagged}

-- the bytes of a field, "tag (record type, 1 byte), length (2 bytes, little-endian), value", and the field that they are
abbrev pub bytes_of : Tagged → List ℕ
bytes_of t = (t.tag ∷ le16 (length t.value.now)) ++ t.value.now

abbrev pub field_of : Tagged → Field
field_of t = record { start = 0; tag = t.tag; size = length t.value.now }

-- "A field taken apart": the one that stands first among these bytes, which are as many as it needs, and the bytes after it
abbrev pub IsSplit : List ℕ → Tagged → List ℕ → Type 0
IsSplit l t rest =
    (3 + (field_at l 0).size ≤ length l)
    × (t.tag ≡ byte l 0)
    × (t.value.now ≡ take (field_at l 0).size (drop 3 l))
    × (rest ≡ drop (3 + (field_at l 0).size) l)

-- a field by the two tests of `rules`: it is refused unless it is sound; is it a revision 1 record
abbrev pub judged : (sound is_record : Bool) → Result Bool Refusal
judged false r = Err RecordBlock
judged true r = Ok r
