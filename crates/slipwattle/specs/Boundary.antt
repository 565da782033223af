-- What crosses to C where the call's own answer cannot: a found record, by where it lies.
use Rattle.std.specs.Prelude.{ℕ, not, ◌&&◌, List, eqb, length}
use Rattle.rules.specs.Records.{find_record}
use Rattle.rules.specs.declared.FoundAt.{FoundAt}
use Rattle.rules.specs.declared.RecordAt.{RecordAt}

-- a part found lies in the slot's block if that is not empty, for then "it alone decides"
abbrev pub crossing : (slot : List ℕ) → FoundAt → RecordAt
crossing slot f = record { number = f.number; in_slot = eqb f.number 0 && not (eqb (length slot) 0); start = f.start; size = f.size }

-- the record search as it crosses; zeros beside the number when refused
abbrev pub record_at : (slot block : List ℕ) (type : ℕ) → RecordAt
record_at slot block type = crossing slot (find_record slot block type)
