-- Document 01, "Record blocks and register values", and document 02, a: what a search of lent bytes gives, its number and a part of them.
use Rattle.std.specs.Prelude.{ℕ, zero, suc, ◌+◌, List, take, drop}
use Rattle.std.proofs.Math.Option.{Option, none, some}
use Rattle.rules.specs.declared.FoundAt.{FoundAt}

-- "Refusal numbers": "A refused call hands back zeros (or the empty part) beside its number"
abbrev pub refused : ℕ → FoundAt
refused k = record { number = k; start = 0; size = 0 }

-- by the number: 0 hands back the part that is what was found, any other the empty part
abbrev pub part_by : {A : Type 0} → (A → FoundAt) → ℕ → Option A → FoundAt
part_by as_part zero none = refused 0
part_by as_part zero (some x) = as_part x
part_by as_part (suc k) o = refused (suc k)

-- the bytes of the part
abbrev pub part : FoundAt → List ℕ → List ℕ
part r l = take r.size (drop r.start l)

-- "never a copy": where the part lies, by where the bytes lie, each a region of memory and an offset
abbrev pub part_at : FoundAt → ℕ × ℕ → ℕ × ℕ
part_at r p = (p.0, r.start + p.1)
