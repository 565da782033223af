-- Document 01, "Record blocks and register values", and document 02, a: a part of lent bytes, or a refusal, as the `FoundAt` of `rules`.
use Rattle.std.specs.Prelude.{Result, Ok, Err}
use Rattle.codes.specs.Numbers.{number_of}
use Rattle.codes.specs.declared.Refusal.{Refusal}
use Rattle.rules.specs.Parts.{refused}
use Rattle.rules.specs.declared.FoundAt.{FoundAt}
use Rattle.parts.specs.declared.Part.{Part}

-- a part that was found
abbrev pub placed : Part → FoundAt
placed p = record { number = 0; start = p.start; size = p.size }

-- what a search gives: its number, and the part or the empty one
abbrev pub found_at : Result Part Refusal → FoundAt
found_at (Ok p) = placed p
found_at (Err r) = refused (number_of r)
