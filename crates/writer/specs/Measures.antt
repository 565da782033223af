-- Document 02, g: the present records, what they come to before any is written, and what the writer gives.
use Rattle.std.specs.Prelude.{ℕ, cond, List, [], ◌∷◌, ◌++◌, length, Option, Some, None, Result, Ok, Err}
use Rattle.codes.specs.Numbers.{number_of}
use Rattle.codes.specs.declared.Refusal.{Refusal}
use Rattle.codes.specs.declared.Refusal.TheVariants.{RecordValue}
use Rattle.rules.specs.Lists.{every}
use Rattle.rules.specs.Writer.{Setting, pci_numbers, pci_x_numbers, express_numbers, laid_down, setting_sound}
use Rattle.rules.specs.declared.Written.{Written}
use Rattle.writer.specs.declared.Present.{Present}

-- a record that may be absent, by its type and its numbers
abbrev pub if_some : {S : Type 0} → (type : ℕ) → (numbers : S → List ℕ) → Option S → List Setting
if_some type numbers None = []
if_some type numbers (Some r) = record { type = type; numbers = numbers r } ∷ []

-- "at most one record of each known type", those present, "by rising type"
abbrev pub records : Present → List Setting
records p = if_some 0 pci_numbers p.pci ++ if_some 1 pci_x_numbers p.pci_x ++ if_some 2 express_numbers p.express

-- the bytes of records, where no value is out of its range; else 14
abbrev pub measured : List Setting → Result ℕ Refusal
measured l = cond (every setting_sound l) (Ok (length (laid_down l))) (Err RecordValue)

-- the writer's length or refusal, as it crosses to C
abbrev pub written : Result ℕ Refusal → Written
written (Ok n) = record { number = 0; length = n }
written (Err r) = record { number = number_of r; length = 0 }
