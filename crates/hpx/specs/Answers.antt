-- Document 01, "Record blocks and register values": what the register values answer.
use Rattle.std.specs.Prelude.{ℕ, zero, suc, Bool, List, replicate}
use Rattle.std.proofs.Math.Option.{Option, none, some}
use Rattle.rules.specs.Records.{new_values}
use Rattle.rules.specs.declared.Field.{Field}

-- by the number: 0 hands back the new values, any other zeros
abbrev pub values_at : ℕ → (aer_held : Bool) → List ℕ → (current : List ℕ) → Option Field → List ℕ
values_at zero aer_held l current none = replicate 8 0
values_at zero aer_held l current (some f) = new_values aer_held l f 0 current
values_at (suc k) aer_held l current o = replicate 8 0
