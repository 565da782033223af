-- Document 02, d: the control bits of a list whose needs are met.
use Rattle.std.specs.Prelude.{ℕ, List, length}
use Rattle.rules.specs.Numbers.{within, number}
use Rattle.rules.specs.Granting.{Needs, needs_of}
use Rattle.rules.specs.Editions.{control_bits}
use Rattle.codes.specs.Numbers.{edition_number}
use Rattle.codes.specs.declared.Edition.{Edition}

-- the control bits of an edition
abbrev pub controls : Edition → List Needs
controls e = control_bits (edition_number e)

-- their control bits are among the available ones
unfoldable pub needs_met : List Needs → (available : ℕ) → ℕ
needs_met bits available = number (length bits) (λ i. within (needs_of bits i).controls available)

-- their support bits are among the declared ones
unfoldable pub supports_met : List Needs → (declared : ℕ) → ℕ
supports_met bits declared = number (length bits) (λ i. within (needs_of bits i).supports declared)
