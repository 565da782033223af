-- The sums that a step of eight bytes adds to.
use Rattle.std.specs.Prelude.{ℕ, List}
use Rattle.rules.specs.Numbers.{sum}

-- all lanes added
abbrev pub lanes_sum : List ℕ → ℕ
lanes_sum l = sum l
