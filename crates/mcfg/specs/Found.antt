-- What a search answers.
use Rattle.std.specs.Prelude.{Option as Answer, Some, None}
use Rattle.std.proofs.Math.Option.{Option, none, some}

-- the element that was found, if any
abbrev pub answer_of : {A : Type 0} → Option A → Answer A
answer_of none = None
answer_of (some x) = Some x
