-- after k turns k numbers are written
use Rattle.std.proofs.Common.{◌≡◌}
use Rattle.writer.proofs.Splicing.{numbers_written}
use Rattle.writer.proofs.write_numbers.Given as goal

abbrev pub invariant-loop-k : goal.invariant-loop-k
invariant-loop-k g l = l.b ≡ numbers_written l.k l.at l.v l.initial.b
