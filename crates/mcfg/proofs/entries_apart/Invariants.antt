-- the records left decide as all do
use Rattle.std.proofs.Common.{◌≡◌, length, map}
use Rattle.rules.specs.Lists.{pairwise}
use Rattle.mcfg.specs.Rest.{entry_in, seen_apart}
use Rattle.mcfg.proofs.entries_apart.Given as goal

abbrev pub invariant-loop-first : goal.invariant-loop-first
invariant-loop-first l = pairwise seen_apart (map entry_in l.rest) ≡ pairwise seen_apart (map entry_in l.fn.records)

abbrev pub decreases-loop-first : goal.decreases-loop-first
decreases-loop-first l = length l.rest
