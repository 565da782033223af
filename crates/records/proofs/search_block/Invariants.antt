-- the pass over the fields that are left gives the answer
use Rattle.std.proofs.Common.{length}
use Rattle.records.proofs.Walking.{Walk}
use Rattle.records.proofs.search_block.Given as goal

abbrev pub invariant-loop-rest : goal.invariant-loop-rest
invariant-loop-rest l = Walk l.b l.record_type l.rest l.seen l.found

abbrev pub decreases-loop-rest : goal.decreases-loop-rest
decreases-loop-rest l = length l.rest
