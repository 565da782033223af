-- the rows so far are judged, and none is refused
use Rattle.start.proofs.Judging.{Reached}
use Rattle.lent_rows.proofs.judge.Given as goal

abbrev pub invariant-loop-i : goal.invariant-loop-i
invariant-loop-i l = Reached (record { mcfg = l.mcfg; rows = l.rows }) l.i l.bridges
