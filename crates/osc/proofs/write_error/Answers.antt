-- Past the end of the buffer a turn changes nothing.
use Rattle.std.proofs.Common.{◌≡◌, ◌+◌, ◌*◌, ap, arith, length, take}
use Rattle.osc.specs.Statuses.{status_number}
use Rattle.osc.proofs.Errors.{all_right, more_right}
use Rattle.osc.proofs.write_error.Goals as goal
use Rattle.osc.proofs.write_error.Goals.{then-at-answer, else-at-answer}

pub loop-dword-preserved : goal.loop-dword-preserved
loop-dword-preserved c =
    let l = c.loop-dword in
    let at = 4 * l.dword in
    let n = length c.args.answer.now in
    let next : 4 * (l.dword + 1) ≡ at + 4 = omega arith in
    elim c.if-at-answer.branch [
      | then-at-answer w ↦ rw (next, w.answer-is)
          (more_right l.answer (status_number c.args.error) n at _ (omega arith) (omega arith) (omega arith) w.write32-then-at-answer.ensures l.invariant)
      | else-at-answer w ↦ rw (next, w.answer-is)
          (ap (take (at + 4)) (all_right l.answer (status_number c.args.error) n at (omega arith) (omega arith) (omega arith) l.invariant))
    ]
