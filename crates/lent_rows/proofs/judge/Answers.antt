-- What is refused before a row is judged; a row is judged as start judges it.
use Rattle.std.proofs.lemmas.Result.{err_from_is_err_and}
use Rattle.start.proofs.Judging.{first_refused, reached_none, reached_next, row_refused, answered}
use Rattle.lent_rows.proofs.judge.Goals as goal

pub returns-in_err-first_refusal : goal.returns-in_err-first_refusal
returns-in_err-first_refusal c =
    let p = err_from_is_err_and c.from_residual.result c.from_residual.ensures.1 in rw (p.1, p.2, c.no_bridges.ensures) (first_refused _ _ c.in_err-first_refusal.ensures)

pub returns : goal.returns
returns c = answered _ _ _ c.loop-i.invariant c.loop-i-test.false

pub loop-i-preserved : goal.loop-i-preserved
loop-i-preserved c = reached_next _ _ _ c.loop-i.invariant c.loop-i-test.true _ (rw c.apart_before.ensures at c.in-Ok.ensures)

pub returns-in-Err : goal.returns-in-Err
returns-in-Err c = rw c.no_bridges-in-Err.ensures (row_refused _ _ _ c.loop-i.invariant c.loop-i-test.true _ (rw c.apart_before.ensures at c.in-Err.ensures))

pub loop-i-init : goal.loop-i-init
loop-i-init c = reached_none _ _ c.in_ok-first_refusal.ensures c.no_bridges.ensures
