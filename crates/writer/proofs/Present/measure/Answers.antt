-- the last of three is refused
use Rattle.std.proofs.lemmas.Result.{err_from_is_err_and}
use Rattle.writer.proofs.Laid.{measured_three}
use Rattle.writer.proofs.Present.measure.Goals as goal

pub returns-in_err-measure-3 : goal.returns-in_err-measure-3
returns-in_err-measure-3 c =
    let p = err_from_is_err_and c.from_residual-in_err-measure-3.result c.from_residual-in_err-measure-3.ensures.1 in
    rw (p.1, p.2) (measured_three c.args.self _ _ _ c.in_ok-measure.ensures c.in_ok-measure-2.ensures c.in_err-measure-3.ensures)
