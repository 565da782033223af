-- by what the present records come to
use Rattle.std.proofs.Common.{◌++◌, length, drop, ap, ◌∙◌, arith}
use Rattle.std.proofs.lemmas.Result.{err_from_is_err_and}
use Rattle.rules.specs.Writer.{laid_down}
use Rattle.writer.specs.Measures.{measured}
use Rattle.writer.proofs.Laid.{refused, is_length, too_short, done}
use Rattle.writer.proofs.write_records.Goals as goal

pub returns-in_err-length : goal.returns-in_err-length
returns-in_err-length c =
    let p = err_from_is_err_and c.from_residual.result c.from_residual.ensures.1 in
    rw (p.1, p.2) (refused c.args.s c.args.buffer.now _ (c.in_err-length.ensures ∙ ap measured c.from-present.ensures))

pub returns-then-buffer-length : goal.returns-then-buffer-length
returns-then-buffer-length c =
    too_short c.args.s c.args.buffer.now c.in_ok-length.length (c.in_ok-length.ensures ∙ ap measured c.from-present.ensures) (omega arith)

pub lay_down-requires : goal.lay_down-requires
lay_down-requires c =
    rw c.from-present.ensures (omega (arith, is_length c.args.s c.args.buffer.now c.in_ok-length.length (c.in_ok-length.ensures ∙ ap measured c.from-present.ensures)))

pub returns : goal.returns
returns c =
    let b = c.args.buffer.now in
    done c.args.s b c.in_ok-length.length (c.in_ok-length.ensures ∙ ap measured c.from-present.ensures) (omega arith) c.lay_down.new.buffer
    (c.lay_down.ensures ∙ ap (λ l. laid_down l ++ drop (length (laid_down l)) b) c.from-present.ensures)
