-- each behind the one before
use Rattle.std.proofs.Common.{List, ℕ, ◌++◌, length, drop, sym, ap, ◌∙◌}
use Rattle.rules.specs.Writer.{laid_down}
use Rattle.writer.proofs.Laid.{first, second, third, laid_three}
use Rattle.writer.proofs.Splicing.{three_written}
use Rattle.writer.proofs.Present.lay_down.Goals as goal

pub returns : goal.returns
returns c =
    let p = c.args.self in
    let b = c.args.buffer.now in
    three_written (laid_down (first p)) (laid_down (second p)) (laid_down (third p)) b _ _ _ _ _ c.write_if-second.ensures.0 c.write_if-third.ensures.0
    c.write_if-second.ensures.1 c.write_if-third.ensures.1 c.write_if.ensures.1
    ∙ ap (λ (x : List ℕ). x ++ drop (length x) b) (sym (laid_three p))
