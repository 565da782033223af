-- one number more
use Rattle.std.proofs.Common.{arith}
use Rattle.writer.proofs.Splicing.{number_next}
use Rattle.writer.proofs.write_numbers.Goals as goal

pub loop-k-preserved : goal.loop-k-preserved
loop-k-preserved g c =
    number_next c.loop-k.k c.args.at c.args.v.now c.args.b.now c.loop-k.b _ (omega (arith, c.told-v)) (omega arith) c.loop-k.invariant c.write32.ensures
