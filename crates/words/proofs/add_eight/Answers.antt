use Rattle.std.proofs.Common.{arith}
use Rattle.words.proofs.Sums.{added}
use Rattle.words.proofs.add_eight.Goals as goal

pub returns : goal.returns
returns c = added c.args.lanes c.args.eight.now (omega arith)
