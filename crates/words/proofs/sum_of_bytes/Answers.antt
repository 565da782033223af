use Rattle.std.proofs.Common.{rules, ◌≡◌, ◌%◌, arith}
use Rattle.std.specs.List.{fold}
use Rattle.words.proofs.Sums.{plus, wrapped}
use Rattle.words.proofs.sum_of_bytes.Goals as goal

pub returns : goal.returns
returns c =
    let folded : c.fold.result ≡ fold plus 0 c.args.b.now = search rules in
    let w : fold plus (0 % 256) c.args.b.now ≡ _ = wrapped c.args.b.now 0 in
    omega arith
