use Rattle.std.proofs.Common.{rules}
use Rattle.rules.specs.Records.{value}
use Rattle.records.specs.Fields.{bytes_of, field_of}
use Rattle.records.proofs.Bytes.{number_at}
use Rattle.records.proofs.Numbers.{made, numbers_length, number_of_value}
use Rattle.records.proofs.Tagged.numbers.Goals as goal

pub returns : goal.returns
returns g c =
    let l = bytes_of c.args.self in
    let f = field_of c.args.self in
    made _ (value l f) _ (λ i y q k. search (rules, number_at)) c.from_fn.result _ g.row.N c.from_fn.ensures.items
    (numbers_length l f g.row.N) (number_of_value l f g.row.N)
