use Rattle.std.proofs.Common.{rules, get_or, ◌∙◌}
use Rattle.records.proofs.Numbers.{made}
use Rattle.rules.specs.Records.{field_at, new_value, new_values}
use Rattle.hpx.proofs.Values.{values_length, value_of}
use Rattle.hpx.proofs.new_values.Goals as goal

pub returns : goal.returns
returns c =
    let a = c.args in
    let l = a.setting.now in
    let f = field_at l 0 in
    made _ (λ k. new_value a.aer l f k (get_or a.current.now k 0)) _ (λ i y q k. search rules) c.from_fn.result
    (new_values a.aer l f 0 a.current.now) 8 c.from_fn.ensures.items
    (values_length a.aer l f 0 a.current.now ∙ c.told-current)
    (value_of a.aer l f a.current.now c.told-current)
