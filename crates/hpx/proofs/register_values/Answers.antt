use Rattle.std.proofs.Common.{◌≡◌, ◌∙◌, ℕ, List, ap, arith}
use Rattle.std.proofs.lemmas.List.{take_all}
use Rattle.hpx.proofs.Searches.{pairs_there, values_there}
use Rattle.rules.specs.Records.{field_at, new_values}
use Rattle.hpx.proofs.register_values.Goals as goal

pub unwrap-requires : goal.unwrap-requires
unwrap-requires c =
    let long = pairs_there c.args.slot.now c.args.block.now c.in_ok-setting.setting.now c.in_ok-setting.ensures.number c.in_ok-setting.ensures.part.0 in
    c.first_chunk.ensures.variant.1 (omega (arith, long))

pub returns-clause-values : goal.returns-clause-values
returns-clause-values c =
    let a = c.args in
    let long = pairs_there a.slot.now a.block.now c.in_ok-setting.setting.now c.in_ok-setting.ensures.number c.in_ok-setting.ensures.part.0 in
    let chunk = rw c.unwrap.ensures at c.first_chunk.ensures.cases in
    let same : c.unwrap.result.now ≡ c.in_ok-setting.setting.now = chunk.same ∙ take_all 71 c.in_ok-setting.setting.now (omega (arith, long)) in
    c.new_values.ensures
    ∙ ap (λ (m : List ℕ). new_values a.aer m (field_at m 0) 0 a.current.now) same
    ∙ values_there a.slot.now a.block.now c.in_ok-setting.setting.now c.in_ok-setting.ensures.number c.in_ok-setting.ensures.part.0 a.aer a.current.now c.told-current
