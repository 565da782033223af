use Rattle.std.proofs.Common.{ap, ◌∙◌, length, get_or, eq-eqb}
use Rattle.rules.specs.Records.{record_size, in_ranges}
use Rattle.records.specs.Fields.{bytes_of, field_of}
use Rattle.records.proofs.Tagged.sound.Goals as goal

-- the length is that of the type, and the numbers read are those of the field
pub returns : goal.returns
returns g c =
    let s = g.S.SettingRecord in
    let law = g.met.S.SettingRecord in
    let t = c.args.self in
    rw (eq-eqb (length t.value.now) (record_size s.TYPE) (c.if-self.false ∙ law.size))
    (c.in_ranges.ensures
    ∙ ap (λ r. in_ranges s.TYPE (λ k. get_or (s.numbers r) k 0)) (c.from_numbers.ensures ∙ ap s.from_numbers c.numbers.ensures)
    ∙ law.read (bytes_of t) (field_of t))
