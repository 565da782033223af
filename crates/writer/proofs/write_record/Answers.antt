-- a byte stored and two splices behind it are one
use Rattle.std.proofs.Common.{◌+◌, sym, ap, ◌∙◌, arith}
use Rattle.rules.specs.Numbers.{dwords}
use Rattle.writer.specs.Splices.{splice}
use Rattle.writer.proofs.Splicing.{record_written}
use Rattle.writer.proofs.write_record.Goals as goal

pub returns : goal.returns
returns g c =
    let count = g.met.S.SettingRecord.count c.args.r in
    record_written c.args.at g.S.SettingRecord.TYPE (g.S.SettingRecord.numbers c.args.r) c.args.b.now _ _ (omega (arith, count))
    (rw (count, sym c.TYPE.ensures) c.write16.ensures)
    (c.write_numbers.ensures ∙ ap (λ v. splice (3 + c.args.at) (dwords v) c.write16.new.b) c.numbers-numbers.ensures)
