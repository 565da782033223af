-- a present record is written
use Rattle.std.proofs.Common.{◌≡◌, ◌+◌, ◌*◌, length, ap, arith}
use Rattle.rules.specs.Writer.{laid_down}
use Rattle.writer.specs.Measures.{if_some}
use Rattle.writer.proofs.Laid.{one_length, one_written}
use Rattle.writer.proofs.write_if.Goals as goal

pub write_record-requires : goal.write_record-requires
write_record-requires g c =
    let s = g.S.SettingRecord in
    let r = c.in-Some.r in
    let long : length (laid_down (if_some s.TYPE s.numbers c.args.r)) ≡ 3 + 4 * g.row.N = one_length (record { type = s.TYPE; numbers = s.numbers r }) g.row.N (g.met.S.SettingRecord.count r) (if_some s.TYPE s.numbers c.args.r) (ap (if_some s.TYPE s.numbers) c.in-Some.is) in
    omega (arith, long)

pub returns : goal.returns
returns g c =
    let s = g.S.SettingRecord in
    let r = c.in-Some.r in
    one_written (record { type = s.TYPE; numbers = s.numbers r }) g.row.N (g.met.S.SettingRecord.count r) (if_some s.TYPE s.numbers c.args.r) (ap (if_some s.TYPE s.numbers) c.in-Some.is)
    c.args.at c.args.b.now c.write_record.new.b c.write_record.ensures
