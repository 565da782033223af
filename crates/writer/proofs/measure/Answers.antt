-- a record in its ranges
use Rattle.std.proofs.Common.{sym, ap}
use Rattle.writer.specs.Measures.{if_some}
use Rattle.writer.proofs.Laid.{one_measured}
use Rattle.writer.proofs.measure.Goals as goal

pub returns-in-Some : goal.returns-in-Some
returns-in-Some g c =
    let s = g.S.SettingRecord in
    let r = c.in-Some.r in
    one_measured (record { type = s.TYPE; numbers = s.numbers r }) g.row.N (g.met.S.SettingRecord.count r) (if_some s.TYPE s.numbers c.args.r) (ap (if_some s.TYPE s.numbers) c.in-Some.is)
    (sym c.if-in_ranges.ensures)
