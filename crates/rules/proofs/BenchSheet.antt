-- The bench sheet holds: every line by computation.
use mathlib.Core.Path.{refl}
use Rattle.rules.specs.Limits.{max_block}
use Rattle.rules.specs.Numbers.{bit}
use Rattle.rules.specs.Granting.{requested_known, trim, granted_by}
use Rattle.rules.specs.Editions.{control_bits, known_support}
use Rattle.rules.specs.Osc.{granted, framing_bad, recognised, osc_answer, osc_after}
use Rattle.rules.specs.Records.{fields_of, block_sound, record_in, sizes_kept}
use Rattle.rules.specs.BenchSheet.{BenchSheet}

pub bench_sheet : BenchSheet
unfolding max_block bit requested_known trim granted_by control_bits known_support granted framing_bad recognised osc_answer osc_after fields_of block_sound record_in sizes_kept
bench_sheet = (refl, (refl, (refl, (refl, (refl, (refl, (refl, (refl, (refl, (refl, (refl, (refl, (refl, (refl, tt))))))))))))))
