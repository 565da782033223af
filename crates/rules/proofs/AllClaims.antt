-- All claims, proved. Assumes nothing. The computed lines come first, so that a wrong rule is refused at one of them.
use Rattle.rules.specs.AllClaims.{AllClaims}
use Rattle.rules.proofs.BenchSheet.{bench_sheet}
use Rattle.rules.proofs.BenchRuns.{example_runs}
use Rattle.rules.proofs.Lists.{every_and_pair}
use Rattle.rules.proofs.Largest.{granted_largest}
use Rattle.rules.proofs.Granting.{old_rows}
use Rattle.rules.proofs.Claims.{refusals_exactly, refused_changes_nothing, tables_sound, history_holds, queries_change_nothing, held_until_reset, there_and_back, back_and_there, one_address, separation, negotiation}
use Rattle.rules.proofs.Buffers.{buffers_keep_length}
use Rattle.rules.proofs.Records.{record_part_lem}
use Rattle.rules.proofs.Rom.{image_part_lem, sound_chain}
use Rattle.rules.proofs.Pairs.{three_cases, sound_pairs}
use Rattle.rules.proofs.Writing.{written_sound, written_read_back, read_written_again}

pub all_claims : AllClaims
all_claims = record {
  every_and_pair = every_and_pair;
  granted_largest = granted_largest;
  old_rows = old_rows;
  refusals_exactly = refusals_exactly;
  refused_changes_nothing = refused_changes_nothing;
  buffers_keep_length = buffers_keep_length;
  record_part_lem = record_part_lem;
  image_part_lem = image_part_lem;
  sound_chain = sound_chain;
  three_cases = three_cases;
  sound_pairs = sound_pairs;
  written_sound = written_sound;
  written_read_back = written_read_back;
  read_written_again = read_written_again;
  tables_sound = tables_sound;
  history_holds = history_holds;
  queries_change_nothing = queries_change_nothing;
  held_until_reset = held_until_reset;
  there_and_back = there_and_back;
  back_and_there = back_and_there;
  one_address = one_address;
  separation = separation;
  negotiation = negotiation;
  bench_sheet = bench_sheet;
  example_runs = example_runs;
}
