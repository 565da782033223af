-- All claims, one field for each. Its one proof is `all_claims`; the public crate uses every field of it.
use Rattle.rules.specs.Claims.{EveryAndPair, GrantedLargest, OldRows, RefusalsExactly, RefusedChangesNothing, BuffersKeepLength, RecordPart, ImagePart, SoundChain, ThreeCases, SoundPairs, WrittenSound, WrittenReadBack, ReadWrittenAgain, TablesSound, History, QueriesChangeNothing, HeldUntilReset, ThereAndBack, BackAndThere, OneAddress, Separation, Negotiation}
use Rattle.rules.specs.BenchSheet.{BenchSheet}
use Rattle.rules.specs.BenchRuns.{ExampleRuns}

pub record AllClaims : Type 1 where
  pub every_and_pair : EveryAndPair
  -- document 02, d
  pub granted_largest : GrantedLargest
  pub old_rows : OldRows
  -- demand 1
  pub refusals_exactly : RefusalsExactly
  pub refused_changes_nothing : RefusedChangesNothing
  pub buffers_keep_length : BuffersKeepLength
  pub record_part_lem : RecordPart
  pub image_part_lem : ImagePart
  pub sound_chain : SoundChain
  -- document 02, h
  pub three_cases : ThreeCases
  pub sound_pairs : SoundPairs
  -- document 02, g
  pub written_sound : WrittenSound
  pub written_read_back : WrittenReadBack
  pub read_written_again : ReadWrittenAgain
  -- what start leaves and every call keeps
  pub tables_sound : TablesSound
  -- demand 2
  pub history_holds : History
  pub queries_change_nothing : QueriesChangeNothing
  pub held_until_reset : HeldUntilReset
  pub there_and_back : ThereAndBack
  pub back_and_there : BackAndThere
  pub one_address : OneAddress
  -- demand 3
  pub separation : Separation
  -- the rest of document 01
  pub negotiation : Negotiation
  pub bench_sheet : BenchSheet
  pub example_runs : ExampleRuns
