use Rattle.std.proofs.Common.{rules, tests, ◌∙◌}
use Rattle.std.proofs.lemmas.Iterator.{YieldsList-from_slice}
use Rattle.std.proofs.lemmas.Iterator.Search.{all_from_yields_List}
use Rattle.rules.specs.Mcfg.{entry_sound}
use Rattle.mcfg.specs.Rest.{entry_in}
use Rattle.mcfg.proofs.Heads.{all_every}
use Rattle.mcfg.proofs.entries_sound.Goals as goal

pub returns : goal.returns
returns c =
    all_from_yields_List (λ r. entry_sound (entry_in r)) _ _ _ c.all.ensures.ran (YieldsList-from_slice c.args.records.now cc) (λ x b q k. search (rules, tests))
    ∙ all_every entry_in entry_sound c.args.records.now
