use Rattle.std.proofs.Common.{rules, tests, ◌≡◌, ◌∙◌, ap, refl}
use Rattle.std.specs.Prelude.{Option, Some, None}
use Rattle.std.specs.Option.{option_map}
use Rattle.rules.specs.declared.Entry.{Entry}
use Rattle.std.specs.List.{find}
use Rattle.std.proofs.lemmas.Iterator.{YieldsList-from_slice, YieldsList-from_map}
use Rattle.std.proofs.lemmas.Iterator.Search.{find_from_yields_List}
use Rattle.rules.specs.Start.{inside}
use Rattle.mcfg.specs.Rest.{entry_in}
use Rattle.mcfg.proofs.Heads.{find_first}
use Rattle.mcfg.proofs.entry_of.Goals as goal

unmapped : (r : Option Entry) → r ≡ option_map (λ (e : Entry). e) r
unmapped None = refl
unmapped (Some e) = refl

pub returns : goal.returns
returns c =
    unmapped c.find.result
    ∙ find_from_yields_List (inside c.args.row) _ _ c.find.result c.find.ensures.ran
    (YieldsList-from_map _ entry_in (YieldsList-from_slice c.records.result.now cc) c.map.ensures.closure (λ x r q k. search rules))
    (λ x b q k. search (rules, tests))
    ∙ ap (find (inside c.args.row)) c.records.ensures ∙ find_first (inside c.args.row) _
