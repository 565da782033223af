use Rattle.std.proofs.Common.{rules, tests, ◌≡◌, ◌∷◌, ◌∙◌, sym, ap, map, List, ℕ}
use Rattle.std.specs.List.{list_all, zip}
use Rattle.std.proofs.lemmas.Iterator.{YieldsList-from_slice, YieldsList-from_zip}
use Rattle.std.proofs.lemmas.Iterator.Search.{all_from_yields_List}
use Rattle.mcfg.specs.Rest.{entry_in, seen_below, rising}
use Rattle.mcfg.proofs.Rising.{next_rising}
use Rattle.mcfg.proofs.entries_rising.Goals as goal

pub returns : goal.returns
returns c =
    let all = c.args.records.now in let first = c.in-Some.field-0-0.now in let later = c.in-Some.later.now in
    let whole : all ≡ first ∷ later = search rules in
    all_from_yields_List (λ p. seen_below (entry_in p.0) (entry_in p.1)) c.all.new.self _ _ c.all.ensures.ran
    (YieldsList-from_zip {s = c.zip.result} (YieldsList-from_slice all cc) (YieldsList-from_slice later cc))
    (λ x b q k. search (rules, tests))
    ∙ ap (λ (l : List (List ℕ)). list_all (λ p. seen_below (entry_in p.0) (entry_in p.1)) (zip l later)) whole
    ∙ next_rising entry_in seen_below first later
    ∙ sym (ap (λ (l : List (List ℕ)). rising seen_below (map entry_in l)) whole)
