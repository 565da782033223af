use Rattle.std.proofs.Common.{◌≡◌, ℕ, ◌-◌, ◌∙◌, min, length, take, drop, map, ap, arith, length-drop, take_all}
use Rattle.std.proofs.lemmas.List.{drop_min}
use Rattle.mcfg.specs.Rest.{entry_in}
use Rattle.mcfg.proofs.Entries.{all_records}
use Rattle.mcfg.proofs.records.Goals as goal

pub returns : goal.returns
returns c =
    let m = c.args.m.now in let n = c.min.result in
    let start : n ≡ min 44 (length m) = omega arith in
    let rest : take (length m - n) (drop n m) ≡ drop n m = take_all (length m - n) (drop n m) (omega (arith, length-drop n m)) in
    let behind : drop n m ≡ drop 44 m = ap (λ (k : ℕ). drop k m) start ∙ drop_min 44 m in
    ap (map entry_in) c.as_chunks.ensures.front ∙ all_records m _ (rest ∙ behind)
