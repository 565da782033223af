use Rattle.std.proofs.Common.{rules, ◌≡◌, true, ◌∙◌, ◌&&◌, eqb, List, ℕ, Bool, [], ◌∷◌, ◌++◌, refl, sym, ne_eqb}
use Rattle.std.specs.List.{fold, zip}
use Rattle.std.proofs.lemmas.Fn.{fold_over, fronts}
use Rattle.std.proofs.lemmas.Iterator.{YieldsList-from_slice, YieldsList-from_zip, zips}
use Rattle.std.proofs.lemmas.List.Sums.{fold-append}
use Rattle.words.proofs.ByteStrings.{and_equal, same_pairs, differ_length}
use Rattle.words.proofs.same.Goals as goal

step : (ys : List (ℕ × ℕ)) (a : Bool) (p : ℕ × ℕ) (b : Bool) → a ≡ fold and_equal true ys → b ≡ a && eqb p.0 p.1 → b ≡ fold and_equal true (ys ++ p ∷ [])
step ys a p b e f = rw (fold-append and_equal true ys (p ∷ [])) cc

pub returns-then-a-b : goal.returns-then-a-b
returns-then-a-b c =
    let a = c.args.a.now in let b = c.args.b.now in
    let pairs : c.fold.result ≡ fold and_equal true (zip a b) =
    fold_over (zips fronts fronts) (λ p. (p.0.now, p.1.now)) _ (λ ys r. r ≡ fold and_equal true ys) _
    (λ ys r p s f' j k. (step ys r (p.0.now, p.1.now) s j (search rules), search rules))
    c.zip.result (zip a b) _ _ (YieldsList-from_zip (YieldsList-from_slice a cc) (YieldsList-from_slice b cc)).runs refl c.fold.ensures.ran in
    pairs ∙ same_pairs a b true (search rules)

pub returns-else-a-b : goal.returns-else-a-b
returns-else-a-b c = ne_eqb _ _ c.if-a-b.false ∙ sym (differ_length c.args.a.now c.args.b.now c.if-a-b.false)
