use Rattle.std.proofs.Common.{rules, ◌≡◌, ◌+◌, ◌++◌, [], ◌∷◌, ◌%◌, List, ℕ, arith, refl}
use Rattle.std.specs.List.{sum_by}
use Rattle.std.proofs.lemmas.Fn.{fold_over, fronts}
use Rattle.std.proofs.lemmas.List.Sums.{sum_by_push}
use Rattle.std.proofs.lemmas.Iterator.{YieldsList-from_slice}
use Rattle.rules.specs.Numbers.{sum}
use Rattle.words.proofs.Sums.{lanes_wrapped}
use Rattle.words.proofs.sum_of_eights.Goals as goal

-- one eight more
step : (ys : List (List ℕ)) (a x b : List ℕ) → sum a % 256 ≡ sum_by sum ys % 256 → sum b % 256 ≡ (sum a + sum x) % 256
    → sum b % 256 ≡ sum_by sum (ys ++ x ∷ []) % 256
step ys a x b e f = omega (arith, sum_by_push sum ys x)

pub returns : goal.returns
returns c =
    let eights = c.args.eights.now in
    let lanes : sum c.fold.result % 256 ≡ sum_by sum eights % 256 =
    fold_over fronts (λ y. y.now) _ (λ ys a. sum a % 256 ≡ sum_by sum ys % 256) _
    (λ ys a x r f' j k. (step ys a x.now r j (search rules), search rules))
    c.iter.result eights _ _ (YieldsList-from_slice eights c.iter.ensures.rest).runs refl c.fold.ensures.ran in
    omega (arith, lanes_wrapped c.fold.result 0, lanes)
