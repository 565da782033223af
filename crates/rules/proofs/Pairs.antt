-- Pairs of masks: what a pair asks of each bit, and the pairs of a sound block.
-- Assumes nothing.
use mathlib.Core.Path.{◌≡◌, refl, sym, ap, ◌∙◌, subst}
use mathlib.Core.Bool.{Bool, true, false, ◌&&◌, ◌||◌, true≢false}
use mathlib.Core.List.{List}
use mathlib.Core.Option.{Option, none, some, none-ne-some}
use Prim.Native.Nat.{ℕ, zero, suc, ◌+◌, ◌<◌}
use native.Mathlib.Omega.{arith}
use lib.Bits.{bit_and}
use lib.Dec.{leb}
use lib.ListN.{length, get_or}
use Rattle.rules.specs.Limits.{max_block}
use Rattle.rules.specs.Lists.{every, pairwise}
use Rattle.rules.specs.Numbers.{bit}
use Rattle.rules.specs.Records.{fields_of, value, Range, pair_of, ranges, in_range, in_ranges, field_sound, not_twice, sound_fields, block_sound, record_among, record_in, and_or}
use Rattle.rules.specs.Claims.{acpi_bit, ThreeCases, SoundPairs}
use Rattle.rules.specs.declared.Field.{Field}
use Rattle.rules.proofs.Tests.{and-true}
use Rattle.rules.proofs.Bits.{bit_and_lem, bit_or_lem}
use Rattle.rules.proofs.Sets.{within_sub, sub_within}
use Rattle.rules.proofs.Lists.{every_at}
use Rattle.rules.proofs.Records.{no_field, chosen}
use Rattle.rules.proofs.Whole.{record_keeps}

-- ---- one bit

by_case : (a o c : Bool) → (o ≡ true → a ≡ true) → acpi_bit a o c ≡ some ((c && a) || o)
by_case true true true h = refl
by_case true true false h = refl
by_case true false true h = refl
by_case true false false h = refl
by_case false false true h = refl
by_case false false false h = refl
by_case false true c h = absurd (true≢false (sym (h refl)))

has_case : (a o c x : Bool) → acpi_bit a o c ≡ some x → o ≡ true → a ≡ true
has_case true o c x e q = refl
has_case false true c x e q = absurd (none-ne-some x e)
has_case false false c x e q = q

pub three_cases : ThreeCases
three_cases and or = (
  λ e current i. by_case (bit and i) (bit or i) (bit current i) (within_sub or and e i) ∙ ap some (sym (formula current i)),
  λ f. sub_within or and (λ i. has_case (bit and i) (bit or i) (bit 0 i) _ (f 0 i)),
)
  where
    formula : (current i : ℕ) → bit (and_or current and or) i ≡ ((bit current i && bit and i) || bit or i)
    formula current i = bit_or_lem (bit_and current and) or i ∙ ap (λ (q : Bool). q || bit or i) (bit_and_lem current and i)

-- ---- a sound block

-- the pair of register k is one of the ranges of type 2
pair_keeps : (v : ℕ → ℕ) → in_ranges 2 v ≡ true → (k : ℕ) → k < 8 → in_range v (pair_of k) ≡ true
pair_keeps v e k h = subst (λ (r : Range). in_range v r ≡ true) (at k h) (every_at (pair_of 0) (in_range v) (ranges 2) e (4 + k) (omega arith))
  where
    at : (k : ℕ) → k < 8 → get_or (ranges 2) (4 + k) (pair_of 0) ≡ pair_of k
    at zero h = refl
    at (suc zero) h = refl
    at (suc (suc zero)) h = refl
    at (suc (suc (suc zero))) h = refl
    at (suc (suc (suc (suc zero)))) h = refl
    at (suc (suc (suc (suc (suc zero))))) h = refl
    at (suc (suc (suc (suc (suc (suc zero)))))) h = refl
    at (suc (suc (suc (suc (suc (suc (suc zero))))))) h = refl
    at (suc (suc (suc (suc (suc (suc (suc (suc k)))))))) h = absurd (omega arith)

-- the record found among sound fields keeps the ranges of its type
keeps : (l : List ℕ) (type : ℕ) (f : Field) (o : Option (List Field)) → sound_fields l o ≡ true → record_among l type o ≡ some f → in_ranges type (value l f) ≡ true
keeps l type f none s e = absurd (true≢false (sym s))
keeps l type f (some r) s e =
    let c = chosen l type r f e in
    let t = and-true (every (field_sound l) r) (pairwise (not_twice l) r) s in
    let q = subst (λ (g : Field). field_sound l g ≡ true) c.is (every_at no_field (field_sound l) r t.0 c.at c.in_list) in
    subst (λ (n : ℕ). in_ranges n (value l f) ≡ true) c.tag_is (record_keeps l f c.is_record_lem q).1

pub sound_pairs : SoundPairs
unfolding block_sound record_in
sound_pairs l f k s e h =
    let t = and-true (leb (length l) max_block) (sound_fields l (fields_of l)) s in
    pair_keeps (value l f) (keeps l 2 f (fields_of l) t.1 e) k h
