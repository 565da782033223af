-- The walk of a block, field by field: what is left of it at a byte still gives the answer of the record search.
-- Assumes nothing.
use Prim.Native.Nat.{ℕ, zero, suc, ◌+◌, ◌≤◌, ◌<◌}
use mathlib.Core.Path.{◌≡◌, refl, sym, ap, ap₂, ◌∙◌, subst}
use mathlib.Core.Bool.{Bool, true, false, not}
use mathlib.Core.List.{List, [], ◌∷◌}
use mathlib.Core.Option.{Option, none, some}
use native.Mathlib.Omega.{arith}
use lib.Dec.{eqb, leb}
use lib.ListN.{length}
use borrow.Author.Tests.{le-leb, lt-leb, eq-eqb, eqb-true, ne_eqb}
use Rattle.rules.specs.Limits.{max_block}
use Rattle.rules.specs.Lists.{is_none, prepend}
use Rattle.rules.specs.Parts.{refused}
use Rattle.rules.specs.Refusals.{◌if◌, first_of}
use Rattle.rules.specs.Records.{field_at, fields_from, fields_of, value, is_record, field_sound, sound_fields, block_sound, record_among, record_in, found_by, find_record}
use Rattle.rules.specs.declared.Field.{Field}
use Rattle.rules.specs.declared.FoundAt.{FoundAt}
use Rattle.rules.proofs.Tests.{and_l}
use Rattle.codes.specs.declared.Refusal.{Refusal}
use Rattle.codes.specs.Numbers.{number_of}
use Rattle.parts.specs.declared.Part.{Part}
use Rattle.std.specs.Prelude.{Ok, Err}
use Rattle.std.specs.Prelude.{Option as Maybe, Some, None}
use Rattle.std.specs.Prelude.{get_or, set, drop, ◌-◌, ◌==◌}
use Rattle.std.proofs.lemmas.List.{length-drop}
use Rattle.records.specs.Fields.{bytes_of, field_of, IsSplit, judged}
use Rattle.records.specs.declared.Tagged.{Tagged}
use Rattle.records.proofs.Bytes.{size_from, tag_is, fits, size_is, rest_is, judged_is}
use Rattle.records.proofs.Passes.{none_seen, has, marked, choice, kept, pass_all, pass_skip, pass_record, pass_twice, pass_bad, pass_answer, chosen, left_alone}

-- ---- the fields from a byte on

-- at the end there is none, whatever the fuel
no_more : (n : ℕ) (l : List ℕ) (i : ℕ) → i ≡ length l → fields_from n l i ≡ some []
no_more zero l i e = rw (eq-eqb i (length l) e)
no_more (suc n) l i e = rw (eq-eqb i (length l) e)

before_end : (l : List ℕ) (i : ℕ) → i < length l → eqb i (length l) ≡ false
before_end l i h = ne_eqb i (length l) (λ e. omega arith)

-- a field that runs past the end ends the walk
cut : (n : ℕ) (l : List ℕ) (i : ℕ) → i < length l → length l < 3 + (field_at l i).size + i → fields_from n l i ≡ none
cut zero l i h e = rw (before_end l i h)
cut (suc n) l i h e = rw (before_end l i h, lt-leb (3 + (field_at l i).size + i) (length l) e)

-- a field read whole, and the fields after it
record After (n : ℕ) (l : List ℕ) (i : ℕ) : Type 0 where
  left : ℕ
  enough : length l ≤ 3 + (field_at l i).size + i + left
  is : fields_from n l i ≡ prepend (field_at l i) (fields_from left l (3 + (field_at l i).size + i))

after : (n : ℕ) (l : List ℕ) (i : ℕ) → i < length l → length l ≤ i + n → 3 + (field_at l i).size + i ≤ length l → After n l i
after zero l i h k e = absurd (omega arith)
after (suc n) l i h k e =
    record { left = n; enough = omega arith; is = rw (before_end l i h, le-leb (3 + (field_at l i).size + i) (length l) e) }

-- ---- what is left of the walk

-- what the pass over these fields of the block gives
abbrev pass : List ℕ → ℕ → List Bool → Maybe Part → Option (List Field) → FoundAt
pass l type = pass_all (field_sound l) (is_record l) type

-- at byte i, with these types seen and this found, at most `fuel` fields are left, and the pass over them gives the answer
pub record Left (l : List ℕ) (type i : ℕ) (s : List Bool) (found : Maybe Part) : Type 0 where
  pub fuel : ℕ
  pub enough : length l ≤ i + fuel
  pub inside : i ≤ length l
  pub gives : pass l type s found (fields_from fuel l i) ≡ find_record [] l type

-- the pass over all fields gives the answer
answer : (l : List ℕ) (type : ℕ) (o : Option (List Field))
    → pass l type none_seen None o
    ≡ found_by (first_of ((8 if not (sound_fields l o)) ∷ (9 if is_none (record_among l type o)) ∷ [])) (record_among l type o)
answer l type none = refl
answer l type (some r) = pass_answer (field_sound l) (is_record l) type (λ f p. and_l (leb f.tag 2) (eqb (value l f 0) 1) p) r

-- a block that is too long is refused
pub too_long : (l : List ℕ) (type : ℕ) → max_block < length l → refused 8 ≡ find_record [] l type
unfolding block_sound
too_long l type h = rw (lt-leb (length l) max_block h)

-- before the first field
pub at_start : (l : List ℕ) (type : ℕ) → length l ≤ max_block → Left l type 0 none_seen None
unfolding block_sound record_in fields_of
at_start l type h =
    record {
      fuel = length l;
      enough = omega arith;
      inside = omega arith;
      gives = rw (le-leb (length l) max_block h) (answer l type (fields_from (length l) l 0));
    }

module _ (l : List ℕ) (type i : ℕ) (s : List Bool) (found : Maybe Part) (w : Left l type i s found) where
  -- after the last field what was found is the answer
  pub at_end : length l ≤ i → kept found ≡ find_record [] l type
  at_end h = ap (pass l type s found) (sym (no_more w.fuel l i (omega arith))) ∙ w.gives

  module _ (h : i < length l) where
    -- a field that runs past the end refuses the block
    pub ended : length l < 3 + (field_at l i).size + i → refused 8 ≡ find_record [] l type
    ended e = ap (pass l type s found) (sym (cut w.fuel l i h e)) ∙ w.gives

    module _ (e : 3 + (field_at l i).size + i ≤ length l) where
      abbrev f : Field
      f = field_at l i

      rest : After w.fuel l i
      rest = after w.fuel l i h w.enough e

      -- the pass from this field on
      here : pass l type s found (prepend f (fields_from rest.left l (3 + f.size + i))) ≡ find_record [] l type
      here = ap (pass l type s found) (sym rest.is) ∙ w.gives

      -- a broken rule refuses the block, and so does a second record of a type
      pub bad : (r : Refusal) → Err r ≡ judged (field_sound l (field_at l i)) (is_record l (field_at l i)) → refused (number_of r) ≡ find_record [] l type
      bad r j = pass_bad (field_sound l) (is_record l) type s found f (fields_from rest.left l (3 + f.size + i)) r j ∙ here

      pub twice : Ok true ≡ judged (field_sound l (field_at l i)) (is_record l (field_at l i)) → has s (field_at l i).tag ≡ true → refused 8 ≡ find_record [] l type
      twice j k = pass_twice (field_sound l) (is_record l) type s found f (fields_from rest.left l (3 + f.size + i)) j k ∙ here

      -- the walk goes on after a skipped field, and after a record
      pub skipped : Ok false ≡ judged (field_sound l (field_at l i)) (is_record l (field_at l i)) → Left l type (3 + (field_at l i).size + i) s found
      skipped j =
          record {
            fuel = rest.left;
            enough = rest.enough;
            inside = e;
            gives = sym (pass_skip (field_sound l) (is_record l) type s found f (fields_from rest.left l (3 + f.size + i)) j) ∙ here;
          }

      pub recorded : Ok true ≡ judged (field_sound l (field_at l i)) (is_record l (field_at l i)) → has s (field_at l i).tag ≡ false
          → Left l type (3 + (field_at l i).size + i) (marked s (field_at l i).tag) (choice type (field_at l i) found)
      recorded j k =
          record {
            fuel = rest.left;
            enough = rest.enough;
            inside = e;
            gives = sym (pass_record (field_sound l) (is_record l) type s found f (fields_from rest.left l (3 + f.size + i)) j k) ∙ here;
          }

-- ---- the walk by what is left of the bytes

none_left : (n : ℕ) → true ≡ (n == 0) → n ≡ 0
none_left n e = eqb-true n 0 (sym e)

some_left : (n : ℕ) → false ≡ (n == 0) → 0 < n
some_left zero e = absurd (cc)
some_left (suc n) e = omega arith

-- these bytes are left of the block
pub record Walk (l : List ℕ) (type : ℕ) (rest : List ℕ) (s : List Bool) (found : Maybe Part) : Type 0 where
  pub at : ℕ
  pub is : rest ≡ drop at l
  pub left : Left l type at s found

pub starts : (l : List ℕ) (type : ℕ) → length l ≤ max_block → Walk l type l none_seen None
starts l type h = record { at = 0; is = refl; left = at_start l type h }

module _ (l : List ℕ) (type : ℕ) (rest : List ℕ) (s : List Bool) (found : Maybe Part) (w : Walk l type rest s found) where
  long : length rest ≡ length l - w.at
  long = ap length w.is ∙ length-drop w.at l

  -- it is no longer than the block
  pub within : length rest ≤ length l
  within = omega (arith, long)

  pub walked : true ≡ (length rest == 0) → kept found ≡ find_record [] l type
  walked h = at_end l type w.at s found w.left (omega (arith, long, none_left (length rest) h))

  module _ (h : false ≡ (length rest == 0)) where
    before : w.at < length l
    before = omega (arith, long, some_left (length rest) h)

    pub runs_out : length rest < 3 + (field_at rest 0).size → refused 8 ≡ find_record [] l type
    runs_out n =
        let size : (field_at rest 0).size ≡ (field_at l w.at).size = ap (λ (r : List ℕ). (field_at r 0).size) w.is ∙ sym (size_from l w.at) in
        ended l type w.at s found w.left before (omega (arith, long))

    module _ (t : Tagged) (after : List ℕ) (e : IsSplit rest t after) where
      split : IsSplit (drop w.at l) t after
      split = subst (λ (r : List ℕ). IsSplit r t after) w.is e

      inside : 3 + (field_at l w.at).size + w.at ≤ length l
      inside = fits l w.at t after split

      same : judged (field_sound (bytes_of t) (field_of t)) (is_record (bytes_of t) (field_of t))
          ≡ judged (field_sound l (field_at l w.at)) (is_record l (field_at l w.at))
      same = judged_is l w.at t after split

      pub refuses : (r : Refusal) → Err r ≡ judged (field_sound (bytes_of t) (field_of t)) (is_record (bytes_of t) (field_of t))
          → refused (number_of r) ≡ find_record [] l type
      refuses r j = bad l type w.at s found w.left before inside r (j ∙ same)

      pub refuses_second : Ok true ≡ judged (field_sound (bytes_of t) (field_of t)) (is_record (bytes_of t) (field_of t))
          → get_or s t.tag false ≡ true → refused 8 ≡ find_record [] l type
      refuses_second j k = twice l type w.at s found w.left before inside (j ∙ same) (sym (ap (has s) (tag_is l w.at t after split)) ∙ k)

      pub skips : Ok false ≡ judged (field_sound (bytes_of t) (field_of t)) (is_record (bytes_of t) (field_of t)) → Walk l type after s found
      skips j =
          record {
            at = 3 + (field_at l w.at).size + w.at;
            is = rest_is l w.at t after split;
            left = skipped l type w.at s found w.left before inside (j ∙ same);
          }

      module _ (j : Ok true ≡ judged (field_sound (bytes_of t) (field_of t)) (is_record (bytes_of t) (field_of t))) (k : get_or s t.tag false ≡ false) where
        goes_on : (now : Maybe Part) → choice type (field_at l w.at) found ≡ now → Walk l type after (set s t.tag true) now
        goes_on now c =
            record {
              at = 3 + (field_at l w.at).size + w.at;
              is = rest_is l w.at t after split;
              left = rw (tag_is l w.at t after split, ← c)
                  (recorded l type w.at s found w.left before inside (j ∙ same) (sym (ap (has s) (tag_is l w.at t after split)) ∙ k));
            }

        pub keeps : t.tag ≡ type → Walk l type after (set s t.tag true) (Some (record { start = length l - length rest; size = 3 + length t.value.now }))
        keeps q =
            let start : w.at ≡ length l - length rest = omega (arith, long, inside) in
            let size = size_is l w.at t after split in
            goes_on _ (sym (chosen type (field_at l w.at) found (sym (tag_is l w.at t after split) ∙ q)) ∙ ap₂ (λ (n k : ℕ). Some (record { start = n; size = 3 + k })) start (sym size))

        pub passes_by : (t.tag ≡ type → ⊥) → Walk l type after (set s t.tag true) found
        passes_by n = goes_on found (sym (left_alone type (field_at l w.at) found (λ q. n (tag_is l w.at t after split ∙ q))))

-- what is left behind a field is shorter
pub shorter : (rest after : List ℕ) (t : Tagged) → IsSplit rest t after → length after < length rest
shorter rest after t e = omega (arith, ap length e.3 ∙ length-drop (3 + (field_at rest 0).size) rest, e.0)
