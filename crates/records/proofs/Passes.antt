-- One pass over the fields, with what it has seen and found so far, gives what the rules say of the whole list.
-- Assumes nothing.
use Prim.Native.Nat.{ℕ, zero, suc, ◌+◌, ◌<◌}
use mathlib.Core.Path.{◌≡◌, refl, sym, ap, ap₂, ◌∙◌}
use mathlib.Core.Bool.{Bool, true, false, true≢false, not, cond, ◌&&◌, ◌||◌}
use mathlib.Core.List.{List, [], ◌∷◌}
use mathlib.Core.Option.{Option, none, some}
use native.Mathlib.Omega.{arith}
use lib.Dec.{eqb, leb}
use borrow.Author.Tests.{leb-true, eqb-true, eq-eqb, ne_eqb}
use Rattle.rules.specs.Lists.{every, pairwise, first, is_none, prepend}
use Rattle.rules.specs.Parts.{refused}
use Rattle.rules.specs.Refusals.{◌if◌, first_of}
use Rattle.rules.specs.Records.{found_by}
use Rattle.rules.specs.declared.Field.{Field}
use Rattle.rules.specs.declared.FoundAt.{FoundAt}
use Rattle.rules.proofs.Tests.{and-true, and_off}
use Rattle.codes.specs.declared.Refusal.{Refusal}
use Rattle.codes.specs.Numbers.{number_of}
use Rattle.codes.specs.declared.Refusal.TheVariants.{RecordBlock, NoRecord}
use Rattle.parts.specs.Found.{found_at}
use Rattle.parts.specs.declared.Part.{Part}
use Rattle.std.specs.Prelude.{Result, Ok, Err, ok_or, set, get_or, length}
use Rattle.std.specs.Prelude.{Option as Maybe, Some, None}
use Rattle.std.proofs.lemmas.List.{get_or-set_same, get_or-set_other, length-set}
use Rattle.records.specs.Fields.{judged}

-- ---- what the pass has seen and found

-- no type has had its record
abbrev pub none_seen : List Bool
none_seen = false ∷ false ∷ false ∷ []

-- the type has had its record
abbrev pub has : List Bool → ℕ → Bool
has s t = get_or s t false

-- the type has its record now
abbrev pub marked : List Bool → ℕ → List Bool
marked s t = set s t true

-- the record as a part of its block
abbrev pub part_of : Field → Part
part_of f = record { start = f.start; size = 3 + f.size }

-- a record of the asked type is what the search gives; any other field leaves what it has
abbrev pub choice : (type : ℕ) → Field → Maybe Part → Maybe Part
choice type f found = cond (eqb f.tag type) (Some (part_of f)) found

-- what the search gives of what it found
abbrev pub kept : Maybe Part → FoundAt
kept found = found_at (ok_or found NoRecord)

-- ---- tests

swap : (a b c d : Bool) → ((a && b) && (c && d)) ≡ ((a && c) && (b && d))
swap false b c d = refl
swap true true c d = refl
swap true false c d = sym (and_off c)

regroup : (e n p u : Bool) → ((e && p) && (n && u)) ≡ ((e && (n && p)) && u)
regroup false n p u = refl
regroup true true p u = refl
regroup true false p u = and_off p

not_or : (a b : Bool) → not (a || b) ≡ (not a && not b)
not_or true b = refl
not_or false b = refl

-- a type has had its record once it is marked, and any other type as before
has_marked : (s : List Bool) (t u : ℕ) → t < length s → has (marked s t) u ≡ (eqb t u || has s u)
has_marked s t u h = go (eqb t u) refl
  where
    go : (b : Bool) → eqb t u ≡ b → has (marked s t) u ≡ (b || has s u)
    go true e = rw (← eqb-true t u e) (get_or-set_same s t true false h)
    go false e = get_or-set_other s t u true false (λ i. absurd (true≢false (sym (eq-eqb t u (sym i)) ∙ e)))

none_has : (t : ℕ) → has none_seen t ≡ false
none_has zero = refl
none_has (suc zero) = refl
none_has (suc (suc zero)) = refl
none_has (suc (suc (suc t))) = refl

-- ---- the pass

-- what a judged field leads to: a refusal, the pass with the record, or the pass without it
abbrev onward : Result Bool Refusal → (had : Bool) → (with_it without : FoundAt) → FoundAt
onward (Err r) had with_it without = refused (number_of r)
onward (Ok false) had with_it without = without
onward (Ok true) true with_it without = refused 8
onward (Ok true) false with_it without = with_it

-- over any two tests: a field is sound, a field is a record
module _ (sound rec : Field → Bool) (type : ℕ) where
  -- what the pass over these fields gives
  abbrev pass : List Bool → Maybe Part → List Field → FoundAt
  pass s found [] = kept found
  pass s found (f ∷ r) =
      onward (judged (sound f) (rec f)) (has s f.tag) (pass (marked s f.tag) (choice type f found) r) (pass s found r)

  -- a walk that came to no end is refused
  abbrev pub pass_all : List Bool → Maybe Part → Option (List Field) → FoundAt
  pass_all s found none = refused 8
  pass_all s found (some r) = pass s found r

module _ (rec : Field → Bool) where
  -- the two are not records of one type
  abbrev apart : Field → Field → Bool
  apart f g = not (rec f && rec g && eqb f.tag g.tag)

  -- the field is no second record of a type
  abbrev unseen : List Bool → Field → Bool
  unseen s f = not (rec f && has s f.tag)

  -- the field is the asked record
  abbrev asked : ℕ → Field → Bool
  asked type f = rec f && eqb f.tag type

  -- before the first field no type has been seen
  all_unseen : (r : List Field) → every (unseen none_seen) r ≡ true
  all_unseen [] = refl
  all_unseen (f ∷ r) = rw (none_has f.tag, and_off (rec f)) (all_unseen r)

-- the record found among the fields left, else what was found before
abbrev or_else : Maybe Part → Option Field → FoundAt
or_else found none = kept found
or_else found (some f) = found_by 0 (some f)

-- a field that breaks a rule gives 8
unsound_8 : (a b : Bool) (r : Refusal) → Err r ≡ judged a b → number_of r ≡ 8
unsound_8 true b r e = cc
unsound_8 false b r e = let same : r ≡ RecordBlock = cc in rw same

-- ---- the pass from a field on

module _ (sound rec : Field → Bool) (type : ℕ) (s : List Bool) (found : Maybe Part) (f : Field) where
  pub pass_skip : (o : Option (List Field)) → Ok false ≡ judged (sound f) (rec f)
      → pass_all sound rec type s found (prepend f o) ≡ pass_all sound rec type s found o
  pass_skip none e = refl
  pass_skip (some r) e = rw (← e)

  pub pass_record : (o : Option (List Field)) → Ok true ≡ judged (sound f) (rec f) → has s f.tag ≡ false
      → pass_all sound rec type s found (prepend f o) ≡ pass_all sound rec type (marked s f.tag) (choice type f found) o
  pass_record none e h = refl
  pass_record (some r) e h = rw (← e, h)

  pub pass_twice : (o : Option (List Field)) → Ok true ≡ judged (sound f) (rec f) → has s f.tag ≡ true
      → refused 8 ≡ pass_all sound rec type s found (prepend f o)
  pass_twice none e h = refl
  pass_twice (some r) e h = rw (← e, h)

  pub pass_bad : (o : Option (List Field)) (r : Refusal) → Err r ≡ judged (sound f) (rec f)
      → refused (number_of r) ≡ pass_all sound rec type s found (prepend f o)
  pass_bad none r e = ap refused (unsound_8 (sound f) (rec f) r e)
  pass_bad (some l) r e = rw (← e)

-- ---- the whole pass

module _ (sound rec : Field → Bool) (type : ℕ) (small : (f : Field) → rec f ≡ true → leb f.tag 2 ≡ true) where
  -- after a record is marked, a field is unseen if it was, and is no record of the same type
  one_marked : (s : List Bool) (f g : Field) → 3 ≡ length s → rec f ≡ true
      → unseen rec (marked s f.tag) g ≡ (apart rec f g && unseen rec s g)
  one_marked s f g h p = rw p (go (rec g) refl)
    where
      go : (b : Bool) → rec g ≡ b
          → not (b && has (marked s f.tag) g.tag) ≡ (not (b && eqb f.tag g.tag) && not (b && has s g.tag))
      go false q = refl
      go true q = rw (has_marked s f.tag g.tag (omega (arith, leb-true f.tag 2 (small f p)))) (not_or (eqb f.tag g.tag) (has s g.tag))

  all_marked : (s : List Bool) (f : Field) → 3 ≡ length s → rec f ≡ true → (r : List Field)
      → every (unseen rec (marked s f.tag)) r ≡ (every (apart rec f) r && every (unseen rec s) r)
  all_marked s f h p [] = refl
  all_marked s f h p (g ∷ r) =
      ap₂ {B = Bool} (λ (x : Bool) y. x && y) (one_marked s f g h p) (all_marked s f h p r)
      ∙ swap (apart rec f g) (unseen rec s g) (every (apart rec f) r) (every (unseen rec s) r)

  -- a field that is no record is apart from all
  all_apart : (f : Field) → rec f ≡ false → (r : List Field) → every (apart rec f) r ≡ true
  all_apart f p [] = refl
  all_apart f p (g ∷ r) = rw p (all_apart f p r)

  -- no later field is the asked record where one was
  none_later : (f : Field) → rec f ≡ true → eqb f.tag type ≡ true → (r : List Field) → every (apart rec f) r ≡ true
      → first (asked rec type) r ≡ none
  none_later f p k [] e = refl
  none_later f p k (g ∷ r) e =
      let h = and-true (apart rec f g) (every (apart rec f) r) e in
      go (rec g) (eqb g.tag type) refl h.0 (none_later f p k r h.1)
    where
      go : (b q : Bool) → eqb g.tag type ≡ q → not (rec f && b && eqb f.tag g.tag) ≡ true → first (asked rec type) r ≡ none
          → cond (b && q) (some g) (first (asked rec type) r) ≡ none
      go false q i h ih = ih
      go true false i h ih = ih
      go true true i h ih =
          let same : eqb f.tag g.tag ≡ true = eq-eqb f.tag g.tag (eqb-true f.tag type k ∙ sym (eqb-true g.tag type i)) in
          let z : false ≡ true = simp (p, same) at h in
          cc

  -- what the rules say of these fields, after what was seen and found before them
  abbrev whole : List Bool → Maybe Part → List Field → FoundAt
  whole s found r =
      cond (every sound r && pairwise (apart rec) r && every (unseen rec s) r)
      (or_else found (first (asked rec type) r)) (refused 8)

  pass_whole : (r : List Field) (s : List Bool) (found : Maybe Part) → 3 ≡ length s → pass sound rec type s found r ≡ whole s found r
  pass_whole [] s found n = refl
  pass_whole (f ∷ r) s found n =
      go (sound f) (rec f) (has s f.tag) (eqb f.tag type) refl refl (pass_whole r s found n)
      (pass_whole r (marked s f.tag) (choice type f found) (n ∙ sym (length-set s f.tag true)))
    where
      E : Bool
      E = every sound r

      N : Bool
      N = every (apart rec f) r

      P : Bool
      P = pairwise (apart rec) r

      U : Bool
      U = every (unseen rec s) r

      F : Option Field
      F = first (asked rec type) r

      go : (a b h k : Bool) → rec f ≡ b → eqb f.tag type ≡ k → pass sound rec type s found r ≡ whole s found r
          → pass sound rec type (marked s f.tag) (choice type f found) r ≡ whole (marked s f.tag) (choice type f found) r
          → onward (judged a b) h (pass sound rec type (marked s f.tag) (choice type f found) r) (pass sound rec type s found r)
          ≡ cond ((a && E) && (N && P) && (not (b && h) && U)) (or_else found (cond (b && k) (some f) F)) (refused 8)
      go false b h k p q x y = refl
      go true false h k p q x y = rw (all_apart f p r) x
      go true true true k p q x y = rw (and_off (E && (N && P)))
      go true true false k p q x y =
          y
          ∙ ap (λ (t : Bool). cond (E && P && t) (or_else (choice type f found) F) (refused 8)) (all_marked s f n p r)
          ∙ ap (λ (t : Bool). cond t (or_else (choice type f found) F) (refused 8)) (regroup E N P U)
          ∙ last k q
        where
          part : Maybe Part
          part = Some (part_of f)

          -- the record found is the only one
          only : eqb f.tag type ≡ true → (n : Bool) → N ≡ n
              → cond ((E && (n && P)) && U) (or_else part F) (refused 8) ≡ cond ((E && (n && P)) && U) (kept part) (refused 8)
          only i true e = rw (none_later f p i r e)
          only i false e = rw (and_off E)

          last : (k : Bool) → eqb f.tag type ≡ k
              → cond ((E && (N && P)) && U) (or_else (choice type f found) F) (refused 8)
              ≡ cond ((E && (N && P)) && U) (or_else found (cond k (some f) F)) (refused 8)
          last true e = rw e (only e N refl)
          last false e = rw e

  -- the answer of a whole pass, by the two refusals of the record search
  pub pass_answer : (r : List Field)
      → pass sound rec type none_seen None r
      ≡ found_by (first_of ((8 if not (every sound r && pairwise (apart rec) r)) ∷ (9 if is_none (first (asked rec type) r)) ∷ []))
      (first (asked rec type) r)
  pass_answer r = pass_whole r none_seen None refl ∙ rw (all_unseen rec r) (go (every sound r && pairwise (apart rec) r) (first (asked rec type) r))
    where
      go : (t : Bool) (o : Option Field)
          → cond (t && true) (or_else None o) (refused 8) ≡ found_by (first_of ((8 if not t) ∷ (9 if is_none o) ∷ [])) o
      go true none = refl
      go true (some f) = refl
      go false o = refl

-- what the code keeps of a record, by its type
pub chosen : (type : ℕ) (f : Field) (found : Maybe Part) → f.tag ≡ type → Some (part_of f) ≡ choice type f found
chosen type f found e = rw (eq-eqb f.tag type e)

pub left_alone : (type : ℕ) (f : Field) (found : Maybe Part) → (f.tag ≡ type → ⊥) → found ≡ choice type f found
left_alone type f found n = rw (ne_eqb f.tag type n)
