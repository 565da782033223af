-- The record found is a field of the deciding block, inside it, of the asked type and of revision 1.
-- Assumes nothing.
use mathlib.Core.Path.{◌≡◌, refl, sym, ap, ◌∙◌, subst}
use mathlib.Core.Bool.{Bool, true, false, not, cond, ◌&&◌, true≢false}
use mathlib.Core.List.{List, [], ◌∷◌}
use mathlib.Core.Option.{Option, none, some, none-ne-some}
use Prim.Native.Nat.{ℕ, zero, suc, ◌+◌, ◌≤◌, ◌<◌}
use native.Mathlib.Nat.{le_of_suc-le-suc, not-suc-le-zero}
use native.Mathlib.Omega.{arith}
use borrow.Author.Tests.{eqb-true, leb-true}
use lib.Dec.{eqb, leb}
use lib.ListN.{length, get_or}
use Rattle.rules.specs.Lists.{is_none, prepend}
use Rattle.rules.specs.Numbers.{byte, word, dword}
use Rattle.rules.specs.Refusals.{◌if◌, first_of}
use Rattle.rules.specs.Records.{field_at, fields_from, fields_of, value, is_record, block_sound, deciding, record_among, record_in, record_refusals, found_by}
use Rattle.rules.specs.Claims.{RecordPart}
use Rattle.rules.proofs.Tests.{and-true}
use Rattle.rules.proofs.Refusals.{clear}
use Rattle.rules.proofs.Lists.{stands}
use Rattle.rules.specs.declared.Field.{Field}

pub no_field : Field
no_field = record { start = 0; tag = 0; size = 0 }

-- the field stands in the block, and ends inside it
record InBlock (l : List ℕ) (f : Field) : Type 0 where
  is_field : f ≡ field_at l f.start
  ends : 3 + f.size + f.start ≤ length l

-- every field of a walk does
abbrev AllIn : List ℕ → List Field → Type 0
AllIn l r = (k : ℕ) → k < length r → InBlock l (get_or r k no_field)

none_in : (l : List ℕ) (r : List Field) → r ≡ [] → AllIn l r
none_in l r e k h = absurd (not-suc-le-zero (subst (λ (x : List Field). k < length x) e h))

walk_in : (n : ℕ) (l : List ℕ) (i : ℕ) (r : List Field) → fields_from n l i ≡ some r → AllIn l r
walk_in zero l i r e = go (eqb i (length l)) e
  where
    go : (q : Bool) → cond q (some []) none ≡ some r → AllIn l r
    go true z = none_in l r cc
    go false z = absurd (none-ne-some r z)
walk_in (suc n) l i r e = go (λ m c. walk_in n l (3 + (field_at l i).size + i) m c) (eqb i (length l)) (leb next (length l)) refl e
  where
    next : ℕ
    next = 3 + (field_at l i).size + i

    add : (o : Option (List Field)) → ((m : List Field) → o ≡ some m → AllIn l m) → prepend (field_at l i) o ≡ some r → next ≤ length l → AllIn l r
    add none ih z h k b = absurd (none-ne-some r z)
    add (some m) ih z h k b = at k (subst (λ (x : List Field). k < length x) y b)
      where
        y : r ≡ field_at l i ∷ m
        y = cc

        at : (k : ℕ) → k < length (field_at l i ∷ m) → InBlock l (get_or r k no_field)
        at zero c = subst (λ (x : List Field). InBlock l (get_or x 0 no_field)) (sym y) (record { is_field = refl; ends = h })
        at (suc j) c = subst (λ (x : List Field). InBlock l (get_or x (suc j) no_field)) (sym y) (ih m refl j (le_of_suc-le-suc c))

    go : ((m : List Field) → fields_from n l next ≡ some m → AllIn l m) → (p q : Bool) → leb next (length l) ≡ q
        → cond p (some []) (cond q (prepend (field_at l i) (fields_from n l next)) none) ≡ some r → AllIn l r
    go ih true q x z = none_in l r cc
    go ih false true x z = add (fields_from n l next) ih z (leb-true next (length l) x)
    go ih false false x z = absurd (none-ne-some r z)

-- the record chosen among fields: where it stands, that it is one, and of the asked type
pub record Chosen (l : List ℕ) (type : ℕ) (r : List Field) (f : Field) : Type 0 where
  pub at : ℕ
  pub in_list : at < length r
  pub is : get_or r at no_field ≡ f
  pub is_record_lem : is_record l f ≡ true
  pub tag_is : f.tag ≡ type

pub chosen : (l : List ℕ) (type : ℕ) (r : List Field) (f : Field) → record_among l type (some r) ≡ some f → Chosen l type r f
chosen l type r f e =
    let s = stands no_field test r (ap is_none e) in
    let same : get_or r s.at no_field ≡ f = some_is (sym s.is ∙ e) in
    let p = and-true (is_record l f) (eqb f.tag type) (ap test (sym same) ∙ s.passes) in
    record { at = s.at; in_list = s.in_list; is = same; is_record_lem = p.0; tag_is = eqb-true f.tag type p.1 }
  where
    test : Field → Bool
    test h = is_record l h && eqb h.tag type

    some_is : {g h : Field} → some g ≡ some h → g ≡ h
    some_is {g} {h} z = cc

-- the record found in the block
record Matches (l : List ℕ) (type : ℕ) (f : Field) : Type 0 where
  in_block : InBlock l f
  tag_is : f.tag ≡ type
  revision_is : value l f 0 ≡ 1

among : (l : List ℕ) (type : ℕ) (o : Option (List Field)) → ((r : List Field) → o ≡ some r → AllIn l r)
    → (f : Field) → record_among l type o ≡ some f → Matches l type f
among l type none a f e = absurd (none-ne-some f e)
among l type (some r) a f e =
    let s = chosen l type r f e in
    let q = and-true (leb f.tag 2) (eqb (value l f 0) 1) s.is_record_lem in
    record { in_block = subst (InBlock l) s.is (a r refl s.at s.in_list); tag_is = s.tag_is; revision_is = eqb-true (value l f 0) 1 q.1 }

record_matches : (l : List ℕ) (type : ℕ) (f : Field) → record_in l type ≡ some f → Matches l type f
unfolding record_in fields_of
record_matches l type f e = among l type (fields_of l) (λ r c. walk_in (length l) l 0 r c) f e

pub record_part_lem : RecordPart
record_part_lem slot block type = go (first_of (record_refusals slot block type)) (record_in l type) refl refl
  where
    l : List ℕ
    l = deciding slot block

    go : (k : ℕ) (o : Option Field) → first_of (record_refusals slot block type) ≡ k → record_in l type ≡ o → (found_by k o).number ≡ 0
        → ((found_by k o).start + (found_by k o).size ≤ length l) × (byte l (found_by k o).start ≡ type)
        × ((found_by k o).size ≡ 3 + word l (1 + (found_by k o).start)) × (dword l (3 + (found_by k o).start) ≡ 1)
    go zero none e h z =
        let c = clear ((8 if not (block_sound l)) ∷ (9 if is_none (record_in l type)) ∷ []) (omega arith) e in
        absurd (true≢false (ap is_none (sym h) ∙ c.1.0))
    go zero (some f) e h z =
        let m = record_matches l type f h in
        let i = m.in_block.is_field in
        (omega (arith, m.in_block.ends), ap (λ (x : Field). x.tag) (sym i) ∙ m.tag_is, ap (λ (x : Field). 3 + x.size) i, m.revision_is)
    go (suc k) o e h z = absurd (omega (arith, z))
