-- The settings read from a block whose fields are whole records are these records, and laid down again they give the block.
-- Assumes nothing.
use mathlib.Core.Path.{◌≡◌, refl, sym, ap, ap₂, ◌∙◌, subst}
use mathlib.Core.Bool.{Bool, true, false, cond, ◌&&◌}
use mathlib.Core.List.{List, [], ◌∷◌, ◌++◌, map}
use mathlib.Core.Option.{Option, none, some, none-ne-some}
use Prim.Native.Nat.{ℕ, zero, suc, ◌+◌, ◌*◌, ◌/◌, ◌≤◌, ◌<◌}
use native.Mathlib.Omega.{arith}
use borrow.Author.Tests.{eqb-true, eqb-false, leb-true, ne_eqb}
use lib.Dec.{eqb, leb}
use lib.ListN.{length, drop}
use lib.Seq.{drop-length, drop-cons}
use Rattle.rules.specs.Lists.{first, prepend}
use Rattle.rules.specs.Numbers.{le16, le32, dwords}
use Rattle.rules.specs.Records.{field_at, fields_from, fields_of, value, is_record, record_size, record_among, record_in}
use Rattle.rules.specs.Writer.{Setting, pci_numbers, pci_x_numbers, express_numbers, if_present, present_in, record_bytes, laid_down, numbers_from, numbers_of, flag_of, pci_of, pci_x_of, express_of, read_settings, are_bytes}
use Rattle.rules.specs.declared.Field.{Field}
use Rattle.rules.proofs.Bytes.{word_again, dword_again}
use Rattle.rules.proofs.Rising.{none_below}
use Rattle.rules.proofs.Whole.{setting_at, Whole, Fields, is_of, size_is, numbers_by, is_record_lem}
use Rattle.rules.proofs.Laying.{one_by_one}

-- ---- read

-- the numbers of a record of a type, read into its values and given again
abbrev again : (type : ℕ) → List ℕ → List ℕ
again zero v = pci_numbers (pci_of v)
again (suc zero) v = pci_x_numbers (pci_x_of v)
again (suc (suc t)) v = express_numbers (express_of v)

module _ (l : List ℕ) where
  -- nothing is lost, since the revision is 1
  numbers_same : (t : ℕ) (f : Field) → value l f 0 ≡ 1 → again t (numbers_from (record_size t / 4) 0 l f) ≡ numbers_from (record_size t / 4) 0 l f
  numbers_same zero f e = rw e
  numbers_same (suc zero) f e = rw e
  numbers_same (suc (suc t)) f e = rw e

  -- what is read of a type, by the field found
  abbrev read_as : ℕ → Option Field → List Setting
  read_as t o = if_present (flag_of o) t (again t (numbers_of l o))

  -- of a whole record it is that record
  read_same : (f : Field) → Whole l f → read_as f.tag (some f) ≡ setting_at l f ∷ []
  read_same f w =
      let e = ap (again f.tag) (numbers_by l f w) ∙ numbers_same f.tag f w.revision ∙ sym (numbers_by l f w) in
      ap (λ (v : List ℕ). record { type = f.tag; numbers = v } ∷ []) e

  -- what is read of n types, from type t on, from a list of fields
  abbrev read_from : (n t : ℕ) → List Field → List Setting
  read_from zero t r = []
  read_from (suc n) t r = read_as t (first (is_of t) r) ++ read_from n (suc t) r

  -- a field of a lower type is passed over
  passed : (n t : ℕ) (f : Field) (r : List Field) → f.tag < t → read_from n t (f ∷ r) ≡ read_from n t r
  passed zero t f r h = refl
  passed (suc n) t f r h = rw (ne_eqb f.tag t (λ e. omega arith), passed n (suc t) f r (omega arith))

  -- what is read of all types is all records, in their order
  read_all : (n t : ℕ) (r : List Field) → n + t ≡ 3 → Fields l t r → read_from n t r ≡ map (setting_at l) r
  read_all zero t [] e w = refl
  read_all zero t (f ∷ r) e w = absurd (omega arith)
  read_all (suc n) t [] e w = read_all n (suc t) [] (omega arith) tt
  read_all (suc n) t (f ∷ r) e w =
      go (λ m k. read_all n (suc t) m (omega arith) k) (eqb f.tag t) refl
    where
      go : ((m : List Field) → Fields l (suc t) m → read_from n (suc t) m ≡ map (setting_at l) m) → (q : Bool) → eqb f.tag t ≡ q
          → read_as t (cond q (some f) (first (is_of t) r)) ++ read_from n (suc t) (f ∷ r) ≡ map (setting_at l) (f ∷ r)
      go ih true x =
          let k : f.tag ≡ t = eqb-true f.tag t x in
          ap₂ (λ (a b : List Setting). a ++ b) (subst (λ (u : ℕ). read_as u (some f) ≡ setting_at l f ∷ []) k (read_same f w.1))
          (passed n (suc t) f r (omega arith) ∙ ih r (subst (λ (u : ℕ). Fields l (suc u) r) k w.2))
      go ih false x =
          let d : (f.tag ≡ t → ⊥) = eqb-false f.tag t x in
          rw (none_below (λ (g : Field). g.tag) (Whole l) t (suc f.tag) (omega arith) r w.2) (ih (f ∷ r) (omega arith, w.1, w.2))

  -- with whole records alone, the record search goes by the type alone
  search_same : (type t : ℕ) (r : List Field) → Fields l t r → first (λ f. is_record l f && is_of type f) r ≡ first (is_of type) r
  search_same type t [] w = refl
  search_same type t (f ∷ r) w = rw (is_record_lem l f w.1, search_same type (suc f.tag) r w.2)

  module _ (r : List Field) (e : fields_of l ≡ some r) (w : Fields l 0 r) where
    -- the record search, and the settings, of a block with these fields
    pub found_by_type : (type : ℕ) → record_in l type ≡ first (is_of type) r
    unfolding record_in
    found_by_type type = ap (record_among l type) e ∙ search_same type 0 r w

    pub settings_same : present_in (read_settings l) ≡ map (setting_at l) r
    unfolding present_in read_settings
    settings_same = rw (found_by_type 0, found_by_type 1, found_by_type 2, one_by_one) (read_all 3 0 r refl w)

-- ---- laid down again

module _ (l : List ℕ) (h : are_bytes l ≡ true) where
  numbers_length : (n k : ℕ) (f : Field) → length (numbers_from n k l f) ≡ n
  numbers_length zero k f = refl
  numbers_length (suc n) k f = ap suc (numbers_length n (suc k) f)

  -- n numbers of a field from its number k on, which end at byte j
  numbers_again : (n k j : ℕ) (f : Field) → 4 * n + (3 + 4 * k + f.start) ≡ j → j ≤ length l
      → drop (3 + 4 * k + f.start) l ≡ dwords (numbers_from n k l f) ++ drop j l
  numbers_again zero k j f e b = let p : 3 + 4 * k + f.start ≡ j = omega arith in ap (λ (x : ℕ). drop x l) p
  numbers_again (suc n) k j f e b =
      let p : 4 + (3 + 4 * k + f.start) ≡ 3 + 4 * suc k + f.start = omega arith in
      dword_again l h (3 + 4 * k + f.start) (omega arith)
      ∙ ap (λ (m : List ℕ). le32 (value l f k) ++ m) (ap (λ (x : ℕ). drop x l) p ∙ numbers_again n (suc k) j f (omega arith) b)

  module _ (i : ℕ) (w : Whole l (field_at l i)) (b : 3 + (field_at l i).size + i ≤ length l) where
    abbrev f : Field
    f = field_at l i

    -- one field: its value is whole numbers, its header, the whole of it
    whole_numbers : 4 * (f.size / 4) ≡ f.size
    whole_numbers = let e : f.size ≡ record_size f.tag = w.long in omega (arith, (size_is f.tag).exact)

    header_again : drop i l ≡ (f.tag ∷ le16 f.size) ++ drop (3 + i) l
    header_again =
        let p : suc i ≡ 1 + i = omega arith in
        let q : 2 + (1 + i) ≡ 3 + i = omega arith in
        drop-cons l i 0 (omega arith)
        ∙ ap (λ (m : List ℕ). f.tag ∷ m) (ap (λ (x : ℕ). drop x l) p ∙ word_again l h (1 + i) (omega arith) ∙ ap (λ (x : ℕ). le16 f.size ++ drop x l) q)

    field_again : drop i l ≡ record_bytes (setting_at l f) ++ drop (3 + f.size + i) l
    field_again =
        let n : f.size ≡ 4 * length (numbers_from (f.size / 4) 0 l f) = omega (arith, whole_numbers, numbers_length (f.size / 4) 0 f) in
        header_again ∙ ap₂ (λ (x : ℕ) (m : List ℕ). (f.tag ∷ le16 x) ++ m) n (numbers_again (f.size / 4) 0 (3 + f.size + i) f (omega (arith, whole_numbers)) b)

  -- at the end nothing is left
  at_end : (i : ℕ) (r : List Field) → eqb i (length l) ≡ true → r ≡ [] → drop i l ≡ laid_down (map (setting_at l) r)
  at_end i r e z = rw (z, eqb-true i (length l) e) (drop-length l)

  -- all fields from byte i on
  fields_again : (n t i : ℕ) (r : List Field) → fields_from n l i ≡ some r → Fields l t r → drop i l ≡ laid_down (map (setting_at l) r)
  fields_again zero t i r e w = go (eqb i (length l)) refl e
    where
      go : (q : Bool) → eqb i (length l) ≡ q → cond q (some []) none ≡ some r → drop i l ≡ laid_down (map (setting_at l) r)
      go true x z = at_end i r x cc
      go false x z = absurd (none-ne-some r z)
  fields_again (suc n) t i r e w =
      go (λ m z k. fields_again n (suc (field_at l i).tag) next m z k) (eqb i (length l)) refl (leb next (length l)) refl (fields_from n l next) refl e
    where
      next : ℕ
      next = 3 + (field_at l i).size + i

      go : ((m : List Field) → fields_from n l next ≡ some m → Fields l (suc (field_at l i).tag) m → drop next l ≡ laid_down (map (setting_at l) m))
          → (p : Bool) → eqb i (length l) ≡ p → (q : Bool) → leb next (length l) ≡ q → (o : Option (List Field)) → fields_from n l next ≡ o
          → cond p (some []) (cond q (prepend (field_at l i) o) none) ≡ some r → drop i l ≡ laid_down (map (setting_at l) r)
      go ih true x q y o v z = at_end i r x cc
      go ih false x false y o v z = absurd (none-ne-some r z)
      go ih false x true y none v z = absurd (none-ne-some r z)
      go ih false x true y (some m) v z =
          let s : r ≡ field_at l i ∷ m = cc in
          let k : Fields l t (field_at l i ∷ m) = subst (Fields l t) s w in
          field_again i k.1 (leb-true next (length l) y)
          ∙ ap (λ (d : List ℕ). record_bytes (setting_at l (field_at l i)) ++ d) (ih m v k.2)
          ∙ ap (λ (g : List Field). laid_down (map (setting_at l) g)) (sym s)

  -- all fields of the block
  pub block_again : (r : List Field) → fields_of l ≡ some r → Fields l 0 r → l ≡ laid_down (map (setting_at l) r)
  unfolding fields_of
  block_again r e w = fields_again (length l) 0 0 r e w
