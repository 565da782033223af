-- The records that are present: laid down one after the other, and what they come to.
-- Assumes nothing.
use Prim.Native.Nat.{ℕ, ◌+◌, ◌*◌, ◌≤◌, ◌<◌}
use mathlib.Core.Path.{◌≡◌, refl, sym, subst, ap, ap₂, ◌∙◌}
use mathlib.Core.Bool.{Bool, true, false, cond, ◌&&◌, and_assoc}
use mathlib.Core.List.{List, [], ◌∷◌, ◌++◌, append_assoc, append-nil}
use borrow.Author.Tests.{lt-ltb, le-ltb}
use lib.Dec.{eqb}
use lib.ListN.{length, drop, length-append}
use Rattle.std.specs.Prelude.{Option, Some, None, Result, Ok, Err, MatchResult}
use Rattle.codes.specs.declared.Refusal.{Refusal}
use Rattle.codes.specs.declared.Refusal.TheVariants.{RecordValue, ShortBuffer}
use Rattle.rules.specs.Lists.{every}
use Rattle.rules.specs.Writer.{Setting, pci_numbers, pci_x_numbers, express_numbers, if_present, present_in, record_bytes, laid_down, setting_sound, write_records, buffer_after}
use Rattle.rules.specs.declared.Settings.{Settings}
use Rattle.rules.proofs.Laying.{record_length}
use Rattle.writer.specs.Measures.{if_some, records, measured, written}
use Rattle.writer.specs.Splices.{splice}
use Rattle.writer.specs.declared.Present.{Present}

-- a record by its flag
pub by_flag : {S : Type 0} (flag type : ℕ) (numbers : S → List ℕ) (r : S) (o : Option S) → o ≡ cond (eqb flag 0) None (Some r) → if_some type numbers o ≡ if_present flag type (numbers r)
by_flag flag type numbers r o e = ap (if_some type numbers) e ∙ go (eqb flag 0)
  where
    go : (t : Bool) → if_some type numbers (cond t None (Some r)) ≡ cond t [] (record { type = type; numbers = numbers r } ∷ [])
    go true = refl
    go false = refl

-- one record of n numbers, which is all of a list
module _ (r : Setting) (n : ℕ) (long : length r.numbers ≡ n) (o : List Setting) (is : o ≡ r ∷ []) where
  pub one_length : length (laid_down o) ≡ 3 + 4 * n
  one_length = rw is (ap length (append-nil (record_bytes r)) ∙ record_length r ∙ ap (λ (k : ℕ). 3 + 4 * k) long)

  pub one_measured : setting_sound r ≡ true → Ok (3 + 4 * n) ≡ measured o
  one_measured s = rw (sym one_length, is, s)

  pub one_written : (at : ℕ) (b b₁ : List ℕ) → b₁ ≡ splice at (record_bytes r) b → (3 + 4 * n + at ≡ length (laid_down o) + at) × (b₁ ≡ splice at (laid_down o) b)
  one_written at b b₁ e =
      (ap (λ (k : ℕ). k + at) (sym one_length), e ∙ ap (λ (x : List ℕ). splice at x b) (rw is (sym (append-nil (record_bytes r)))))

-- ---- one list behind another

pub laid_append : (l m : List Setting) → laid_down (l ++ m) ≡ laid_down l ++ laid_down m
laid_append [] m = refl
laid_append (r ∷ l) m = ap (λ (x : List ℕ). record_bytes r ++ x) (laid_append l m) ∙ sym (append_assoc (record_bytes r) (laid_down l) (laid_down m))

every_append : (l m : List Setting) → every setting_sound (l ++ m) ≡ (every setting_sound l && every setting_sound m)
every_append [] m = refl
every_append (x ∷ l) m = ap (λ (q : Bool). setting_sound x && q) (every_append l m) ∙ sym (and_assoc (setting_sound x) (every setting_sound l) (every setting_sound m))

-- the first refusal, or the bytes added
abbrev pub joined : (a b : Result ℕ Refusal) → Result ℕ Refusal
joined (Ok j) (Ok k) = Ok (j + k)
joined (Ok j) (Err r) = Err r
joined (Err r) b = Err r

measured_append : (l m : List Setting) → measured (l ++ m) ≡ joined (measured l) (measured m)
measured_append l m = rw (every_append l m, laid_append l m, length-append (laid_down l) (laid_down m)) (go (every setting_sound l) (every setting_sound m))
  where
    go : (p q : Bool) → cond (p && q) (Ok (length (laid_down l) + length (laid_down m))) (Err RecordValue)
        ≡ joined (cond p (Ok (length (laid_down l))) (Err RecordValue)) (cond q (Ok (length (laid_down m))) (Err RecordValue))
    go true true = refl
    go true false = refl
    go false q = refl

-- the three that may be absent
module _ (p : Present) where
  abbrev pub first : List Setting
  first = if_some 0 pci_numbers p.pci

  abbrev pub second : List Setting
  second = if_some 1 pci_x_numbers p.pci_x

  abbrev pub third : List Setting
  third = if_some 2 express_numbers p.express

  pub measured_three : (a b c : Result ℕ Refusal) → a ≡ measured first → b ≡ measured second → c ≡ measured third → joined (joined a b) c ≡ measured (records p)
  measured_three a b c e f g =
      ap₂ joined (ap₂ joined e f ∙ sym (measured_append first second)) g ∙ sym (measured_append (first ++ second) third)

  pub laid_three : laid_down (records p) ≡ laid_down first ++ laid_down second ++ laid_down third
  laid_three = laid_append (first ++ second) third ∙ ap (λ (x : List ℕ). x ++ laid_down third) (laid_append first second)

-- what the writer answers, and the buffer after it, by what the records come to
told : (t : Bool) (k : ℕ) (a : Result ℕ Refusal) → a ≡ cond t (Ok k) (Err RecordValue) → MatchResult a (λ n. (t ≡ true) × (n ≡ k)) (λ r. (t ≡ false) × (r ≡ RecordValue))
told true k a e = rw e (refl, refl)
told false k a e = rw e (refl, refl)

module _ (s : Settings) (b : List ℕ) where
  abbrev sound : Bool
  sound = every setting_sound (present_in s)

  abbrev all : List ℕ
  all = laid_down (present_in s)

  pub refused : (r : Refusal) → Err r ≡ measured (present_in s) → (written (Err r) ≡ write_records s b) × (b ≡ buffer_after s b)
  refused r e = let t = told sound (length all) (Err r) e in rw (t.0, t.1) (refl, refl)

  module _ (n : ℕ) (e : Ok n ≡ measured (present_in s)) where
    pub is_length : n ≡ length all
    is_length = (told sound (length all) (Ok n) e).1

    pub too_short : length b < n → (written (Err ShortBuffer) ≡ write_records s b) × (b ≡ buffer_after s b)
    too_short h = rw ((told sound (length all) (Ok n) e).0, lt-ltb (length b) (length all) (subst (λ (k : ℕ). length b < k) is_length h)) (refl, refl)

    pub done : n ≤ length b → (b₁ : List ℕ) → b₁ ≡ all ++ drop (length all) b → (written (Ok n) ≡ write_records s b) × (b₁ ≡ buffer_after s b)
    done h b₁ g =
        rw ((told sound (length all) (Ok n) e).0, le-ltb (length b) (length all) (subst (λ (k : ℕ). k ≤ length b) is_length h), is_length, g) (refl, refl)
