-- Of an array in a local the first n elements are lent.
--     take_min     the first of a list, however many are asked for
--     rest         the elements after the first n.        cuts, glues      the first n elements of an array in memory, apart from the rest, and back
--     lends_first, first_back      as steps: the first n elements are lent as a shared slice, and come back
-- `take_min` assumes nothing, the others assume `Logic`. `lends_first` takes that an element can be copied (`Copied`).
use types.Logic.{Logic, sem}
use denote.Slice.{shr_slice_vals}
use denote.Bor.{Bor}
use mathlib.Core.Path.{◌≡◌, refl, sym, ap, ◌∙◌}
use mathlib.Core.Bool.{Bool, true, false}
use Prim.Native.Nat.{ℕ, zero, suc, ◌+◌, min}
use native.Mathlib.Nat.{min-eq_left, min-eq_right}
use native.Mathlib.Omega.{arith}
use mathlib.Core.List.{List, [], ◌∷◌}
use borrow.Author.Tests.{leb-true, leb-false}
use lib.Dec.{leb}
use lib.ListN.{length, take}
use lib.Seq.{take_all}
use Rattle.walks.proofs.Kit.{Ura, full_share, erased, ent, sep, Fml, Share, ftrue, flft, flent, Goal, Soaks, Item, Seq, Step, ‵, ◌⊛◌, later, ◌$◌, ◌∵◌, !, qed, move, use1, use2, drop, split, await, fsplit, fjoin, feq_i, done, arr_parts, RattleType, part_at, mem, shares, ShrSlice, Room, Array, nothing}
use types.Kit.{step}
use types.Tokens.{lft_new, lft_end, lent_back}
use base.Fml.{Incl-refl}
use denote.Copied.{Copied}
use denote.Lend.{lends_shr_slice}
use denote.ArrayMemory.{Single, Array-apart, Array-whole}
use denote.Index.{row}
use Rattle.walks.proofs.Values.{Value}
use Rattle.walks.proofs.Arrays.{IsArray, Whole, to_memory, to_local}

pub take_min : {A : Type 0} (l : List A) (c k : ℕ) → length l ≡ k → take (min c k) l ≡ take c l
take_min l c k e = go (leb c k) refl
  where
    go : (t : Bool) → leb c k ≡ t → take (min c k) l ≡ take c l
    go true h = ap (λ (n : ℕ). take n l) (min-eq_left (leb-true c k h))
    go false h =
        let over = leb-false c k h in
        ap (λ (n : ℕ). take n l) (min-eq_right {n = k} {m = c} (omega arith)) ∙ take_all k l (omega arith) ∙ sym (take_all c l (omega arith))

module _ (R : RattleType) (q : Share) where
  abbrev rest : ℕ → List R.Denot → ℕ → ℕ → Fml
  rest zero xs b o = row R q xs b o
  rest (suc n) [] b o = ftrue
  rest (suc n) (x ∷ xs) b o = rest n xs b (o + (mem R).size)

  module _ {M : Type 1} {𝓤 : Ura M} (𝓛 : Logic 𝓤) where
    cuts : (n : ℕ) (xs : List R.Denot) (b o : ℕ) → ent 𝓤 (sem 𝓛 (row R q xs b o)) (sep 𝓤 (sem 𝓛 (row R q (take n xs) b o)) (sem 𝓛 (rest n xs b o)))
    cuts zero xs b o = qed 𝓛 (‵ (row R q xs b o) ∷ []) ∵ nothing ! $ done !
    cuts (suc n) [] b o = qed 𝓛 (‵ (row R q [] b o) ∷ []) ∵ nothing ! $ done !
    cuts (suc n) (x ∷ xs) b o =
        qed 𝓛 (‵ (row R q (x ∷ xs) b o) ∷ []) ∵ fsplit ! $ move ! (1 ∷ []) $ use1 𝓛 (‵ (row R q (take n xs) b (o + (mem R).size)) ⊛ ‵ (rest n xs b (o + (mem R).size))) (cuts n xs b (o + (mem R).size)) $ split ! $
        move ! (2 ∷ 0 ∷ []) $ fjoin ! $ done !

    glues : (n : ℕ) (xs : List R.Denot) (b o : ℕ) → ent 𝓤 (sep 𝓤 (sem 𝓛 (row R q (take n xs) b o)) (sem 𝓛 (rest n xs b o))) (sem 𝓛 (row R q xs b o))
    glues zero xs b o = qed 𝓛 (‵ ftrue ∷ ‵ (row R q xs b o) ∷ []) ∵ drop ! $ done !
    glues (suc n) [] b o = qed 𝓛 (‵ ftrue ∷ ‵ ftrue ∷ []) ∵ drop ! $ done !
    glues (suc n) (x ∷ xs) b o =
        qed 𝓛 (‵ (row R q (x ∷ take n xs) b o) ∷ ‵ (rest n xs b (o + (mem R).size)) ∷ []) ∵ fsplit ! $ move ! (1 ∷ 2 ∷ []) $
        use2 𝓛 (‵ (row R q xs b (o + (mem R).size))) (glues n xs b (o + (mem R).size)) $ move ! (1 ∷ 0 ∷ []) $ fjoin ! $ done !

-- ---- an array of N elements, in the local at l
module _ (V' : Value) (N l : ℕ) where
  abbrev R : RattleType
  R = V'.row

  -- its elements, side by side
  abbrev Apart : List R.Denot → Fml
  Apart xs = (arr_parts (shares R) N).part full_share xs l 0

  -- the first n, as a shared slice and side by side
  abbrev pub first : ℕ → List R.Denot → Bor (List R.Denot)
  first n xs = record { ref_ptr = (l, 0); now = take n xs }

  abbrev Parts : ℕ → List R.Denot → Fml
  Parts n xs = (arr_parts (shares R) (length (take n xs))).part full_share (take n xs) l 0

  module _ {M : Type 1} {𝓤 : Ura M} {𝓛 : Logic 𝓤} {K : Type 0} {Γ : List (Item 𝓤)} {G : Goal 𝓤 𝓛.H} where
    module _ (n : ℕ) (xs : List R.Denot) where
      -- they are lent for a lifetime that is made here: [its token; what the slice owns; what is lent; the rest; …]. It ends, and the array is whole again
      pub lends_first : K → Soaks G → Single R.mir → Copied 𝓛 R → IsArray V' N l xs → Room R (length (take n xs))
          → ((α : ℕ) → Seq K 𝓛 (‵ (flft (α ∷ []) full_share) ∷ ‵ ((ShrSlice erased (α ∷ []) R).own_val (first n xs) (shr_slice_vals (first n xs))) ∷ ‵ (flent (α ∷ []) (Parts n xs)) ∷ ‵ (rest R full_share n xs l 0) ∷ Γ) G) → Seq K 𝓛 (‵ (Whole V' N l xs) ∷ Γ) G
      lends_first t z s c is room k =
          to_memory V' N l t xs is $ use1 𝓛 (‵ (Apart xs)) (Array-apart 𝓛 R full_share s N xs l 0) $ fsplit t $ drop t $ use1 𝓛 (‵ (row R full_share (take n xs) l 0) ⊛ ‵ (rest R full_share n xs l 0)) (cuts R full_share 𝓛 n xs l 0) $ split t $ feq_i t ℕ (length (take n xs)) (length (take n xs)) refl $ fjoin t $
          lft_new t z (λ α. move t (1 ∷ 0 ∷ []) $ use2 𝓛 (later ((‵ ((ShrSlice erased (α ∷ []) R).own_val (first n xs) (shr_slice_vals (first n xs))) ⊛ ‵ (flent (α ∷ []) (Parts n xs))) ⊛ ‵ (flft (α ∷ []) full_share)))
          (lends_shr_slice 𝓛 R erased (α ∷ []) full_share (take n xs) l 0 room (α ∷ []) (c.shares full_share (α ∷ [])) ((α ∷ [], full_share) ∷ []) (Incl-refl (α ∷ [])) (Incl-refl (α ∷ []))) $
          await t z $ split t $ split t $ move t (2 ∷ []) $ k α)

      pub first_back : K → Soaks G → IsArray V' N l xs → (α : ℕ) → Step K 𝓛 (‵ (Whole V' N l xs) ∷ Γ) G (‵ (flft (α ∷ []) full_share) ∷ ‵ (flent (α ∷ []) (Parts n xs)) ∷ ‵ (rest R full_share n xs l 0) ∷ Γ) G
      first_back t z is α = step (λ k. lft_end t z $ lent_back t z $ fsplit t $ drop t $ use2 𝓛 (‵ (row R full_share xs l 0)) (glues R full_share 𝓛 n xs l 0) $
          feq_i t ℕ (length xs) N is.1.0.1 $ fjoin t $ use1 𝓛 (‵ (part_at (Array R N) full_share xs l 0)) (Array-whole 𝓛 R full_share N xs l 0) $ to_local V' N l t xs (λ _. k))
