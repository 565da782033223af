-- An array in a local is a value in memory.
--     IsArray          these are the elements of one.        Whole        the local's cell
--     to_memory, to_local          as steps: the local's cell is the array in memory, and is the local's cell again
-- The steps assume `Logic`.
use Prim.Native.Nat.{ℕ}
use mathlib.Core.List.{List, [], ◌∷◌}
use Rattle.walks.proofs.Kit.{Ura, full_share, Val, Fml, fsep, fat, Goal, Item, Seq, Step, ‵, ◌$◌, move, use1, fsplit, fjoin, fpick, fpack, RattleType, Is, shows, cell_at, part_at, Array, facts, owned}
use types.Logic.{Logic}
use types.Kit.{step}
use denote.Memory.{part_of}
use denote.Struct.Steps.{spelt}
use Rattle.walks.proofs.Values.{Value, array}

-- of N elements, in the local at l
module _ (V' : Value) (N l : ℕ) where
  abbrev R : RattleType
  R = V'.row

  abbrev pub IsArray : List R.Denot → Type 0
  IsArray xs = Is (array V' N).row xs ((array V' N).val xs ∷ [])

  abbrev pub Whole : List R.Denot → Fml
  Whole xs = fat full_share (array V' N).ty l 0 ((array V' N).val xs)

  module _ {M : Type 1} {𝓤 : Ura M} {𝓛 : Logic 𝓤} {K : Type 0} {Γ : List (Item 𝓤)} {G : Goal 𝓤 𝓛.H} where
    pub to_memory : K → (xs : List R.Denot) → IsArray xs → Step K 𝓛 (‵ (part_at (Array R N) full_share xs l 0) ∷ Γ) G (‵ (Whole xs) ∷ Γ) G
    unfolding part_of
    to_memory t xs is = step (λ k. let v = (array V' N).val xs in
        use1 𝓛 (‵ (cell_at full_share (Array R N).mir (v ∷ []) l 0)) (𝓛.laws.at_raw full_share (array V' N).ty l 0 v) $ owned t (Array R N) (Is (Array R N)) ((array V' N).makes 𝓛) xs (v ∷ []) is $ move t (1 ∷ 0 ∷ []) $ fjoin t $
        fpack t (List Val) (λ vs. fsep (cell_at full_share (Array R N).mir vs l 0) ((Array R N).own_val xs vs)) (v ∷ []) $ k)

    pub to_local : K → (xs : List R.Denot) → (IsArray xs → Seq K 𝓛 (‵ (Whole xs) ∷ Γ) G) → Seq K 𝓛 (‵ (part_at (Array R N) full_share xs l 0) ∷ Γ) G
    unfolding part_of
    to_local t xs k = fpick t (λ vs. fsplit t $ spelt t (Array R N) (Is (Array R N)) (shows 𝓛 (Array R N)) (λ x. (array V' N).val x ∷ []) (array V' N).tells full_share xs vs l 0 $
        use1 𝓛 (‵ (Whole xs)) (𝓛.laws.raw_at full_share (array V' N).ty l 0 ((array V' N).val xs)) $ move t (1 ∷ []) $ facts t (Array R N) (Is (Array R N)) (shows 𝓛 (Array R N)) xs ((array V' N).val xs ∷ []) k)
