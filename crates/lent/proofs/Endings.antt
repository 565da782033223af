-- How a call on one bridge of a lent table ends, once the bridge's call has returned.
--     Ending           what the bridge's call hands back, what the function returns, the locals and the statements of its end, the table after them, and the walk of them
--     handed           what the bridge's call hands back is returned, and the table stays
--     kept             of a `BridgeDone`: where its number is 0 the bits that its bridge holds are stored in the table, and the number is returned
-- The walks assume `Logic`.
use mathlib.Core.Path.{refl}
use Prim.Native.Nat.{ℕ}
use mathlib.Core.List.{[], ◌∷◌, List}
use Rattle.walks.proofs.Kit.{Ura, full_share, Ty, w8, w64, Code, place, copy, field, rv_opd, assign, seq, return, Val, vint, vptr, SProp, GName, Lft, Share, froom, fat, Env, Calls, Loops, Item, Sq, lands, frees, prop, at_ret, ‵, ◌$◌, !, move, look, init, forget, stop, fld, from, load, of_opd, assigns, land, returns, whole, sub, look_in, Is}
use types.Logic.{Logic}
use types.Kit.{step}
use denote.Struct.Laws as LL
use Rattle.rules.specs.declared.Table.{Table}
use Rattle.rules.specs.declared.BridgeNumber.{BridgeNumber}
use Rattle.rules.specs.contracts.Table as T
use Rattle.one_bridge.specs.contracts.BridgeDone as D
use Rattle.one_bridge.proofs.BridgeDone.TheLaws as D'
use Rattle.walks.proofs.Frame.{Blocks, Cells, Has, Bound, finds, spread, pack}
use Rattle.walks.proofs.Values.{Value, number, word}
use Rattle.walks.proofs.Borrowed.{Lent}
use Rattle.lent.proofs.Ways.{ref_ty, index}
use Rattle.lent.proofs.BridgeSteps.{bridge_done, store_tys, storing, stored, bridge_stored}

-- the locals that an end touches: the result's, the reference's, i's, those behind i and the last ones
abbrev pub Around : {M : Type 1} (𝓤 : Ura M) (τ : Ty) (mids lasts : List Ty) (b o : ℕ) (n : BridgeNumber) (l t i : ℕ) → Blocks mids → Blocks lasts → List (Item 𝓤) → List (Item 𝓤)
Around 𝓤 τ mids lasts b o n l t i ms xs Γ =
    ‵ (froom τ l 0) ∷ ‵ (fat full_share ref_ty t 0 (vptr b o)) ∷ ‵ (fat full_share word.ty i 0 (vint w64 (index n))) ∷ ‵ (Cells mids ms []) ∷ ‵ (Cells lasts xs []) ∷ Γ

-- the end's walk: it begins where what came back is to be stored
abbrev Ends : (given result : Value) → (given.row.Denot → result.row.Denot) → (Table → BridgeNumber → given.row.Denot → Table) → (mids lasts : List Ty) → (ℕ → ℕ) → ((i d c : ℕ) → Code) → Type 2
Ends given result answer after mids lasts to code =
    (M : Type 1) (𝓤 : Ura M) (𝓛 : Logic 𝓤) (C : Calls 𝓤 𝓛.H) (Λ : Loops 𝓤 𝓛.H) (κ : Lft) (q : Share) (b o : ℕ) (γ : GName) (h : Table) (n : BridgeNumber) (Post : Val → SProp 𝓤)
    (E' : Env 𝓤 𝓛.H) (l t m i d c : ℕ) (ms : Blocks mids) (xs : Blocks lasts) → let E : Env 𝓤 𝓛.H = (result.ty, l) ∷ (ref_ty, t) ∷ E' in
    Has 𝓤 𝓛.H E i (word.ty, m) → Bound 𝓤 𝓛.H E d mids ms → Bound 𝓤 𝓛.H E c lasts xs → (x : given.row.Denot) → Is given.row x (given.val x ∷ []) → (Γ : List (Item 𝓤))
    → (Is result.row (answer x) (result.val (answer x) ∷ []) → Sq 𝓛 (Around 𝓤 result.ty mids lasts b o n l t m ms xs (Lent 𝓤 T.the_row κ q b o γ (after h n x) Γ)) (frees E (prop (Post (result.val (answer x))))))
    → Sq 𝓛 (Around 𝓤 result.ty mids lasts b o n l t m ms xs (Lent 𝓤 T.the_row κ q b o γ h Γ)) (lands C Λ E (place (to d) []) (given.val x) (code i d c) (at_ret E Post))

-- `mids` are locals behind i, from number d on, and `lasts` the last ones, from c on; what came back is stored in local `to d`
pub record Ending : Type 2 where
  pub given : Value
  pub result : Value
  pub answer : given.row.Denot → result.row.Denot
  pub after : Table → BridgeNumber → given.row.Denot → Table
  pub mids : List Ty
  pub lasts : List Ty
  pub to : ℕ → ℕ
  pub code : (i d c : ℕ) → Code
  pub ends : Ends given result answer after mids lasts to code

pub handed_ends : (V' : Value) → Ends V' V' (λ x. x) (λ h n x. h) [] [] (λ d. 0) (λ i d c. return)
handed_ends V' M 𝓤 𝓛 C Λ κ q b o γ h n Post E' l t m i d c ms xs at_i at_d at_c x is Γ go = land ! (from ! (stop !)) (init ! 0 refl (V'.typed 𝓛 x is)) $ returns ! (look ! 0 refl) $ forget ! 0 refl $ go is

abbrev pub handed : Value → Ending
handed V' = record { given = V'; result = V'; answer = λ x. x; after = λ h n x. h; mids = []; lasts = []; to = λ d. 0; code = λ i d c. return; ends = handed_ends V' }

abbrev kept_code : (i d c : ℕ) → Code
kept_code i d c = storing i d c (seq (assign (place 0 []) (rv_opd (copy (place d (field 0 ∷ []))))) return)

pub kept_ends : Ends bridge_done (number w8) (λ x. x.number) (λ h n x. stored h n x.number x.bridge) (bridge_done.ty ∷ []) store_tys (λ d. d) kept_code
kept_ends M 𝓤 𝓛 C Λ κ q b o γ h n Post E' l t m i d c ms xs at_i at_d at_c x is Γ go =
    let E : Env 𝓤 𝓛.H = ((number w8).ty, l) ∷ (ref_ty, t) ∷ E' in let owed = LL.owed D.the_type D'.the_laws x _ is in
    -- [q'; …; q; …; v'; …; p'; …; p; …; w; …; v; …; the test; …; what came back; …; the result; the reference; i; the borrow]
    move ! (3 ∷ []) $ step (spread 𝓛 (bridge_done.ty ∷ []) ms []) $ land ! (finds 𝓛 at_d.0 (stop !)) (init ! 0 refl (bridge_done.typed 𝓛 x is)) $ move ! (5 ∷ []) $ step (spread 𝓛 store_tys xs []) $
    move ! (19 ∷ 20 ∷ 10 ∷ 8 ∷ 6 ∷ 2 ∷ 0 ∷ 16 ∷ 14 ∷ 12 ∷ 4 ∷ 21 ∷ 22 ∷ 23 ∷ []) $ step (bridge_stored 𝓛 C Λ E b o i t m refl at_i (at_ret E Post) κ q γ h n d c ms.0 xs at_d.0 at_c x owed.1.0) $
    -- [the reference; i; w; p; p'; q; q'; what came back; the test; v; v'; the borrow; q''s end; …; what came back's; the result]
    assigns ! (of_opd ! (load ! (finds 𝓛 at_d.0 (fld ! refl (stop !))) (look_in ! 7 (sub ! 0 refl (whole !))))) (from ! (stop !)) (init ! 23 refl (tt, record { fits = owed.0.1 })) $
    returns ! (look ! 23 refl) $ forget ! 23 refl $ forget ! 7 refl $
    move ! (6 ∷ 14 ∷ 5 ∷ 15 ∷ 10 ∷ 16 ∷ 4 ∷ 17 ∷ 3 ∷ 18 ∷ 2 ∷ 19 ∷ 9 ∷ 20 ∷ 8 ∷ 21 ∷ 7 ∷ 22 ∷ []) $ step (pack 𝓛 store_tys xs []) $ move ! (1 ∷ 2 ∷ []) $ step (pack 𝓛 (bridge_done.ty ∷ []) ms []) $ move ! (7 ∷ 2 ∷ 3 ∷ []) $ go owed.0

abbrev pub kept : Ending
kept = record { given = bridge_done; result = number w8; answer = λ x. x.number; after = λ h n x. stored h n x.number x.bridge; mids = bridge_done.ty ∷ []; lasts = store_tys; to = λ d. d; code = kept_code; ends = kept_ends }
