-- A function of values and shared slices (`Params`), whose result is plain data: how its walk begins and ends.
--     Still            these parameters are seen at exit as they were passed: `λ κs. refl` for each
--     Closing          what the walk is handed for its end: what is to be shown at the return, from the tokens, a result, and what is ensured of it
--     Beginning        what it begins with
--     on_shared        the function meets its contract, by a walk from the tokens, what the slices own, and what is required
-- The lemmas take `Logic`, as every statement about a function does.
use mathlib.Core.Path.{◌≡◌, sym, subst}
use mathlib.Core.Bool.{true}
use Prim.Native.Nat.{ℕ}
use mathlib.Core.List.{List, [], ◌∷◌, ◌++◌}
use Rattle.walks.proofs.Kit.{Ura, Callee, Fn, SProp, ent, sep, emp, via, id⊢, emp∗, assoc∗, fst∗, mono∗, mono_l, Model, Routines, WpFn, Entry, sem, Lfts, Shares, toks, Running, tables, Item, Sq, prop, raw, ‵, ⋆, ++⊢, ⊢++, ◌$◌, ◌∵◌, !, qed, use0, suffices, frame, done, Is, Exit, Last, left, unchanged, yes, plain, owned, Ended, Clauses, Lasts, at_exit, lasts, all, Fins, lasts_of, Triple}
use Rattle.walks.proofs.Values.{Value}
use Rattle.walks.proofs.Contracts.{Contracted, Post, ends, machine, walked}
use Rattle.walks.proofs.Params.{Param, inner, slots, Args, spells, all_tell, vals, Owns, Sound}
use Rattle.walks.proofs.Calls.{tokens, needed, Asked, tokens_in, tokens_out, all_give, callee}
use types.Logic.{Logic, sem}

abbrev pub Still : {n : ℕ} → List (Param n) → Type 1
Still [] = Unit
Still {n} (P ∷ Ps) = ((κs : Lfts n) → P.exit κs true ≡ unchanged) × Still Ps

-- what is bound for a value, with what is said of it
abbrev Left : {M : Type 1} {𝓤 : Ura M} (𝓛 : Logic 𝓤) {X : Type 0} → Exit X → X → Type 1
Left {𝓤 = 𝓤} 𝓛 e x = (w : Last e x) × ent 𝓤 (emp 𝓤) (sem 𝓛 (left e x w))

all_left : {M : Type 1} {𝓤 : Ura M} (𝓛 : Logic 𝓤) {n : ℕ} (κs : Lfts n) (Ps : List (Param n)) → Still Ps → (a : Args (inner n) κs Ps)
    → (ws : Fins κs (slots (inner n) Ps) (all yes (slots (inner n) Ps)) a) × ent 𝓤 (emp 𝓤) (sem 𝓛 (lasts_of κs (slots (inner n) Ps) (all yes (slots (inner n) Ps)) a ws))
all_left {𝓤 = 𝓤} 𝓛 κs [] still a = (tt, id⊢ 𝓤 _)
all_left {𝓤 = 𝓤} 𝓛 κs (P ∷ Ps) still a =
    let x : Left 𝓛 (P.exit κs true) a.0 = subst (λ (e : Exit P.Denot). Left 𝓛 e a.0) (sym (still.0 κs)) (tt, id⊢ 𝓤 _) in let y = all_left 𝓛 κs Ps still.1 a.1 in
    ((x.0, y.0), via 𝓤 _ (emp∗ 𝓤 (emp 𝓤)) (mono∗ 𝓤 x.1 y.1))

module _ (n : ℕ) (Ps : List (Param n)) (D : Value) where
  abbrev T : Ended
  T = callee n Ps (plain (λ _. D.row))

  module _ {M : Type 1} {𝓤 : Ura M} (𝓛 : Logic 𝓤) (c : Clauses 𝓤 T) (κs : Lfts n) (qs : Shares n) (a : Args (inner n) κs Ps) (g : (c κs a).ghost) where
    open 𝓛 use {A}

    abbrev pub Closing : Type 1
    Closing = (r : D.row.Denot) → Is D.row r (D.val r ∷ []) → ((ws : Lasts T κs a) → ent 𝓤 (emp 𝓤) ((c κs a).ensures g r (at_exit T κs a ws))) → Sq 𝓛 (Asked {n = n} [] κs qs tt []) (prop (Post 𝓛 T c κs qs a g (D.val r)))

    closing : Still Ps → Closing
    closing still r is said =
        let (ws, left) = all_left 𝓛 κs Ps still a in
        record {
          prf = via 𝓤 _ (⊢++ 𝓛 (tokens n κs qs) []) (via 𝓤 _ (fst∗ 𝓤 (⋆ 𝓛 (tokens n κs qs)) (emp 𝓤)) (via 𝓤 _ (tokens_in 𝓛 n κs qs) (
              qed 𝓛 (raw (toks 𝓛 n κs qs) ∷ []) ∵ suffices ! _ (ends 𝓛 T c κs qs a g r (D.val r) ws) $ frame ! $ owned ! D.row (Is D.row) (D.makes 𝓛) r _ is $ frame ! $
              use0 𝓛 (‵ (lasts T κs a ws)) left $ frame ! $ use0 𝓛 (raw ((c κs a).ensures g r (at_exit T κs a ws))) (said ws) $ done !)));
        }

    abbrev pub Beginning : List (Item 𝓤)
    Beginning = Asked Ps κs qs a (raw ((c κs a).requires g) ∷ [])

    beginning : ent 𝓤 (sep 𝓤 (sep 𝓤 (toks 𝓛 n κs qs) (sem 𝓛 (Owns (inner n) κs Ps a))) ((c κs a).requires g)) (⋆ 𝓛 Beginning)
    beginning =
        let R : SProp 𝓤 = (c κs a).requires g in
        via 𝓤 _ (assoc∗ 𝓤 (toks 𝓛 n κs qs) (sem 𝓛 (Owns (inner n) κs Ps a)) R)
        (via 𝓤 _ (mono∗ 𝓤 (tokens_out 𝓛 n κs qs) (via 𝓤 _ (mono_l 𝓤 R (all_give 𝓛 κs Ps a)) (++⊢ 𝓛 (needed κs Ps a) (raw R ∷ [])))) (++⊢ 𝓛 (tokens n κs qs) (needed κs Ps a ++ raw R ∷ [])))

  pub on_shared : {M : Type 1} {𝓤 : Ura M} (𝓛 : Logic 𝓤) (𝓜 : Model 𝓤 𝓛.H) (𝓡 : Running 𝓤 𝓛.H 𝓜) (c : Clauses 𝓤 T) → Still Ps → (γ : Routines) (own : Callee) (f : Fn) → Entry 𝓤 𝓛.H (tables 𝓤 𝓛.H 𝓜 𝓡 γ).C (tables 𝓤 𝓛.H 𝓜 𝓡 γ).Λ own f
      → ((κs : Lfts n) (qs : Shares n) (a : Args (inner n) κs Ps) (g : (c κs a).ghost) → Sound (inner n) κs Ps a → Closing 𝓛 c κs qs a g
      → Sq 𝓛 (Beginning 𝓛 c κs qs a g) (prop (WpFn 𝓤 𝓛.H (machine 𝓛 𝓜 𝓡 γ).C (machine 𝓛 𝓜 𝓡 γ).Λ f (vals (inner n) κs Ps a) (Post 𝓛 T c κs qs a g))))
      → Triple 𝓤 ((tables 𝓤 𝓛.H 𝓜 𝓡 γ).C own) (Contracted 𝓛 T c)
  on_shared {𝓤 = 𝓤} 𝓛 𝓜 𝓡 c still γ own f closed walk =
      walked 𝓛 𝓜 𝓡 γ T c own f closed (λ κs. spells (inner n) κs Ps) (λ κs. all_tell (inner n) κs Ps) (λ κs qs bounds a g are. via 𝓤 _ (beginning 𝓛 c κs qs a g) (walk κs qs a g are (closing 𝓛 c κs qs a g still)).prf)
