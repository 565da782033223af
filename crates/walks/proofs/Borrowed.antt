-- A function of a `&mut R` and of any list of `Params`, whose result is plain data: how its walk begins and ends.
--     Lent             the closed borrow, where h lies behind the reference
--     function         its signature.        passed      the machine values that it is passed.        Entering      what its walk begins with
--     exits            what is to be shown at the return, from the closed borrow, the tokens, what is said of the parameters' last values, and what is ensured
--     on_borrow        it meets its contract, by a walk from the closed borrow, the tokens and what the parameters own
-- The lemmas take `Logic`, as every statement about a function does.
use types.Logic.{Logic}
use denote.Ref.{MutBor, mut_vals}
use mathlib.Core.List.{[], ◌∷◌, List}
use Prim.Native.Nat.{ℕ, suc}
use Rattle.walks.proofs.Kit.{Ura, Callee, Fn, named, Val, vptr, SProp, ent, sep, via, mono_r, GName, Lft, Share, fsep, flft, fobs, fres, fbor, Model, Routines, WpFn, Entry, fact, Lfts, Shares, toks, Running, tables, Item, Sq, prop, ‵, raw, ◌⊛◌, ⋆, ◌$◌, ◌∵◌, !, qed, by, move, drop, use1, split, join, fsplit, fsplit3, fjoin, suffices, frame, done, Body, RattleType, Is, mem, MutRef, mut_Tells, yes, plain, mut_ref_to, owned, Ended, Clauses, at_exit, all, Fins, lasts_of, on_entry, Triple}
use denote.Triple.Walked.{needs}
use Rattle.walks.proofs.Values.{Value}
use Rattle.walks.proofs.Contracts.{Contracted, Post, ends, machine, walked}
use Rattle.walks.proofs.Params.{Param, outer, slots, Args, spells, all_tell, spelt, vals, Owns, Sound}

abbrev pub Lent : {M : Type 1} (𝓤 : Ura M) (R : RattleType) → Lft → Share → (b o : ℕ) → GName → R.Denot → List (Item 𝓤) → List (Item 𝓤)
Lent 𝓤 R κ q b o γ h Γ = ‵ (fobs γ (R.coded.code h)) ∷ ‵ (fbor κ (Body (mem R) b o γ)) ∷ ‵ (flft κ q) ∷ Γ

module _ (R : RattleType) {n : ℕ} (Ps : List (Param n)) (D : Value) where
  abbrev pub function : Ended
  function = record {
    signature = record { lifetimes = suc n; outlives = []; params = mut_ref_to (0 ∷ []) tt (plain (λ _. R)) ∷ slots (outer n) Ps; result = plain (λ _. D.row) };
    kept = (yes, all yes (slots (outer n) Ps));
  }

  module _ {M : Type 1} {𝓤 : Ura M} (𝓛 : Logic 𝓤) (c : Clauses 𝓤 function) (κs : Lfts (suc n)) (qs : Shares (suc n)) (x : MutBor R.Denot) (a : Args (outer n) κs Ps) (g : (c κs (x, a)).ghost) where
    open 𝓛 use {A}

    abbrev Toks : Item 𝓤
    Toks = raw (toks 𝓛 n κs.1 qs.1)

    -- where h is left behind the reference
    module _ (r : D.row.Denot) (h : R.Denot) (ws : Fins κs (slots (outer n) Ps) (all yes (slots (outer n) Ps)) a) where
      abbrev pub Leaving : List (Item 𝓤)
      Leaving = Lent 𝓤 R κs.0 qs.0 x.ref_ptr.0 x.ref_ptr.1 x.ghost_name h (Toks ∷ ‵ (lasts_of κs (slots (outer n) Ps) (all yes (slots (outer n) Ps)) a ws) ∷ raw ((c κs (x, a)).ensures g r (at_exit function κs (x, a) (h, ws))) ∷ [])

      pub exits : Is D.row r (D.val r ∷ []) → ent 𝓤 (⋆ 𝓛 Leaving) (Post 𝓛 function c κs qs (x, a) g (D.val r))
      exits is =
          qed 𝓛 Leaving ∵ suffices ! _ (ends 𝓛 function c κs qs (x, a) g r (D.val r) (h, ws)) $
          -- [the last value behind the reference; …; the token; the others; the parameters' last values; what is ensured]
          use1 𝓛 (‵ (fres x.ghost_name (R.coded.code h))) (𝓛.names.obs-res x.ghost_name (R.coded.code h)) $ move ! (2 ∷ 3 ∷ []) $ join ! $ frame ! $ owned ! D.row (Is D.row) (D.makes 𝓛) r _ is $ frame ! $
          fjoin ! $ fjoin ! $ frame ! $ done !

    abbrev pub Entering : List (Item 𝓤)
    Entering = Lent 𝓤 R κs.0 qs.0 x.ref_ptr.0 x.ref_ptr.1 x.ghost_name x.now (Toks ∷ ‵ (Owns (outer n) κs Ps a) ∷ [])

    abbrev pub passed : List Val
    passed = vptr x.ref_ptr.0 x.ref_ptr.1 ∷ vals (outer n) κs Ps a

    enters : (P : SProp 𝓤) → ent 𝓤 (⋆ 𝓛 Entering) P → ent 𝓤 (on_entry 𝓛 function.signature κs qs (x, a) (mut_vals x, spelt (outer n) κs Ps a)) P
    enters P h =
        qed 𝓛 ((‵ (flft κs.0 qs.0) ⊛ Toks) ∷ ‵ (fsep ((MutRef (named 0) κs.0 R).own_val x (vptr x.ref_ptr.0 x.ref_ptr.1 ∷ [])) (Owns (outer n) κs Ps a)) ∷ []) ∵
        split ! $ move ! (2 ∷ []) $ fsplit ! $ fsplit3 ! $ drop ! $ move ! (0 ∷ 1 ∷ 3 ∷ 4 ∷ 2 ∷ []) $ by ! h

  -- the function requires φ of what came in
  pub on_borrow : {M : Type 1} {𝓤 : Ura M} (𝓛 : Logic 𝓤) (𝓜 : Model 𝓤 𝓛.H) (𝓡 : Running 𝓤 𝓛.H 𝓜) (c : Clauses 𝓤 function) (φ : R.Denot → Type 0)
      → ((κs : Lfts (suc n)) (x : MutBor R.Denot) (a : Args (outer n) κs Ps) (g : (c κs (x, a)).ghost) → ent 𝓤 ((c κs (x, a)).requires g) (fact 𝓤 (φ x.now)))
      → (γ : Routines) (own : Callee) (f : Fn) → Entry 𝓤 𝓛.H (tables 𝓤 𝓛.H 𝓜 𝓡 γ).C (tables 𝓤 𝓛.H 𝓜 𝓡 γ).Λ own f
      → ((κs : Lfts (suc n)) (qs : Shares (suc n)) (x : MutBor R.Denot) (a : Args (outer n) κs Ps) (g : (c κs (x, a)).ghost) → Sound (outer n) κs Ps a → φ x.now
      → Sq 𝓛 (Entering 𝓛 c κs qs x a g) (prop (WpFn 𝓤 𝓛.H (machine 𝓛 𝓜 𝓡 γ).C (machine 𝓛 𝓜 𝓡 γ).Λ f (passed 𝓛 c κs qs x a g) (Post 𝓛 function c κs qs (x, a) g))))
      → Triple 𝓤 ((tables 𝓤 𝓛.H 𝓜 𝓡 γ).C own) (Contracted 𝓛 function c)
  on_borrow {𝓤 = 𝓤} 𝓛 𝓜 𝓡 c φ requires γ own f closed walk =
      walked 𝓛 𝓜 𝓡 γ function c own f closed (λ κs. (mut_vals, spells (outer n) κs Ps)) (λ κs. (mut_Tells (named 0) κs.0 R, all_tell (outer n) κs Ps)) (λ κs qs bounds (x, a) g are.
      let P : SProp 𝓤 = on_entry 𝓛 function.signature κs qs (x, a) (mut_vals x, spelt (outer n) κs Ps a) in
      via 𝓤 (sep 𝓤 P (fact 𝓤 (φ x.now))) (mono_r 𝓤 P (requires κs x a g)) (needs 𝓤 (φ x.now) P (λ holds. enters 𝓛 c κs qs x a g _ (walk κs qs x a g are.1 holds).prf)))
