-- The calls on one bridge of a lent table, all by one theorem: `let i = one_bridge::index(n); one_bridge::f(t.count, t.bridges[i], s, n, p, ..)`, and an end (`Endings`). The parameters behind the bridge number are any list of `Params` in crates/walks, and the bridge's call takes the same.
--     callee, caller           the two signatures
--     mir_locals, mir_body     the function's MIR. Of a function that is known, that it has these is `refl`
--     Sounds, Asks, Says       that the function requires a sound table, that the bridge's call may then be called, and that from what this ensures follows what the function does
--     on_bridge_lem                   the function meets its contract, where the bridge's call meets its own and the one follows from the other
-- The lemmas take `Logic`, as every statement about a function does. `one_bridge::index` is taken as the program has it.
use types.Logic.{Logic, sem}
use denote.MutBor.{MutBor}
use mathlib.Core.Path.{◌≡◌, refl, subst}
use Prim.Native.Nat.{ℕ, suc}
use mathlib.Core.List.{[], ◌∷◌, List, map}
use mathlib.Core.Option.{some}
use Rattle.walks.proofs.Kit.{Ura, Ty, Callee, Local, Code, place, copy, call, seq, Fn, Val, vptr, SProp, ent, sep, emp, Fml, Memory, Model, Routine, Routines, Env, Tables, Entry, sem, Fun, fact, Lfts, Shares, toks, Running, tables, Sq, allocs, params', runs, at_ret, lands, ‵, raw, ⋆, ◌$◌, ◌∵◌, !, qed, by, move, drop, rewrite, use0, use1, use2, join, fsplit, fjoin, frame, done, look, init, forget, stop, load, and_then, no_more, alloc1, alloc0, params1, pass1, free1, free0, fm_of, Is, yes, plain, owned, calls_from, Ended, Clauses, at_exit, all, lasts_of, Triple}
use types.Kit.{step}
use prog.Wired.{Wired}
use Rattle.rules.specs.Tables.{bridge_at}
use Rattle.rules.specs.Start.{Sound}
use Rattle.rules.specs.declared.Table.{Table}
use Rattle.rules.specs.declared.Bridge.{Bridge}
use Rattle.rules.specs.contracts.Table as T
use Rattle.one_bridge.specs.contracts.index as indexed
use Rattle.one_bridge.proofs.index.Symbol as index-def
use Rattle.one_bridge.proofs.index.Symbol.{name as #index}
use Rattle.one_bridge.proofs.index.Met as index-thm
use Rattle.walks.proofs.Frame.{Groups, group_locals, env_from, first_of, in_group, filled, finds, pack, spread, alloc_all, pass_all, free_all, enters_as, first_cell, later_cell, reads}
use Rattle.walks.proofs.Values.{told, word}
use Rattle.walks.proofs.Contracts.{Clauses-of, Contracted, Post, came_back, machine, known}
use Rattle.walks.proofs.Borrowed.{Lent, function, Entering, on_borrow, exits as exits-at}
use Rattle.walks.proofs.Params.{Param, value, outer, inner, slots, tys, Args, spelt, vals, Owns, all_typed, carry, vals_same, owns_same, Lasts', lasts_back, lasts_same, Sound as Are}
use Rattle.walks.proofs.Calls.{callee as call-of}
use Rattle.walks.proofs.Lending.{more_tys, lents, lending, operands, lend_all, read_all}
use Rattle.lent.proofs.Ways.{bridge, session, bridge_number, ref_ty, index}
use Rattle.lent.proofs.BridgeSteps.{read_tys, copying, bridge_copied}
use Rattle.lent.proofs.Endings.{Ending}

module _ {n : ℕ} (En : Ending) (Qs : List (Param n)) where
  -- the parameters but the table, and those of the bridge's call
  abbrev All : List (Param n)
  All = value session ∷ value bridge_number ∷ Qs

  abbrev BridgeAll : List (Param n)
  BridgeAll = value word ∷ value bridge ∷ All

  abbrev callee : Ended
  callee = call-of n BridgeAll (plain (λ _. En.given.row))

  abbrev caller : Ended
  caller = function T.the_row All En.result

  -- ---- the MIR: the result and the reference, the parameters, i and the end's first locals, those that the bridge is read through, those by which slices are lent on, and the end's last
  abbrev gs : List (List Ty)
  gs = (En.result.ty ∷ ref_ty ∷ []) ∷ tys (outer n) All ∷ (word.ty ∷ En.mids) ∷ read_tys ∷ more_tys (outer n) All ∷ En.lasts ∷ []

  -- the number of the first local of each
  abbrev no : ℕ → ℕ
  no k = first_of gs k

  abbrev mir_locals : List Local
  mir_locals = group_locals gs

  abbrev mir_body : Callee → Code
  mir_body key =
      copying (no 2) (no 3) (lending (outer n) 2 (no 4) All (seq (call key (copy (place (no 3) []) ∷ copy (place (suc (suc (suc (suc (no 3))))) []) ∷ operands (outer n) 2 (no 4) All) (place (En.to (suc (no 2))) [])) (En.code (no 2) (suc (no 2)) (no 5))))

  -- ---- the contracts
  module _ {M : Type 1} {𝓤 : Ura M} (𝓛 : Logic 𝓤) (c : Clauses 𝓤 callee) (c' : Clauses 𝓤 caller) (ghost : (κs : Lfts n) (y : Args (inner n) κs BridgeAll) → (c κs y).ghost) where
    -- what the function and the bridge's call are called with
    open 𝓛 use {H, A}

    module _ (κs : Lfts (suc n)) (x : MutBor Table) (a : Args (outer n) κs All) where
      abbrev this : Bridge
      this = bridge_at x.now (index a.1.0)

      abbrev with_bridge_lem : Args (inner n) κs.1 BridgeAll
      with_bridge_lem = (x.now.count, (this, carry (outer n) κs All a))

      -- what the one ensures, and the other
      abbrev Ensured : En.given.row.Denot → Lasts' (outer n) κs All a → SProp 𝓤
      Ensured d ws = (c κs.1 with_bridge_lem).ensures (ghost κs.1 with_bridge_lem) d (at_exit callee κs.1 with_bridge_lem (tt, (tt, ws)))

      abbrev Ensured' : (c' κs (x, a)).ghost → En.given.row.Denot → Lasts' (outer n) κs All a → SProp 𝓤
      Ensured' g d ws = (c' κs (x, a)).ensures g (En.answer d) (at_exit caller κs (x, a) (En.after x.now a.1.0 d, lasts_back (outer n) κs All a ws))

    -- the function's `requires` says that the table is sound; the bridge's call's follows; and from what that ensures follows what the function does, at the same last values of the parameters
    abbrev pub Sounds : Type 1
    Sounds = (κs : Lfts (suc n)) (x : MutBor Table) (a : Args (outer n) κs All) (g : (c' κs (x, a)).ghost) → ent 𝓤 ((c' κs (x, a)).requires g) (fact 𝓤 (Sound x.now))

    abbrev pub Asks : Type 1
    Asks = (κs : Lfts (suc n)) (x : MutBor Table) (a : Args (outer n) κs All) → Sound x.now → ent 𝓤 (emp 𝓤) ((c κs.1 (with_bridge_lem κs x a)).requires (ghost κs.1 (with_bridge_lem κs x a)))

    abbrev pub Says : Type 1
    Says = (κs : Lfts (suc n)) (x : MutBor Table) (a : Args (outer n) κs All) (g : (c' κs (x, a)).ghost) → Sound x.now → (d : En.given.row.Denot) (ws : Lasts' (outer n) κs All a) → ent 𝓤 (Ensured κs x a d ws) (Ensured' κs x a g d ws)

    -- ---- the walk
    module _ (asks : Asks) (says : Says) (κs : Lfts (suc n)) (qs : Shares (suc n)) (x : MutBor Table) (a : Args (outer n) κs All) (g : (c' κs (x, a)).ghost) (sound : Sound x.now) (are : Are (outer n) κs All a) where
      abbrev to : (Contracted 𝓛 callee c).Ghost
      to = ((κs.1, qs.1, tt, with_bridge_lem κs x a, spelt (inner n) κs.1 BridgeAll (with_bridge_lem κs x a)), ghost κs.1 (with_bridge_lem κs x a))

      abbrev Toks : SProp 𝓤
      Toks = toks 𝓛 n κs.1 qs.1

      abbrev End : Val → SProp 𝓤
      End = Post 𝓛 caller c' κs qs (x, a) g

      -- all that the parameters own goes to the bridge's call, for good
      asked : Is word.row x.now.count (word.val x.now.count ∷ []) → Is bridge.row (this κs x a) (bridge.val (this κs x a) ∷ []) → ent 𝓤 (sep 𝓤 Toks (sem 𝓛 (Owns (outer n) κs All a))) ((Contracted 𝓛 callee c).pre to)
      asked is_c is-r =
          qed 𝓛 (raw Toks ∷ ‵ (Owns (outer n) κs All a) ∷ []) ∵ move ! (1 ∷ []) $ rewrite ! 0 (λ (F : Fml). ‵ F) (owns_same (outer n) κs All a) refl $ owned ! bridge.row (Is bridge.row) (bridge.makes 𝓛) (this κs x a) _ is-r $ fjoin ! $
          owned ! word.row (Is word.row) (word.makes 𝓛) x.now.count _ is_c $ fjoin ! $ move ! (1 ∷ 0 ∷ []) $ join ! $ frame ! $ use0 𝓛 (raw ((c κs.1 (with_bridge_lem κs x a)).requires (ghost κs.1 (with_bridge_lem κs x a)))) (asks κs x a sound) $ done !

      -- what it says of their last values, and what it ensures, give what the function does
      abbrev Said : Lasts' (outer n) κs All a → Fml
      Said ws = lasts_of κs.1 (slots (inner n) All) (all yes (slots (inner n) All)) (carry (outer n) κs All a) ws

      exits : (d : En.given.row.Denot) (ws : Lasts' (outer n) κs All a) → Is En.result.row (En.answer d) (En.result.val (En.answer d) ∷ [])
          → ent 𝓤 (⋆ 𝓛 (Lent 𝓤 T.the_row κs.0 qs.0 x.ref_ptr.0 x.ref_ptr.1 x.ghost_name (En.after x.now a.1.0 d) (raw Toks ∷ ‵ (Said ws) ∷ raw (Ensured κs x a d ws) ∷ []))) (End (En.result.val (En.answer d)))
      exits d ws is =
          qed 𝓛 (Lent 𝓤 T.the_row κs.0 qs.0 x.ref_ptr.0 x.ref_ptr.1 x.ghost_name (En.after x.now a.1.0 d) (raw Toks ∷ ‵ (Said ws) ∷ raw (Ensured κs x a d ws) ∷ [])) ∵
          rewrite ! 4 (λ (F : Fml). ‵ F) (lasts_same (outer n) κs All a ws) refl $ move ! (5 ∷ []) $ use1 𝓛 (raw (Ensured' κs x a g d ws)) (says κs x a g sound d ws) $ move ! (1 ∷ 2 ∷ 3 ∷ 4 ∷ 5 ∷ 0 ∷ []) $
          by ! (exits-at T.the_row All En.result 𝓛 c' κs qs x a g (En.answer d) (En.after x.now a.1.0 d) (lasts_back (outer n) κs All a ws) is)

      module _ (𝓣 : Tables 𝓤 H) (mem : Memory → SProp 𝓤) (run : Routine → Fun 𝓤) (indexes : Triple 𝓤 (𝓣.C #index) (Contracted 𝓛 indexed.ended (indexed.clauses 𝓛 mem run))) (key : Callee) (met : Triple 𝓤 (𝓣.C key) (Contracted 𝓛 callee c)) where
        met_at : ent 𝓤 ((Contracted 𝓛 callee c).pre to) (𝓣.C key (word.val x.now.count ∷ bridge.val (this κs x a) ∷ vals (outer n) κs All a) ((Contracted 𝓛 callee c).post to))
        met_at = subst (λ (vs : List Val). ent 𝓤 ((Contracted 𝓛 callee c).pre to) (𝓣.C key (word.val x.now.count ∷ bridge.val (this κs x a) ∷ vs) ((Contracted 𝓛 callee c).post to))) (vals_same (outer n) κs All a) (met to)

        walk : Sq 𝓛 (Entering T.the_row All En.result 𝓛 c' κs qs x a g)
            (allocs mir_locals (λ E. params' E (vptr x.ref_ptr.0 x.ref_ptr.1 ∷ vals (outer n) κs All a) (runs 𝓣.C 𝓣.Λ E (mir_body key) (at_ret E End))))
        walk =
            let b = x.ref_ptr.0 in let o = x.ref_ptr.1 in let P = tys (outer n) All in let Z = more_tys (outer n) All in let vs = map some (vals (outer n) κs All a) in let read = filled 0 (word.val x.now.count) (filled 4 (bridge.val (this κs x a)) []) in
            alloc1 ! (λ l. alloc1 ! (λ t. alloc_all 𝓛 P (λ ls. alloc_all 𝓛 (word.ty ∷ En.mids) (λ ms. alloc_all 𝓛 read_tys (λ rs. alloc_all 𝓛 Z (λ es. alloc_all 𝓛 En.lasts (λ xs. alloc0 ! $
            let bs : Groups gs = ((l, (t, tt)), (ls, (ms, (rs, (es, (xs, tt)))))) in let E : Env 𝓤 H = env_from gs bs 0 in let at_p = in_group 𝓤 H gs bs 1 in let at-m = in_group 𝓤 H gs bs 2 in let at-r = in_group 𝓤 H gs bs 3 in let at-e = in_group 𝓤 H gs bs 4 in
            params1 ! $ pass1 ! (init ! 5 refl (tt, tt)) $ move ! (4 ∷ []) $ pass_all 𝓛 P (vals (outer n) κs All a) (all_typed (outer n) κs 𝓛 All a are) ls (env_from gs bs 2) (
            -- the bridge is copied: [the reference; i; w'; p; p'; w; r; the borrow; i's end; the first; …; …; …; …; …; the parameters; the last; those to lend; …; the result; …; the tokens; what the parameters own]
            move ! (3 ∷ []) $ spread 𝓛 read_tys rs [] (move ! (13 ∷ []) $ fsplit ! $ fsplit ! $ move ! (16 ∷ 0 ∷ 9 ∷ 7 ∷ 5 ∷ 11 ∷ 3 ∷ 20 ∷ 21 ∷ 22 ∷ []) $
            bridge_copied 𝓛 𝓣.C 𝓣.Λ E b o (no 2) t ms.0 refl at-m.0 (at_ret E End) κs.0 qs.0 x.ghost_name x.now a.1.0 rs mem run (fm_of 𝓤 H 𝓛.laws 𝓣) indexes (no 3) at-r are.1.0
            (and_then ! (load ! (finds 𝓛 at_p.1.0 (stop !)) (reads 𝓛 17 refl (later_cell 𝓛 _ (first_cell 𝓛 _ _ _ _ _)))) (no_more !)) (λ is_c is-r.
            -- the slices are lent on, and the bridge's call is called: [what it asks; those lent; the parameters; the reference; i; w'; p; p'; w; r; the borrow; i's end; the first; …; …; …; …; …; the last; …; the result; …]
            move ! (19 ∷ 17 ∷ []) $ lend_all 𝓛 (outer n) κs E All a are ls es 2 (no 4) at_p at-e (move ! (23 ∷ 24 ∷ []) $ use2 𝓛 (raw ((Contracted 𝓛 callee c).pre to)) (asked is_c is-r) $
            calls_from ! (fm_of 𝓤 H 𝓛.laws 𝓣) (raw ((Contracted 𝓛 callee c).pre to)) (word.val x.now.count ∷ bridge.val (this κs x a) ∷ vals (outer n) κs All a) ((Contracted 𝓛 callee c).post to) met_at
            (and_then ! (load ! (finds 𝓛 at-r.0 (stop !)) (look ! 8 refl)) (and_then ! (load ! (finds 𝓛 at-r.1.1.1.1.0 (stop !)) (look ! 9 refl)) (read_all 𝓛 (outer n) κs E 2 1 All a ls es 2 (no 4) at_p at-e refl refl))) (λ v.
            came_back 𝓛 callee c κs.1 qs.1 (with_bridge_lem κs x a) (ghost κs.1 (with_bridge_lem κs x a)) ! tt v (λ d ws. move ! (2 ∷ []) $ fsplit ! $ drop ! $ fsplit ! $ drop ! $ move ! (2 ∷ []) $ told ! En.given (λ u. lands 𝓣.C 𝓣.Λ E (place (En.to (suc (no 2))) []) u (En.code (no 2) (suc (no 2)) (no 5)) (at_ret E End)) d v (λ is.
            -- the end: [the last values; the tokens; what is ensured; those lent; the parameters; the reference; i; w'; p; p'; w; r; the borrow; i's end; the first; …; …; …; …; …; the last; …; the result; …]
            move ! (24 ∷ 5 ∷ 6 ∷ 16 ∷ 22 ∷ 12 ∷ 13 ∷ 14 ∷ 1 ∷ 0 ∷ 2 ∷ []) $
            En.ends M 𝓤 𝓛 𝓣.C 𝓣.Λ κs.0 qs.0 b o x.ghost_name x.now a.1.0 End (env_from gs bs 1) l t ms.0 (no 2) (suc (no 2)) (no 5) ms.1 xs at-m.0 at-m.1 (in_group 𝓤 H gs bs 5) d is _ (λ is'.
            -- [the result; the reference; i; the first; the last; the borrow; the tokens; the last values; what is ensured; those lent; the parameters; w'; p; p'; w; r; i's end; r's; p''s; p's; w''s; w's; the reference's; the result's]
            move ! (0 ∷ 25 ∷ []) $ free1 ! $ forget ! 0 refl $ move ! (0 ∷ 23 ∷ []) $ free1 ! $ move ! (10 ∷ []) $ free_all 𝓛 P ls vs (env_from gs bs 2) (
            forget ! 0 refl $ move ! (0 ∷ 15 ∷ []) $ free1 ! $ free_all 𝓛 En.mids ms.1 [] (env_from gs bs 3) (
            move ! (12 ∷ 13 ∷ 10 ∷ 14 ∷ 9 ∷ 15 ∷ 8 ∷ 16 ∷ 11 ∷ 17 ∷ []) $ step (pack 𝓛 read_tys rs read) $ free_all 𝓛 read_tys rs read (env_from gs bs 4) (
            move ! (7 ∷ []) $ free_all 𝓛 Z es (lents (outer n) κs All a) (env_from gs bs 5) (free_all 𝓛 En.lasts xs [] [] (free0 ! $ by ! (exits d ws.1.1 is')))))))))))))))))))))

  -- `contract` is the bridge's, as its module has it: that it is this one is `refl`, which is cheaper than to compare the theorems
  pub on_bridge_lem : {M : Type 1} {𝓤 : Ura M} (𝓛 : Logic 𝓤) (𝓜 : Model 𝓤 𝓛.H) (𝓡 : Running 𝓤 𝓛.H 𝓜) (parts : Clauses-of 𝓤 callee) (parts' : Clauses-of 𝓤 caller) →
      let c : Clauses 𝓤 callee = parts 𝓛 𝓜.mem 𝓡.returns in let c' : Clauses 𝓤 caller = parts' 𝓛 𝓜.mem 𝓡.returns in
      (ghost : (κs : Lfts n) (y : Args (inner n) κs BridgeAll) → (c κs y).ghost) → Sounds 𝓛 c c' ghost → Asks 𝓛 c c' ghost → Says 𝓛 c c' ghost
      → (γ : Routines) (own key : Callee) (f : Fn) → Entry 𝓤 𝓛.H (tables 𝓤 𝓛.H 𝓜 𝓡 γ).C (tables 𝓤 𝓛.H 𝓜 𝓡 γ).Λ own f → f.locals ≡ mir_locals → f.body ≡ mir_body key
      → (core : Routine) → γ key ≡ core → γ #index ≡ 𝓡.env #index → Wired 𝓡.env index-def.code → (contract : (T : Ended) × Clauses-of 𝓤 T) → contract ≡ (callee, parts)
      → Triple 𝓤 (𝓡.run core) (Contracted 𝓛 contract.0 (contract.1 𝓛 𝓜.mem 𝓡.returns)) → Triple 𝓤 ((tables 𝓤 𝓛.H 𝓜 𝓡 γ).C own) (Contracted 𝓛 caller c')
  on_bridge_lem {𝓤 = 𝓤} 𝓛 𝓜 𝓡 parts parts' ghost sounds asks says γ own key f closed f-locals f-body core at-core at-index wired contract same met =
      let c : Clauses 𝓤 callee = parts 𝓛 𝓜.mem 𝓡.returns in let c' : Clauses 𝓤 caller = parts' 𝓛 𝓜.mem 𝓡.returns in
      on_borrow T.the_row All En.result 𝓛 𝓜 𝓡 c' Sound sounds γ own f closed (λ κs qs x a g are sound.
      enters_as 𝓛 _ _ f _ _ f-locals f-body (walk 𝓛 c c' ghost asks says κs qs x a g sound are (machine 𝓛 𝓜 𝓡 γ) 𝓜.mem 𝓡.returns (known 𝓛 𝓜 𝓡 γ indexed.ended (indexed.clauses 𝓛 𝓜.mem 𝓡.returns) #index (𝓡.env #index) at-index (index-thm.met 𝓤 𝓛 𝓜 𝓡 wired))
      key (known 𝓛 𝓜 𝓡 γ callee c key core at-core (subst (λ (p : (T : Ended) × Clauses-of 𝓤 T). Triple 𝓤 (𝓡.run core) (Contracted 𝓛 p.0 (p.1 𝓛 𝓜.mem 𝓡.returns))) same met))))
