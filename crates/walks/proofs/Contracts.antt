-- A function's contract, and how a proof by hand meets it: by a walk of the function's code, whatever it is over.
--     Contracted       the contract, as a triple.        Post       what it promises of a run: its last part
--     ends             Post, from the tokens, a result, what is said of the parameters' last values, and what is ensured of these
--     came_back        as a step: the same taken apart, where a callee has returned
--     meets            a run meets the contract, from a walk with the parameters' machine values written out and their relations in hand
--     machine          what a program's calls and loops run on.        Clauses-of      a contract's clauses, as each crate's theorems have them
--     walked           a function of the program meets its contract, by such a walk of its code.        known      a callee does, by the theorem of its own
-- All of it takes `Logic`, as every statement about a function does.
use mathlib.Core.Path.{◌≡◌}
use mathlib.Core.List.{List, [], ◌∷◌}
use Rattle.walks.proofs.Kit.{Ura, Callee, Fn, Val, SProp, ent, sep, wand, ex, via, comm∗, mono_l, wand_i, apply∗, id⊢, Memory, Model, Routine, Routines, WpFn, Tables, Entry, sem, Fun, Lfts, Shares, AllOutlive, Running, tables, Goal, Item, Seq, Soaks, ‵, raw, ◌⊛◌, some, later, ⋆, ◌$◌, ◌∵◌, !, qed, move, use1, split, join, pick, await, show, frame, updating, now as at_once, done, flat, Ises, Are, Spells, valss, Tellss, Signature, type_at, types_at, said, Ended, Clauses, Lasts, at_exit, lasts, ensured, closing, Args, Vals, Res, alive, on_entry, Contract, Triple}
use types.Logic.{Logic, sem}
use contract.Running.{tables_of}
use denote.Triple.Spec.{triple_of}
use denote.Triple.Table.{entered, cited}

module _ {M : Type 1} {𝓤 : Ura M} (𝓛 : Logic 𝓤) (T : Ended) (c : Clauses 𝓤 T) where
  open 𝓛 use {H}

  abbrev S : Signature
  S = T.signature

  abbrev pub Contracted : Contract 𝓤
  Contracted = triple_of 𝓛 S (closing 𝓛 T c)

  module _ (κs : Lfts S.lifetimes) (qs : Shares S.lifetimes) (a : Args S κs) (g : (c κs a).ghost) where
    abbrev Own : Res S κs → Val → Item 𝓤
    Own r v = ‵ ((type_at S.result κs).own_val r (v ∷ []))

    abbrev pub Post : Val → SProp 𝓤
    Post v = H.⇛ (ex 𝓤 (λ (r : Res S κs). sep 𝓤 (sep 𝓤 (alive 𝓛 S κs qs) (sem 𝓛 ((type_at S.result κs).own_val r (v ∷ [])))) (ensured 𝓛 T c κs a g r)))

    abbrev pub Left : Res S κs → Val → Lasts T κs a → List (Item 𝓤) → List (Item 𝓤)
    Left r v ws Γ = raw (alive 𝓛 S κs qs) ∷ Own r v ∷ ‵ (lasts T κs a ws) ∷ raw ((c κs a).ensures g r (at_exit T κs a ws)) ∷ Γ

    module _ where
      pub ends : (r : Res S κs) (v : Val) (ws : Lasts T κs a) → ent 𝓤 (⋆ 𝓛 (Left r v ws [])) (Post v)
      ends r v ws =
          qed 𝓛 (Left r v ws []) ∵ updating ! $ at_once ! $ show ! (λ (r' : Res S κs). sep 𝓤 (sep 𝓤 (alive 𝓛 S κs qs) (sem 𝓛 ((type_at S.result κs).own_val r' (v ∷ [])))) (ensured 𝓛 T c κs a g r')) r $
          join ! $ frame ! $ show ! (λ (ws' : Lasts T κs a). sep 𝓤 (sem 𝓛 (lasts T κs a ws')) ((c κs a).ensures g r (at_exit T κs a ws'))) ws $ done !

      pub came_back : {K : Type 0} {Γ : List (Item 𝓤)} {G : Goal 𝓤 H} → K → Soaks G → (v : Val) → ((r : Res S κs) (ws : Lasts T κs a) → Seq K 𝓛 (Left r v ws Γ) G) → Seq K 𝓛 (raw (Post v) ∷ Γ) G
      came_back t z v k =
          use1 𝓛 (later (some (λ (r : Res S κs). (raw (alive 𝓛 S κs qs) ⊛ Own r v) ⊛ some (λ (ws : Lasts T κs a). ‵ (lasts T κs a ws) ⊛ raw ((c κs a).ensures g r (at_exit T κs a ws)))))) (id⊢ 𝓤 _) $
          await t z $ pick t (λ r. split t $ move t (1 ∷ []) $ pick t (λ ws. split t $ move t (2 ∷ []) $ split t $ k r ws))

  -- where the walk begins, and what it is of
  module _ (sp : (κs : Lfts S.lifetimes) → Spells (types_at S.params κs)) where
    abbrev spelt : (κs : Lfts S.lifetimes) → Args S κs → Vals S κs
    spelt κs a = valss (types_at S.params κs) (sp κs) a

    abbrev pub WalkOf : Fun 𝓤 → Type 1
    WalkOf run = (κs : Lfts S.lifetimes) (qs : Shares S.lifetimes) (bounds : AllOutlive S.lifetimes S.outlives κs) (a : Args S κs) (g : (c κs a).ghost) → Are (types_at S.params κs) (Ises (types_at S.params κs)) a (spelt κs a)
        → ent 𝓤 (sep 𝓤 (on_entry 𝓛 S κs qs a (spelt κs a)) ((c κs a).requires g)) (run (flat (types_at S.params κs) (spelt κs a)) (Post κs qs a g))

    pub meets : (run : Fun 𝓤) → ((κs : Lfts S.lifetimes) → Tellss (types_at S.params κs) (Ises (types_at S.params κs)) (sp κs)) → WalkOf run → Triple 𝓤 run Contracted
    meets run tl walk ((κs, qs, bounds, a, vss), g) =
        let R : SProp 𝓤 = (c κs a).requires g in
        let Q : Vals S κs → SProp 𝓤 = λ us. run (flat (types_at S.params κs) us) (Post κs qs a g) in
        via 𝓤 (sep 𝓤 R (wand 𝓤 R (Q vss)))
        (via 𝓤 (sep 𝓤 (wand 𝓤 R (Q vss)) R) (mono_l 𝓤 R (said 𝓛 S κs qs (sp κs) (tl κs) a (λ us. wand 𝓤 R (Q us)) vss (λ are. wand_i 𝓤 _ R _ (walk κs qs bounds a g are)))) (comm∗ 𝓤 (wand 𝓤 R (Q vss)) R))
        (apply∗ 𝓤 R (Q vss))

-- ---- a function of the program
-- the clauses of a contract, as its module has them
abbrev pub Clauses-of : {M : Type 1} (𝓤 : Ura M) → Ended → Type 2
Clauses-of 𝓤 T = (𝓛 : Logic 𝓤) → (Memory → SProp 𝓤) → (Routine → Fun 𝓤) → Clauses 𝓤 T

module _ {M : Type 1} {𝓤 : Ura M} (𝓛 : Logic 𝓤) (𝓜 : Model 𝓤 𝓛.H) (𝓡 : Running 𝓤 𝓛.H 𝓜) (γ : Routines) where
  -- the tables of calls and of loops
  open 𝓛 use {H}

  abbrev pub machine : Tables 𝓤 H
  machine = tables_of 𝓤 H 𝓜 (tables 𝓤 H 𝓜 𝓡 γ)

  module _ (T : Ended) (c : Clauses 𝓤 T) where
    pub known : (k : Callee) (r : Routine) → γ k ≡ r → Triple 𝓤 (𝓡.run r) (Contracted 𝓛 T c) → Triple 𝓤 (machine.C k) (Contracted 𝓛 T c)
    unfolding tables_of
    known k r e met = cited 𝓤 H (Contracted 𝓛 T c) 𝓜 𝓡 γ k r e met

    pub walked : (own : Callee) (f : Fn) → Entry 𝓤 H (tables 𝓤 H 𝓜 𝓡 γ).C (tables 𝓤 H 𝓜 𝓡 γ).Λ own f → (sp : (κs : Lfts T.signature.lifetimes) → Spells (types_at T.signature.params κs))
        → ((κs : Lfts T.signature.lifetimes) → Tellss (types_at T.signature.params κs) (Ises (types_at T.signature.params κs)) (sp κs))
        → (WalkOf 𝓛 T c sp (WpFn 𝓤 H machine.C machine.Λ f)) → Triple 𝓤 ((tables 𝓤 H 𝓜 𝓡 γ).C own) (Contracted 𝓛 T c)
    unfolding tables_of
    walked own f closed sp tl walk =
        entered 𝓤 H (Contracted 𝓛 T c) (tables 𝓤 H 𝓜 𝓡 γ).C (tables 𝓤 H 𝓜 𝓡 γ).Λ own f closed
        (meets 𝓛 T c sp (WpFn 𝓤 H (tables 𝓤 H 𝓜 𝓡 γ).C (tables 𝓤 H 𝓜 𝓡 γ).Λ f) tl walk)
