-- A call, in a walk, of a function of any list of `Params`. What plain data owns is had for nothing, what a shared slice owns is had twice, and what a `&mut` slice owns is handed over.
--     callee           the signature of such a function
--     Asked            what the call needs in front of the context: `tokens`, of the lifetimes, and `needed`, what the slices own.        Back       what it leaves there
--     calls            as a step: the call, of a function whose result is plain data; the result and what is ensured of it are in hand.        calls_for       the same of any function, with what its result owns and what is said of last values
--     invokes          `calls` at the machine, of a callee that the program has by its routine
--     After            where the result goes: `then`, where statements follow the call, and `last`, where it is the last in its part
-- The lemmas assume `Logic`.
use mathlib.Core.Path.{◌≡◌}
use Prim.Native.Nat.{ℕ, zero, suc}
use mathlib.Core.List.{[], ◌∷◌, ◌++◌, List}
use Rattle.walks.proofs.Kit.{Ura, Callee, Operand, Place, Code, seq, call, Val, SProp, ent, sep, emp, via, id⊢, emp∗, mono∗, mono_l, mono_r, Fml, flft, Heap, Env, Calls, Loops, sem, fact, top, Lfts, Shares, toks, Item, Goal, Seq, Post, Soaks, runs, lands, settles, ‵, raw, ◌⊛◌, ⋆, pop, push, ++⊢, ⊢++, ◌$◌, ◌∵◌, !, qed, by, move, keep, drop, use0, use1, use2, split, join, fjoin, frame, Opds, FmC, Is, Slot, plain, yes, heard, calls_at, calls_at_last, Ended, Clauses, Lasts, lasts, at_exit, all, Triple, Model, Running, Routines, Routine, fm_of}
use Rattle.walks.proofs.Values.{Value, told}
use Rattle.walks.proofs.Contracts.{Clauses-of, Contracted, came_back, machine, known}
use Rattle.walks.proofs.Params.{Handing, made, shown, given, before, after, Param, val_of, inner, slots, Args, spelt, vals, Owns, Sound}
use types.Logic.{Logic, sem}

abbrev pub tokens : {M : Type 1} {𝓤 : Ura M} (n : ℕ) → Lfts n → Shares n → List (Item 𝓤)
tokens zero κs qs = []
tokens (suc n) κs qs = ‵ (flft κs.0 qs.0) ∷ tokens n κs.1 qs.1

module _ {n : ℕ} (κs : Lfts n) where
  abbrev own_of : (P : Param n) → P.Denot → Fml
  own_of P x = P.own_val κs x (val_of P.form x ∷ [])

  abbrev pub needed : {M : Type 1} {𝓤 : Ura M} (Ps : List (Param n)) → Args (inner n) κs Ps → List (Item 𝓤)
  needed [] a = []
  needed (P ∷ Ps) a = before P.handing (own_of P a.0) ++ needed Ps a.1

  abbrev staying : {M : Type 1} {𝓤 : Ura M} (Ps : List (Param n)) → Args (inner n) κs Ps → List (Item 𝓤)
  staying [] a = []
  staying (P ∷ Ps) a = after P.handing (own_of P a.0) ++ staying Ps a.1

module _ {M : Type 1} {𝓤 : Ura M} {n : ℕ} (Ps : List (Param n)) (κs : Lfts n) (qs : Shares n) (a : Args (inner n) κs Ps) where
  abbrev pub Asked : List (Item 𝓤) → List (Item 𝓤)
  Asked Γ = tokens n κs qs ++ (needed κs Ps a ++ Γ)

  abbrev pub Back : List (Item 𝓤) → List (Item 𝓤)
  Back Γ = tokens n κs qs ++ (staying κs Ps a ++ Γ)

module _ {M : Type 1} {𝓤 : Ura M} (𝓛 : Logic 𝓤) where
  open 𝓛 use {A}

  pub tokens_in : (n : ℕ) (κs : Lfts n) (qs : Shares n) → ent 𝓤 (⋆ 𝓛 (tokens n κs qs)) (toks 𝓛 n κs qs)
  tokens_in zero κs qs = id⊢ 𝓤 _
  tokens_in (suc n) κs qs = via 𝓤 _ (pop 𝓛 (‵ (flft κs.0 qs.0)) (tokens n κs.1 qs.1)) (mono_r 𝓤 (A.lft κs.0 qs.0) (tokens_in n κs.1 qs.1))

  pub tokens_out : (n : ℕ) (κs : Lfts n) (qs : Shares n) → ent 𝓤 (toks 𝓛 n κs qs) (⋆ 𝓛 (tokens n κs qs))
  tokens_out zero κs qs = id⊢ 𝓤 _
  tokens_out (suc n) κs qs = via 𝓤 _ (mono_r 𝓤 (A.lft κs.0 qs.0) (tokens_out n κs.1 qs.1)) (push 𝓛 (‵ (flft κs.0 qs.0)) (tokens n κs.1 qs.1))

  one_gives : (h : Handing) (F : Fml) → ent 𝓤 (sem 𝓛 F) (⋆ 𝓛 (before h F))
  one_gives made F = top 𝓤 _
  one_gives shown F = id⊢ 𝓤 _
  one_gives given F = id⊢ 𝓤 _

  module _ {n : ℕ} (κs : Lfts n) where
    all_had : (Ps : List (Param n)) (a : Args (inner n) κs Ps) → Sound (inner n) κs Ps a → ent 𝓤 (⋆ 𝓛 (needed κs Ps a)) (sep 𝓤 (sem 𝓛 (Owns (inner n) κs Ps a)) (⋆ 𝓛 (staying κs Ps a)))
    all_had [] a are = emp∗ 𝓤 (emp 𝓤)
    all_had (P ∷ Ps) a are =
        let O = own_of κs P a.0 in let Os = Owns (inner n) κs Ps a.1 in let S = after P.handing O in let Ss = staying κs Ps a.1 in
        via 𝓤 _ (⊢++ 𝓛 (before P.handing O) (needed κs Ps a.1)) (qed 𝓛 (raw (⋆ 𝓛 (before P.handing O)) ∷ raw (⋆ 𝓛 (needed κs Ps a.1)) ∷ []) ∵
        use1 𝓛 (‵ O ⊛ raw (⋆ 𝓛 S)) (P.had 𝓛 κs a.0 are.0) $ split ! $ move ! (2 ∷ []) $ use1 𝓛 (‵ Os ⊛ raw (⋆ 𝓛 Ss)) (all_had Ps a.1 are.1) $ split ! $ move ! (2 ∷ 0 ∷ []) $ fjoin ! $ frame ! $ move ! (1 ∷ 0 ∷ []) $ by ! (++⊢ 𝓛 S Ss))

    pub all_give : (Ps : List (Param n)) (a : Args (inner n) κs Ps) → ent 𝓤 (sem 𝓛 (Owns (inner n) κs Ps a)) (⋆ 𝓛 (needed κs Ps a))
    all_give [] a = id⊢ 𝓤 _
    all_give (P ∷ Ps) a = via 𝓤 _ (mono∗ 𝓤 (one_gives P.handing (own_of κs P a.0)) (all_give Ps a.1)) (++⊢ 𝓛 (before P.handing (own_of κs P a.0)) (needed κs Ps a.1))

-- ---- the call, by where its result goes: followed by statements, or last in its part
pub data After : Type 0 where
  then : Place → Code → After
  last : Place → After

abbrev code : Callee → List Operand → After → Code
code f xs (then d rest) = seq (call f xs d) rest
code f xs (last d) = call f xs d

abbrev goes : {M : Type 1} {𝓤 : Ura M} {H : Heap 𝓤} → Calls 𝓤 H → Loops 𝓤 H → Env 𝓤 H → Post 𝓤 H → After → Val → Goal 𝓤 H
goes C Λ E q (then d rest) v = lands C Λ E d v rest q
goes C Λ E q (last d) v = settles E d v q

module _ (n : ℕ) (Ps : List (Param n)) (D : Slot n) where
  abbrev pub callee : Ended
  callee = record { signature = record { lifetimes = n; outlives = []; params = slots (inner n) Ps; result = D }; kept = all yes (slots (inner n) Ps) }

  module _ {M : Type 1} {𝓤 : Ura M} (𝓛 : Logic 𝓤) (c : Clauses 𝓤 callee) (κs : Lfts n) (qs : Shares n) (a : Args (inner n) κs Ps) (g : (c κs a).ghost) where
    open 𝓛 use {H, A}

    abbrev to : (Contracted 𝓛 callee c).Ghost
    to = ((κs, qs, tt, a, spelt (inner n) κs Ps a), g)

    abbrev Pre : SProp 𝓤
    Pre = (Contracted 𝓛 callee c).pre to

    abbrev Toks : SProp 𝓤
    Toks = toks 𝓛 n κs qs

    abbrev Called : List (Item 𝓤) → List (Item 𝓤)
    Called Γ = raw Pre ∷ (staying κs Ps a ++ Γ)

    -- what the callee asks is had, and had back
    asked : Sound (inner n) κs Ps a → ent 𝓤 (emp 𝓤) ((c κs a).requires g) → (Γ : List (Item 𝓤)) → ent 𝓤 (⋆ 𝓛 (Asked Ps κs qs a Γ)) (⋆ 𝓛 (Called Γ))
    asked are req Γ =
        via 𝓤 _ (⊢++ 𝓛 (tokens n κs qs) (needed κs Ps a ++ Γ)) (qed 𝓛 (raw (⋆ 𝓛 (tokens n κs qs)) ∷ raw (⋆ 𝓛 (needed κs Ps a ++ Γ)) ∷ []) ∵
        use1 𝓛 (raw Toks) (tokens_in 𝓛 n κs qs) $ move ! (1 ∷ []) $ use1 𝓛 (raw (⋆ 𝓛 (needed κs Ps a)) ⊛ raw (⋆ 𝓛 Γ)) (⊢++ 𝓛 (needed κs Ps a) Γ) $ split ! $
        use1 𝓛 (‵ (Owns (inner n) κs Ps a) ⊛ raw (⋆ 𝓛 (staying κs Ps a))) (all_had 𝓛 κs Ps a are) $ split ! $ move ! (3 ∷ 0 ∷ []) $ join ! $ use0 𝓛 (raw ((c κs a).requires g)) req $ move ! (1 ∷ 0 ∷ []) $ join ! $
        by ! (via 𝓤 _ (mono_r 𝓤 Pre (++⊢ 𝓛 (staying κs Ps a) Γ)) (push 𝓛 (raw Pre) (staying κs Ps a ++ Γ))))

    handed_back : (Γ : List (Item 𝓤)) → ent 𝓤 (⋆ 𝓛 (Called Γ)) (⋆ 𝓛 (Asked Ps κs qs a Γ))
    handed_back Γ =
        via 𝓤 _ (pop 𝓛 (raw Pre) (staying κs Ps a ++ Γ)) (qed 𝓛 (((raw Toks ⊛ ‵ (Owns (inner n) κs Ps a)) ⊛ raw ((c κs a).requires g)) ∷ raw (⋆ 𝓛 (staying κs Ps a ++ Γ)) ∷ []) ∵
        split ! $ split ! $ use1 𝓛 (raw (⋆ 𝓛 (tokens n κs qs))) (tokens_out 𝓛 n κs qs) $ move ! (1 ∷ []) $ use1 𝓛 (raw (⋆ 𝓛 (needed κs Ps a))) (all_give 𝓛 κs Ps a) $
        move ! (3 ∷ []) $ use1 𝓛 (raw (⋆ 𝓛 (staying κs Ps a)) ⊛ raw (⋆ 𝓛 Γ)) (⊢++ 𝓛 (staying κs Ps a) Γ) $ split ! $ drop ! $ move ! (1 ∷ 0 ∷ []) $ use2 𝓛 (raw (⋆ 𝓛 (needed κs Ps a ++ Γ))) (++⊢ 𝓛 (needed κs Ps a) Γ) $ keep ! (1 ∷ 0 ∷ []) $ by ! (++⊢ 𝓛 (tokens n κs qs) (needed κs Ps a ++ Γ)))

    -- what came back
    abbrev Came : (D.row κs).Denot → Val → Lasts callee κs a → List (Item 𝓤) → List (Item 𝓤)
    Came r v ws Γ = ‵ ((D.row κs).own_val r (v ∷ [])) ∷ ‵ (lasts callee κs a ws) ∷ raw ((c κs a).ensures g r (at_exit callee κs a ws)) ∷ Back Ps κs qs a Γ

    module _ {K : Type 0} (t : K) (Γ : List (Item 𝓤)) where
      reads_through : {E : Env 𝓤 H} {xs : List Operand} {vs : List Val} → Sound (inner n) κs Ps a → ent 𝓤 (emp 𝓤) ((c κs a).requires g) → Opds K 𝓛 (Asked Ps κs qs a Γ) E xs vs → Opds K 𝓛 (Called Γ) E xs vs
      reads_through are req os = record { go = λ Kt h. via 𝓤 _ (handed_back Γ) (os.go Kt (via 𝓤 _ (asked are req Γ) h)) }

      lands_with : {G : Goal 𝓤 H} → Soaks G → (v : Val) → ((r : (D.row κs).Denot) (ws : Lasts callee κs a) → Seq K 𝓛 (Came r v ws Γ) G) → Seq K 𝓛 (raw ((Contracted 𝓛 callee c).post to v) ∷ (staying κs Ps a ++ Γ)) G
      lands_with z v k = came_back 𝓛 callee c κs qs a g t z v (λ r ws. move t (1 ∷ 2 ∷ 3 ∷ 0 ∷ []) $ record { prf = via 𝓤 (⋆ 𝓛 (Came r v ws Γ)) (fits r ws) (k r ws).prf })
        where
          fits : (r : (D.row κs).Denot) (ws : Lasts callee κs a) → ent 𝓤 (⋆ 𝓛 (‵ ((D.row κs).own_val r (v ∷ [])) ∷ ‵ (lasts callee κs a ws) ∷ raw ((c κs a).ensures g r (at_exit callee κs a ws)) ∷ raw Toks ∷ (staying κs Ps a ++ Γ))) (⋆ 𝓛 (Came r v ws Γ))
          fits r ws =
              let O : SProp 𝓤 = sem 𝓛 ((D.row κs).own_val r (v ∷ [])) in let L : SProp 𝓤 = sem 𝓛 (lasts callee κs a ws) in let X : SProp 𝓤 = (c κs a).ensures g r (at_exit callee κs a ws) in
              mono_r 𝓤 O (mono_r 𝓤 L (via 𝓤 _ (mono_r 𝓤 X (via 𝓤 _ (pop 𝓛 (raw Toks) (staying κs Ps a ++ Γ)) (via 𝓤 _ (mono_l 𝓤 (⋆ 𝓛 (staying κs Ps a ++ Γ)) (tokens_out 𝓛 n κs qs)) (++⊢ 𝓛 (tokens n κs qs) (staying κs Ps a ++ Γ))))) (push 𝓛 (raw X) (Back Ps κs qs a Γ))))

  module _ {M : Type 1} {𝓤 : Ura M} {𝓛 : Logic 𝓤} {K : Type 0} {E : Env 𝓤 𝓛.H} {C : Calls 𝓤 𝓛.H} {Λ : Loops 𝓤 𝓛.H} {q : Post 𝓤 𝓛.H} {f : Callee} {xs : List Operand} (c : Clauses 𝓤 callee) (κs : Lfts n) (qs : Shares n) (a : Args (inner n) κs Ps) (Γ : List (Item 𝓤)) where
    open 𝓛 use {H}

    pub calls_for : (o : After) → K → FmC 𝓤 H 𝓛.laws C → Triple 𝓤 (C f) (Contracted 𝓛 callee c) → Sound (inner n) κs Ps a → (g : (c κs a).ghost) → ent 𝓤 (emp 𝓤) ((c κs a).requires g) → Opds K 𝓛 (Asked Ps κs qs a Γ) E xs (vals (inner n) κs Ps a)
        → ((v : Val) (r : (D.row κs).Denot) (ws : Lasts callee κs a) → Seq K 𝓛 (Came 𝓛 c κs qs a g r v ws Γ) (goes C Λ E q o v)) → Seq K 𝓛 (Asked Ps κs qs a Γ) (runs C Λ E (code f xs o) q)
    calls_for o t fm met are g req os k = record { prf = via 𝓤 _ (asked 𝓛 c κs qs a g are req Γ) (into o (reads_through 𝓛 c κs qs a g t Γ are req os) k).prf }
      where
        into : (o : After) → Opds K 𝓛 (Called 𝓛 c κs qs a g Γ) E xs (vals (inner n) κs Ps a) → ((v : Val) (r : (D.row κs).Denot) (ws : Lasts callee κs a) → Seq K 𝓛 (Came 𝓛 c κs qs a g r v ws Γ) (goes C Λ E q o v)) → Seq K 𝓛 (Called 𝓛 c κs qs a g Γ) (runs C Λ E (code f xs o) q)
        into (then d rest) os k = calls_at t fm (Contracted 𝓛 callee c) met (to 𝓛 c κs qs a g) os (λ v. lands_with 𝓛 c κs qs a g t Γ tt v (k v))
        into (last d) os k = calls_at_last t fm (Contracted 𝓛 callee c) met (to 𝓛 c κs qs a g) os (λ v. lands_with 𝓛 c κs qs a g t Γ tt v (k v))

-- of a function whose result is plain data: the fact φ is ensured of it
module _ (n : ℕ) (Ps : List (Param n)) (V' : Value) where
  abbrev T : Ended
  T = callee n Ps (plain (λ _. V'.row))

  module _ {M : Type 1} {𝓤 : Ura M} {𝓛 : Logic 𝓤} {K : Type 0} {E : Env 𝓤 𝓛.H} {C : Calls 𝓤 𝓛.H} {Λ : Loops 𝓤 𝓛.H} {q : Post 𝓤 𝓛.H} {f : Callee} {xs : List Operand}
      (c : Clauses 𝓤 T) (κs : Lfts n) (qs : Shares n) (a : Args (inner n) κs Ps) (φ : V'.row.Denot → Type 0) (Γ : List (Item 𝓤)) where
    open 𝓛 use {H}

    pub calls : (o : After) → K → FmC 𝓤 H 𝓛.laws C → Triple 𝓤 (C f) (Contracted 𝓛 T c) → Sound (inner n) κs Ps a → (g : (c κs a).ghost) → ent 𝓤 (emp 𝓤) ((c κs a).requires g)
        → ((r : V'.row.Denot) (ws : Lasts T κs a) → ent 𝓤 ((c κs a).ensures g r (at_exit T κs a ws)) (fact 𝓤 (φ r))) → Opds K 𝓛 (Asked Ps κs qs a Γ) E xs (vals (inner n) κs Ps a)
        → ((r : V'.row.Denot) → Is V'.row r (V'.val r ∷ []) → φ r → Seq K 𝓛 (Back Ps κs qs a Γ) (goes C Λ E q o (V'.val r))) → Seq K 𝓛 (Asked Ps κs qs a Γ) (runs C Λ E (code f xs o) q)
    calls o t fm met are g req said os k = calls_for n Ps (plain (λ _. V'.row)) c κs qs a Γ o t fm met are g req os (λ v r ws.
        move t (1 ∷ []) $ drop t $ move t (1 ∷ []) $ use1 𝓛 (raw (fact 𝓤 (φ r))) (said r ws) $ heard t (φ r) (λ e. told t V' (λ u. goes C Λ E q o u) r v (λ is. k r is e)))

-- the same at the machine, of a callee that the program has by its routine
module _ {M : Type 1} {𝓤 : Ura M} (𝓛 : Logic 𝓤) (𝓜 : Model 𝓤 𝓛.H) (𝓡 : Running 𝓤 𝓛.H 𝓜) (γ : Routines) (n : ℕ) (Ps : List (Param n)) (V' : Value) (parts : Clauses-of 𝓤 (T n Ps V')) where
  open 𝓛 use {H}

  abbrev c : Clauses 𝓤 (T n Ps V')
  c = parts 𝓛 𝓜.mem 𝓡.returns

  pub invokes : {K : Type 0} {E : Env 𝓤 H} {q : Post 𝓤 H} {f : Callee} {xs : List Operand} (κs : Lfts n) (qs : Shares n) (a : Args (inner n) κs Ps) (φ : V'.row.Denot → Type 0) (Γ : List (Item 𝓤)) (o : After) → K
      → (r : Routine) → γ f ≡ r → Triple 𝓤 (𝓡.run r) (Contracted 𝓛 (T n Ps V') c) → Sound (inner n) κs Ps a → (g : (c κs a).ghost) → ent 𝓤 (emp 𝓤) ((c κs a).requires g)
      → ((y : V'.row.Denot) (ws : Lasts (T n Ps V') κs a) → ent 𝓤 ((c κs a).ensures g y (at_exit (T n Ps V') κs a ws)) (fact 𝓤 (φ y))) → Opds K 𝓛 (Asked Ps κs qs a Γ) E xs (vals (inner n) κs Ps a)
      → ((y : V'.row.Denot) → Is V'.row y (V'.val y ∷ []) → φ y → Seq K 𝓛 (Back Ps κs qs a Γ) (goes (machine 𝓛 𝓜 𝓡 γ).C (machine 𝓛 𝓜 𝓡 γ).Λ E q o (V'.val y))) → Seq K 𝓛 (Asked Ps κs qs a Γ) (runs (machine 𝓛 𝓜 𝓡 γ).C (machine 𝓛 𝓜 𝓡 γ).Λ E (code f xs o) q)
  invokes {f = f} κs qs a φ Γ o t r at met are g req said os k = calls n Ps V' c κs qs a φ Γ o t (fm_of 𝓤 H 𝓛.laws (machine 𝓛 𝓜 𝓡 γ)) (known 𝓛 𝓜 𝓡 γ (T n Ps V') c f r at met) are g req said os k
