-- A function that hands back a part of a lent slice, in a struct beside a number: `let at = search(s, .., p, ..); S { number: at.number, part: cut(s, .., at) }`, of m shared slices of bytes at one lifetime and any values.
--     Placed           what the search hands back: a struct whose first field is the number
--     Holding          the struct: a number and a part
--     search, cut, function    the three signatures.        mir_locals, mir_body      the function's MIR. Of a function that is known, that it has these is `refl`
--     hands_part       the function meets its contract, where the two meet theirs and the one follows from the others
-- The lemmas take `Logic`, as every statement about a function does.
use types.Logic.{Logic, sem}
use denote.Slice.{shr_slice_vals}
use denote.Ref.{Bor}
use mathlib.Core.Path.{◌≡◌, refl, ap, subst}
use mathlib.Core.Option.{some}
use Prim.Native.Nat.{ℕ, zero, suc}
use mathlib.Core.List.{[], ◌∷◌, List, map}
use lib.Dec.{T as So}
use lib.ListN.{length}
use Rattle.walks.proofs.Kit.{Ura, full_share, Ty, Callee, Local, Fn, w8, ty_int, ty_ref, erased, imm, named, Operand, Code, place, copy, field, aggregate, assign, call, seq, return, Val, Fits, vint, vstruct, of_list, WT, has_ty, SProp, ent, sep, emp, via, emp∗, comm∗, mono_l, mono_r, id⊢, Fml, ftrue, fsep, fat, field_of, Model, Routine, Routines, Env, WpFn, Tables, Entry, sem, fact, Lfts, Shares, toks, Running, tables, Go, Item, Sq, allocs, params', runs, at_ret, lands, nth, ‵, raw, ◌⊛◌, ⋆, ◌$◌, ◌∵◌, !, qed, by, move, drop, rewrite, use0, use1, use2, split, join, fjoin, suffices, frame, done, agg, Reads, Opds, look, init, forget, stop, fld, from, load, and_then, no_more, assigns, land, returns, alloc1, alloc0, params1, free1, free0, fm_of, RattleType, Is, shows, u8, NamedLft, plain, shr_slice_of, named_lft, slice_ty, slice_val, ShrSlice, shr_slice_Tells, shr_slice_Lawful, shr_slice_copy, owned, peeks, heard, nothing, only, calls_at, Ended, Clauses, Lasts, lasts, at_exit, on_entry, Triple}
use denote.Plain.{uint_Makes, uint_row_laws}
use Rattle.walks.proofs.Frame.{Blocks, Cells, Cell, Groups, group_locals, env_from, first_of, in_group, Bound, finds, alloc_all, pass_all, free_all, enters_as, first_cell, later_cell, reads}
use Rattle.walks.proofs.Values.{Value, told}
use Rattle.walks.proofs.Contracts.{Clauses-of, Contracted, Post, ends, came_back, machine, known, walked}
use Rattle.walks.proofs.Calls.{callee}
use Rattle.walks.proofs.Params.{Param, value, shared_slice, inner, tys, Args, spells, all_tell, spelt, vals, Owns, Sound, all_typed}

-- the machine value of a number and a part
abbrev pub pair : ℕ → Bor (List ℕ) → Val
pair n r = vstruct (of_list (vint w8 n ∷ slice_val r.ref_ptr (length r.now) ∷ []))

pub record Placed : Type 2 where
  pub value : Value
  pub number : value.row.Denot → ℕ
  pub is_number : (x : value.row.Denot) → Is value.row x (value.val x ∷ []) → Is u8 (number x) (vint w8 (number x) ∷ [])
  pub at_first : field_of value.ty 0 ≡ some (ty_int w8, 0)
  pub read : {M : Type 1} {𝓤 : Ura M} (𝓛 : Logic 𝓤) (Γ : List (Item 𝓤)) (l : ℕ) (x : value.row.Denot) → Reads (Go {0}) 𝓛 (‵ (fat full_share value.ty l 0 (value.val x)) ∷ Γ) (ty_int w8) l 0 (vint w8 (number x))

pub record Holding : Type 2 where
  pub row : NamedLft → RattleType
  pub ty : Ty
  pub made : (α : NamedLft) → ℕ → Bor (List ℕ) → (row α).Denot
  pub typed : (n : ℕ) (r : Bor (List ℕ)) → Fits w8 n → WT (slice_val r.ref_ptr (length r.now)) → So (has_ty ty (pair n r)) × WT (pair n r)
  pub shut : {M : Type 1} {𝓤 : Ura M} (𝓛 : Logic 𝓤) → (α : NamedLft) (n : ℕ) (r : Bor (List ℕ))
      → ent 𝓤 (sem 𝓛 (fsep (u8.own_val n (vint w8 n ∷ [])) (fsep ((ShrSlice α.mir α.lft u8).own_val r (shr_slice_vals r)) ftrue))) (sem 𝓛 ((row α).own_val (made α n r) (pair n r ∷ [])))

-- m slices before other parameters
abbrev slices_and : ℕ → List (Param 1) → List (Param 1)
slices_and zero Ps = Ps
slices_and (suc m) Ps = shared_slice 0 tt u8 (uint_row_laws w8) ∷ slices_and m Ps

-- the locals from number k on, one for each parameter, and for each of m
abbrev copies : ℕ → List (Param 1) → List Operand
copies k [] = []
copies k (P ∷ Ps) = copy (place k []) ∷ copies (suc k) Ps

abbrev copies_and : ℕ → ℕ → List Operand → List Operand
copies_and zero k xs = xs
copies_and (suc m) k xs = copy (place k []) ∷ copies_and m (suc k) xs

abbrev part_ty : Ty
part_ty = slice_ty (ty_ref erased imm (ty_int w8))

module _ (m : ℕ) (Vs : List Value) (Pl : Placed) (Ho : Holding) where
  abbrev Ps : List (Param 1)
  Ps = slices_and m (map value Vs)

  abbrev Cs : List (Param 1)
  Cs = slices_and m (value Pl.value ∷ [])

  abbrev Slice : Lfts 1 → RattleType
  Slice κs = ShrSlice (named 0) κs.0 u8

  abbrev search : Ended
  search = callee 1 Ps (plain (λ _. Pl.value.row))

  abbrev cut : Ended
  cut = callee 1 Cs (shr_slice_of (0 ∷ []) tt (plain (λ _. u8)))

  abbrev function : Ended
  function = callee 1 Ps (plain (λ κs. Ho.row (named_lft 1 0 tt κs)))

  abbrev gs : List (List Ty)
  gs = (Ho.ty ∷ []) ∷ tys (inner 1) Ps ∷ (Pl.value.ty ∷ part_ty ∷ []) ∷ []

  abbrev at# : ℕ
  at# = first_of gs 2

  abbrev mir_locals : List Local
  mir_locals = group_locals gs

  abbrev cutting : Callee → Code
  cutting #cut = seq (call #cut (copies_and m 1 (copy (place at# []) ∷ [])) (place (suc at#) [])) (seq (assign (place 0 []) (aggregate (copy (place at# (field 0 ∷ [])) ∷ copy (place (suc at#) []) ∷ []))) return)

  abbrev mir_body : Callee → Callee → Code
  mir_body #search #cut = seq (call #search (copies 1 Ps) (place at# [])) (cutting #cut)

  -- what the cut is called with
  abbrev cut_args : (k : ℕ) (κs : Lfts 1) → Args (inner 1) κs (slices_and k (map value Vs)) → Pl.value.row.Denot → Args (inner 1) κs (slices_and k (value Pl.value ∷ []))
  cut_args zero κs a p = (p, tt)
  cut_args (suc k) κs a p = (a.0, cut_args k κs a.1 p)

  -- what the slices own
  abbrev Slices : (k : ℕ) (κs : Lfts 1) → Args (inner 1) κs (slices_and k (map value Vs)) → Fml
  Slices zero κs a = ftrue
  Slices (suc k) κs a = fsep ((Slice κs).own_val a.0 (shr_slice_vals a.0)) (Slices k κs a.1)

  module _ {M : Type 1} {𝓤 : Ura M} (𝓛 : Logic 𝓤) (κs : Lfts 1) where
    -- it is had again beside what the parameters own, and with a place it is what the cut's parameters own
    open 𝓛 use {H}

    again : (k : ℕ) (a : Args (inner 1) κs (slices_and k (map value Vs))) → ent 𝓤 (sem 𝓛 (Owns (inner 1) κs (slices_and k (map value Vs)) a)) (sep 𝓤 (sem 𝓛 (Owns (inner 1) κs (slices_and k (map value Vs)) a)) (sem 𝓛 (Slices k κs a)))
    again zero a = let X : SProp 𝓤 = sem 𝓛 (Owns (inner 1) κs (map value Vs) a) in via 𝓤 (sep 𝓤 (emp 𝓤) X) (emp∗ 𝓤 X) (comm∗ 𝓤 (emp 𝓤) X)
    again (suc k) a =
        let O = (Slice κs).own_val a.0 (shr_slice_vals a.0) in let R = Owns (inner 1) κs (slices_and k (map value Vs)) a.1 in
        qed 𝓛 (‵ O ∷ ‵ R ∷ []) ∵ use1 𝓛 (‵ O ⊛ ‵ O) ((shr_slice_copy 𝓛 (named 0) κs.0 u8 (uint_row_laws w8)).twice a.0 (shr_slice_vals a.0)) $ split ! $ move ! (2 ∷ []) $ use1 𝓛 (‵ R ⊛ ‵ (Slices k κs a.1)) (again k a.1) $ split ! $
        move ! (2 ∷ 0 ∷ []) $ fjoin ! $ frame ! $ move ! (1 ∷ 0 ∷ []) $ done !

    cut_owns : (k : ℕ) (a : Args (inner 1) κs (slices_and k (map value Vs))) (p : Pl.value.row.Denot) → Is Pl.value.row p (Pl.value.val p ∷ []) → ent 𝓤 (sem 𝓛 (Slices k κs a)) (sem 𝓛 (Owns (inner 1) κs (slices_and k (value Pl.value ∷ [])) (cut_args k κs a p)))
    cut_owns zero a p is = via 𝓤 (sep 𝓤 (emp 𝓤) (emp 𝓤)) (emp∗ 𝓤 (emp 𝓤)) (mono_l 𝓤 (emp 𝓤) (Pl.value.makes 𝓛 p _ is))
    cut_owns (suc k) a p is = mono_r 𝓤 (sem 𝓛 ((Slice κs).own_val a.0 (shr_slice_vals a.0))) (cut_owns k a.1 p is)

    -- the operands, where the parameters' cells are in F, entry j of the context
    abbrev Up : Fml → (Qs : List (Param 1)) → Args (inner 1) κs Qs → Blocks (tys (inner 1) Qs) → Type 2
    Up F Qs a ls = (τ : Ty) (l : ℕ) (v : Val) → Cell 𝓛 (Cells (tys (inner 1) Qs) ls (map some (vals (inner 1) κs Qs a))) τ l v → Cell 𝓛 F τ l v

    module _ (E : Env 𝓤 H) {Γ : List (Item 𝓤)} (j : ℕ) (F : Fml) (here : nth 𝓛 j Γ ≡ ‵ F) where
      read_own : (Qs : List (Param 1)) (a : Args (inner 1) κs Qs) (ls : Blocks (tys (inner 1) Qs)) (k : ℕ) → Bound 𝓤 H E k (tys (inner 1) Qs) ls → Up F Qs a ls → Opds (Go {0}) 𝓛 Γ E (copies k Qs) (vals (inner 1) κs Qs a)
      read_own [] a ls k at up = no_more !
      read_own (Q ∷ Qs) a ls k at up = and_then ! (load ! (finds 𝓛 at.0 (stop !)) (reads 𝓛 j here (up _ _ _ (first_cell 𝓛 _ _ _ _ _)))) (read_own Qs a.1 ls.1 (suc k) at.1 (λ τ l v c. up τ l v (later_cell 𝓛 _ c)))

      read_cut : (i : ℕ) (a : Args (inner 1) κs (slices_and i (map value Vs))) (ls : Blocks (tys (inner 1) (slices_and i (map value Vs)))) (k : ℕ) → Bound 𝓤 H E k (tys (inner 1) (slices_and i (map value Vs))) ls → Up F (slices_and i (map value Vs)) a ls
          → (p : Pl.value.row.Denot) (xs : List Operand) → Opds (Go {0}) 𝓛 Γ E xs (Pl.value.val p ∷ []) → Opds (Go {0}) 𝓛 Γ E (copies_and i k xs) (vals (inner 1) κs (slices_and i (value Pl.value ∷ [])) (cut_args i κs a p))
      read_cut zero a ls k at up p xs os = os
      read_cut (suc i) a ls k at up p xs os = and_then ! (load ! (finds 𝓛 at.0 (stop !)) (reads 𝓛 j here (up _ _ _ (first_cell 𝓛 _ _ _ _ _)))) (read_cut i a.1 ls.1 (suc k) at.1 (λ τ l v c. up τ l v (later_cell 𝓛 _ c)) p xs os)

  -- ---- the contracts, where the search is known to say φ of the place that it hands back
  module _ {M : Type 1} (𝓤 : Ura M) (cₛ : Clauses 𝓤 search) (cₖ : Clauses 𝓤 cut) (c : Clauses 𝓤 function) (φ : (κs : Lfts 1) → Args (inner 1) κs Ps → Pl.value.row.Denot → Type 0)
      (ghostₛ : (κs : Lfts 1) (a : Args (inner 1) κs Ps) → (cₛ κs a).ghost) (ghostₖ : (κs : Lfts 1) (a : Args (inner 1) κs Cs) → (cₖ κs a).ghost) where
    -- the search asks nothing more, and says φ; with φ the cut has what it asks; and from what that says of the part follows what the function does
    abbrev pub Asks : Type 1
    Asks = (κs : Lfts 1) (a : Args (inner 1) κs Ps) (g : (c κs a).ghost) → ent 𝓤 ((c κs a).requires g) ((cₛ κs a).requires (ghostₛ κs a))

    abbrev pub Finds : Type 1
    Finds = (κs : Lfts 1) (a : Args (inner 1) κs Ps) (p : Pl.value.row.Denot) (ws : Lasts search κs a) → ent 𝓤 ((cₛ κs a).ensures (ghostₛ κs a) p (at_exit search κs a ws)) (fact 𝓤 (φ κs a p))

    abbrev pub Fits-in : Type 1
    Fits-in = (κs : Lfts 1) (a : Args (inner 1) κs Ps) (p : Pl.value.row.Denot) → φ κs a p → ent 𝓤 (emp 𝓤) ((cₖ κs (cut_args m κs a p)).requires (ghostₖ κs (cut_args m κs a p)))

    abbrev pub Says : Type 1
    Says = (κs : Lfts 1) (a : Args (inner 1) κs Ps) (g : (c κs a).ghost) (p : Pl.value.row.Denot) → φ κs a p → (r : Bor (List ℕ)) (ws : Lasts cut κs (cut_args m κs a p)) (ws' : Lasts function κs a)
        → ent 𝓤 ((cₖ κs (cut_args m κs a p)).ensures (ghostₖ κs (cut_args m κs a p)) r (at_exit cut κs (cut_args m κs a p) ws)) ((c κs a).ensures g (Ho.made (named_lft 1 0 tt κs) (Pl.number p) r) (at_exit function κs a ws'))

    module _ (𝓛 : Logic 𝓤) (finds_it : Finds) (fits_in : Fits-in) (says : Says) (𝓣 : Tables 𝓤 𝓛.H) (#search #cut : Callee) (metₛ : Triple 𝓤 (𝓣.C #search) (Contracted 𝓛 search cₛ)) (metₖ : Triple 𝓤 (𝓣.C #cut) (Contracted 𝓛 cut cₖ))
        (κs : Lfts 1) (qs : Shares 1) (a : Args (inner 1) κs Ps) (g : (c κs a).ghost) (are : Sound (inner 1) κs Ps a) where
      open 𝓛 use {H, A}

      abbrev P : List Ty
      P = tys (inner 1) Ps

      abbrev vs : List Val
      vs = vals (inner 1) κs Ps a

      abbrev Toks : Item 𝓤
      Toks = raw (toks 𝓛 1 κs qs)

      abbrev End : Val → SProp 𝓤
      End = Post 𝓛 function c κs qs a g

      abbrev toₛ : (Contracted 𝓛 search cₛ).Ghost
      toₛ = ((κs, qs, tt, a, spelt (inner 1) κs Ps a), ghostₛ κs a)

      abbrev toₖ : Pl.value.row.Denot → (Contracted 𝓛 cut cₖ).Ghost
      toₖ p = ((κs, qs, tt, cut_args m κs a p, spelt (inner 1) κs Cs (cut_args m κs a p)), ghostₖ κs (cut_args m κs a p))

      asked : (p : Pl.value.row.Denot) → φ κs a p → Is Pl.value.row p (Pl.value.val p ∷ []) → ent 𝓤 (sep 𝓤 (toks 𝓛 1 κs qs) (sem 𝓛 (Slices m κs a))) ((Contracted 𝓛 cut cₖ).pre (toₖ p))
      asked p e is = qed 𝓛 (Toks ∷ ‵ (Slices m κs a) ∷ []) ∵ move ! (1 ∷ []) $ use1 𝓛 (‵ (Owns (inner 1) κs Cs (cut_args m κs a p))) (cut_owns 𝓛 κs m a p is) $ move ! (1 ∷ 0 ∷ []) $ join ! $ frame ! $ use0 𝓛 (raw ((cₖ κs (cut_args m κs a p)).requires (ghostₖ κs (cut_args m κs a p)))) (fits_in κs a p e) $ done !

      exits : (p : Pl.value.row.Denot) (r : Bor (List ℕ)) (ws : Lasts cut κs (cut_args m κs a p)) (ws' : Lasts function κs a) → φ κs a p → Is u8 (Pl.number p) (vint w8 (Pl.number p) ∷ [])
          → ent 𝓤 (⋆ 𝓛 (Toks ∷ ‵ ((Slice κs).own_val r (shr_slice_vals r)) ∷ ‵ (lasts function κs a ws') ∷ raw ((cₖ κs (cut_args m κs a p)).ensures (ghostₖ κs (cut_args m κs a p)) r (at_exit cut κs (cut_args m κs a p) ws)) ∷ [])) (End (pair (Pl.number p) r))
      exits p r ws ws' e is =
          let α = named_lft 1 0 tt κs in let n = Pl.number p in
          qed 𝓛 (Toks ∷ ‵ ((Slice κs).own_val r (shr_slice_vals r)) ∷ ‵ (lasts function κs a ws') ∷ raw ((cₖ κs (cut_args m κs a p)).ensures (ghostₖ κs (cut_args m κs a p)) r (at_exit cut κs (cut_args m κs a p) ws)) ∷ []) ∵
          suffices ! _ (ends 𝓛 function c κs qs a g (Ho.made α n r) (pair n r) ws') $ frame ! $ nothing ! $ move ! (1 ∷ 0 ∷ []) $ fjoin ! $ owned ! u8 (Is u8) (uint_Makes 𝓛 w8) n _ is $ fjoin ! $
          use1 𝓛 (‵ ((Ho.row α).own_val (Ho.made α n r) (pair n r ∷ []))) (Ho.shut 𝓛 α n r) $ frame ! $ frame ! $ use1 𝓛 (raw ((c κs a).ensures g (Ho.made α n r) (at_exit function κs a ws'))) (says κs a g p e r ws ws') $ done !

      walk : Sq 𝓛 (raw ((Contracted 𝓛 search cₛ).pre toₛ) ∷ ‵ (Slices m κs a) ∷ []) (allocs mir_locals (λ E. params' E vs (runs 𝓣.C 𝓣.Λ E (mir_body #search #cut) (at_ret E End))))
      walk =
          alloc1 ! (λ l. alloc_all 𝓛 P (λ ls. alloc1 ! (λ l₁. alloc1 ! (λ l₂. alloc0 ! $
          let bs : Groups gs = ((l, tt), (ls, ((l₁, (l₂, tt)), tt))) in let E : Env 𝓤 H = env_from gs bs 0 in let at_p = in_group 𝓤 H gs bs 1 in let at-l = in_group 𝓤 H gs bs 2 in
          params1 ! $ move ! (4 ∷ []) $ pass_all 𝓛 P vs (all_typed (inner 1) κs 𝓛 Ps a are) ls (env_from gs bs 2) (
          -- the search: [what it asks; the slices; the parameters; _part; …; _at; …; the result; …]
          move ! (7 ∷ 8 ∷ []) $ calls_at ! (fm_of 𝓤 H 𝓛.laws 𝓣) (Contracted 𝓛 search cₛ) metₛ toₛ (read_own 𝓛 κs E 2 _ refl Ps a ls 1 at_p (λ τ l v c. c)) (λ v.
          came_back 𝓛 search cₛ κs qs a (ghostₛ κs a) ! tt v (λ p ws'. move ! (3 ∷ []) $ use1 𝓛 (raw (fact 𝓤 (φ κs a p))) (finds_it κs a p ws') $ heard ! (φ κs a p) (λ e. move ! (1 ∷ []) $ told ! Pl.value (λ u. lands 𝓣.C 𝓣.Λ E (place at# []) u (cutting #cut) (at_ret E End)) p v (λ is.
          land ! (finds 𝓛 at-l.0 (stop !)) (init ! 6 refl (Pl.value.typed 𝓛 p is)) $ move ! (0 ∷ 2 ∷ []) $ use2 𝓛 (raw ((Contracted 𝓛 cut cₖ).pre (toₖ p))) (asked p e is) $
          -- the cut: [what it asks; last values; the parameters; _part; …; _at; …; the result; …]
          calls_at ! (fm_of 𝓤 H 𝓛.laws 𝓣) (Contracted 𝓛 cut cₖ) metₖ (toₖ p) (read_cut 𝓛 κs E 2 _ refl m a ls 1 at_p (λ τ l v c. c) p _ (and_then ! (load ! (finds 𝓛 at-l.0 (stop !)) (look ! 5 refl)) (no_more !))) (λ w.
          came_back 𝓛 cut cₖ κs qs (cut_args m κs a p) (ghostₖ κs (cut_args m κs a p)) ! tt w (λ r ws. move ! (2 ∷ []) $ drop ! $ move ! (1 ∷ []) $ peeks ! (Slice κs) (Is (Slice κs)) (shows 𝓛 (Slice κs)) r (w ∷ []) (λ is-r.
          let spelled = shr_slice_Tells (named 0) κs.0 u8 r _ is-r in let is_n = Pl.is_number p is in
          land ! (finds 𝓛 at-l.1.0 (stop !)) (init ! 5 refl ((shr_slice_Lawful 𝓛 erased κs.0 u8).typed r _ is-r).0) $ rewrite ! 0 (λ (us : List Val). ‵ ((Slice κs).own_val r us)) spelled refl $ rewrite ! 5 (λ (u : Val). ‵ (fat full_share part_ty l₂ 0 u)) (ap only spelled) refl $
          -- the struct: [_at; what the part owns; the tokens; what is ensured; last values; the parameters; _part; …; …; the result; …]
          move ! (7 ∷ []) $ assigns ! (agg ! (and_then ! (load ! (finds 𝓛 at-l.0 (fld ! Pl.at_first (stop !))) (Pl.read 𝓛 _ l₁ p)) (and_then ! (load ! (finds 𝓛 at-l.1.0 (stop !)) (look ! 6 refl)) (no_more !)))) (from ! (stop !))
          (init ! 9 refl (Ho.typed (Pl.number p) r (record { fits = is_n.1 }) ((shr_slice_Lawful 𝓛 (named 0) κs.0 u8).typed r _ (subst (Is (Slice κs) r) spelled is-r)).0.1)) $ returns ! (look ! 9 refl) $ forget ! 9 refl $
          move ! (9 ∷ 10 ∷ []) $ free1 ! $ move ! (5 ∷ []) $ free_all 𝓛 P ls (map some vs) (env_from gs bs 2) (forget ! 0 refl $ move ! (0 ∷ 7 ∷ []) $ free1 ! $ forget ! 4 refl $ move ! (4 ∷ 5 ∷ []) $ free1 ! $ free0 ! $ move ! (1 ∷ 0 ∷ 3 ∷ []) $ by ! (exits p r ws ws' e is_n))))))))))))))

      runs_it : (f : Fn) → f.locals ≡ mir_locals → f.body ≡ mir_body #search #cut
          → ent 𝓤 (sep 𝓤 (on_entry 𝓛 function.signature κs qs a (spelt (inner 1) κs Ps a)) ((cₛ κs a).requires (ghostₛ κs a))) (WpFn 𝓤 H 𝓣.C 𝓣.Λ f vs End)
      runs_it f f-locals f-body =
          qed 𝓛 ((Toks ⊛ ‵ (Owns (inner 1) κs Ps a)) ∷ raw ((cₛ κs a).requires (ghostₛ κs a)) ∷ []) ∵ split ! $ move ! (1 ∷ []) $ use1 𝓛 (‵ (Owns (inner 1) κs Ps a) ⊛ ‵ (Slices m κs a)) (again 𝓛 κs m a) $ split ! $ move ! (2 ∷ 0 ∷ []) $ join ! $ move ! (0 ∷ 2 ∷ []) $ join ! $
          use1 𝓛 (raw ((Contracted 𝓛 search cₛ).pre toₛ)) (id⊢ 𝓤 _) $ enters_as 𝓛 𝓣.C 𝓣.Λ f vs End f-locals f-body walk

  pub hands_part : {M : Type 1} {𝓤 : Ura M} (𝓛 : Logic 𝓤) (𝓜 : Model 𝓤 𝓛.H) (𝓡 : Running 𝓤 𝓛.H 𝓜) (partsₛ : Clauses-of 𝓤 search) (partsₖ : Clauses-of 𝓤 cut) (parts : Clauses-of 𝓤 function) →
      let cₛ : Clauses 𝓤 search = partsₛ 𝓛 𝓜.mem 𝓡.returns in let cₖ : Clauses 𝓤 cut = partsₖ 𝓛 𝓜.mem 𝓡.returns in let c : Clauses 𝓤 function = parts 𝓛 𝓜.mem 𝓡.returns in
      (φ : (κs : Lfts 1) → Args (inner 1) κs Ps → Pl.value.row.Denot → Type 0) (ghostₛ : (κs : Lfts 1) (a : Args (inner 1) κs Ps) → (cₛ κs a).ghost) (ghostₖ : (κs : Lfts 1) (a : Args (inner 1) κs Cs) → (cₖ κs a).ghost)
      → Asks 𝓤 cₛ cₖ c φ ghostₛ ghostₖ → Finds 𝓤 cₛ cₖ c φ ghostₛ ghostₖ → Fits-in 𝓤 cₛ cₖ c φ ghostₛ ghostₖ → Says 𝓤 cₛ cₖ c φ ghostₛ ghostₖ
      → (γ : Routines) (own : Callee) (f : Fn) → Entry 𝓤 𝓛.H (tables 𝓤 𝓛.H 𝓜 𝓡 γ).C (tables 𝓤 𝓛.H 𝓜 𝓡 γ).Λ own f → (#search #cut : Callee) → f.locals ≡ mir_locals → f.body ≡ mir_body #search #cut
      → (rₛ : Routine) → γ #search ≡ rₛ → Triple 𝓤 (𝓡.run rₛ) (Contracted 𝓛 search cₛ) → (rₖ : Routine) → γ #cut ≡ rₖ → Triple 𝓤 (𝓡.run rₖ) (Contracted 𝓛 cut cₖ)
      → Triple 𝓤 ((tables 𝓤 𝓛.H 𝓜 𝓡 γ).C own) (Contracted 𝓛 function c)
  hands_part {𝓤 = 𝓤} 𝓛 𝓜 𝓡 partsₛ partsₖ parts φ ghostₛ ghostₖ asks finds_it fits_in says γ own f closed #search #cut f-locals f-body rₛ atₛ metₛ rₖ atₖ metₖ =
      let cₛ : Clauses 𝓤 search = partsₛ 𝓛 𝓜.mem 𝓡.returns in let cₖ : Clauses 𝓤 cut = partsₖ 𝓛 𝓜.mem 𝓡.returns in let c : Clauses 𝓤 function = parts 𝓛 𝓜.mem 𝓡.returns in
      walked 𝓛 𝓜 𝓡 γ function c own f closed (λ κs. spells (inner 1) κs Ps) (λ κs. all_tell (inner 1) κs Ps) (λ κs qs bounds a g are.
      via 𝓤 (sep 𝓤 (on_entry 𝓛 function.signature κs qs a (spelt (inner 1) κs Ps a)) ((cₛ κs a).requires (ghostₛ κs a))) (mono_r 𝓤 (on_entry 𝓛 function.signature κs qs a (spelt (inner 1) κs Ps a)) (asks κs a g))
      (runs_it 𝓤 cₛ cₖ c φ ghostₛ ghostₖ 𝓛 finds_it fits_in says (machine 𝓛 𝓜 𝓡 γ) #search #cut (known 𝓛 𝓜 𝓡 γ search cₛ #search rₛ atₛ metₛ) (known 𝓛 𝓜 𝓡 γ cut cₖ #cut rₖ atₖ metₖ) κs qs a g are f f-locals f-body))
