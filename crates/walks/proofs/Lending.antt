-- The `&mut` slices among a function's parameters are lent on to its callee, and the call's operands are read, in a function of the view X: the parameters' locals are numbered from k on, and those by which slices are lent on from e on.
--     more_tys, lents, lending, operands       these locals, what they then hold, the statements that fill them, and the operands of the call
--     lend_all, read_all       the statements run, and the operands are read
-- The steps assume `Logic`, the others nothing.
use mathlib.Core.Path.{◌≡◌, refl}
use mathlib.Core.Option.{Option, some}
use Prim.Native.Nat.{ℕ, suc}
use mathlib.Core.List.{[], ◌∷◌, List, map}
use lib.Dec.{T as So}
use Rattle.walks.proofs.Kit.{Ura, full_share, Lifetime, Ty, mut, erased, ty_ref, Operand, Code, Val, vptr, WT, has_ty, Fml, ftrue, fsep, fat, fdies, Env, Calls, Loops, Lfts, Goal, Item, Post, Sq, runs, Go, ‵, nth, ◌$◌, !, move, drop, fsplit, fjoin, Opd, Opds, look, init, stop, hop, fld, load, addr, and_then, no_more, assigns, agg, whole, sub, look_in, slice_ty, slice_val, nothing}
use Rattle.walks.proofs.Frame.{Blocks, Cells, Cell, Has, Bound, finds, first_cell, later_cell, reads}
use Rattle.walks.proofs.Params.{Form, copied, lent, type_of, val_of, further, rest_of, holding, next, lend_one, operand, Param, View, ty, tys, Args, vals, Sound}
use types.Logic.{Logic}

module _ {n : ℕ} (X : View n) where
  abbrev pub more_tys : List (Param n) → List Ty
  more_tys [] = []
  more_tys (P ∷ Ps) = further P.form (more_tys Ps)

  abbrev pub lents : (κs : Lfts X.lifetimes) (Ps : List (Param n)) → Args X κs Ps → List (Option Val)
  lents κs [] a = []
  lents κs (P ∷ Ps) a = holding P.form a.0 (lents κs Ps a.1)

  abbrev pub lending : (k e : ℕ) → List (Param n) → Code → Code
  lending k e [] rest = rest
  lending k e (P ∷ Ps) rest = lend_one P.form k e (lending (suc k) (next P.form e) Ps rest)

  abbrev pub operands : (k e : ℕ) → List (Param n) → List Operand
  operands k e [] = []
  operands k e (P ∷ Ps) = operand P.form k e ∷ operands (suc k) (next P.form e) Ps

module _ {M : Type 1} {𝓤 : Ura M} (𝓛 : Logic 𝓤) where
  open 𝓛 use {H}

  module _ {Y : Type 0} (E : Env 𝓤 H) where
    -- behind the locals of one parameter
    bound_rest : (f : Form Y) (τs : List Ty) (es : Blocks (further f τs)) (e : ℕ) → Bound 𝓤 H E e (further f τs) es → Bound 𝓤 H E (next f e) τs (rest_of f τs es)
    bound_rest (copied τ v) τs es e at = at
    bound_rest (lent τ p c) τs es e at = at.1.1

    cell_rest : (f : Form Y) (x : Y) (τs : List Ty) (es : Blocks (further f τs)) (os : List (Option Val)) (τ : Ty) (l : ℕ) (v : Val) → Cell 𝓛 (Cells τs (rest_of f τs es) os) τ l v → Cell 𝓛 (Cells (further f τs) es (holding f x os)) τ l v
    cell_rest (copied σ w) x τs es os τ l v c = c
    cell_rest (lent σ p n) x τs es os τ l v c = later_cell 𝓛 _ (later_cell 𝓛 _ c)

    -- its further locals, filled in
    abbrev Further : (f : Form Y) → Y → (τs : List Ty) → Blocks (further f τs) → Fml
    Further (copied τ v) x τs es = ftrue
    Further (lent τ p c) x τs es =
        fsep (fsep (fat full_share (ty_ref erased mut τ) es.0 0 (vptr (p x).0 (p x).1)) (fdies (ty_ref erased mut τ) es.0))
        (fsep (fat full_share (slice_ty (ty_ref erased mut τ)) es.1.0 0 (slice_val (p x) (c x))) (fdies (slice_ty (ty_ref erased mut τ)) es.1.0))

    joins : (f : Form Y) (x : Y) (τs : List Ty) (es : Blocks (further f τs)) (os : List (Option Val)) {Γ : List (Item 𝓤)} {g : Goal 𝓤 H} → Sq 𝓛 (‵ (Cells (further f τs) es (holding f x os)) ∷ Γ) g → Sq 𝓛 (‵ (Further f x τs es) ∷ ‵ (Cells τs (rest_of f τs es) os) ∷ Γ) g
    joins (copied τ v) x τs es os k = drop ! $ k
    joins (lent τ p c) x τs es os k = fsplit ! $ move ! (1 ∷ 2 ∷ []) $ fjoin ! $ move ! (1 ∷ 0 ∷ []) $ fjoin ! $ k

    module _ (ℓ : Lifetime) where
      lends : (f : Form Y) (x : Y) → ((m : Lifetime) → So (has_ty (type_of f m) (val_of f x)) × WT (val_of f x)) → (τs : List Ty) (es : Blocks (further f τs)) (k e l : ℕ) → Has 𝓤 H E k (type_of f ℓ, l) → Bound 𝓤 H E e (further f τs) es
          → {C : Calls 𝓤 H} {Λ : Loops 𝓤 H} {Q : Post 𝓤 H} {rest : Code} {Γ : List (Item 𝓤)} → Sq 𝓛 (‵ (Cells τs (rest_of f τs es) []) ∷ ‵ (fat full_share (type_of f ℓ) l 0 (val_of f x)) ∷ ‵ (Further f x τs es) ∷ Γ) (runs C Λ E rest Q)
          → Sq 𝓛 (‵ (Cells (further f τs) es []) ∷ ‵ (fat full_share (type_of f ℓ) l 0 (val_of f x)) ∷ Γ) (runs C Λ E (lend_one f k e rest) Q)
      lends (copied τ v) x ok τs es k e l at at-e go = nothing ! $ move ! (1 ∷ 2 ∷ 0 ∷ []) $ go
      lends (lent τ p c) x ok τs es k e l at at-e go =
          -- [the slice's room; …; the others' rooms; the reference's room; …; the parameter]
          fsplit ! $ fsplit ! $ move ! (2 ∷ []) $ fsplit ! $ fsplit ! $
          assigns ! (addr ! (finds 𝓛 at (fld ! refl (hop ! (look_in ! 5 (sub ! 0 refl (whole !))) (stop !))))) (finds 𝓛 at-e.0 (stop !)) (init ! 3 refl (tt, tt)) $
          assigns ! (agg ! (and_then ! (load ! (finds 𝓛 at-e.0 (stop !)) (look ! 3 refl)) (and_then ! (load ! (finds 𝓛 at (fld ! refl (stop !))) (look_in ! 5 (sub ! 1 refl (whole !)))) (no_more !)))) (finds 𝓛 at-e.1.0 (stop !)) (init ! 0 refl (ok erased)) $
          fjoin ! $ move ! (2 ∷ 3 ∷ []) $ fjoin ! $ fjoin ! $ move ! (1 ∷ 2 ∷ 0 ∷ []) $ go

      -- the parameter's cell is in F₁, entry m₁ of the context, and those of its further locals in F₂, entry m₂
      reads_one : {Γ : List (Item 𝓤)} (m₁ m₂ : ℕ) (F₁ F₂ : Fml) → nth 𝓛 m₁ Γ ≡ ‵ F₁ → nth 𝓛 m₂ Γ ≡ ‵ F₂ → (f : Form Y) (x : Y) (τs : List Ty) (es : Blocks (further f τs)) (os : List (Option Val)) (k e l : ℕ) → Has 𝓤 H E k (type_of f ℓ, l) → Bound 𝓤 H E e (further f τs) es
          → Cell 𝓛 F₁ (type_of f ℓ) l (val_of f x) → ((τ : Ty) (l : ℕ) (v : Val) → Cell 𝓛 (Cells (further f τs) es (holding f x os)) τ l v → Cell 𝓛 F₂ τ l v) → Opd (Go {0}) 𝓛 Γ E (operand f k e) (val_of f x)
      reads_one m₁ m₂ F₁ F₂ e₁ e₂ (copied τ v) x τs es os k e l at at-e c₁ up = load ! (finds 𝓛 at (stop !)) (reads 𝓛 m₁ e₁ c₁)
      reads_one m₁ m₂ F₁ F₂ e₁ e₂ (lent τ p c) x τs es os k e l at at-e c₁ up = load ! (finds 𝓛 at-e.1.0 (stop !)) (reads 𝓛 m₂ e₂ (up _ _ _ (later_cell 𝓛 _ (first_cell 𝓛 _ _ _ _ _))))

  module _ {n : ℕ} (X : View n) (κs : Lfts X.lifetimes) (E : Env 𝓤 H) where
    pub lend_all : (Ps : List (Param n)) (a : Args X κs Ps) → Sound X κs Ps a → (ls : Blocks (tys X Ps)) (es : Blocks (more_tys X Ps)) (k e : ℕ) → Bound 𝓤 H E k (tys X Ps) ls → Bound 𝓤 H E e (more_tys X Ps) es
        → {C : Calls 𝓤 H} {Λ : Loops 𝓤 H} {Q : Post 𝓤 H} {rest : Code} {Γ : List (Item 𝓤)} → Sq 𝓛 (‵ (Cells (more_tys X Ps) es (lents X κs Ps a)) ∷ ‵ (Cells (tys X Ps) ls (map some (vals X κs Ps a))) ∷ Γ) (runs C Λ E rest Q)
        → Sq 𝓛 (‵ (Cells (more_tys X Ps) es []) ∷ ‵ (Cells (tys X Ps) ls (map some (vals X κs Ps a))) ∷ Γ) (runs C Λ E (lending X k e Ps rest) Q)
    lend_all [] a are ls es k e at at-e go = go
    lend_all (P ∷ Ps) a are ls es k e at at-e {Γ = Γ} go =
        let τ = ty X P in let v = val_of P.form a.0 in
        move ! (1 ∷ []) $ fsplit ! $ fsplit ! $ move ! (3 ∷ 0 ∷ []) $
        lends E (X.name P.lifetime) P.form a.0 (P.typed 𝓛 (X.sub κs) a.0 are.0) (more_tys X Ps) es k e ls.0 at.0 at-e {Γ = ‵ (fdies τ ls.0) ∷ ‵ (Cells (tys X Ps) ls.1 (map some (vals X κs Ps a.1))) ∷ Γ} (
        move ! (0 ∷ 4 ∷ []) $ lend_all Ps a.1 are.1 ls.1 (rest_of P.form (more_tys X Ps) es) (suc k) (next P.form e) at.1 (bound_rest E P.form (more_tys X Ps) es e at-e)
        {Γ = ‵ (fat full_share τ ls.0 0 v) ∷ ‵ (Further E P.form a.0 (more_tys X Ps) es) ∷ ‵ (fdies τ ls.0) ∷ Γ} (
        move ! (2 ∷ 4 ∷ []) $ fjoin ! $ move ! (0 ∷ 2 ∷ []) $ fjoin ! $ move ! (2 ∷ 1 ∷ []) $ joins E P.form a.0 (more_tys X Ps) es (lents X κs Ps a.1) go))

    -- the parameters' cells are in F₁, and those of the further locals in F₂
    read_in : {Γ : List (Item 𝓤)} (m₁ m₂ : ℕ) (F₁ F₂ : Fml) → nth 𝓛 m₁ Γ ≡ ‵ F₁ → nth 𝓛 m₂ Γ ≡ ‵ F₂ → (Ps : List (Param n)) (a : Args X κs Ps) (ls : Blocks (tys X Ps)) (es : Blocks (more_tys X Ps)) (k e : ℕ) → Bound 𝓤 H E k (tys X Ps) ls → Bound 𝓤 H E e (more_tys X Ps) es
        → ((τ : Ty) (l : ℕ) (v : Val) → Cell 𝓛 (Cells (tys X Ps) ls (map some (vals X κs Ps a))) τ l v → Cell 𝓛 F₁ τ l v) → ((τ : Ty) (l : ℕ) (v : Val) → Cell 𝓛 (Cells (more_tys X Ps) es (lents X κs Ps a)) τ l v → Cell 𝓛 F₂ τ l v)
        → Opds (Go {0}) 𝓛 Γ E (operands X k e Ps) (vals X κs Ps a)
    read_in m₁ m₂ F₁ F₂ e₁ e₂ [] a ls es k e at at-e up₁ up₂ = no_more !
    read_in m₁ m₂ F₁ F₂ e₁ e₂ (P ∷ Ps) a ls es k e at at-e up₁ up₂ =
        and_then ! (reads_one E (X.name P.lifetime) m₁ m₂ F₁ F₂ e₁ e₂ P.form a.0 (more_tys X Ps) es (lents X κs Ps a.1) k e ls.0 at.0 at-e (up₁ _ _ _ (first_cell 𝓛 _ _ _ _ _)) up₂)
        (read_in m₁ m₂ F₁ F₂ e₁ e₂ Ps a.1 ls.1 (rest_of P.form (more_tys X Ps) es) (suc k) (next P.form e) at.1 (bound_rest E P.form (more_tys X Ps) es e at-e)
        (λ τ l v c. up₁ τ l v (later_cell 𝓛 _ c)) (λ τ l v c. up₂ τ l v (cell_rest E P.form a.0 (more_tys X Ps) es (lents X κs Ps a.1) τ l v c)))

    pub read_all : {Γ : List (Item 𝓤)} (m₁ m₂ : ℕ) (Ps : List (Param n)) (a : Args X κs Ps) (ls : Blocks (tys X Ps)) (es : Blocks (more_tys X Ps)) (k e : ℕ) → Bound 𝓤 H E k (tys X Ps) ls → Bound 𝓤 H E e (more_tys X Ps) es
        → nth 𝓛 m₁ Γ ≡ ‵ (Cells (tys X Ps) ls (map some (vals X κs Ps a))) → nth 𝓛 m₂ Γ ≡ ‵ (Cells (more_tys X Ps) es (lents X κs Ps a)) → Opds (Go {0}) 𝓛 Γ E (operands X k e Ps) (vals X κs Ps a)
    read_all m₁ m₂ Ps a ls es k e at at-e e₁ e₂ = read_in m₁ m₂ _ _ e₁ e₂ Ps a ls es k e at at-e (λ τ l v c. c) (λ τ l v c. c)
