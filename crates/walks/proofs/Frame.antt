-- The locals of a function, by their types.
--     Blocks           where they lie.        locals, envs      the MIR's list of them, and what they are bound to
--     Cells            their memory as one formula, by the values that they hold; the values not listed are not there.        filled      with a value in one of them
--     stack            the same entry by entry, the last local in front.        spread, pack        from the one to the other
--     alloc_all, free_all      they are allocated, and freed.        pass_all      the first of them are passed values of their types (`Typed`).        enters, leaves      a function of known locals is entered, and left.        enters_as      by its locals and body as they are
--     Has, Bound       the environment has a local at a number, and locals of these types from a number on.        finds       a place in such a local
--     Groups, group_locals, env_from, first_of         of groups of locals, one behind the other: where they lie, the MIR's list of them, the environment from one on, and the number of its first.        in_group        the environment has them there
--     Cell             a cell among those of a formula: it can be taken out, and put back.        first_cell, later_cell, reads      it is the first, or a later one, and is read there
--     those            n positions from k on, for `move`
-- The steps assume `Logic`, the others nothing.
use mathlib.Core.Path.{◌≡◌, refl, sym, subst}
use Prim.Native.Nat.{ℕ, zero, suc}
use mathlib.Core.List.{[], ◌∷◌, ◌++◌, List, map}
use mathlib.Core.Option.{Option, none, some}
use lib.Dec.{T as So}
use lib.ListN.{get_or}
use Rattle.walks.proofs.Kit.{Ura, full_share, Ty, Fn, Code, Local, local, value_local, place, Val, WT, has_ty, SProp, ent, sep, via, mono_l, assoc∗, assoc', Fml, ftrue, fsep, fat, froom, fdies, Heap, Env, Spot, Calls, Loops, WpFn, no_local, walk, sem, Item, Goal, Sq, prop, allocs, params', passes, runs, at_ret, frees, Go, ‵, raw, ◌⊛◌, mean, ⋆, nth, del, pull, unpull, ◌$◌, ◌∵◌, !, qed, move, drop, use1, use2, split, fsplit, fjoin, done, Reads, Finds, Walks, look, forget, init, enter, alloc1, alloc0, params1, pass1, pass0, free1, free0, nothing}
use mir.Syntax.{Step as PStep}
use types.Logic.{Logic, sem}

abbrev pub Blocks : List Ty → Type 0
Blocks [] = Unit {0}
Blocks (τ ∷ τs) = ℕ × Blocks τs

abbrev pub locals : List Ty → List Local
locals [] = []
locals (τ ∷ τs) = local τ value_local ∷ locals τs

-- of any locals, in values or in memory
abbrev tys_of : List Local → List Ty
tys_of [] = []
tys_of (local τ h ∷ ls) = τ ∷ tys_of ls

abbrev pub envs : (τs : List Ty) → Blocks τs → List (Ty × ℕ)
envs [] ls = []
envs (τ ∷ τs) ls = (τ, ls.0) ∷ envs τs ls.1

-- what is held by the first local of a list, and by the others
abbrev Held : Type 0
Held = List (Option Val)

abbrev hd : Held → Option Val
hd [] = none
hd (x ∷ xs) = x

abbrev tl : Held → Held
tl [] = []
tl (x ∷ xs) = xs

abbrev pub filled : ℕ → Val → Held → Held
filled zero v os = some v ∷ tl os
filled (suc k) v os = hd os ∷ filled k v (tl os)

abbrev cell : Ty → ℕ → Option Val → Fml
cell τ l none = froom τ l 0
cell τ l (some v) = fat full_share τ l 0 v

abbrev pub Cells : (τs : List Ty) → Blocks τs → Held → Fml
Cells [] ls os = ftrue
Cells (τ ∷ τs) ls os = fsep (fsep (cell τ ls.0 (hd os)) (fdies τ ls.0)) (Cells τs ls.1 (tl os))

abbrev pub stack : {M : Type 1} {𝓤 : Ura M} (τs : List Ty) → Blocks τs → Held → List (Item 𝓤) → List (Item 𝓤)
stack [] ls os Γ = Γ
stack (τ ∷ τs) ls os Γ = stack τs ls.1 (tl os) (‵ (cell τ ls.0 (hd os)) ∷ ‵ (fdies τ ls.0) ∷ Γ)

abbrev pub those : ℕ → ℕ → List ℕ
those k zero = []
those k (suc n) = k ∷ those (suc k) n

-- values of the first types
abbrev pub Typed : List Ty → List Val → Type 0
Typed [] [] = Unit {0}
Typed [] (v ∷ vs) = ⊥
Typed (τ ∷ τs) [] = Unit {0}
Typed (τ ∷ τs) (v ∷ vs) = (So (has_ty τ v) × WT v) × Typed τs vs

-- ---- where the environment has them
-- the number j, counted from behind locals of these types
abbrev pub behind : List Ty → ℕ → ℕ
behind [] j = j
behind (τ ∷ τs) j = suc (behind τs j)

module _ {M : Type 1} (𝓤 : Ura M) (H : Heap 𝓤) where
  abbrev pub Has : Env 𝓤 H → ℕ → Ty × ℕ → Type 0
  Has E j x = get_or E j (no_local 𝓤 H) ≡ x

  abbrev pub Bound : Env 𝓤 H → ℕ → (τs : List Ty) → Blocks τs → Type 0
  Bound E k [] ls = Unit {0}
  Bound E k (τ ∷ τs) ls = Has E k (τ, ls.0) × Bound E (suc k) τs ls.1

  one_deeper : (x : Ty × ℕ) (E : Env 𝓤 H) (k : ℕ) (τs : List Ty) (ls : Blocks τs) → Bound E k τs ls → Bound (x ∷ E) (suc k) τs ls
  one_deeper x E k [] ls b = tt
  one_deeper x E k (τ ∷ τs) ls b = (b.0, one_deeper x E (suc k) τs ls.1 b.1)

  bound : (τs : List Ty) (ls : Blocks τs) (E : Env 𝓤 H) → Bound (envs τs ls ++ E) zero τs ls
  bound [] ls E = tt
  bound (τ ∷ τs) ls E = (refl, one_deeper (τ, ls.0) (envs τs ls.1 ++ E) zero τs ls.1 (bound τs ls.1 E))

  deeper : (σs : List Ty) (ms : Blocks σs) (E : Env 𝓤 H) (k : ℕ) (τs : List Ty) (ls : Blocks τs) → Bound E k τs ls → Bound (envs σs ms ++ E) (behind σs k) τs ls
  deeper [] ms E k τs ls b = b
  deeper (σ ∷ σs) ms E k τs ls b = one_deeper (σ, ms.0) (envs σs ms.1 ++ E) (behind σs k) τs ls (deeper σs ms.1 E k τs ls b)

-- ---- groups of them, one behind the other
abbrev pub Groups : List (List Ty) → Type 0
Groups [] = Unit {0}
Groups (τs ∷ gs) = Blocks τs × Groups gs

abbrev pub group_locals : List (List Ty) → List Local
group_locals [] = []
group_locals (τs ∷ gs) = locals τs ++ group_locals gs

-- the environment from group k on, the number of its first local, its types and its blocks
abbrev pub env_from : (gs : List (List Ty)) → Groups gs → ℕ → List (Ty × ℕ)
env_from [] bs k = []
env_from (τs ∷ gs) bs zero = envs τs bs.0 ++ env_from gs bs.1 zero
env_from (τs ∷ gs) bs (suc k) = env_from gs bs.1 k

abbrev pub first_of : List (List Ty) → ℕ → ℕ
first_of [] k = zero
first_of (τs ∷ gs) zero = zero
first_of (τs ∷ gs) (suc k) = behind τs (first_of gs k)

abbrev group : List (List Ty) → ℕ → List Ty
group [] k = []
group (τs ∷ gs) zero = τs
group (τs ∷ gs) (suc k) = group gs k

abbrev blocks : (gs : List (List Ty)) → Groups gs → (k : ℕ) → Blocks (group gs k)
blocks [] bs k = tt
blocks (τs ∷ gs) bs zero = bs.0
blocks (τs ∷ gs) bs (suc k) = blocks gs bs.1 k

pub in_group : {M : Type 1} (𝓤 : Ura M) (H : Heap 𝓤) (gs : List (List Ty)) (bs : Groups gs) (k : ℕ) → Bound 𝓤 H (env_from gs bs zero) (first_of gs k) (group gs k) (blocks gs bs k)
in_group 𝓤 H [] bs k = tt
in_group 𝓤 H (τs ∷ gs) bs zero = bound 𝓤 H τs bs.0 (env_from gs bs.1 zero)
in_group 𝓤 H (τs ∷ gs) bs (suc k) = deeper 𝓤 H τs bs.0 (env_from gs bs.1 zero) (first_of gs k) (group gs k) (blocks gs bs.1 k) (in_group 𝓤 H gs bs.1 k)

module _ {M : Type 1} {𝓤 : Ura M} (𝓛 : Logic 𝓤) where
  open 𝓛 use {H}

  pub finds : {Γ : List (Item 𝓤)} {E : Env 𝓤 H} {i l : ℕ} {τ : Ty} {st : List PStep} {sp : Spot 𝓤 H} → Has 𝓤 H E i (τ, l) → Walks (Go {0}) 𝓛 Γ E (τ, l, 0) st sp → Finds (Go {0}) 𝓛 Γ E (place i st) sp
  finds {Γ} {E} {i} {l} {τ} {st} e w = record { go = λ Kt h. subst (λ (p : Ty × ℕ). ent 𝓤 (⋆ 𝓛 Γ) (walk 𝓤 H E (p.0, p.1, 0) st Kt)) (sym e) (w.go Kt h) }

  pub pack : (τs : List Ty) (ls : Blocks τs) (os : Held) {Γ : List (Item 𝓤)} {g : Goal 𝓤 H} → Sq 𝓛 (‵ (Cells τs ls os) ∷ Γ) g → Sq 𝓛 (stack τs ls os Γ) g
  pack [] ls os k = nothing ! $ k
  pack (τ ∷ τs) ls os k = pack τs ls.1 (tl os) (move ! (1 ∷ 2 ∷ 0 ∷ []) $ fjoin ! $ fjoin ! $ k)

  pub spread : (τs : List Ty) (ls : Blocks τs) (os : Held) {Γ : List (Item 𝓤)} {g : Goal 𝓤 H} → Sq 𝓛 (stack τs ls os Γ) g → Sq 𝓛 (‵ (Cells τs ls os) ∷ Γ) g
  spread [] ls os k = drop ! $ k
  spread (τ ∷ τs) ls os k = fsplit ! $ fsplit ! $ move ! (2 ∷ []) $ spread τs ls.1 (tl os) k

  pub alloc_all : (τs : List Ty) {Γ : List (Item 𝓤)} {rest : List Local} {Kt : Env 𝓤 H → Goal 𝓤 H} → ((ls : Blocks τs) → Sq 𝓛 (‵ (Cells τs ls []) ∷ Γ) (allocs rest (λ E. Kt (envs τs ls ++ E)))) → Sq 𝓛 Γ (allocs (locals τs ++ rest) Kt)
  alloc_all [] k = nothing ! $ k tt
  alloc_all (τ ∷ τs) {Γ} {rest} {Kt} k = alloc1 ! (λ l. alloc_all τs {rest = rest} {Kt = λ E. Kt ((τ, l) ∷ E)} (λ ls. move ! (1 ∷ 2 ∷ 0 ∷ []) $ fjoin ! $ fjoin ! $ k (l, ls)))

  free_one : (τ : Ty) (l : ℕ) (o : Option Val) {Γ : List (Item 𝓤)} {E : Env 𝓤 H} {g : Goal 𝓤 H} → Sq 𝓛 Γ (frees E g) → Sq 𝓛 (‵ (cell τ l o) ∷ ‵ (fdies τ l) ∷ Γ) (frees ((τ, l) ∷ E) g)
  free_one τ l none k = free1 ! $ k
  free_one τ l (some v) k = forget ! 0 refl $ free1 ! $ k

  pub free_all : (τs : List Ty) (ls : Blocks τs) (os : Held) {Γ : List (Item 𝓤)} (E : Env 𝓤 H) {g : Goal 𝓤 H} → Sq 𝓛 Γ (frees E g) → Sq 𝓛 (‵ (Cells τs ls os) ∷ Γ) (frees (envs τs ls ++ E) g)
  free_all [] ls os E k = drop ! $ k
  free_all (τ ∷ τs) ls os E k = fsplit ! $ fsplit ! $ free_one τ ls.0 (hd os) (free_all τs ls.1 (tl os) E k)

  -- the first locals are passed values of their types
  pub pass_all : (τs : List Ty) (vs : List Val) → Typed τs vs → (ls : Blocks τs) {Γ : List (Item 𝓤)} (E : Env 𝓤 H) {g : Goal 𝓤 H} → Sq 𝓛 (‵ (Cells τs ls (map some vs)) ∷ Γ) g → Sq 𝓛 (‵ (Cells τs ls []) ∷ Γ) (passes (envs τs ls ++ E) vs g)
  pass_all [] [] ok ls E k = pass0 ! $ k
  pass_all [] (v ∷ vs) ok ls E k = absurd ok
  pass_all (τ ∷ τs) [] ok ls E k = pass0 ! $ k
  pass_all (τ ∷ τs) (v ∷ vs) ok ls {Γ} E k =
      fsplit ! $ fsplit ! $ pass1 ! (init ! 0 refl ok.0) $ move ! (2 ∷ []) $
      pass_all τs vs ok.1 ls.1 {Γ = ‵ (fat full_share τ ls.0 0 v) ∷ ‵ (fdies τ ls.0) ∷ Γ} E (move ! (1 ∷ 2 ∷ 0 ∷ []) $ fjoin ! $ fjoin ! $ k)

  -- a function of these locals and this body is entered
  pub enters_as : (C : Calls 𝓤 H) (Λ : Loops 𝓤 H) (f : Fn) (vs : List Val) (Post : Val → SProp 𝓤) {ls : List Local} {body : Code} → f.locals ≡ ls → f.body ≡ body → {Γ : List (Item 𝓤)} → Sq 𝓛 Γ (allocs ls (λ E. params' E vs (runs C Λ E body (at_ret E Post)))) → Sq 𝓛 Γ (prop (WpFn 𝓤 H C Λ f vs Post))
  enters_as C Λ f vs Post f-locals f-body {Γ} k = enter ! C Λ f vs Post $ subst (λ (p : List Local × Code). Sq 𝓛 Γ (allocs p.0 (λ E. params' E vs (runs C Λ E p.1 (at_ret E Post))))) (λ z. (sym f-locals z, sym f-body z)) k

  -- all of a function's locals
  alloc_these : (ls : List Local) {Γ : List (Item 𝓤)} {Kt : Env 𝓤 H → Goal 𝓤 H} → ((bs : Blocks (tys_of ls)) → Sq 𝓛 (‵ (Cells (tys_of ls) bs []) ∷ Γ) (Kt (envs (tys_of ls) bs ++ []))) → Sq 𝓛 Γ (allocs ls Kt)
  alloc_these [] k = alloc0 ! $ nothing ! $ k tt
  alloc_these (local τ h ∷ ls) {Kt = Kt} k = alloc1 ! (λ l. alloc_these ls {Kt = λ E. Kt ((τ, l) ∷ E)} (λ bs. move ! (1 ∷ 2 ∷ 0 ∷ []) $ fjoin ! $ fjoin ! $ k (l, bs)))

  -- a function of known locals, the result's first and then its parameters', is entered
  pub enters : (C : Calls 𝓤 H) (Λ : Loops 𝓤 H) (f : Fn) (vs : List Val) (Post : Val → SProp 𝓤) (τ : Ty) (τs : List Ty) → tys_of f.locals ≡ τ ∷ τs → Typed τs vs → {Γ : List (Item 𝓤)}
      → ((ls : Blocks (τ ∷ τs)) → Sq 𝓛 (stack (τ ∷ τs) ls (none ∷ map some vs) Γ) (runs C Λ (envs (τ ∷ τs) ls ++ []) f.body (at_ret (envs (τ ∷ τs) ls ++ []) Post))) → Sq 𝓛 Γ (prop (WpFn 𝓤 H C Λ f vs Post))
  enters C Λ f vs Post τ τs e ok {Γ} k =
      enter ! C Λ f vs Post $ alloc_these f.locals (subst (λ (σs : List Ty). (bs : Blocks σs) → Sq 𝓛 (‵ (Cells σs bs []) ∷ Γ) (params' (envs σs bs ++ []) vs (runs C Λ (envs σs bs ++ []) f.body (at_ret (envs σs bs ++ []) Post)))) (sym e) (λ (l, ls).
      fsplit ! $ fsplit ! $ move ! (2 ∷ []) $ params1 ! $ pass_all τs vs ok ls [] (spread τs ls (map some vs) (k (l, ls)))))

  -- and left, whatever its locals hold
  pub leaves : (τs : List Ty) (ls : Blocks τs) (os : Held) {Γ : List (Item 𝓤)} {g : Goal 𝓤 H} → Sq 𝓛 Γ g → Sq 𝓛 (stack τs ls os Γ) (frees (envs τs ls ++ []) g)
  leaves τs ls os k = pack τs ls os (free_all τs ls os [] (free0 ! $ k))

-- ---- one of them, in the formula of all
-- a cell among those of a formula: it can be taken out, and put back
pub record Cell {M : Type 1} {𝓤 : Ura M} (𝓛 : Logic 𝓤) (F : Fml) (τ : Ty) (l : ℕ) (v : Val) : Type 2 where
  pub others : SProp 𝓤
  pub out : ent 𝓤 (sem 𝓛 F) (sep 𝓤 (sem 𝓛 (fat full_share τ l 0 v)) others)
  pub back : ent 𝓤 (sep 𝓤 (sem 𝓛 (fat full_share τ l 0 v)) others) (sem 𝓛 F)

module _ {M : Type 1} {𝓤 : Ura M} (𝓛 : Logic 𝓤) where
  pub first_cell : (τ : Ty) (l : ℕ) (v : Val) (D F : Fml) → Cell 𝓛 (fsep (fsep (fat full_share τ l 0 v) D) F) τ l v
  first_cell τ l v D F = let c = sem 𝓛 (fat full_share τ l 0 v) in record { others = sep 𝓤 (sem 𝓛 D) (sem 𝓛 F); out = assoc∗ 𝓤 c (sem 𝓛 D) (sem 𝓛 F); back = assoc' 𝓤 c (sem 𝓛 D) (sem 𝓛 F) }

  pub later_cell : {τ : Ty} {l : ℕ} {v : Val} (D : Fml) {F : Fml} → Cell 𝓛 F τ l v → Cell 𝓛 (fsep D F) τ l v
  later_cell {τ} {l} {v} D {F} x = record {
    others = sep 𝓤 (sem 𝓛 D) x.others;
    out = qed 𝓛 (‵ D ∷ ‵ F ∷ []) ∵ move ! (1 ∷ []) $ use1 𝓛 (‵ (fat full_share τ l 0 v) ⊛ raw x.others) x.out $ split ! $ move ! (0 ∷ 2 ∷ []) $ done !;
    back = qed 𝓛 (‵ (fat full_share τ l 0 v) ∷ ‵ D ∷ raw x.others ∷ []) ∵ move ! (0 ∷ 2 ∷ []) $ use2 𝓛 (‵ F) x.back $ move ! (1 ∷ 0 ∷ []) $ done !;
  }

  -- it is read, where the formula is entry m of the context
  pub reads : {Γ : List (Item 𝓤)} (m : ℕ) {F : Fml} {τ : Ty} {l : ℕ} {v : Val} → nth 𝓛 m Γ ≡ ‵ F → Cell 𝓛 F τ l v → Reads (Go {0}) 𝓛 Γ τ l 0 v
  reads {Γ} m {F} {τ} {l} {v} e x =
      let R : SProp 𝓤 = ⋆ 𝓛 (del 𝓛 m Γ) in let c : SProp 𝓤 = sem 𝓛 (fat full_share τ l 0 v) in
      let out : ent 𝓤 (sep 𝓤 (sem 𝓛 F) R) (sep 𝓤 c (sep 𝓤 x.others R)) = via 𝓤 (sep 𝓤 (sep 𝓤 c x.others) R) (mono_l 𝓤 R x.out) (assoc∗ 𝓤 c x.others R) in
      let back : ent 𝓤 (sep 𝓤 c (sep 𝓤 x.others R)) (sep 𝓤 (sem 𝓛 F) R) = via 𝓤 (sep 𝓤 (sep 𝓤 c x.others) R) (assoc' 𝓤 c x.others R) (mono_l 𝓤 R x.back) in
      let seen : Reads (Go {0}) 𝓛 (‵ (fat full_share τ l 0 v) ∷ raw x.others ∷ raw R ∷ []) τ l 0 v = look ! 0 refl in
      record {
        go = λ Kt h. via 𝓤 (sep 𝓤 (sem 𝓛 F) R) (subst (λ (i : Item 𝓤). ent 𝓤 (⋆ 𝓛 Γ) (sep 𝓤 (mean 𝓛 i) R)) e (pull 𝓛 m Γ))
            (via 𝓤 (sep 𝓤 c (sep 𝓤 x.others R)) out (seen.go Kt (via 𝓤 (sep 𝓤 (sem 𝓛 F) R) back (via 𝓤 (⋆ 𝓛 Γ) (subst (λ (i : Item 𝓤). ent 𝓤 (sep 𝓤 (mean 𝓛 i) R) (⋆ 𝓛 Γ)) e (unpull 𝓛 m Γ)) h))));
      }
