-- The parameters of a function, in a list: values, shared slices and `&mut` slices.
--     Form             how a parameter is handed on: its local is copied, or, of a `&mut` slice, lent on through two further locals
--     Param n          a parameter's type at n lifetimes: `value`, `shared_slice` and `mut_slice` are the kinds.        Handing      what a caller must have of it, and has after the call
--     View             a signature that has these lifetimes among its own: `inner`, a function's own, and `outer`, that of a function of a `&mut` besides, whose lifetime 0 is the reference's
--     slots, tys, all_typed    of a list of these in such a signature: the slots, the MIR types of their locals, and that machine values are of the types
--     Args, Sound, vals, Owns, Lasts'        the arguments, that each is one of its type, their machine values, what they own, and their last values
--     carry, vals_same, owns_same, lasts_back, lasts_same      from a signature to `inner`, and back: the machine values, what is owned, and what is said of last values stay
-- Assumes nothing; the laws take `Logic`.
use types.Logic.{Logic, sem}
use denote.Bor.{Bor}
use denote.MutBor.{MutBor}
use denote.RattleType.{RowLaws}
use base.Fml.{Lft}
use mathlib.Core.Path.{◌≡◌, refl, ap}
use mathlib.Core.Bool.{Bool}
use mathlib.Core.Option.{Option, some}
use Prim.Native.Nat.{ℕ, suc}
use mathlib.Core.List.{[], ◌∷◌, List}
use lib.Dec.{T as So}
use lib.ListN.{length}
use Rattle.walks.proofs.Kit.{Ura, Lifetime, Ty, Written, imm, mut, erased, named, ty_ref, Operand, Code, place, copy, deref, field, addr_of, aggregate, assign, seq, Val, vptr, WT, has_ty, SProp, ent, sep, emp, via, emp∗, comm∗, mono_l, Fml, fsep, sem, Lfts, Within, lft_at, Item, ‵, ⋆, RattleType, Denots, Valss, flat, owns, Ises, Are, Spells, valss, Tellss, pointee, slice_ty, slice_val, MutSlice, ShrSlice, shr_slice_Tells, shr_slice_Lawful, shr_slice_copy, mut_slice_Tells, mut_slice_Lawful, Exit, yes, left, Slot, plain, types_at, all, Fins, lasts_of}
use base.Stored.{Coded}
use denote.Shadow.{shadow}
use Rattle.walks.proofs.Frame.{Blocks, Typed}
use Rattle.walks.proofs.Values.{Value}

-- ---- a parameter
pub data Form (X : Type 0) : Type 0 where
  copied : (Lifetime → Ty) → (X → Val) → Form X
  lent : Ty → (X → ℕ × ℕ) → (X → ℕ) → Form X

module _ {X : Type 0} where
  abbrev pub type_of : Form X → Lifetime → Ty
  type_of (copied τ v) ℓ = τ ℓ
  type_of (lent τ p c) ℓ = slice_ty (ty_ref ℓ mut τ)

  abbrev pub val_of : Form X → X → Val
  val_of (copied τ v) x = v x
  val_of (lent τ p c) x = slice_val (p x) (c x)

  -- of one that is lent on: its two further locals, a reference to the elements and the slice, and what they hold; the number behind them; the statements that fill them; and the operand
  abbrev pub further : Form X → List Ty → List Ty
  further (copied τ v) τs = τs
  further (lent τ p c) τs = ty_ref erased mut τ ∷ slice_ty (ty_ref erased mut τ) ∷ τs

  abbrev pub rest_of : (f : Form X) (τs : List Ty) → Blocks (further f τs) → Blocks τs
  rest_of (copied τ v) τs es = es
  rest_of (lent τ p c) τs es = es.1.1

  abbrev pub holding : Form X → X → List (Option Val) → List (Option Val)
  holding (copied τ v) x os = os
  holding (lent τ p c) x os = some (vptr (p x).0 (p x).1) ∷ some (slice_val (p x) (c x)) ∷ os

  abbrev pub next : Form X → ℕ → ℕ
  next (copied τ v) e = e
  next (lent τ p c) e = suc (suc e)

  abbrev pub lend_one : Form X → (k e : ℕ) → Code → Code
  lend_one (copied τ v) k e rest = rest
  lend_one (lent τ p c) k e rest = seq (assign (place e []) (addr_of (place k (field 0 ∷ deref τ ∷ [])))) (seq (assign (place (suc e) []) (aggregate (copy (place e []) ∷ copy (place k (field 1 ∷ [])) ∷ []))) rest)

  abbrev pub operand : Form X → (k e : ℕ) → Operand
  operand (copied τ v) k e = copy (place k [])
  operand (lent τ p c) k e = copy (place (suc e) [])

-- what a caller must have of it, and still has after the call: nothing; what it owns, twice; or what it owns, once
pub data Handing : Type 0 where
  made shown given : Handing

module _ {M : Type 1} {𝓤 : Ura M} where
  abbrev pub before : Handing → Fml → List (Item 𝓤)
  before made F = []
  before shown F = ‵ F ∷ []
  before given F = ‵ F ∷ []

  abbrev pub after : Handing → Fml → List (Item 𝓤)
  after made F = []
  after shown F = ‵ F ∷ []
  after given F = []

-- its values, its form, its lifetime, how it is handed on, and the rest of its type as a signature has it
pub record Param (n : ℕ) : Type 2 where
  pub Denot : Type 0
  pub form : Form Denot
  pub lifetime : ℕ
  pub handing : Handing
  pub lives : Lfts n → Lft
  pub own_val : Lfts n → Denot → List Val → Fml
  pub exit : Lfts n → Bool → Exit Denot
  pub coded : Coded Denot
  pub written : Lifetime → Written
  pub reaches : List (Written × List Ty)
  pub shr_at : Lfts n → Denot → ℕ → ℕ → Lft → Fml
  pub tells : (κs : Lfts n) (x : Denot) (vs : List Val) → shadow (own_val κs x vs) → vs ≡ val_of form x ∷ []
  pub typed : {M : Type 1} {𝓤 : Ura M} (𝓛 : Logic 𝓤) → (κs : Lfts n) (x : Denot) → shadow (own_val κs x (val_of form x ∷ [])) → (ℓ : Lifetime) → So (has_ty (type_of form ℓ) (val_of form x)) × WT (val_of form x)
  pub had : {M : Type 1} {𝓤 : Ura M} (𝓛 : Logic 𝓤) → (κs : Lfts n) (x : Denot) → shadow (own_val κs x (val_of form x ∷ []))
      → ent 𝓤 (⋆ 𝓛 (before handing (own_val κs x (val_of form x ∷ [])))) (sep 𝓤 (sem 𝓛 (own_val κs x (val_of form x ∷ []))) (⋆ 𝓛 (after handing (own_val κs x (val_of form x ∷ [])))))

module _ {n : ℕ} where
  abbrev pub value : Value → Param n
  value V' = record {
    Denot = V'.row.Denot;
    form = copied (λ ℓ. V'.ty) V'.val;
    lifetime = 0;
    handing = made;
    lives = λ κs. V'.row.lives;
    own_val = λ κs. V'.row.own_val;
    exit = λ κs b. V'.row.exit (λ _. b);
    coded = V'.row.coded;
    written = λ ℓ. V'.row.written;
    reaches = V'.row.reaches;
    shr_at = λ κs. V'.row.shr_at;
    tells = λ κs. V'.tells;
    typed = λ 𝓛 κs x is ℓ. V'.typed 𝓛 x is;
    had = λ {𝓤 = 𝓤} 𝓛 κs x is. via 𝓤 (sep 𝓤 (emp 𝓤) (emp 𝓤)) (emp∗ 𝓤 (emp 𝓤)) (mono_l 𝓤 (emp 𝓤) (V'.makes 𝓛 x _ is));
  }

  -- at the lifetime j
  abbrev pub shared_slice : (j : ℕ) → Within n j → (R : RattleType) → RowLaws R → Param n
  shared_slice j ok R laws = record {
    Denot = Bor (List R.Denot);
    form = copied (λ ℓ. slice_ty (ty_ref ℓ imm (pointee R.written))) (λ x. slice_val x.ref_ptr (length x.now));
    lifetime = j;
    handing = shown;
    lives = λ κs. (ShrSlice erased (lft_at n j ok κs) R).lives;
    own_val = λ κs. (ShrSlice erased (lft_at n j ok κs) R).own_val;
    exit = λ κs b. (ShrSlice erased (lft_at n j ok κs) R).exit (λ _. b);
    coded = (ShrSlice erased [] R).coded;
    written = λ ℓ. (ShrSlice ℓ [] R).written;
    reaches = (ShrSlice erased [] R).reaches;
    shr_at = λ κs. (ShrSlice erased (lft_at n j ok κs) R).shr_at;
    tells = λ κs. shr_slice_Tells erased (lft_at n j ok κs) R;
    typed = λ 𝓛 κs x is ℓ. ((shr_slice_Lawful 𝓛 ℓ (lft_at n j ok κs) R).typed x _ is).0;
    had = λ 𝓛 κs x is. (shr_slice_copy 𝓛 erased (lft_at n j ok κs) R laws).twice x _;
  }

  abbrev pub mut_slice : (j : ℕ) → Within n j → RattleType → Param n
  mut_slice j ok R = record {
    Denot = MutBor (List R.Denot);
    form = lent (pointee R.written) (λ x. x.ref_ptr) (λ x. length x.now);
    lifetime = j;
    handing = given;
    lives = λ κs. (MutSlice erased (lft_at n j ok κs) R).lives;
    own_val = λ κs. (MutSlice erased (lft_at n j ok κs) R).own_val;
    exit = λ κs b. (MutSlice erased (lft_at n j ok κs) R).exit (λ _. b);
    coded = (MutSlice erased [] R).coded;
    written = λ ℓ. (MutSlice ℓ [] R).written;
    reaches = (MutSlice erased [] R).reaches;
    shr_at = λ κs. (MutSlice erased (lft_at n j ok κs) R).shr_at;
    tells = λ κs. mut_slice_Tells erased (lft_at n j ok κs) R;
    typed = λ 𝓛 κs x is ℓ. ((mut_slice_Lawful 𝓛 ℓ (lft_at n j ok κs) R).typed x _ is).0;
    had = λ {𝓤 = 𝓤} 𝓛 κs x is. let O : SProp 𝓤 = sem 𝓛 ((MutSlice erased (lft_at n j ok κs) R).own_val x (slice_val x.ref_ptr (length x.now) ∷ [])) in via 𝓤 (sep 𝓤 (emp 𝓤) O) (emp∗ 𝓤 O) (comm∗ 𝓤 (emp 𝓤) O);
  }

-- ---- a list of them in a signature: how many lifetimes it has, what it names the j-th of the n, and those n
pub record View (n : ℕ) : Type 0 where
  pub lifetimes : ℕ
  pub name : ℕ → Lifetime
  pub sub : Lfts lifetimes → Lfts n

abbrev pub outer : (n : ℕ) → View n
outer n = record { lifetimes = suc n; name = λ j. named (suc j); sub = λ κs. κs.1 }

abbrev pub inner : (n : ℕ) → View n
inner n = record { lifetimes = n; name = named; sub = λ κs. κs }

module _ {n : ℕ} (X : View n) where
  abbrev pub ty : Param n → Ty
  ty P = type_of P.form (X.name P.lifetime)

  abbrev slot : Param n → Slot X.lifetimes
  slot P = plain (λ κs. record {
    Denot = P.Denot;
    mir = ty P ∷ [];
    written = P.written (X.name P.lifetime);
    reaches = P.reaches;
    lives = P.lives (X.sub κs);
    own_val = P.own_val (X.sub κs);
    exit = λ k. P.exit (X.sub κs) (k (X.name P.lifetime));
    coded = P.coded;
    shr_at = P.shr_at (X.sub κs);
  })

  abbrev pub slots : List (Param n) → List (Slot X.lifetimes)
  slots [] = []
  slots (P ∷ Ps) = slot P ∷ slots Ps

  abbrev pub tys : List (Param n) → List Ty
  tys [] = []
  tys (P ∷ Ps) = ty P ∷ tys Ps

  module _ (κs : Lfts X.lifetimes) where
    abbrev pub Args : List (Param n) → Type 0
    Args Ps = Denots (types_at (slots Ps) κs)

    abbrev pub spells : (Ps : List (Param n)) → Spells (types_at (slots Ps) κs)
    spells [] = tt
    spells (P ∷ Ps) = (λ x. val_of P.form x ∷ [], spells Ps)

    abbrev pub all_tell : (Ps : List (Param n)) → Tellss (types_at (slots Ps) κs) (Ises (types_at (slots Ps) κs)) (spells Ps)
    all_tell [] = tt
    all_tell (P ∷ Ps) = (P.tells (X.sub κs), all_tell Ps)

    abbrev pub spelt : (Ps : List (Param n)) → Args Ps → Valss (types_at (slots Ps) κs)
    spelt Ps a = valss (types_at (slots Ps) κs) (spells Ps) a

    abbrev pub vals : (Ps : List (Param n)) → Args Ps → List Val
    vals Ps a = flat (types_at (slots Ps) κs) (spelt Ps a)

    -- what they own
    abbrev pub Owns : (Ps : List (Param n)) → Args Ps → Fml
    Owns Ps a = owns (types_at (slots Ps) κs) a (spelt Ps a)

    abbrev pub Sound : (Ps : List (Param n)) → Args Ps → Type 0
    Sound Ps a = Are (types_at (slots Ps) κs) (Ises (types_at (slots Ps) κs)) a (spelt Ps a)

    pub all_typed : {M : Type 1} {𝓤 : Ura M} (𝓛 : Logic 𝓤) → (Ps : List (Param n)) (a : Args Ps) → Sound Ps a → Typed (tys Ps) (vals Ps a)
    all_typed 𝓛 [] a are = tt
    all_typed 𝓛 (P ∷ Ps) a are = (P.typed 𝓛 (X.sub κs) a.0 are.0 (X.name P.lifetime), all_typed 𝓛 Ps a.1 are.1)

-- ---- from a signature to the callee's, and back
module _ {n : ℕ} (X : View n) (κs : Lfts X.lifetimes) where
  abbrev κs' : Lfts n
  κs' = X.sub κs

  abbrev pub carry : (Ps : List (Param n)) → Args X κs Ps → Args (inner n) κs' Ps
  carry [] a = tt
  carry (P ∷ Ps) a = (a.0, carry Ps a.1)

  pub vals_same : (Ps : List (Param n)) (a : Args X κs Ps) → vals (inner n) κs' Ps (carry Ps a) ≡ vals X κs Ps a
  vals_same [] a = refl
  vals_same (P ∷ Ps) a = ap (λ (vs : List Val). val_of P.form a.0 ∷ vs) (vals_same Ps a.1)

  pub owns_same : (Ps : List (Param n)) (a : Args X κs Ps) → Owns X κs Ps a ≡ Owns (inner n) κs' Ps (carry Ps a)
  owns_same [] a = refl
  owns_same (P ∷ Ps) a = ap (fsep (P.own_val κs' a.0 (val_of P.form a.0 ∷ []))) (owns_same Ps a.1)

  -- what a contract binds of them at exit, and what it says of that
  abbrev pub Lasts' : (Ps : List (Param n)) → Args X κs Ps → Type 0
  Lasts' Ps a = Fins κs' (slots (inner n) Ps) (all yes (slots (inner n) Ps)) (carry Ps a)

  abbrev pub lasts_back : (Ps : List (Param n)) (a : Args X κs Ps) → Lasts' Ps a → Fins κs (slots X Ps) (all yes (slots X Ps)) a
  lasts_back [] a ws = tt
  lasts_back (P ∷ Ps) a ws = (ws.0, lasts_back Ps a.1 ws.1)

  pub lasts_same : (Ps : List (Param n)) (a : Args X κs Ps) (ws : Lasts' Ps a) → lasts_of κs' (slots (inner n) Ps) (all yes (slots (inner n) Ps)) (carry Ps a) ws ≡ lasts_of κs (slots X Ps) (all yes (slots X Ps)) a (lasts_back Ps a ws)
  lasts_same [] a ws = refl
  lasts_same (P ∷ Ps) a ws = ap (fsep (left (P.exit κs' (yes (X.name P.lifetime))) a.0 ws.0)) (lasts_same Ps a.1 ws.1)
