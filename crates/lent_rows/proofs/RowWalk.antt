-- What the walks over a lent slice of rows go through.
--     row          a row as plain data
--     size         a row's size in bytes, a number that antt computes.        offset_fits  `i * size` does not wrap
--     off, on, differ, agree       how a test came out
--     Rows         what a lent slice of rows owns.        row_out, row_back    as steps: row i of it is had, its machine value written out and its relation in hand; and given back
-- The steps assume `Logic`, the others nothing.
use types.Logic.{Logic}
use denote.Slice.{shr_slice_vals}
use denote.Bor.{Bor}
use Prim.Native.Nat.{ℕ, ◌+◌, ◌*◌, ◌<◌, ◌^◌}
use mathlib.Core.Path.{◌≡◌, refl, sym}
use mathlib.Core.Bool.{Bool, true, false, not}
use mathlib.Core.List.{List, [], ◌∷◌}
use native.Mathlib.Omega.{arith}
use lib.Dec.{T as Holds, eqb}
use lib.ListN.{length, get_or}
use borrow.Author.Tests.{eqb-true, eqb-false}
use Rattle.walks.proofs.Kit.{Ura, erased, Lft, Share, Fml, flft, Goal, Soaks, Item, Seq, Step, ‵, ◌⊛◌, ◌$◌, move, drop, use1, split, rewrite, fsplit, Is, shows, cell_at, mem, shares, ShrSlice, shr_slice_copy, owned}
use types.Kit.{step}
use denote.Index.{place_is, others, row as elements, elem_out, elem_back, looks_slice, shuts_slice}
use denote.Opens.{Shut}
use denote.Struct.Laws as LL
use Rattle.rules.specs.declared.BridgeRow.{BridgeRow}
use Rattle.rules.specs.contracts.BridgeRow as R
use Rattle.rules.proofs.BridgeRow.TheLaws as R'
use Rattle.rules.proofs.Starting.{no_row}
use Rattle.walks.proofs.Values.{Value, struct}

abbrev pub row : Value
row = struct R.the_type R'.the_laws R'.the_plain

pub off : (t : Bool) → Holds (not t) → t ≡ false
off true h = absurd h
off false h = refl

pub on : (t : Bool) → Holds (not (not t)) → t ≡ true
on true h = refl
on false h = absurd h

pub differ : (m n : ℕ) → Holds (not (eqb m n)) → m ≡ n → ⊥
differ m n h = eqb-false m n (off (eqb m n) h)

pub agree : (m n : ℕ) → Holds (not (not (eqb m n))) → m ≡ n
agree m n h = eqb-true m n (on (eqb m n) h)

abbrev pub size : ℕ
size = (mem R.the_row).size

pub offset_fits : (i n : ℕ) → i < n → n * size < 2 ^ 63 → i * size < 2 ^ 64
offset_fits i n l room = omega arith

-- what a lent slice of rows owns
abbrev pub Rows : Lft → Bor (List BridgeRow) → Fml
Rows κ y = (ShrSlice erased κ R.the_row).own_val y (shr_slice_vals y)

-- [row i; the others; the token's way back; the slice; …]
abbrev Open : {M : Type 1} {𝓤 : Ura M} (𝓛 : Logic 𝓤) → Lft → Share → (y : Bor (List BridgeRow)) → ℕ → Share → List (Item 𝓤) → List (Item 𝓤)
Open 𝓛 κ q y i q' Γ =
    ‵ (cell_at q' (R.the_row).mir (row.val (get_or y.now i no_row) ∷ []) y.ref_ptr.0 (i * size + y.ref_ptr.1)) ∷ ‵ (others (shares R.the_row) q' y.now i y.ref_ptr.0 y.ref_ptr.1)
    ∷ Shut 𝓛 κ q (elements R.the_row q' y.now y.ref_ptr.0 y.ref_ptr.1) ∷ ‵ (Rows κ y) ∷ Γ

module _ {M : Type 1} {𝓤 : Ura M} {𝓛 : Logic 𝓤} {K : Type 0} {Γ : List (Item 𝓤)} {G : Goal 𝓤 𝓛.H} {κ : Lft} {q : Share} where
  pub row_out : K → Soaks G → (y : Bor (List BridgeRow)) (i : ℕ) → i < length y.now → ((q' : Share) → Is R.the_row (get_or y.now i no_row) (row.val (get_or y.now i no_row) ∷ []) → Seq K 𝓛 (Open 𝓛 κ q y i q' Γ) G)
      → Seq K 𝓛 (‵ (flft κ q) ∷ ‵ (Rows κ y) ∷ Γ) G
  row_out t z y i l k =
      let b = y.ref_ptr.0 in let o = y.ref_ptr.1 in
      move t (1 ∷ []) $ use1 𝓛 (‵ (Rows κ y) ⊛ ‵ (Rows κ y)) ((shr_slice_copy 𝓛 erased κ R.the_row (R'.the_row_laws).shr_laws).twice y (shr_slice_vals y)) $ split t $ fsplit t $ move t (1 ∷ 3 ∷ []) $
      looks_slice t z R.the_row (LL.copied R.the_type R'.the_copy 𝓛) y.now b o (λ q'.
      elem_out t R.the_row (Is R.the_row) (shows 𝓛 R.the_row) (LL.vals R.the_type R'.the_laws) (LL.tells R.the_type R'.the_laws) q' y.now i no_row b o l (λ is.
      -- [row i; what it owns; the others; the token's way back; what a `&` to each row holds; the slice's fact; the slice; …]
      rewrite t 0 (λ (p : ℕ). ‵ (cell_at q' (R.the_row).mir (row.val (get_or y.now i no_row) ∷ []) b p)) (place_is size o i) refl $
      move t (1 ∷ 4 ∷ 5 ∷ []) $ drop t $ drop t $ drop t $ k q' is))

  pub row_back : K → Soaks G → (y : Bor (List BridgeRow)) (i : ℕ) → i < length y.now → (q' : Share) → Is R.the_row (get_or y.now i no_row) (row.val (get_or y.now i no_row) ∷ [])
      → Step K 𝓛 (‵ (flft κ q) ∷ ‵ (Rows κ y) ∷ Γ) G (Open 𝓛 κ q y i q' Γ) G
  row_back t z y i l q' is = step (λ s. let b = y.ref_ptr.0 in let o = y.ref_ptr.1 in
      owned t R.the_row (Is R.the_row) (row.makes 𝓛) (get_or y.now i no_row) _ is $ move t (1 ∷ 0 ∷ []) $
      rewrite t 0 (λ (p : ℕ). ‵ (cell_at q' (R.the_row).mir (row.val (get_or y.now i no_row) ∷ []) b p)) (sym (place_is size o i)) refl $
      elem_back t R.the_row q' y.now i no_row (row.val (get_or y.now i no_row) ∷ []) b o l $ shuts_slice t z R.the_row q' y.now b o $ s)
