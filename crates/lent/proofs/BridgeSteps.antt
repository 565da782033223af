-- The statements of a call on a lent table that touch its bridge, in any environment that has the locals.
--     pointed           where `t.bridges[i]` lies
--     bridge_copied       `let i = one_bridge::index(n);` then the operands `t.count` and `t.bridges[i]`
--     bridge_stored       `if done.number == 0 { t.bridges[i].held = done.bridge.held; t.bridges[i].supported = done.bridge.supported; }`
--     stored           the table after these
--     read_tys, copying, store_tys, storing        the locals of the two, and their MIR
-- `bridge_copied` opens the borrow and closes it, and `bridge_stored` where it stores. The lemmas assume `Logic`.
use mathlib.Core.Path.{◌≡◌, refl, subst}
use mathlib.Core.Bool.{Bool, true, false, cond as choose}
use Prim.Native.Nat.{ℕ, suc, ◌*◌, ◌+◌, ◌<◌}
use mathlib.Core.List.{[], ◌∷◌, List}
use lib.Dec.{eqb}
use lib.Ieee.Bits.{is_true, is_false}
use Rattle.walks.proofs.Kit.{Ura, full_share, Ty, w8, w64, ty_bool, ty_int, ty_ptr, w32, unsigned, mul, offset as shift, eq, Code, place, copy, int, deref, field, rv_opd, op2, addr_of, assign, call, skip, seq, cond, vint, vbool, vptr, id⊢, GName, Lft, Share, fat, froom, Memory, Routine, Env, Calls, Loops, Wp, after_seq, Fun, FmC, Go, Item, Sq, Post, post, any_q, runs, ‵, ◌$◌, !, move, rewrite, Opds, look, look_raw, init, forget, stop, hop, fld, load, lit, of_opd, bin, addr, assigns, assigns_last, land, first, skips, exec, branches, whole, sub, look_in, store_in, SProp, Is, mem, Triple}
use types.Logic.{Logic}
use types.Mut.{open_ref, close_ref}
use denote.Struct.Laws as LL
use Rattle.rules.specs.Limits.{max_rows}
use Rattle.rules.specs.Tables.{holding, with_holding, bridge_at, with_bridge}
use Rattle.rules.specs.declared.Table.{Table}
use Rattle.rules.specs.declared.Bridge.{Bridge}
use Rattle.rules.specs.declared.BridgeNumber.{BridgeNumber}
use Rattle.rules.specs.contracts.Table as T
use Rattle.rules.proofs.Table.TheLaws as T'
use Rattle.rules.specs.contracts.Bridge as B
use Rattle.rules.proofs.Bridge.TheLaws as B'
use Rattle.one_bridge.specs.declared.BridgeDone.{BridgeDone}
use Rattle.one_bridge.specs.contracts.BridgeDone as D
use Rattle.one_bridge.proofs.BridgeDone.TheLaws as D'
use Rattle.one_bridge.specs.contracts.index as indexed
use Rattle.one_bridge.proofs.index.Symbol.{name as #index}
use Rattle.walks.proofs.Frame.{Blocks, Has, Bound, finds}
use Rattle.walks.proofs.Values.{Value, struct, word}
use Rattle.walks.proofs.Inside.{take, put}
use Rattle.walks.proofs.Contracts.{Contracted}
use Rattle.walks.proofs.Borrowed.{Lent}
use Rattle.walks.proofs.Params.{value}
use Rattle.walks.proofs.Calls.{then, calls}
use Rattle.lent.proofs.Ways.{bridge, bridge_number, ref_ty, size, offset, bridge_fits, index, index_in, count_in, bridge_look, bridge_put}

-- what a call on a bridge hands back that may change it
abbrev pub bridge_done : Value
bridge_done = struct D.the_type D'.the_laws D'.the_plain

-- the locals that the bridge is read through: a word for the count, the bridge, and the word and the pointers by which it is reached; and those of the stores: the test, the word, and of each the bits and the pointers
abbrev pub read_tys : List Ty
read_tys = word.ty ∷ word.ty ∷ ty_ptr ∷ ty_ptr ∷ bridge.ty ∷ []

abbrev bits-ty : Ty
bits-ty = ty_int w32

abbrev pub store_tys : List Ty
store_tys = ty_bool ∷ bits-ty ∷ word.ty ∷ ty_ptr ∷ ty_ptr ∷ bits-ty ∷ ty_ptr ∷ ty_ptr ∷ []

-- where the bridge lies, in the local behind p, where local i has its index
abbrev pointing : (i w p : ℕ) → Code → Code
pointing i w p rest =
    seq (assign (place w []) (op2 (mul unsigned) (copy (place i [])) (int w64 size)))
    (seq (assign (place p []) (addr_of (place 1 (deref T'.mir ∷ field 0 ∷ []))))
    (seq (assign (place (suc p) []) (op2 shift (copy (place p [])) (copy (place w [])))) rest))

-- before the call on the bridge, with what follows
abbrev pub copying : (i w : ℕ) → Code → Code
copying i w rest =
    seq (call #index (copy (place 3 []) ∷ []) (place i []))
    (seq (assign (place w []) (rv_opd (copy (place 1 (deref T'.mir ∷ field 1 ∷ [])))))
    (pointing i (suc w) (suc (suc w)) (seq (assign (place (suc (suc (suc (suc w)))) []) (rv_opd (copy (place (suc (suc (suc w))) (deref B'.mir ∷ []))))) rest)))

-- field f of what came back, which stands in local d and whose field 1 is a bridge, put into local v; and that stored in the bridge's field f
abbrev taking : (v f d : ℕ) → Code
taking v f d = assign (place v []) (rv_opd (copy (place d (field 1 ∷ field f ∷ []))))

abbrev putting : (p f v : ℕ) → Code
putting p f v = assign (place p (deref B'.mir ∷ field f ∷ [])) (rv_opd (copy (place v [])))

-- fields 2 and 3, the held and the supported bits
abbrev both_put : (i d c : ℕ) → Code
both_put i d c =
    seq (taking (suc c) 2 d) (pointing i (suc (suc c)) (suc (suc (suc c))) (seq (putting (suc (suc (suc (suc c)))) 2 (suc c))
    (seq (taking (suc (suc (suc (suc (suc c))))) 3 d) (pointing i (suc (suc c)) (suc (suc (suc (suc (suc (suc c)))))) (putting (suc (suc (suc (suc (suc (suc (suc c))))))) 3 (suc (suc (suc (suc (suc c))))))))))

-- after the call: where its number, field 0 of what came back, is 0
abbrev pub storing : (i d c : ℕ) → Code → Code
storing i d c rest = seq (assign (place c []) (op2 eq (copy (place d (field 0 ∷ []))) (int w8 0))) (seq (cond (copy (place c [])) (both_put i d c) skip) rest)

-- the table then: where the number is 0, the bridge has the bits that y holds
abbrev pub stored : Table → BridgeNumber → (number : ℕ) → (y : Bridge) → Table
stored h n x y = choose (eqb x 0) (with_bridge h (index n) (with_holding (bridge_at h (index n)) (holding y))) h

-- a bridge with the bits that another has is a bridge
holds_is : (r y : Bridge) → Is B.the_row r (bridge.val r ∷ []) → Is B.the_row y (bridge.val y ∷ []) → Is B.the_row (with_holding r (holding y)) (bridge.val (with_holding r (holding y)) ∷ [])
holds_is r y is-r is_y =
    let old = LL.owed B.the_type B'.the_laws r _ is-r in let new = LL.owed B.the_type B'.the_laws y _ is_y in
    LL.owes B.the_type B'.the_laws (with_holding r (holding y)) (old.0, (old.1.0, (new.1.1.0, (new.1.1.1.0, old.1.1.1.1))))

-- the reference's local lies at t, and that of the index j, number i, at m
module _ {M : Type 1} {𝓤 : Ura M} (𝓛 : Logic 𝓤) (C : Calls 𝓤 𝓛.H) (Λ : Loops 𝓤 𝓛.H) (E : Env 𝓤 𝓛.H) (b o : ℕ) (i t m : ℕ) (at_t : Has 𝓤 𝓛.H E 1 (ref_ty, t)) (at_i : Has 𝓤 𝓛.H E i (word.ty, m)) where
  open 𝓛 use {H}

  abbrev Both : ℕ → List (Item 𝓤) → List (Item 𝓤)
  Both j Γ = ‵ (fat full_share ref_ty t 0 (vptr b o)) ∷ ‵ (fat full_share word.ty m 0 (vint w64 j)) ∷ Γ

  pub pointed : (j : ℕ) → j < max_rows → (w p l k k' : ℕ) → Has 𝓤 H E w (word.ty, l) → Has 𝓤 H E p (ty_ptr, k) → Has 𝓤 H E (suc p) (ty_ptr, k') → {Γ : List (Item 𝓤)} {rest : Code} {Q : Post 𝓤 H}
      → Sq 𝓛 (Both j (‵ (fat full_share word.ty l 0 (vint w64 (j * size))) ∷ ‵ (fat full_share ty_ptr k 0 (vptr b (o + 0))) ∷ ‵ (fat full_share ty_ptr k' 0 (vptr b (offset j o))) ∷ Γ)) (runs C Λ E rest Q)
      → Sq 𝓛 (Both j (‵ (froom word.ty l 0) ∷ ‵ (froom ty_ptr k 0) ∷ ‵ (froom ty_ptr k' 0) ∷ Γ)) (runs C Λ E (pointing i w p rest) Q)
  pointed j lt w p l k k' at-w at_p at-p' go =
      assigns ! (bin ! (load ! (finds 𝓛 at_i (stop !)) (look ! 1 refl)) (lit ! tt) (bridge_fits j lt)) (finds 𝓛 at-w (stop !)) (init ! 2 refl (tt, bridge_fits j lt)) $
      assigns ! (addr ! (finds 𝓛 at_t (hop ! (look ! 0 refl) (fld ! refl (stop !))))) (finds 𝓛 at_p (stop !)) (init ! 3 refl (tt, tt)) $
      assigns ! (bin ! (load ! (finds 𝓛 at_p (stop !)) (look ! 3 refl)) (load ! (finds 𝓛 at-w (stop !)) (look ! 2 refl)) tt) (finds 𝓛 at-p' (stop !)) (init ! 4 refl (tt, tt)) $ go

  module _ (Q : Post 𝓤 H) (κ : Lft) (q : Share) (γ : GName) (h : Table) (n : BridgeNumber) where
    abbrev this : Bridge
    this = bridge_at h (index n)

    -- the locals: i, the word and the pointers by which it is reached, the count and the bridge
    module _ (rs : Blocks read_tys) where
      abbrev around : Item 𝓤 → Item 𝓤 → Item 𝓤 → List (Item 𝓤) → List (Item 𝓤)
      around i' c r Γ =
          ‵ (fat full_share ref_ty t 0 (vptr b o)) ∷ i' ∷ ‵ (froom word.ty rs.1.0 0) ∷ ‵ (froom ty_ptr rs.1.1.0 0) ∷ ‵ (froom ty_ptr rs.1.1.1.0 0) ∷ c ∷ r ∷ Lent 𝓤 T.the_row κ q b o γ h Γ

      abbrev pub before : List (Item 𝓤) → List (Item 𝓤)
      before = around (‵ (froom word.ty m 0)) (‵ (froom word.ty rs.0 0)) (‵ (froom bridge.ty rs.1.1.1.1.0 0))

      abbrev pub after : List (Item 𝓤) → List (Item 𝓤)
      after = around (‵ (fat full_share word.ty m 0 (vint w64 (index n)))) (‵ (fat full_share word.ty rs.0 0 (vint w64 h.count))) (‵ (fat full_share bridge.ty rs.1.1.1.1.0 0 (bridge.val this)))

      pub bridge_copied : (mem' : Memory → SProp 𝓤) (run : Routine → Fun 𝓤) → FmC 𝓤 H 𝓛.laws C → Triple 𝓤 (C #index) (Contracted 𝓛 indexed.ended (indexed.clauses 𝓛 mem' run)) → (w : ℕ) → Bound 𝓤 H E w read_tys rs
          → Is bridge_number.row n (bridge_number.val n ∷ []) → {Γ : List (Item 𝓤)} {rest : Code} → Opds (Go {0}) 𝓛 (before Γ) E (copy (place 3 []) ∷ []) (bridge_number.val n ∷ []) → (Is word.row h.count (word.val h.count ∷ []) → Is B.the_row this (bridge.val this ∷ []) → Sq 𝓛 (after Γ) (runs C Λ E rest Q)) → Sq 𝓛 (before Γ) (runs C Λ E (copying i w rest) Q)
      unfolding max_rows
      bridge_copied mem' run fm known w (at-w, (at-w', (at_p, (at-p', (at-r, _))))) is_n os go =
          -- i: [the reference; i; w'; p; p'; w; r; the borrow]
          calls 0 (value bridge_number ∷ []) word (indexed.clauses 𝓛 mem' run) tt tt (n, tt) (λ j. j ≡ index n) _ (then _ _) ! fm known (is_n, tt) tt (id⊢ 𝓤 _) (λ j ws. id⊢ 𝓤 _) os (λ j is-j e.
          land ! (finds 𝓛 at_i (stop !)) (init ! 1 refl (word.typed 𝓛 j is-j)) $ rewrite ! 1 (λ (k : ℕ). ‵ (fat full_share word.ty m 0 (vint w64 k))) e refl $
          -- the count: [the table; the open borrow; …; …; the reference; i; w'; p; p'; w; r]
          move ! (7 ∷ 8 ∷ 9 ∷ []) $ open_ref ! tt (mem T.the_row) $
          take ! word (count_in 𝓛 h b o) (λ is_c. assigns ! (of_opd ! (load ! (finds 𝓛 at_t (hop ! (look ! 5 refl) (fld ! {d = max_rows * size} refl (stop !)))) (look ! 0 refl))) (finds 𝓛 at-w (stop !)) (init ! 10 refl (word.typed 𝓛 h.count is_c)) $ put ! word (count_in 𝓛 h b o) is_c $
          -- the bridge: [the table; the reference; i; w'; p; p'; the open borrow; …; …; w; r]
          move ! (4 ∷ 5 ∷ 6 ∷ 7 ∷ 8 ∷ []) $ pointed (index n) (index_in n) (suc w) (suc (suc w)) _ _ _ at-w' at_p at-p' (move ! (5 ∷ []) $
          take ! bridge (bridge_look 𝓛 h b o (index n) (index_in n)) (λ is-r. assigns ! (of_opd ! (load ! (finds 𝓛 at-p' (hop ! (look ! 6 refl) (stop !))) (look_raw ! 0 refl))) (finds 𝓛 at-r (stop !)) (init ! 11 refl (bridge.typed 𝓛 this is-r)) $ put ! bridge (bridge_look 𝓛 h b o (index n) (index_in n)) is-r $
          move ! (0 ∷ 6 ∷ 7 ∷ 8 ∷ []) $ close_ref ! tt (mem T.the_row) h {b = b} {o = o} $ forget ! 5 refl $ forget ! 6 refl $ forget ! 7 refl $ move ! (3 ∷ 4 ∷ 5 ∷ 6 ∷ 7 ∷ 8 ∷ 9 ∷ []) $ go is_c is-r))))

    -- what came back stands in local d, at l, and the locals of the stores from number c on
    module _ (d c l : ℕ) (xs : Blocks store_tys) (at_d : Has 𝓤 H E d (bridge_done.ty, l)) (at : Bound 𝓤 H E c store_tys xs) (x : BridgeDone) where
      abbrev new : Bridge
      new = with_holding this (holding x.bridge)

      -- the locals, with the test's, where the reference leads to t
      abbrev touched : Item 𝓤 → Table → List (Item 𝓤) → List (Item 𝓤)
      touched test t' Γ =
          Both (index n) (‵ (froom word.ty xs.1.1.0 0) ∷ ‵ (froom ty_ptr xs.1.1.1.0 0) ∷ ‵ (froom ty_ptr xs.1.1.1.1.0 0) ∷ ‵ (froom ty_ptr xs.1.1.1.1.1.1.0 0) ∷ ‵ (froom ty_ptr xs.1.1.1.1.1.1.1.0 0)
          ∷ ‵ (fat full_share bridge_done.ty l 0 (bridge_done.val x)) ∷ test ∷ ‵ (froom bits-ty xs.1.0 0) ∷ ‵ (froom bits-ty xs.1.1.1.1.1.0 0) ∷ Lent 𝓤 T.the_row κ q b o γ t' Γ)

      abbrev pub with_room : Table → List (Item 𝓤) → List (Item 𝓤)
      with_room = touched (‵ (froom ty_bool xs.0 0))

      abbrev tested : List (Item 𝓤) → List (Item 𝓤)
      tested = touched (‵ (fat full_share ty_bool xs.0 0 (vbool (eqb x.number 0)))) h

      stores : Is B.the_row x.bridge (bridge.val x.bridge ∷ []) → {Γ : List (Item 𝓤)} {rest : Code} → Sq 𝓛 (with_room (with_bridge h (index n) new) Γ) (runs C Λ E rest Q)
          → Sq 𝓛 (tested Γ) (runs C Λ E (both_put i d c) (any_q (after_seq 𝓤 H (Wp 𝓤 H C Λ E rest (post 𝓤 H Q)) (post 𝓤 H Q))))
      stores is_y {Γ} {rest} go =
          let bits = LL.owed B.the_type B'.the_laws x.bridge _ is_y in let way = bridge_put 𝓛 h b o (index n) (index_in n) new in
          -- the held bits: [the reference; i; w; p; p'; q; q'; what came back; the test; v; v'; the borrow], then [the bridge; the way back; the open borrow; …; …; the reference; i; w; p; p'; q; q'; what came back; the test; v; v']
          assigns ! (of_opd ! (load ! (finds 𝓛 at_d (fld ! refl (fld ! refl (stop !)))) (look_in ! 7 (sub ! 2 refl (sub ! 1 refl (whole !)))))) (finds 𝓛 at.1.0 (stop !)) (init ! 9 refl (tt, record { fits = bits.1.1.0.1 })) $
          pointed _ (index_in n) (suc (suc c)) (suc (suc (suc c))) _ _ _ at.1.1.0 at.1.1.1.0 at.1.1.1.1.0 (move ! (11 ∷ 12 ∷ 13 ∷ []) $ open_ref ! tt (mem T.the_row) $ take ! bridge way (λ is-r.
          assigns ! (of_opd ! (load ! (finds 𝓛 at.1.0 (stop !)) (look ! 14 refl))) (finds 𝓛 at.1.1.1.1.0 (hop ! (look ! 9 refl) (fld ! refl (stop !)))) (store_in ! 0 (sub ! 2 refl (whole !)) (tt, record { fits = bits.1.1.0.1 })) $
          -- the supported bits: [the reference; i; w; q; q'; the bridge; the way back; the open borrow; …; …; p; p'; what came back; the test; v; v']
          assigns ! (of_opd ! (load ! (finds 𝓛 at_d (fld ! refl (fld ! refl (stop !)))) (look_in ! 12 (sub ! 3 refl (sub ! 1 refl (whole !)))))) (finds 𝓛 at.1.1.1.1.1.0 (stop !)) (init ! 15 refl (tt, record { fits = bits.1.1.1.0.1 })) $
          forget ! 7 refl $ move ! (5 ∷ 6 ∷ 7 ∷ 10 ∷ 11 ∷ []) $ pointed _ (index_in n) (suc (suc c)) (suc (suc (suc (suc (suc (suc c)))))) _ _ _ at.1.1.0 at.1.1.1.1.1.1.0 at.1.1.1.1.1.1.1.0 (
          assigns_last ! (of_opd ! (load ! (finds 𝓛 at.1.1.1.1.1.0 (stop !)) (look ! 15 refl))) (finds 𝓛 at.1.1.1.1.1.1.1.0 (hop ! (look ! 4 refl) (fld ! {d = 16} refl (stop !)))) (store_in ! 5 (sub ! 3 {d = 16} refl (whole !)) (tt, record { fits = bits.1.1.1.0.1 })) $
          exec ! C Λ E rest Q $ move ! (5 ∷ 6 ∷ []) $ put ! bridge way (holds_is this x.bridge is-r is_y) $ move ! (0 ∷ 6 ∷ 7 ∷ 8 ∷ []) $ close_ref ! tt (mem T.the_row) (with_bridge h (index n) new) {b = b} {o = o} $
          -- [the borrow; the reference; i; w; q; q'; p; p'; what came back; the test; v; v']
          forget ! 5 refl $ forget ! 6 refl $ forget ! 7 refl $ forget ! 8 refl $ forget ! 9 refl $ forget ! 11 refl $ forget ! 12 refl $ forget ! 13 refl $ move ! (3 ∷ 4 ∷ 5 ∷ 8 ∷ 9 ∷ 6 ∷ 7 ∷ 10 ∷ 11 ∷ 12 ∷ 13 ∷ []) $ go)))

      pub bridge_stored : Is B.the_row x.bridge (bridge.val x.bridge ∷ []) → {Γ : List (Item 𝓤)} {rest : Code} → Sq 𝓛 (with_room (stored h n x.number x.bridge) Γ) (runs C Λ E rest Q) → Sq 𝓛 (with_room h Γ) (runs C Λ E (storing i d c rest) Q)
      bridge_stored is_y {Γ} {rest} go =
          assigns ! (bin ! (load ! (finds 𝓛 at_d (fld ! refl (stop !))) (look_in ! 7 (sub ! 0 refl (whole !)))) (lit ! tt) tt) (finds 𝓛 at.0 (stop !)) (init ! 8 refl (tt, tt)) $ first ! $ branches ! (load ! (finds 𝓛 at.0 (stop !)) (look ! 8 refl))
          (λ zero. stores is_y (ends true (is_true (eqb x.number 0) zero))) (λ more. skips ! $ exec ! C Λ E rest Q $ forget ! 8 refl $ ends false (is_false (eqb x.number 0) more))
        where
          -- the table that is left, by the test
          ends : (t : Bool) → eqb x.number 0 ≡ t → Sq 𝓛 (with_room (choose t (with_bridge h (index n) new) h) Γ) (runs C Λ E rest Q)
          ends t e = subst (λ (u : Bool). Sq 𝓛 (with_room (choose u (with_bridge h (index n) new) h) Γ) (runs C Λ E rest Q)) e go
