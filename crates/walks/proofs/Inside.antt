-- A part of a value in memory: it is taken out, and it or another is put in its place. For any type, any field, any element type and any length.
--     Inside           R at h lies at (b, o), with F at f in it at (b, p); with f' there it is R at h'
--     ◌then◌           what is inside a part is inside the whole
--     item_put         element i of an array is inside, to be replaced
--     field-look, field-put        element i of a field that is an array is inside, to be left as it is or replaced: of the field's `look_at` or `put_at_lem` (borrow.Struct.Behind)
--     record_look, record_put      the same of a field that is an array of structs, where the field stands at the structs' tuples
--     take, put        as steps: the part is taken out, its machine value written out and its relation in hand; and put in its place
-- The lemmas assume `Logic`.
use mathlib.Core.Path.{◌≡◌, refl, sym, ◌∙◌, subst}
use Prim.Native.Nat.{ℕ, ◌+◌, ◌<◌}
use mathlib.Core.List.{List, [], ◌∷◌, map}
use lib.ListN.{length, get_or, set, length-set}
use Rattle.walks.proofs.Kit.{Ura, Val, SProp, ent, sep, wand, apply∗, Share, Fml, fsep, sem, Goal, Item, Seq, Step, ‵, raw, ◌⊛◌, ◌$◌, !, qed, move, use1, use2, split, rewrite, fsplit, fjoin, fpick, fpack, feq_l, feq_i, assume, frame, done, arr_parts, cells, RattleType, Array, Is, shows, cell_at, part_at, mem, shares, facts, owned}
use types.Logic.{Logic, sem}
use types.Kit.{step}
use denote.ArrayMemory.{Single, Array-apart, Array-whole}
use denote.Memory.{part_of}
use borrow.Table.Elements.{at, focus, glance}
use borrow.Rule.Slice.Shared.{Sh, parts-cells}
use denote.Struct.Struct.{Struct}
use denote.Struct.Declared.{Declared, row, shape}
use borrow.Struct.Items.{Array-same}
use borrow.Struct.Way.{Cut}
use Rattle.walks.proofs.Values.{Value}

module _ {M : Type 1} {𝓤 : Ura M} (𝓛 : Logic 𝓤) where
  abbrev pub Lies : (q : Share) (R : RattleType) → R.Denot → ℕ → ℕ → SProp 𝓤
  Lies q R h b o = sem 𝓛 (part_at R q h b o)

  pub record Inside (q : Share) (R F : RattleType) (h h' : R.Denot) (f f' : F.Denot) (b o p : ℕ) : Type 1 where
    pub cut : ent 𝓤 (Lies q R h b o) (sep 𝓤 (Lies q F f b p) (wand 𝓤 (Lies q F f' b p) (Lies q R h' b o)))

  module _ (q : Share) (R : RattleType) (one : Single R.mir) (n i p b o : ℕ) (xs : List R.Denot) (d : R.Denot) (e : at o (mem R).size i ≡ p) (lt : i < n) where
    abbrev Apart : List R.Denot → Fml
    Apart l = cells (Sh R q) l b o

    abbrev x : R.Denot
    x = get_or xs i d

    -- with y there the elements are ys, as many
    item : (y : R.Denot) (ys : List R.Denot) → length ys ≡ length xs → (i < length xs → ent 𝓤 (sem 𝓛 (Apart xs)) (sep 𝓤 (Lies q R x b (at o (mem R).size i)) (wand 𝓤 (Lies q R y b (at o (mem R).size i)) (sem 𝓛 (Apart ys)))))
        → Inside q (Array R n) R xs ys x y b o p
    item y ys same way = record {
      cut = qed 𝓛 (‵ (part_at (Array R n) q xs b o) ∷ []) {P = sep 𝓤 (Lies q R x b p) (wand 𝓤 (Lies q R y b p) (Lies q (Array R n) ys b o))} (
          use1 𝓛 (‵ ((arr_parts (shares R) n).part q xs b o)) (Array-apart 𝓛 R q one n xs b o) $ fsplit ! $ feq_l ! (λ l.
          rewrite ! 0 (λ (F : Fml). ‵ F) (parts-cells R q xs b o) refl $
          use1 𝓛 (‵ (part_at R q x b (at o (mem R).size i)) ⊛ raw (wand 𝓤 (Lies q R y b (at o (mem R).size i)) (sem 𝓛 (Apart ys)))) (way (subst (λ (j : ℕ). i < j) (sym l) lt)) $ split ! $
          rewrite ! 0 (λ (j : ℕ). ‵ (part_at R q x b j)) e refl $ rewrite ! 1 (λ (j : ℕ). raw (wand 𝓤 (Lies q R y b j) (sem 𝓛 (Apart ys)))) e refl $ frame ! $
          assume ! (‵ (part_at R q y b p)) $ use2 𝓛 (‵ (Apart ys)) (apply∗ 𝓤 (Lies q R y b p) (sem 𝓛 (Apart ys))) $
          rewrite ! 0 (λ (F : Fml). ‵ F) (sym (parts-cells R q ys b o)) refl $ feq_i ! ℕ (length ys) n (same ∙ l) $ fjoin ! $
          use1 𝓛 (‵ (part_at (Array R n) q ys b o)) (Array-whole 𝓛 R q n ys b o) $ done !));
    }

    item_look : Inside q (Array R n) R xs xs x x b o p
    item_look = item x xs refl (glance 𝓛 (Sh R q) d i xs b o)

    pub item_put : (y : R.Denot) → Inside q (Array R n) R xs (set xs i y) x y b o p
    item_put y = item y (set xs i y) (length-set xs i y) (focus 𝓛 (Sh R q) d y i xs b o)

module _ {M : Type 1} {𝓤 : Ura M} {𝓛 : Logic 𝓤} where
  pub ◌then◌ : {q : Share} {R F G : RattleType} {h h' : R.Denot} {f f' : F.Denot} {g g' : G.Denot} {b o p r : ℕ} → Inside 𝓛 q R F h h' f f' b o p → Inside 𝓛 q F G f f' g g' b p r → Inside 𝓛 q R G h h' g g' b o r
  ◌then◌ {q} {R} {F} {G} {h} {h'} {f} {f'} {g} {g'} {b} {o} {p} {r} x y = record {
    cut = qed 𝓛 (‵ (part_at R q h b o) ∷ []) {P = sep 𝓤 (Lies 𝓛 q G g b r) (wand 𝓤 (Lies 𝓛 q G g' b r) (Lies 𝓛 q R h' b o))} (
        use1 𝓛 (‵ (part_at F q f b p) ⊛ raw (wand 𝓤 (Lies 𝓛 q F f' b p) (Lies 𝓛 q R h' b o))) x.cut $ split ! $
        use1 𝓛 (‵ (part_at G q g b r) ⊛ raw (wand 𝓤 (Lies 𝓛 q G g' b r) (Lies 𝓛 q F f' b p))) y.cut $ split ! $ frame ! $
        assume ! (‵ (part_at G q g' b r)) $ use2 𝓛 (‵ (part_at F q f' b p)) (apply∗ 𝓤 (Lies 𝓛 q G g' b r) (Lies 𝓛 q F f' b p)) $
        use2 𝓛 (‵ (part_at R q h' b o)) (apply∗ 𝓤 (Lies 𝓛 q F f' b p) (Lies 𝓛 q R h' b o)) $ done !);
  }

  infixl 40 ◌then◌

-- ---- element i of a field that is an array of n, d bytes from the start of R; x₀ is what stands past the array's end, p the place that MIR computes
module _ {M : Type 1} {𝓤 : Ura M} (𝓛 : Logic 𝓤) (q : Share) (R : RattleType) (n d b o i : ℕ) (lt : i < n) where
  module _ (F : RattleType) (one : Single F.mir) (h : R.Denot) (xs : List F.Denot) (x₀ : F.Denot) {p : ℕ} (e : at (o + d) (mem F).size i ≡ p) where
    pub field-look : Cut 𝓛 q R (Array F n) d h h xs xs (b, o) → Inside 𝓛 q R F h h (get_or xs i x₀) (get_or xs i x₀) b o p
    field-look c = record { cut = c } then item_look 𝓛 q F one n i p b (o + d) xs x₀ e lt

    pub field-put : (y : F.Denot) (h' : R.Denot) → Cut 𝓛 q R (Array F n) d h h' xs (set xs i y) (b, o) → Inside 𝓛 q R F h h' (get_or xs i x₀) y b o p
    field-put y h' c = record { cut = c } then item_put 𝓛 q F one n i p b (o + d) xs x₀ e lt y

  module _ (E : Declared) (one : Single (row E).mir) (h : R.Denot) (xs : List E.D) (x₀ : E.D) {p : ℕ} (e : at (o + d) (mem (row E)).size i ≡ p) where
    abbrev Records : R.Denot → List E.D → Type 1
    Records h' ys = Cut 𝓛 q R (Array (Struct (shape E)) n) d h h' (map E.to xs) (map E.to ys) (b, o)

    at-structs : (h' : R.Denot) (ys : List E.D) → Records h' ys → Cut 𝓛 q R (Array (row E) n) d h h' xs ys (b, o)
    at-structs h' ys c =
        subst (λ (F : Fml). ent 𝓤 (Lies 𝓛 q R h b o) (sep 𝓤 (sem 𝓛 F) (wand 𝓤 (Lies 𝓛 q (Array (row E) n) ys b (o + d)) (Lies 𝓛 q R h' b o)))) (sym (Array-same (Struct (shape E)) E.D E.to E.to_one n q xs b (o + d)))
        (subst (λ (F : Fml). ent 𝓤 (Lies 𝓛 q R h b o) (sep 𝓤 (Lies 𝓛 q (Array (Struct (shape E)) n) (map E.to xs) b (o + d)) (wand 𝓤 (sem 𝓛 F) (Lies 𝓛 q R h' b o)))) (sym (Array-same (Struct (shape E)) E.D E.to E.to_one n q ys b (o + d))) c)

    pub record_look : Records h xs → Inside 𝓛 q R (row E) h h (get_or xs i x₀) (get_or xs i x₀) b o p
    record_look c = field-look (row E) one h xs x₀ e (at-structs h xs c)

    pub record_put : (y : E.D) (h' : R.Denot) → Records h' (set xs i y) → Inside 𝓛 q R (row E) h h' (get_or xs i x₀) y b o p
    record_put y h' c = field-put (row E) one h xs x₀ e y h' (at-structs h' (set xs i y) c)

-- the way back, with f' there
abbrev pub Back : {M : Type 1} {𝓤 : Ura M} {𝓛 : Logic 𝓤} {q : Share} {R F : RattleType} {h h' : R.Denot} {f f' : F.Denot} {b o p : ℕ} → Inside 𝓛 q R F h h' f f' b o p → Item 𝓤
Back {𝓤 = 𝓤} {𝓛 = 𝓛} {q} {R} {F} {h} {h'} {f} {f'} {b} {o} {p} x = raw (wand 𝓤 (Lies 𝓛 q F f' b p) (Lies 𝓛 q R h' b o))

module _ {M : Type 1} {𝓤 : Ura M} {𝓛 : Logic 𝓤} {K : Type 0} {Γ : List (Item 𝓤)} {G : Goal 𝓤 𝓛.H} where
  pub take : K → (P : Value) {q : Share} {R : RattleType} {h h' : R.Denot} {f f' : P.row.Denot} {b o p : ℕ} (x : Inside 𝓛 q R P.row h h' f f' b o p)
      → (Is P.row f (P.val f ∷ []) → Seq K 𝓛 (‵ (cell_at q P.row.mir (P.val f ∷ []) b p) ∷ Back x ∷ Γ) G) → Seq K 𝓛 (‵ (part_at R q h b o) ∷ Γ) G
  unfolding part_of
  take t P {q} {R} {h} {h'} {f} {f'} {b} {o} {p} x k =
      use1 𝓛 (‵ (part_at P.row q f b p) ⊛ Back x) x.cut $ split t $ fpick t (λ vs. fsplit t $ move t (1 ∷ []) $
      facts t P.row (Is P.row) (shows 𝓛 P.row) f vs (λ is. rewrite t 0 (λ (us : List Val). ‵ (cell_at q P.row.mir us b p)) (P.tells f vs is) refl $ k (subst (Is P.row f) (P.tells f vs is) is)))

  pub put : K → (P : Value) {q : Share} {R : RattleType} {h h' : R.Denot} {f f' : P.row.Denot} {b o p : ℕ} (x : Inside 𝓛 q R P.row h h' f f' b o p) → Is P.row f' (P.val f' ∷ [])
      → Step K 𝓛 (‵ (part_at R q h' b o) ∷ Γ) G (‵ (cell_at q P.row.mir (P.val f' ∷ []) b p) ∷ Back x ∷ Γ) G
  unfolding part_of
  put t P {q} {R} {h} {h'} {f} {f'} {b} {o} {p} x is = step (λ s.
      owned t P.row (Is P.row) (P.makes 𝓛) f' _ is $ move t (1 ∷ 0 ∷ []) $ fjoin t $ fpack t (List Val) (λ us. fsep (cell_at q P.row.mir us b p) (P.row.own_val f' us)) (P.val f' ∷ []) $
      use2 𝓛 (‵ (part_at R q h' b o)) (apply∗ 𝓤 (Lies 𝓛 q P.row f' b p) (Lies 𝓛 q R h' b o)) $ s)
