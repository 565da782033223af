-- Plain data: a value is one machine value, and owns only facts.
--     Value            such a type: `number`, `truth`, `struct` and `array` are the kinds, `word` the number that lengths are
--     repeated_is      an array of one value n times is one
--     told             as a step: of a value that came back, the machine value is written out and the relation in hand, and what it owns is let go
-- Assumes nothing; the laws and the step take `Logic`.
use mathlib.Core.Path.{refl, sym, ap, subst}
use mathlib.Core.List.{[], ◌∷◌, List, map}
use Prim.Native.Nat.{ℕ, zero, suc}
use lib.ListN.{replicate, length-replicate}
use lib.Dec.{T as So}
use Rattle.walks.proofs.Kit.{Ura, Ty, Width, w64, ty_int, ty_bool, Val, vint, vbool, WT, has_ty, Goal, Item, Seq, ‵, RattleType, Is, Tells, Makes, Lawful, shows, lone, Array, array_vals, Array-Tells, Array-Lawful, Array-Makes, each, only, facts}
use types.Logic.{Logic}
use denote.Shadow.{shadow}
use denote.Plain.{UInt, Boolean, uint_Tells, uint_Lawful, uint_Makes, bool_Tells, bool_Lawful, bool_Makes}
use denote.Struct.Struct.{Plains, layout}
use denote.Struct.Declared.{Declared, fields, row, shape}
use denote.Struct.Laws as LL

-- its type, the MIR type, the machine value of each value, and the laws
pub record Value : Type 2 where
  pub row : RattleType
  pub ty : Ty
  pub val : row.Denot → Val
  pub tells : Tells row (Is row) (λ x. val x ∷ [])
  pub lawful : {M : Type 1} {𝓤 : Ura M} (𝓛 : Logic 𝓤) → Lawful 𝓛 row
  pub typed : {M : Type 1} {𝓤 : Ura M} (𝓛 : Logic 𝓤) → (x : row.Denot) → Is row x (val x ∷ []) → So (has_ty ty (val x)) × WT (val x)
  pub makes : {M : Type 1} {𝓤 : Ura M} (𝓛 : Logic 𝓤) → Makes 𝓛 row (Is row)

abbrev pub number : Width → Value
number w = record { row = UInt w; ty = ty_int w; val = vint w; tells = uint_Tells w; lawful = λ 𝓛. uint_Lawful 𝓛 w; typed = λ 𝓛 x is. ((uint_Lawful 𝓛 w).typed x _ is).0; makes = λ 𝓛. uint_Makes 𝓛 w }

abbrev pub word : Value
word = number w64

abbrev pub truth : Value
truth = record { row = Boolean; ty = ty_bool; val = vbool; tells = bool_Tells; lawful = λ 𝓛. bool_Lawful 𝓛; typed = λ 𝓛 x is. ((bool_Lawful 𝓛).typed x _ is).0; makes = λ 𝓛. bool_Makes 𝓛 }

abbrev pub struct : (S : Declared) → LL.Laws S → Plains (fields S) → Value
struct S L pl = record { row = row S; ty = layout (shape S); val = LL.val S L; tells = LL.tells S L; lawful = λ 𝓛. LL.lawful S L 𝓛; typed = λ 𝓛 x is. ((LL.lawful S L 𝓛).typed x _ is).0; makes = λ 𝓛. LL.makes S pl 𝓛 }

abbrev pub array : Value → ℕ → Value
array V' n = record {
  row = Array V'.row n;
  ty = lone (Array V'.row n).mir;
  val = λ xs. only (array_vals (λ x. V'.val x ∷ []) xs);
  tells = Array-Tells V'.row (λ x. V'.val x ∷ []) V'.tells n;
  lawful = λ 𝓛. Array-Lawful 𝓛 V'.row (V'.lawful 𝓛) n;
  typed = λ 𝓛 x is. ((Array-Lawful 𝓛 V'.row (V'.lawful 𝓛) n).typed x _ is).0;
  makes = λ 𝓛. Array-Makes 𝓛 V'.row (V'.makes 𝓛) n;
}

module _ (V' : Value) where
  each_repeated : (n : ℕ) (x : V'.row.Denot) → Is V'.row x (V'.val x ∷ []) → shadow (each V'.row.Denot V'.row.own_val (replicate n x) (map V'.val (replicate n x)))
  each_repeated zero x is = tt
  each_repeated (suc n) x is = (is, each_repeated n x is)

  pub repeated_is : (n : ℕ) (x : V'.row.Denot) → Is V'.row x (V'.val x ∷ []) → Is (array V' n).row (replicate n x) ((array V' n).val (replicate n x) ∷ [])
  repeated_is n x is = (map V'.val (replicate n x), ((refl, length-replicate n x), each_repeated n x is))

pub told : {M : Type 1} {𝓤 : Ura M} {𝓛 : Logic 𝓤} {K : Type 0} {Γ : List (Item 𝓤)} → K → (V' : Value) (G : Val → Goal 𝓤 𝓛.H) (x : V'.row.Denot) (v : Val) → (Is V'.row x (V'.val x ∷ []) → Seq K 𝓛 Γ (G (V'.val x))) → Seq K 𝓛 (‵ (V'.row.own_val x (v ∷ [])) ∷ Γ) (G v)
told {𝓤 = 𝓤} {𝓛} {K} {Γ} t V' G x v k =
    facts t V'.row (Is V'.row) (shows 𝓛 V'.row) x (v ∷ []) (λ is. let spelled = V'.tells x (v ∷ []) is in subst (λ (u : Val). Seq K 𝓛 Γ (G u)) (sym (ap only spelled)) (k (subst (Is V'.row x) spelled is)))
