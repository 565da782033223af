-- The second answer is never masked, and the taking call grants exactly those bits, which are then held.
-- Assumes nothing.
use mathlib.Core.Path.{◌≡◌, refl, sym, ap, ap₂, ◌∙◌, subst}
use mathlib.Core.Logic.{◌⊎◌}
use mathlib.Core.Bool.{true, false, not, ◌&&◌}
use mathlib.Core.List.{List, ◌∷◌, ◌++◌}
use Prim.Native.Nat.{ℕ, ◌^◌, ◌<◌}
use native.Mathlib.Omega.{arith}
use borrow.Author.Tests.{eq-eqb, lt-leb}
use lib.Bits.{bit_or, and_self}
use lib.ListN.{length}
use Rattle.rules.specs.Numbers.{le32}
use Rattle.rules.specs.Tables.{holding, with_holding, owns, bridge_at, fixed}
use Rattle.rules.specs.Start.{Sound}
use Rattle.rules.specs.Editions.{edition30}
use Rattle.rules.specs.Osc.{granted, grant_status, uuid_bytes, framing_bad, recognised, status, query, support, control, osc_answer}
use Rattle.rules.specs.Calls.{osc, Call, number_at, step, table_after}
use Rattle.rules.specs.History.{reaches, history_step}
use Rattle.rules.specs.Claims.{Buffers, right_call, answer_of, Undisturbed, SameSupport, returned, Negotiated}
use Rattle.rules.specs.declared.Bridge.{Bridge}
use Rattle.rules.specs.declared.BridgeNumber.{BridgeNumber}
use Rattle.rules.specs.declared.SessionNumber.{SessionNumber}
use Rattle.rules.specs.declared.Table.{Table}
use Rattle.rules.proofs.Tests.{and_off}
use Rattle.rules.proofs.Bytes.{four_bytes}
use Rattle.rules.proofs.Granting.{granted_lt, granted_support, granted_again}
use Rattle.rules.proofs.Local.{fixed_after, same_bridges}
use Rattle.rules.proofs.Soundness.{same_length}
use Rattle.rules.proofs.History.{history_from_lem, history_next, in_array, undisturbed}
use Rattle.rules.specs.declared.Holding.{Holding}

-- a DWORD read where it was written
read_status : (x y z : ℕ) → x < 2 ^ 32 → status (le32 x ++ le32 y ++ le32 z) ≡ x
read_status x y z h = four_bytes x h

read_control : (x y z : ℕ) → z < 2 ^ 32 → control (le32 x ++ le32 y ++ le32 z) ≡ z
read_control x y z h = four_bytes z h

-- ---- a right call to a bridge of the session

module _ (t : Table) (s : SessionNumber) (n : BridgeNumber) (h : n.0 < t.count) (o : owns s (bridge_at t n.0) ≡ true) (c : Buffers) where
  is_recognised : recognised 1 3 uuid_bytes ≡ true
  unfolding recognised
  is_recognised = refl

  is_framed : framing_bad 3 uuid_bytes c.caps c.answer ≡ false
  unfolding framing_bad
  is_framed = rw (c.caps_length, c.answer_length)

  is_done : number_at t.count s n (bridge_at t n.0) (osc 1 3 uuid_bytes c.caps c.answer) ≡ 0
  is_done = rw (lt-leb t.count n.0 h, o, is_framed)

  abbrev g : ℕ
  g = granted (bridge_at t n.0) (support c.caps) (control c.caps)

  call_number : (step t (right_call s n c)).outcome.number ≡ 0
  unfolding step
  call_number = rw is_done

  call_answer : answer_of (step t (right_call s n c)).outcome ≡ le32 (grant_status (control c.caps) g) ++ le32 (support c.caps) ++ le32 g
  unfolding step osc_answer
  call_answer = rw (is_done, is_recognised)

  call_control : control (answer_of (step t (right_call s n c)).outcome) ≡ g
  call_control = ap control call_answer
      ∙ read_control (grant_status (control c.caps) g) (support c.caps) g (granted_lt (bridge_at t n.0) (support c.caps) (control c.caps))

  -- asked for what is granted whole, the answer is not masked
  call_status : g ≡ control c.caps → status (answer_of (step t (right_call s n c)).outcome) ≡ 0
  call_status e = ap status call_answer
      ∙ rw (e, and_self (control c.caps), eq-eqb (control c.caps) (control c.caps) refl) (read_status 0 (support c.caps) (control c.caps) (omega arith))

  reached : reaches t n.0 s n ≡ true
  reached = rw (eq-eqb n.0 n.0 refl, lt-leb t.count n.0 h, o)

  query_undisturbed : query c.caps ≡ true → (i : ℕ) (k : Holding) → history_step t i k (right_call s n c) ≡ k
  query_undisturbed e i k = rw (is_recognised, e, and_off (reaches t i s n && not (framing_bad 3 uuid_bytes c.caps c.answer)))

  taking_held : query c.caps ≡ false → n.0 < length t.bridges
      → (bridge_at (step t (right_call s n c)).table n.0).held ≡ bit_or (bridge_at t n.0).held g
  taking_held e k =
      ap (λ (x : Holding). x.held) (history_next t n.0 (right_call s n c) k)
      ∙ rw (reached, is_framed, is_recognised, e)

-- ---- a call at a later table u that differs from t in nothing that bridge n has, for what a query at t granted

module _ (t : Table) (s : SessionNumber) (n : BridgeNumber) (h : n.0 < t.count) (o : owns s (bridge_at t n.0) ≡ true) (w r : ℕ)
    (u : Table) (f : fixed u ≡ fixed t) (k : holding (bridge_at u n.0) ≡ holding (bridge_at t n.0))
    (c : Buffers) (v : ((bridge_at t n.0).edition ≡ edition30) ⊎ (support c.caps ≡ w)) (e : control c.caps ≡ granted (bridge_at t n.0) w r) where
  in_count : n.0 < u.count
  in_count = subst (λ (x : Table). n.0 < x.count) (sym f) h

  owner : owns s (bridge_at u n.0) ≡ true
  owner = ap (owns s) (same_bridges u t f n.0) ∙ o

  same_bridge : bridge_at u n.0 ≡ bridge_at t n.0
  same_bridge = ap₂ {B = Holding} (λ (x : Bridge) y. with_holding x y) (same_bridges u t f n.0) k

  -- what was granted is granted whole
  whole : granted (bridge_at u n.0) (support c.caps) (control c.caps) ≡ control c.caps
  whole = rw (same_bridge, e) (granted_support (bridge_at t n.0) (support c.caps) w (granted (bridge_at t n.0) w r) v ∙ granted_again (bridge_at t n.0) w r)

  whole_number : (step u (right_call s n c)).outcome.number ≡ 0
  whole_number = call_number u s n in_count owner c

  whole_status : status (answer_of (step u (right_call s n c)).outcome) ≡ 0
  whole_status = call_status u s n in_count owner c whole

  whole_control : control (answer_of (step u (right_call s n c)).outcome) ≡ control c.caps
  whole_control = call_control u s n in_count owner c ∙ whole

  whole_held : query c.caps ≡ false → n.0 < length u.bridges
      → (bridge_at (step u (right_call s n c)).table n.0).held ≡ bit_or (bridge_at t n.0).held (control c.caps)
  whole_held q i =
      taking_held u s n in_count owner c q i ∙ ap₂ {B = ℕ} (λ (x : Holding) y. bit_or x.held y) k whole

pub negotiated : (t : Table) → Sound t → (l m : List Call) (s : SessionNumber) (n : BridgeNumber) (first second taking : Buffers)
    → n.0 < t.count → owns s (bridge_at t n.0) ≡ true
    → query first.caps ≡ true → query second.caps ≡ true → query taking.caps ≡ false
    → Undisturbed t n.0 l → Undisturbed t n.0 m
    → SameSupport (bridge_at t n.0) first second → SameSupport (bridge_at t n.0) first taking
    → control second.caps ≡ returned t s n first second taking l m
    → control taking.caps ≡ returned t s n first second taking l m
    → Negotiated t s n first second taking l m
negotiated t st l m s n first second taking h o q₁ q₂ q₃ dl dm v₂ v₃ e₂ e₃ =
    let i = n.0 in
    let w = support first.caps in
    let d = control first.caps in
    let a = right_call s n first in
    let b = right_call s n second in
    let long = in_array t st i h in
    let r = call_control t s n h o first in
    let u = table_after t (a ∷ l) in
    let fu : fixed u ≡ fixed t = fixed_after (a ∷ l) t in
    let ku : holding (bridge_at u i) ≡ holding (bridge_at t i) =
    history_from_lem t i (a ∷ l) t refl long ∙ undisturbed t i (holding (bridge_at t i)) (a ∷ l) (query_undisturbed t s n h o first q₁ i, dl) in
    let v = table_after u (b ∷ m) in
    let fv : fixed v ≡ fixed t = fixed_after (b ∷ m) u ∙ fu in
    let kv : holding (bridge_at v i) ≡ holding (bridge_at t i) =
    history_from_lem t i (b ∷ m) u fu (rw (same_length u t fu) long) ∙ undisturbed t i (holding (bridge_at u i)) (b ∷ m) (query_undisturbed t s n h o second q₂ i, dm) ∙ ku in
    record {
      second_number = whole_number t s n h o w d u fu ku second v₂ (e₂ ∙ r);
      second_status = whole_status t s n h o w d u fu ku second v₂ (e₂ ∙ r);
      second_control = whole_control t s n h o w d u fu ku second v₂ (e₂ ∙ r) ∙ e₂;
      taking_number = whole_number t s n h o w d v fv kv taking v₃ (e₃ ∙ r);
      taking_status = whole_status t s n h o w d v fv kv taking v₃ (e₃ ∙ r);
      taking_control = whole_control t s n h o w d v fv kv taking v₃ (e₃ ∙ r) ∙ e₃;
      held_after = whole_held t s n h o w d v fv kv taking v₃ (e₃ ∙ r) q₃ (rw (same_length v t fv) long) ∙ ap (bit_or (bridge_at t i).held) e₃;
    }
