-- The bytes in reach of an address lie in the window of a bridge of the session that it was given to.
-- Assumes nothing.
use mathlib.Core.Path.{◌≡◌, refl, sym, ap, ◌∙◌, subst}
use mathlib.Core.Logic.{◌⊎◌, inl, inr}
use mathlib.Core.Bool.{Bool, true, false, not, ◌||◌, false≢true}
use mathlib.Core.List.{List, [], ◌∷◌}
use mathlib.Core.Option.{some, none-ne-some}
use Prim.Native.Nat.{ℕ, zero, suc, ◌+◌, ◌*◌, ◌^◌, ◌%◌, ◌≤◌, ◌<◌}
use native.Mathlib.Omega.{arith}
use borrow.Author.Tests.{eqb-true, eq-eqb, leb-false, ltb-false, lt-ltb, le-leb, not-false}
use lib.Dec.{eqb, leb, ltb}
use Rattle.rules.specs.Refusals.{◌if◌}
use Rattle.rules.specs.Tables.{owns, bridge_at}
use Rattle.rules.specs.Place.{address_of, place_bad, bus_outside, in_window, InReach}
use Rattle.rules.specs.Start.{Sound}
use Rattle.rules.specs.Calls.{Operation, osc, reset, report, address, register_values, Call, on, locate, addressed, number_at, outcome_by, step, session_of, width_of}
use Rattle.rules.specs.Claims.{Given, now, later}
use Rattle.rules.specs.declared.Bridge.{Bridge}
use Rattle.rules.specs.declared.BridgeNumber.{BridgeNumber}
use Rattle.rules.specs.declared.SessionNumber.{SessionNumber}
use Rattle.rules.specs.declared.Table.{Table}
use Rattle.rules.proofs.Tests.{or_false, and_is}
use Rattle.rules.proofs.Refusals.{clear}
use Rattle.rules.proofs.Local.{fixed_step, same_bridges}
use Rattle.rules.proofs.Separation.{same_session}

pub number_by : (k : ℕ) (b : Bridge) (o : Operation) → (outcome_by k b o).number ≡ k
number_by zero b (osc revision count uuid caps answer) = refl
number_by zero b reset = refl
number_by zero b report = refl
number_by zero b (address bus device function offset width) = refl
number_by zero b (register_values slot block current) = refl
number_by (suc k) b o = refl

-- ---- a place that refusal 5 does not meet

width_fits : (o w : ℕ) → o ≤ 4095 → o % w ≡ 0 → (eqb w 1 || eqb w 2 || eqb w 4) ≡ true → o + w ≤ 4096
width_fits o w h m e = go (eqb w 1) (eqb w 2) (eqb w 4) refl refl refl e
  where
    go : (p q r : Bool) → eqb w 1 ≡ p → eqb w 2 ≡ q → eqb w 4 ≡ r → (p || q || r) ≡ true → o + w ≤ 4096
    go true q r i j k z = omega (arith, eqb-true w 1 i)
    go false true r i j k z = let y = eqb-true w 2 j in omega (arith, rw y at m)
    go false false true i j k z = let y = eqb-true w 4 k in omega (arith, rw y at m)
    go false false false i j k z = absurd (false≢true z)

pub record Fits (device function offset width : ℕ) : Type 0 where
  pub device_fits : device ≤ 31
  pub function_fits : function ≤ 7
  pub offset_fits : offset ≤ 4095
  pub width_within : offset + width ≤ 4096

pub place_fits : (device function offset width : ℕ) → place_bad device function offset width ≡ false → Fits device function offset width
place_fits device function offset width e =
    let m = or_false _ (not (eqb (offset % width) 0)) e in
    let w = or_false _ (not (eqb width 1 || eqb width 2 || eqb width 4)) m.0 in
    let o = or_false _ (ltb 4095 offset) w.0 in
    let f = or_false (ltb 31 device) (ltb 7 function) o.0 in
    let h : offset ≤ 4095 = ltb-false 4095 offset o.1 in
    record {
      device_fits = ltb-false 31 device f.0;
      function_fits = ltb-false 7 function f.1;
      offset_fits = h;
      width_within = width_fits offset width h (eqb-true (offset % width) 0 (not-false _ m.1)) (not-false _ w.1);
    }

-- the bytes in reach of its address lie in the bridge's window
pub reached : (b : Bridge) (bus device function offset width x : ℕ) → bus_outside b bus ≡ false → Fits device function offset width
    → InReach (address_of b bus device function offset) width x → in_window x b ≡ true
reached b bus device function offset width x e f k =
    let o = or_false (ltb bus b.first_bus) (ltb b.last_bus bus) e in
    let lo : b.first_bus ≤ bus = ltb-false bus b.first_bus o.0 in
    let hi : bus ≤ b.last_bus = ltb-false b.last_bus bus o.1 in
    and_is (le-leb (b.base + b.first_bus * 2 ^ 20) x (omega arith)) (lt-ltb x (b.base + (b.last_bus + 1) * 2 ^ 20) (omega arith))

-- ---- an address_accepted address call

pub record Accepted (t : Table) (s : SessionNumber) (n : BridgeNumber) (bus device function offset width a : ℕ) : Type 0 where
  pub in_count : n.0 < t.count
  pub owned : owns s (bridge_at t n.0) ≡ true
  pub fits : Fits device function offset width
  pub bus_inside : bus_outside (bridge_at t n.0) bus ≡ false
  pub is_address : address_of (bridge_at t n.0) bus device function offset ≡ a

pub address_accepted : (t : Table) (s : SessionNumber) (n : BridgeNumber) (bus device function offset width a : ℕ)
    → (step t (on s n (address bus device function offset width))).outcome.number ≡ 0
    → (step t (on s n (address bus device function offset width))).outcome.result ≡ addressed a
    → Accepted t s n bus device function offset width a
unfolding step
address_accepted t s n bus device function offset width a e r =
    let b = bridge_at t n.0 in
    let o = address bus device function offset width in
    let k : number_at t.count s n b o ≡ 0 = sym (number_by (number_at t.count s n b o) b o) ∙ e in
    let z = clear ((1 if leb t.count n.0) ∷ (2 if not (owns s b)) ∷ (5 if place_bad device function offset width) ∷ (4 if bus_outside b bus) ∷ []) (omega arith) k in
    let i : addressed (address_of b bus device function offset) ≡ addressed a = ap (λ (m : ℕ). (outcome_by m b o).result) (sym k) ∙ r in
    record {
      in_count = leb-false t.count n.0 z.0;
      owned = not-false (owns s b) z.1.0;
      fits = place_fits device function offset width z.1.1.0;
      bus_inside = z.1.1.1.0;
      is_address = cc;
    }

-- ---- the bytes in reach of a given address lie in the window of a bridge of s

pub record Within (s : SessionNumber) (a w : ℕ) (t : Table) : Type 0 where
  pub bridge : ℕ
  pub in_count : bridge < t.count
  pub owned : owns s (bridge_at t bridge) ≡ true
  pub reach : (x : ℕ) → InReach a w x → in_window x (bridge_at t bridge) ≡ true

address_within : (s : SessionNumber) (t : Table) (n : BridgeNumber) (bus device function offset w a : ℕ) → Accepted t s n bus device function offset w a → Within s a w t
address_within s t n bus device function offset w a h = record {
  bridge = n.0;
  in_count = h.in_count;
  owned = h.owned;
  reach = λ x k. reached (bridge_at t n.0) bus device function offset w x h.bus_inside h.fits (subst (λ (y : ℕ). InReach y w x) (sym h.is_address) k);
}

call_within : (s : SessionNumber) (t : Table) (c : Call) (w a : ℕ) → session_of c ≡ s → width_of c ≡ some w
    → (step t c).outcome.number ≡ 0 → (step t c).outcome.result ≡ addressed a → Within s a w t
call_within s t (on r n (osc revision count uuid caps answer)) w a o e x y = absurd (none-ne-some w e)
call_within s t (on r n reset) w a o e x y = absurd (none-ne-some w e)
call_within s t (on r n report) w a o e x y = absurd (none-ne-some w e)
call_within s t (on r n (address bus device function offset width)) w a o e x y =
    let q : width ≡ w = cc in
    subst (λ (z : SessionNumber). Within z a w t) o (subst (λ (z : ℕ). Within r a z t) q
    (address_within r t n bus device function offset width a (address_accepted t r n bus device function offset width a x y)))
call_within s t (on r n (register_values slot block current)) w a o e x y = absurd (none-ne-some w e)
call_within s t (locate r at) w a o e x y = absurd (none-ne-some w e)

given_within : {s : SessionNumber} {a w : ℕ} {t : Table} {l : List Call} → Given s a w t l → Within s a w t
given_within {s} {a} {w} {t} (now {c = c} o e x y) = call_within s t c w a o e x y
given_within {s} {a} {w} {t} (later {c = c} g) =
    let h = given_within g in
    let u = (step t c).table in
    let f = same_bridges u t (fixed_step t c) h.bridge in
    record {
      bridge = h.bridge;
      in_count = subst (λ (x : Table). h.bridge < x.count) (fixed_step t c) h.in_count;
      owned = ap (owns s) (sym f) ∙ h.owned;
      reach = λ x k. ap (in_window x) (sym f) ∙ h.reach x k;
    }

either_run : {s : SessionNumber} {a w : ℕ} {t : Table} {l m : List Call} → Given s a w t l ⊎ Given s a w t m → Within s a w t
either_run (inl g) = given_within g
either_run (inr g) = given_within g

-- a bridge has one owner
pub one_owner : (q r : SessionNumber) (b : Bridge) → owns q b ≡ true → owns r b ≡ true → q ≡ r
one_owner q r b e f = same_session q r (eq-eqb q.0 r.0 (sym (eqb-true b.owner.0 q.0 e) ∙ eqb-true b.owner.0 r.0 f))

-- no byte in reach of an address given to q is in reach of one given to r, whichever run gave each
pub no_shared_byte : {t : Table} {l m : List Call} → Sound t → (q r : SessionNumber) → (q ≡ r → ⊥) → (a v b w : ℕ)
    → Given q a v t l ⊎ Given q a v t m → Given r b w t l ⊎ Given r b w t m → (x : ℕ) → InReach a v x → InReach b w x → ⊥
no_shared_byte {t} st q r ne a v b w g h x i j =
    let y = either_run g in
    let z = either_run h in
    st.windows_apart y.bridge z.bridge y.in_count z.in_count
    (λ e. ne (one_owner q r (bridge_at t z.bridge) (subst (λ (k : ℕ). owns q (bridge_at t k) ≡ true) e y.owned) z.owned))
    x (y.reach x i) (z.reach x j)
