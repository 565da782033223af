-- An address leads back to the one place it came from, and a place to its one address.
-- Assumes nothing.
use mathlib.Core.Path.{◌≡◌, refl, sym, ap, ap₂, ◌∙◌, subst}
use mathlib.Core.Logic.{◌↔◌}
use mathlib.Core.Bool.{Bool, true, false, cond}
use mathlib.Core.List.{List, [], ◌∷◌, map}
use mathlib.Core.Option.{Option, none, some}
use Prim.Native.Nat.{ℕ, zero, suc, ◌+◌, ◌-◌, ◌/◌, ◌^◌, ◌%◌, ◌≤◌, ◌<◌}
use native.Mathlib.Nat.{add-zero, zero-add, add-suc, suc-add, le_of_suc-le-suc, not-suc-le-zero}
use native.Mathlib.Decide.{ℕ_discrete}
use native.Mathlib.Omega.{arith}
use borrow.Author.Tests.{eq-eqb, leb-true, ltb-true, le-ltb, lt-leb}
use lib.Dec.{leb, ltb}
use lib.ListN.{length, get_or}
use Rattle.rules.specs.Lists.{find, is_none}
use Rattle.rules.specs.Refusals.{◌if◌, first_of}
use Rattle.rules.specs.Mcfg.{bus_start, bus_end}
use Rattle.rules.specs.Tables.{cleared, owns, no_bridge, bridge_at, bridges_of, fixed}
use Rattle.rules.specs.Place.{address_of, bus_outside, in_window, own_window, place_of}
use Rattle.rules.specs.Start.{Sound}
use Rattle.rules.specs.Calls.{address, on, locate, addressed, located, Outcome, number_at, window_of, place_by, locate_by, locate_in, step}
use Rattle.rules.specs.Claims.{address_call, answers}
use Rattle.rules.specs.declared.Bridge.{Bridge}
use Rattle.rules.specs.declared.SessionNumber.{SessionNumber}
use Rattle.rules.specs.declared.Table.{Table}
use Rattle.rules.proofs.Tests.{and-true, and_is, fails}
use Rattle.rules.proofs.Indexed.{take_map}
use Rattle.rules.proofs.Local.{bridge_fixed, same_bridges}
use Rattle.rules.proofs.Soundness.{in_table, table_long}
use Rattle.rules.proofs.Reach.{Fits, reached, Accepted, address_accepted, one_owner}
use Rattle.rules.specs.declared.Place.{Place}

-- ---- the first bridge that passes a test

find_first : (p : Bridge → Bool) (l : List Bridge) (k j : ℕ) → j < length l → p (get_or l j no_bridge) ≡ true
    → ((m : ℕ) → m < j → p (get_or l m no_bridge) ≡ false) → find p l k ≡ some (k + j)
find_first p [] k j h e f = absurd (not-suc-le-zero h)
find_first p (b ∷ l) k zero h e f = rw e (rw add-zero)
find_first p (b ∷ l) k (suc j) h e f =
    rw (f 0 (omega arith)) (find_first p l (suc k) j (le_of_suc-le-suc h) e (λ m q. f (suc m) (omega arith)) ∙ ap some (suc-add k j ∙ sym (add-suc k j)))

record Found (p : Bridge → Bool) (l : List Bridge) (k i : ℕ) : Type 0 where
  at : ℕ
  is : i ≡ k + at
  in_list : at < length l
  passes : p (get_or l at no_bridge) ≡ true

find_found : (p : Bridge → Bool) (l : List Bridge) (k i : ℕ) → find p l k ≡ some i → Found p l k i
find_found p [] k i e = let z : ◌≡◌ {A = ℕ} 0 1 = cc in absurd (omega arith)
find_found p (b ∷ l) k i e = go (λ h. find_found p l (suc k) i h) (p b) refl e
  where
    go : (find p l (suc k) ≡ some i → Found p l (suc k) i) → (q : Bool) → p b ≡ q → cond q (some k) (find p l (suc k)) ≡ some i → Found p (b ∷ l) k i
    go ih true h z = record { at = 0; is = cc (add-zero k); in_list = omega arith; passes = h }
    go ih false h z =
        let f = ih z in
        record { at = suc f.at; is = omega (arith, f.is); in_list = omega (arith, f.in_list); passes = f.passes }

-- a search whose test reads nothing held finds the same with nothing held
find_cleared : (p : Bridge → Bool) → ((b : Bridge) → p (cleared b) ≡ p b) → (l : List Bridge) (k : ℕ) → find p (map cleared l) k ≡ find p l k
find_cleared p e [] k = refl
find_cleared p e (b ∷ l) k = rw (e b, find_cleared p e l (suc k))

-- ---- locate reads the table itself as it reads it with nothing held

window_fixed : (t : Table) (s : SessionNumber) (a : ℕ) → window_of (fixed t) s a ≡ window_of t s a
window_fixed t s a = rw (take_map cleared t.count t.bridges) (find_cleared (own_window s a) (λ b. refl) (bridges_of t) 0)

place_fixed : (t : Table) (a : ℕ) (o : Option ℕ) → place_by (fixed t) a o ≡ place_by t a o
place_fixed t a none = refl
place_fixed t a (some i) = ap (λ (b : Bridge). place_of i b a) (bridge_fixed t i)

pub locate_is : (t : Table) (s : SessionNumber) (a : ℕ) → (step t (locate s a)).outcome ≡ locate_in t s a
unfolding step
locate_is t s a =
    ap₂ {B = Place} (λ (o : Option ℕ) q. locate_by (first_of ((4 if is_none o) ∷ [])) q) (window_fixed t s a)
    (ap (place_by (fixed t) a) (window_fixed t s a) ∙ place_fixed t a (window_of t s a))

-- at any other time it reads the same
locate_same : (u t : Table) → fixed u ≡ fixed t → (s : SessionNumber) (a : ℕ) → (step u (locate s a)).outcome ≡ (step t (locate s a)).outcome
unfolding step
locate_same u t e s a = ap (λ (x : Table). locate_in x s a) e

-- ---- there and back

-- the one bridge of s in whose window the address lies is found
one_found : (t : Table) → Sound t → (s : SessionNumber) (a i : ℕ) → i < t.count → own_window s a (bridge_at t i) ≡ true → window_of t s a ≡ some i
one_found t st s a i h e =
    find_first (own_window s a) (bridges_of t) 0 i (omega (arith, table_long t st)) (rw (in_table t i h) e)
    (λ m q. let y : m < t.count = omega arith in rw (in_table t m y) (fails _ (λ z.
    st.windows_apart m i y h (λ (n : m ≡ i). omega arith) a (and-true (owns s (bridge_at t m)) (in_window a (bridge_at t m)) z).1 (and-true (owns s (bridge_at t i)) (in_window a (bridge_at t i)) e).1)))
    ∙ ap some (zero-add i)

module _ (b : Bridge) (bus device function offset : ℕ) (f : Fits device function offset 1) where
  bus_back : (address_of b bus device function offset - b.base) / 2 ^ 20 ≡ bus
  bus_back = omega arith

  device_back : (address_of b bus device function offset - b.base) / 2 ^ 15 % 32 ≡ device
  device_back = omega arith

  function_back : (address_of b bus device function offset - b.base) / 2 ^ 12 % 8 ≡ function
  function_back = omega arith

  offset_back : (address_of b bus device function offset - b.base) % 2 ^ 12 ≡ offset
  offset_back = omega arith

narrow : {device function offset width : ℕ} → Fits device function offset width → Fits device function offset 1
narrow f = record { device_fits = f.device_fits; function_fits = f.function_fits; offset_fits = f.offset_fits; width_within = omega (arith, f.offset_fits) }

abbrev AcceptedAt : Table → SessionNumber → Place → ℕ → ℕ → Type 0
AcceptedAt t s p w a = Accepted t s p.bridge p.bus p.device p.function p.offset w a

accepted_at : (t : Table) (s : SessionNumber) (p : Place) (w a : ℕ) → (step t (address_call s p w)).outcome ≡ answers (addressed a) → AcceptedAt t s p w a
accepted_at t s p w a e =
    address_accepted t s p.bridge p.bus p.device p.function p.offset w a (ap (λ (o : Outcome). o.number) e) (ap (λ (o : Outcome). o.result) e)

-- the address lies in its bridge's window
lies : (t : Table) (s : SessionNumber) (p : Place) (w a : ℕ) → AcceptedAt t s p w a → in_window a (bridge_at t p.bridge.0) ≡ true
lies t s p w a h =
    let i : address_of (bridge_at t p.bridge.0) p.bus p.device p.function p.offset ≡ a = h.is_address in
    reached (bridge_at t p.bridge.0) p.bus p.device p.function p.offset 1 a h.bus_inside (narrow h.fits) (record { from = omega arith; below = omega arith })

-- an address given to a session, read back under it, gives the place asked for
address_back : (t : Table) → Sound t → (s : SessionNumber) (p : Place) (w a : ℕ) → AcceptedAt t s p w a → (step t (locate s a)).outcome ≡ answers (located p)
address_back t st s p w a h =
    let b = bridge_at t p.bridge.0 in
    let f : window_of t s a ≡ some p.bridge.0 = one_found t st s a p.bridge.0 h.in_count (and_is h.owned (lies t s p w a h)) in
    let g = narrow h.fits in
    locate_is t s a ∙ ap (λ (o : Option ℕ). locate_by (first_of ((4 if is_none o) ∷ [])) (place_by t a o)) f
    ∙ subst (λ (x : ℕ). locate_by 0 (place_of p.bridge.0 b x) ≡ answers (located p)) h.is_address
    (rw (bus_back b p.bus p.device p.function p.offset g, device_back b p.bus p.device p.function p.offset g, function_back b p.bus p.device p.function p.offset g, offset_back b p.bus p.device p.function p.offset g))

-- ---- back and there

module _ (t : Table) (s : SessionNumber) (a i : ℕ) (h : i < t.count) (m : own_window s a (bridge_at t i) ≡ true)
    (bus device function offset : ℕ) (eb : (a - (bridge_at t i).base) / 2 ^ 20 ≡ bus) (ed : (a - (bridge_at t i).base) / 2 ^ 15 % 32 ≡ device)
    (ef : (a - (bridge_at t i).base) / 2 ^ 12 % 8 ≡ function) (eo : (a - (bridge_at t i).base) % 2 ^ 12 ≡ offset) where
  abbrev b : Bridge
  b = bridge_at t i

  window : (bus_start b.base b.first_bus ≤ a) × (a < bus_end b.base b.last_bus)
  window =
      let w = and-true (leb (bus_start b.base b.first_bus) a) (ltb a (bus_end b.base b.last_bus)) (and-true (owns s b) (in_window a b) m).1 in
      (leb-true _ _ w.0, ltb-true _ _ w.1)

  none_applies : number_at t.count s (record { 0 = i }) b (address bus device function offset 1) ≡ 0
  none_applies =
      let w = window in
      rw (
        lt-leb t.count i h,
        (and-true (owns s b) (in_window a b) m).0,
        le-ltb 31 device (omega arith),
        le-ltb 7 function (omega arith),
        le-ltb 4095 offset (omega arith),
        eq-eqb (offset % 1) 0 (omega arith),
        le-ltb bus b.first_bus (omega arith),
        le-ltb b.last_bus bus (omega arith),
      )

  leads_back : address_of b bus device function offset ≡ a
  leads_back = let w = window in omega arith

  placed : (step t (on s (record { 0 = i }) (address bus device function offset 1))).outcome ≡ answers (addressed a)
  unfolding step
  placed = rw (none_applies, leads_back)

-- a place so read, asked for under that session with width 1, gives that address
back_address : (t : Table) → Sound t → (s : SessionNumber) (p : Place) (a : ℕ)
    → (step t (locate s a)).outcome ≡ answers (located p) → (step t (address_call s p 1)).outcome ≡ answers (addressed a)
back_address t st s p a e = go (window_of t s a) refl (sym (locate_is t s a) ∙ e)
  where
    go : (o : Option ℕ) → window_of t s a ≡ o → locate_by (first_of ((4 if is_none o) ∷ [])) (place_by t a o) ≡ answers (located p)
        → (step t (address_call s p 1)).outcome ≡ answers (addressed a)
    go none h z = let y : ◌≡◌ {A = ℕ} 4 0 = ap (λ (x : Outcome). x.number) z in absurd (omega arith)
    go (some i) h z =
        let r : located (place_of i (bridge_at t i) a) ≡ located p = ap (λ (x : Outcome). x.result) z in
        let q : place_of i (bridge_at t i) a ≡ p = cc in
        let f = find_found (own_window s a) (bridges_of t) 0 i h in
        let k : f.at ≡ i = sym (zero-add f.at) ∙ sym f.is in
        let y : i < t.count = omega (arith, f.in_list, table_long t st) in
        let m : own_window s a (bridge_at t i) ≡ true =
        ap (own_window s a) (sym (in_table t i y)) ∙ subst (λ (x : ℕ). own_window s a (get_or (bridges_of t) x no_bridge) ≡ true) k f.passes in
        let o = place_of i (bridge_at t i) a in
        subst (λ (x : Place). (step t (address_call s x 1)).outcome ≡ answers (addressed a)) q
        (placed t s a i y m o.bus o.device o.function o.offset refl refl refl refl)

-- ---- at any two times: tables that differ in nothing fixed

module _ (u t : Table) (e : fixed u ≡ fixed t) where
  accepted_like : (s : SessionNumber) (p : Place) (w a : ℕ) → AcceptedAt u s p w a → AcceptedAt t s p w a
  accepted_like s p w a h =
      let f = same_bridges u t e p.bridge.0 in
      record {
        in_count = subst (λ (x : Table). p.bridge.0 < x.count) e h.in_count;
        owned = ap (owns s) (sym f) ∙ h.owned;
        fits = h.fits;
        bus_inside = ap (λ (b : Bridge). bus_outside b p.bus) (sym f) ∙ h.bus_inside;
        is_address = ap (λ (b : Bridge). address_of b p.bus p.device p.function p.offset) (sym f) ∙ h.is_address;
      }

  pub there_and_back_like : Sound t → (s : SessionNumber) (p : Place) (w a : ℕ)
      → (step u (address_call s p w)).outcome ≡ answers (addressed a) → (step t (locate s a)).outcome ≡ answers (located p)
  there_and_back_like st s p w a h = address_back t st s p w a (accepted_like s p w a (accepted_at u s p w a h))

  pub back_and_there_like : Sound t → (s : SessionNumber) (p : Place) (a : ℕ)
      → (step u (locate s a)).outcome ≡ answers (located p) → (step t (address_call s p 1)).outcome ≡ answers (addressed a)
  back_and_there_like st s p a h = back_address t st s p a (sym (locate_same u t e s a) ∙ h)

  -- one address, one place
  pub one_address_like : Sound t → (s r : SessionNumber) (p q : Place) (v w a b : ℕ)
      → (step u (address_call s p v)).outcome ≡ answers (addressed a) → (step t (address_call r q w)).outcome ≡ answers (addressed b) → (a ≡ b) ↔ (p ≡ q)
  one_address_like st s r p q v w a b x y = (same_place, same_address)
    where
      ha : AcceptedAt t s p v a
      ha = accepted_like s p v a (accepted_at u s p v a x)

      hb : AcceptedAt t r q w b
      hb = accepted_at t r q w b y

      same_address : p ≡ q → a ≡ b
      same_address k = sym ha.is_address ∙ ap (λ (z : Place). address_of (bridge_at t z.bridge.0) z.bus z.device z.function z.offset) k ∙ hb.is_address

      same_bridge : a ≡ b → p.bridge.0 ≡ q.bridge.0
      same_bridge k = elim (ℕ_discrete p.bridge.0 q.bridge.0) [
        | yes z ↦ z
        | no z ↦ absurd (st.windows_apart p.bridge.0 q.bridge.0 ha.in_count hb.in_count z a (lies t s p v a ha)
            (subst (λ (c : ℕ). in_window c (bridge_at t q.bridge.0) ≡ true) (sym k) (lies t r q w b hb)))
      ]

      same_place : a ≡ b → p ≡ q
      same_place k =
          let o : s ≡ r = one_owner s r (bridge_at t q.bridge.0) (subst (λ (i : ℕ). owns s (bridge_at t i) ≡ true) (same_bridge k) ha.owned) hb.owned in
          let z : answers (located p) ≡ answers (located q) =
          sym (address_back t st s p v a ha) ∙ ap₂ {B = ℕ} (λ (i : SessionNumber) c. (step t (locate i c)).outcome) o k ∙ address_back t st r q w b hb in
          let l : located p ≡ located q = ap (λ (o : Outcome). o.result) z in
          cc
