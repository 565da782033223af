-- Where a bit needs all that the bits need which it needs, one look at the available bits gives the granted set.
-- Assumes nothing.
use mathlib.Core.Path.{◌≡◌, sym, ap, ◌∙◌}
use mathlib.Core.Logic.{◌⊎◌, inl, inr}
use mathlib.Core.Bool.{Bool, true, not, ◌&&◌, ◌||◌}
use mathlib.Core.List.{List}
use Prim.Native.Nat.{ℕ, zero, suc, ◌≤◌, ◌<◌}
use native.Mathlib.Omega.{arith}
use native.Mathlib.Decide.{dec_lt}
use borrow.Author.Tests.{eqb-true, ltb-true, lt-ltb, le-ltb}
use lib.Bits.{bit_and, bit_or}
use lib.Dec.{eqb, ltb}
use lib.ListN.{length}
use Rattle.rules.specs.Numbers.{bit, within, number}
use Rattle.rules.specs.Granting.{Needs, needs_of, stays, Fits, granted_by}
use Rattle.rules.proofs.Tests.{and-true, and_is, and_off, or_true, or_left, or_right, or_mono}
use Rattle.rules.proofs.Bits.{bit_and_lem, bit_or_lem}
use Rattle.rules.proofs.Sets.{number_lt, bit_number, number_bit, bit_high, within_sub, sub_within}
use Rattle.rules.proofs.Largest.{only}

-- the test passes for each number below n
abbrev below : ℕ → (ℕ → Bool) → Bool
below zero f = true
below (suc n) f = f n && below n f

below_at : (n : ℕ) (f : ℕ → Bool) → below n f ≡ true → (i : ℕ) → i < n → f i ≡ true
below_at zero f e i h = absurd (omega arith)
below_at (suc n) f e i h =
    let t = and-true (f n) (below n f) e in
    elim (dec_lt i n) [ yes k ↦ below_at n f t.1 i k | no k ↦ ap f (last i n h k) ∙ t.0 ]
  where
    last : (i n : ℕ) → i < suc n → (i < n → ⊥) → i ≡ n
    last i n h k = omega arith

-- what bit j needs is needed by bit i too, or is bit i
abbrev passes_on : List Needs → (i j : ℕ) → Bool
passes_on bits i j = within (needs_of bits j).controls (bit_or (needs_of bits i).controls (number (length bits) (λ k. eqb k i)))

-- so for each bit j that a bit i needs
abbrev pub closed : List Needs → Bool
closed bits = below (length bits) (λ i. below (length bits) (λ j. not (bit (needs_of bits i).controls j) || passes_on bits i j))

-- a: the available bits, requested and known, and held, or permitted with their support declared; m: the bits whose needs the available ones meet
module _ (bits : List Needs) (c : closed bits ≡ true) (p h u r a m : ℕ)
    (is_available : (i : ℕ) → bit a i ≡ (bit r i && ltb i (length bits) && (bit h i || (bit p i && within (needs_of bits i).supports u))))
    (is_met : (i : ℕ) → i < length bits → bit m i ≡ within (needs_of bits i).controls a) where
  abbrev n : ℕ
  n = length bits

  abbrev controls : ℕ → ℕ
  controls i = (needs_of bits i).controls

  abbrev supported : ℕ → Bool
  supported i = within (needs_of bits i).supports u

  abbrev set : ℕ
  set = bit_and a (bit_or h m)

  set_bit : (i : ℕ) → bit set i ≡ (bit a i && (bit h i || bit m i))
  set_bit i = bit_and_lem a (bit_or h m) i ∙ ap (λ (t : Bool). bit a i && t) (bit_or_lem h m i)

  -- what an available bit is
  taken_apart : (i : ℕ) → bit a i ≡ true → (bit r i ≡ true) × (i < n) × ((bit h i || (bit p i && supported i)) ≡ true)
  taken_apart i e =
      let v = and-true (bit r i && ltb i n) (bit h i || (bit p i && supported i)) (sym (is_available i) ∙ e) in
      let w = and-true (bit r i) (ltb i n) v.0 in
      (w.0, ltb-true i n w.1, v.1)

  passed_on : (i j : ℕ) → i < n → j < n → bit (controls i) j ≡ true → passes_on bits i j ≡ true
  passed_on i j k l e =
      rw e at (below_at n (λ j. not (bit (controls i) j) || passes_on bits i j) (below_at n (λ i. below n (λ j. not (bit (controls i) j) || passes_on bits i j)) c i k) j l)

  -- what an available bit with its needs met needs is in the set
  needs_stay : (i : ℕ) → bit a i ≡ true → within (controls i) a ≡ true → within (controls i) set ≡ true
  needs_stay i e w = sub_within (controls i) set (λ j x. set_bit j ∙ and_is (there j x) (or_right (bit h j) (bit m j) (met j x)))
    where
      there : (j : ℕ) → bit (controls i) j ≡ true → bit a j ≡ true
      there = within_sub (controls i) a w

      one : ℕ
      one = number n (λ k. eqb k i)

      either : (j k : ℕ) → (bit (controls i) k ≡ true) ⊎ (bit one k ≡ true) → bit a k ≡ true
      either j k (inl z) = there k z
      either j k (inr z) = ap (bit a) (eqb-true k i (number_bit n (λ k. eqb k i) k z).1) ∙ e

      met : (j : ℕ) → bit (controls i) j ≡ true → bit m j ≡ true
      met j x =
          let l = (taken_apart j (there j x)).1 in
          let q = passed_on i j (taken_apart i e).1 l x in
          is_met j l ∙ sub_within (controls j) a
          (λ k y. either j k (or_true (bit (controls i) k) (bit one k) (sym (bit_or_lem (controls i) one k) ∙ within_sub (controls j) (bit_or (controls i) one) q k y)))

  fits : Fits bits p h u r set
  fits i e =
      let q = and-true (bit a i) (bit h i || bit m i) (sym (set_bit i) ∙ e) in
      let t = taken_apart i q.0 in
      (t.0, t.1, stay q.0 t.1 (or_true (bit h i) (bit m i) q.1) (or_true (bit h i) (bit p i && supported i) t.2))
    where
      stay : bit a i ≡ true → i < n → (bit h i ≡ true) ⊎ (bit m i ≡ true) → (bit h i ≡ true) ⊎ ((bit p i && supported i) ≡ true) → stays bits p h u set i ≡ true
      stay q l (inl x) y = or_left (bit h i) (bit p i && within (controls i) set && supported i) x
      stay q l (inr x) (inl y) = or_left (bit h i) (bit p i && within (controls i) set && supported i) y
      stay q l (inr x) (inr y) =
          let z = and-true (bit p i) (supported i) y in
          or_right (bit h i) (bit p i && within (controls i) set && supported i) (and_is (and_is z.0 (needs_stay i q (sym (is_met i l) ∙ x))) z.1)

  module _ (f : ℕ) (t : Fits bits p h u r f) where
    -- a bit of a set that fits is available
    there : (i : ℕ) → bit f i ≡ true → bit a i ≡ true
    there i e =
        is_available i ∙ and_is (and_is (t i e).0 (lt-ltb i n (t i e).1))
        (or_mono (bit h i) (bit p i && within (controls i) f && supported i) (bit p i && supported i) without (t i e).2)
      where
        without : (bit p i && within (controls i) f && supported i) ≡ true → (bit p i && supported i) ≡ true
        without q =
            let w = and-true (bit p i && within (controls i) f) (supported i) q in
            and_is (and-true (bit p i) (within (controls i) f) w.0).0 w.1

    larger : within f set ≡ true
    larger = sub_within f set (λ i e. set_bit i ∙ and_is (there i e)
        (or_mono (bit h i) (bit p i && within (controls i) f && supported i) (bit m i) (met i (t i e).1) (t i e).2))
      where
        met : (i : ℕ) → i < n → (bit p i && within (controls i) f && supported i) ≡ true → bit m i ≡ true
        met i l q =
            let w = and-true (bit p i) (within (controls i) f) (and-true (bit p i && within (controls i) f) (supported i) q).0 in
            is_met i l ∙ sub_within (controls i) a (λ j x. there j (within_sub (controls i) f w.1 j x))

  pub one_pass : set ≡ granted_by bits p h u r
  one_pass = only bits p h u r set (record { fits = fits; largest = larger })

-- the same by masks: known are the list's bits, grantable those permitted with their support declared
module _ (bits : List Needs) (c : closed bits ≡ true) (p h u r known grantable m : ℕ)
    (is_known : known ≡ number (length bits) (λ i. true))
    (is_grantable : (i : ℕ) → i < length bits → bit grantable i ≡ (bit p i && within (needs_of bits i).supports u)) where
  abbrev a : ℕ
  a = bit_and (bit_and r known) (bit_or h grantable)

  is_available : (i : ℕ) → bit a i ≡ (bit r i && ltb i (length bits) && (bit h i || (bit p i && within (needs_of bits i).supports u)))
  is_available i =
      bit_and_lem (bit_and r known) (bit_or h grantable) i
      ∙ ap (λ (t : Bool). t && bit (bit_or h grantable) i) (bit_and_lem r known i)
      ∙ ap (λ (t : Bool). bit r i && bit known i && t) (bit_or_lem h grantable i)
      ∙ elim (dec_lt i (length bits)) [ yes k ↦ inside k | no k ↦ above (omega arith) ]
    where
      Same : Type 0
      Same = (bit r i && bit known i && (bit h i || bit grantable i)) ≡ (bit r i && ltb i (length bits) && (bit h i || (bit p i && within (needs_of bits i).supports u)))

      inside : i < length bits → Same
      inside k = rw (is_known, bit_number (length bits) (λ i. true) i k, lt-ltb i (length bits) k, is_grantable i k)

      above : length bits ≤ i → Same
      above k =
          rw (is_known, bit_high (length bits) (number (length bits) (λ i. true)) i (number_lt (length bits) (λ i. true)) k, le-ltb i (length bits) k, and_off (bit r i))

  pub by_masks : ((i : ℕ) → i < length bits → bit m i ≡ within (needs_of bits i).controls a) → bit_and a (bit_or h m) ≡ granted_by bits p h u r
  by_masks is_met = one_pass bits c p h u r a m is_available is_met
