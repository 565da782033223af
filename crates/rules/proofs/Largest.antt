-- The granted set is the largest of the requested known bits in which each stays, whatever list of bits and needs.
-- Assumes nothing.
use mathlib.Core.Path.{◌≡◌, sym, ap, ◌∙◌}
use mathlib.Core.Logic.{◌⊎◌, inl, inr}
use mathlib.Core.Bool.{true, ◌&&◌, true≢false}
use mathlib.Core.List.{List}
use Prim.Native.Nat.{ℕ, zero, suc, ◌+◌, ◌^◌, ◌≤◌, ◌<◌}
use native.Mathlib.Omega.{arith}
use native.Mathlib.Decide.{ℕ_discrete}
use lib.ListN.{length}
use Rattle.rules.specs.Numbers.{bit, within}
use Rattle.rules.specs.Granting.{Needs, needs_of, stays, Fits, Largest, requested_known, trim, trimmed, granted_by}
use Rattle.rules.specs.Editions.{control_bits}
use Rattle.rules.specs.Osc.{declared, granted}
use Rattle.rules.specs.Claims.{GrantedLargest}
use Rattle.rules.proofs.Tests.{and-true, and_is, or_mono}
use Rattle.rules.proofs.Bits.{same_bits}
use Rattle.rules.proofs.Sets.{Sub, number_lt, bit_number, number_bit, bit_below, within_sub, sub_within, same_sub, ones, ones_le, ones_sub, ones_same, ones_none}

module _ (bits : List Needs) (p h u : ℕ) where
  -- in a larger set a bit stays too
  stays_more : (g k i : ℕ) → Sub g k → stays bits p h u g i ≡ true → stays bits p h u k i ≡ true
  stays_more g k i s =
      let c = (needs_of bits i).controls in
      let w = within (needs_of bits i).supports u in
      or_mono (bit h i) (bit p i && within c g && w) (bit p i && within c k && w)
      (λ q. let r = and-true (bit p i && within c g) w q in
      let a = and-true (bit p i) (within c g) r.0 in
      and_is (and_is a.0 (sub_within c k (λ j x. s j (within_sub c g a.1 j x)))) r.1)

  trim_bit : (g i : ℕ) → bit (trim bits p h u g) i ≡ true → (bit g i ≡ true) × (stays bits p h u g i ≡ true)
  unfolding trim
  trim_bit g i e = and-true (bit g i) (stays bits p h u g i) (number_bit (length bits) (λ j. bit g j && stays bits p h u g j) i e).1

  trim_sub : (g : ℕ) → Sub (trim bits p h u g) g
  trim_sub g i e = (trim_bit g i e).0

  trim_lt : (g : ℕ) → trim bits p h u g < 2 ^ length bits
  unfolding trim
  trim_lt g = number_lt (length bits) (λ i. bit g i && stays bits p h u g i)

  in_trim : (g i : ℕ) → i < length bits → bit g i ≡ true → stays bits p h u g i ≡ true → bit (trim bits p h u g) i ≡ true
  unfolding trim
  in_trim g i l a b = bit_number (length bits) (λ j. bit g j && stays bits p h u g j) i l ∙ and_is a b

  module _ (r : ℕ) where
    asked_bit : (i : ℕ) → bit (requested_known bits r) i ≡ true → (i < length bits) × (bit r i ≡ true)
    unfolding requested_known
    asked_bit = number_bit (length bits) (λ j. bit r j)

    in_asked : (i : ℕ) → i < length bits → bit r i ≡ true → bit (requested_known bits r) i ≡ true
    unfolding requested_known
    in_asked i l e = bit_number (length bits) (λ j. bit r j) i l ∙ e

    asked_lt : requested_known bits r < 2 ^ length bits
    unfolding requested_known
    asked_lt = number_lt (length bits) (λ j. bit r j)

    -- the set after k rounds
    abbrev after : ℕ → ℕ
    after k = trimmed bits p h u k (requested_known bits r)

    after_lt : (k : ℕ) → after k < 2 ^ length bits
    after_lt zero = asked_lt
    after_lt (suc k) = trim_lt (after k)

    after_asked : (k : ℕ) → Sub (after k) (requested_known bits r)
    after_asked zero i e = e
    after_asked (suc k) i e = after_asked k i (trim_sub (after k) i e)

    -- a set that fits loses no bit
    none_lost : (f : ℕ) → Fits bits p h u r f → (k : ℕ) → Sub f (after k)
    none_lost f t zero i e = in_asked i (t i e).1 (t i e).0
    none_lost f t (suc k) i e =
        in_trim (after k) i (t i e).1 (none_lost f t k i e) (stays_more f (after k) i (none_lost f t k) (t i e).2)

    -- a round loses a bit, or nothing more is lost
    abbrev n : ℕ
    n = length bits

    settles : (k : ℕ) → (trim bits p h u (after k) ≡ after k) ⊎ (ones n (after k) + k ≤ n)
    settles zero = inr (omega (arith, ones_le n (after 0)))
    settles (suc k) = go (settles k)
      where
        less : (a b c : ℕ) → a ≤ b → (a ≡ b → ⊥) → b + c ≤ n → a + suc c ≤ n
        less a b c x y z = omega arith

        go : (trim bits p h u (after k) ≡ after k) ⊎ (ones n (after k) + k ≤ n)
            → (trim bits p h u (after (suc k)) ≡ after (suc k)) ⊎ (ones n (after (suc k)) + suc k ≤ n)
        go (inl q) = inl (ap (trim bits p h u) q)
        go (inr q) = elim (ℕ_discrete (ones n (after (suc k))) (ones n (after k))) [
          | yes x ↦ inl (ap (trim bits p h u) (same_bits n (after (suc k)) (after k) (after_lt (suc k)) (after_lt k) (ones_same n (after (suc k)) (after k) (trim_sub (after k)) x)))
          | no x ↦ inr (less (ones n (after (suc k))) (ones n (after k)) k (ones_sub n (after (suc k)) (after k) (trim_sub (after k))) x q)
        ]

    settled : trim bits p h u (after n) ≡ after n
    settled = go (settles n)
      where
        go : (trim bits p h u (after n) ≡ after n) ⊎ (ones n (after n) + n ≤ n) → trim bits p h u (after n) ≡ after n
        go (inl q) = q
        go (inr q) = same_sub (trim bits p h u (after n)) (after n) (trim_sub (after n))
            (λ i e. absurd (true≢false (sym e ∙ ones_none n (after n) (omega arith) i (bit_below n (after n) i (after_lt n) e))))

  pub granted_is_largest : (r : ℕ) → Largest bits p h u r (granted_by bits p h u r)
  unfolding granted_by
  granted_is_largest r = record {
    fits = λ i e. let a = asked_bit r i (after_asked r (length bits) i e) in
        (a.1, a.0, (trim_bit (after r (length bits)) i (ap (λ (x : ℕ). bit x i) (settled r) ∙ e)).1);
    largest = λ f t. sub_within f (after r (length bits)) (none_lost r f t (length bits));
  }

  pub granted_by_lt : (r : ℕ) → granted_by bits p h u r < 2 ^ length bits
  unfolding granted_by
  granted_by_lt r = after_lt r (length bits)

  -- there is one largest set: however it is found, it is the granted one
  pub only : (r g : ℕ) → Largest bits p h u r g → g ≡ granted_by bits p h u r
  only r g a =
      let b = granted_is_largest r in
      let k = granted_by bits p h u r in
      same_sub g k (within_sub g k (b.largest g a.fits)) (within_sub k g (a.largest k b.fits))

  -- asked for what was granted, just that is granted
  pub granted_by_again : (r : ℕ) → granted_by bits p h u (granted_by bits p h u r) ≡ granted_by bits p h u r
  granted_by_again r =
      let g = granted_by bits p h u r in
      let a = granted_is_largest r in
      sym (only g g (record {
        fits = λ i e. (e, (a.fits i e).1, (a.fits i e).2);
        largest = λ f t. sub_within f g (λ i e. (t i e).0);
      }))

pub granted_largest : GrantedLargest
unfolding granted
granted_largest = (granted_is_largest, λ b w r. granted_is_largest (control_bits b.edition) b.permitted b.held (declared b w) r)
