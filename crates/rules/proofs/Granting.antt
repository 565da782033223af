-- What a bridge grants: below 2^32; asked for again, it is granted whole; on rows of the old edition, as it was.
-- Assumes nothing.
use mathlib.Core.Path.{◌≡◌, refl, sym, ap, ap₂, ◌∙◌}
use mathlib.Core.Logic.{◌⊎◌, inl, inr}
use mathlib.Core.Bool.{Bool, true, false, not, cond, ◌&&◌, ◌||◌, false≢true, true≢false, and-true as and-on}
use mathlib.Core.List.{List}
use Prim.Native.Nat.{ℕ, zero, suc, ◌^◌, ◌≤◌, ◌<◌}
use native.Mathlib.Omega.{arith}
use native.Mathlib.Decide.{dec_lt}
use borrow.Author.Tests.{eq-eqb}
use lib.Bits.{bit_and, bit_or, and_zero_l}
use lib.Dec.{eqb, leb}
use lib.ListN.{length, get_or}
use lib.Pow.{pow_mono}
use Rattle.rules.specs.Numbers.{bit, within, number}
use Rattle.rules.specs.Limits.{max_owner}
use Rattle.rules.specs.Lists.{is_none}
use Rattle.rules.specs.Start.{entry_of, express, conventional, permissible}
use Rattle.rules.specs.Granting.{Needs, needs_of, granted_by}
use Rattle.rules.specs.Editions.{edition30, edition33, controls30, controls33, control_bits, known_control, known_support}
use Rattle.rules.specs.Osc.{declared, granted, support, control, osc_answer, osc_after}
use Rattle.rules.specs.Claims.{old_needs, old_available, old_granted_bit, old_granted, OldRows}
use Rattle.rules.specs.declared.Bridge.{Bridge}
use Rattle.rules.proofs.Tests.{same_test, and_off}
use Rattle.rules.proofs.Bits.{bit_and_lem, bit_or_lem}
use Rattle.rules.proofs.Sets.{bit_number, bit_high, bits_are, same_set, within_sub, sub_within}
use Rattle.rules.proofs.Largest.{granted_is_largest, granted_by_lt, granted_by_again}
use Rattle.rules.proofs.OnePass.{closed, by_masks}

-- an edition has few bits
few : (edition : ℕ) → length (control_bits edition) ≤ 32
unfolding control_bits
few edition = go (eqb edition 1)
  where
    go : (q : Bool) → length (cond q controls33 controls30) ≤ 32
    go true = omega arith
    go false = omega arith

module _ (b : Bridge) (w r : ℕ) where
  abbrev bits : List Needs
  bits = control_bits b.edition

  pub granted_lt : granted b w r < 2 ^ 32
  unfolding granted
  granted_lt =
      let m : 2 ^ length bits ≤ 2 ^ 32 = pow_mono (few b.edition) in
      omega (arith, granted_by_lt bits b.permitted b.held (declared b w) r, m)

  -- what is granted was requested
  pub granted_within : within (granted b w r) r ≡ true
  unfolding granted
  granted_within =
      let g = granted_by bits b.permitted b.held (declared b w) r in
      sub_within g r (λ i e. ((granted_is_largest bits b.permitted b.held (declared b w) r).fits i e).0)

  -- asked for what was granted, just that is granted
  pub granted_again : granted b w (granted b w r) ≡ granted b w r
  unfolding granted
  granted_again = granted_by_again bits b.permitted b.held (declared b w) r

-- ---- the old edition

bit_16 : (i : ℕ) → bit 16 i ≡ true → i ≡ 4
unfolding bit
bit_16 zero e = absurd (false≢true e)
bit_16 (suc zero) e = absurd (false≢true e)
bit_16 (suc (suc zero)) e = absurd (false≢true e)
bit_16 (suc (suc (suc zero))) e = absurd (false≢true e)
bit_16 (suc (suc (suc (suc zero)))) e = refl
bit_16 (suc (suc (suc (suc (suc i))))) e = absurd (true≢false (sym e ∙ bit_high 5 16 (suc (suc (suc (suc (suc i))))) (omega arith) (omega arith)))

bit_4 : bit 16 4 ≡ true
unfolding bit
bit_4 = refl

-- what a bit needs, those of the bits that it needs among it
pub closed30 : closed controls30 ≡ true
unfolding bit
closed30 = refl

-- bit 4 is in a set just where the set of bit 4 lies within it
within_16 : (x : ℕ) → within 16 x ≡ bit x 4
within_16 x = same_test (within 16 x) (bit x 4) (λ e. within_sub 16 x e 4 bit_4) (λ e. sub_within 16 x (λ j q. ap (bit x) (bit_16 j q) ∙ e))

pub within_0 : (x : ℕ) → within 0 x ≡ true
within_0 x = eq-eqb (bit_and 0 x) 0 (and_zero_l x)

no_support : (i : ℕ) → (needs_of controls30 i).supports ≡ 0
no_support zero = refl
no_support (suc zero) = refl
no_support (suc (suc zero)) = refl
no_support (suc (suc (suc zero))) = refl
no_support (suc (suc (suc (suc zero)))) = refl
no_support (suc (suc (suc (suc (suc i))))) = refl

-- the granted set of the old edition by masks, whatever is declared
module _ (p h u r m : ℕ) where
  pub masks_30 : ((i : ℕ) → i < 5 → bit m i ≡ within (needs_of controls30 i).controls (bit_and (bit_and r 0x1F) (bit_or h p)))
      → bit_and (bit_and (bit_and r 0x1F) (bit_or h p)) (bit_or h m) ≡ granted_by controls30 p h u r
  masks_30 = by_masks controls30 closed30 p h u r 0x1F p m refl (λ i k. rw (no_support i, within_0 u) (sym (and-on (bit p i))))

module _ (b : Bridge) (e : b.edition ≡ edition30) (w r : ℕ) where
  abbrev a : ℕ
  a = bit_and (bit_and r 0x1F) (bit_or b.held b.permitted)

  abbrev met : ℕ → Bool
  met i = within (needs_of controls30 i).controls a

  abbrev m : ℕ
  m = number 5 met

  bits_30 : control_bits b.edition ≡ controls30
  unfolding control_bits
  bits_30 = ap control_bits e

  by_mask : granted b w r ≡ bit_and a (bit_or b.held m)
  unfolding granted
  by_mask =
      ap (λ (l : List Needs). granted_by l b.permitted b.held (declared b w) r) bits_30
      ∙ sym (masks_30 b.permitted b.held (declared b w) r m (bit_number 5 met))

  -- an available bit: requested, known, and held or permitted
  a_bit : (i : ℕ) → bit a i ≡ (bit r i && bit 0x1F i && (bit b.held i || bit b.permitted i))
  a_bit i =
      bit_and_lem (bit_and r 0x1F) (bit_or b.held b.permitted) i
      ∙ ap₂ (λ (s t : Bool). s && t) (bit_and_lem r 0x1F i) (bit_or_lem b.held b.permitted i)

  -- bit 4 is available as it was
  available_4 : bit a 4 ≡ bit (old_available b r) 4
  unfolding bit
  available_4 =
      a_bit 4 ∙ rw (and-on (bit r 4))
      (sym (bit_and_lem r (bit_or b.held b.permitted) 4 ∙ ap (λ (t : Bool). bit r 4 && t) (bit_or_lem b.held b.permitted 4)))

  alike : within 16 a ≡ within 16 (old_available b r)
  alike = within_16 a ∙ available_4 ∙ sym (within_16 (old_available b r))

  none : within 0 a ≡ within 0 (old_available b r)
  none = within_0 a ∙ sym (within_0 (old_available b r))

  -- a bit's needs are met as they were
  same_needs : (i : ℕ) → i < 5 → met i ≡ within (get_or old_needs i 0) (old_available b r)
  same_needs zero k = alike
  same_needs (suc zero) k = none
  same_needs (suc (suc zero)) k = alike
  same_needs (suc (suc (suc zero))) k = alike
  same_needs (suc (suc (suc (suc zero)))) k = none
  same_needs (suc (suc (suc (suc (suc i))))) k = absurd (omega arith)

  pub old_bit : (i : ℕ) → bit (granted b w r) i ≡ old_granted_bit b r i
  old_bit i =
      ap (λ (x : ℕ). bit x i) by_mask ∙ bit_and_lem a (bit_or b.held m) i ∙ ap₂ (λ (s t : Bool). s && t) (a_bit i) (bit_or_lem b.held m i)
      ∙ elim (dec_lt i 5) [ yes k ↦ known k | no k ↦ above (omega arith) ]
    where
      Same : Type 0
      Same = ((bit r i && bit 0x1F i && (bit b.held i || bit b.permitted i)) && (bit b.held i || bit m i)) ≡ old_granted_bit b r i

      same : (x h p q : Bool) → (x && (h || p)) && (h || q) ≡ (x && (h || (p && q)))
      same false h p q = refl
      same true true p q = refl
      same true false true q = refl
      same true false false q = refl

      known : i < 5 → Same
      known k =
          rw (bit_number 5 met i k, same_needs i k)
          (same (bit r i && bit 0x1F i) (bit b.held i) (bit b.permitted i) (within (get_or old_needs i 0) (old_available b r)))

      above : 5 ≤ i → Same
      above k = rw (bit_high 5 0x1F i (omega arith) k, and_off (bit r i))

-- on the old edition the support DWORD does not count; the same one gives the same
pub granted_support : (b : Bridge) (v w r : ℕ) → (b.edition ≡ edition30) ⊎ (v ≡ w) → granted b v r ≡ granted b w r
granted_support b v w r (inl e) = same_set (granted b v r) (granted b w r) (λ i. old_bit b e v r i ∙ sym (old_bit b e w r i))
granted_support b v w r (inr e) = ap (λ (x : ℕ). granted b x r) e

old_below : (b : Bridge) (r i : ℕ) → 32 ≤ i → old_granted_bit b r i ≡ false
old_below b r i k = rw (bit_high 32 0x1F i (omega arith) k, and_off (bit r i))

old_set : (b : Bridge) → b.edition ≡ edition30 → (w r : ℕ) → granted b w r ≡ old_granted b r
old_set b e w r = same_set (granted b w r) (old_granted b r) (λ i. old_bit b e w r i ∙ sym (bits_are 32 (old_granted_bit b r) (old_below b r) i))

-- one test more, of the edition, which passes
test_more : (x e p q : Bool) → e ≡ true → p ≡ q → (x && e && p) ≡ (x && q)
test_more x e p q h k = rw (h, k, and-on x)

pub old_rows : OldRows
unfolding known_control known_support control_bits osc_answer osc_after
old_rows = (
  λ b e. (
    λ w r i. (old_bit b e w r i, old_set b e w r),
    λ revision count uuid caps. (rw (old_set b e (support caps) (control caps)), rw (old_set b e (support caps) (control caps), e)),
  ),
  λ es r e. test_more
      (leb r.owner.0 max_owner && leb r.first_bus r.last_bus && not (is_none (entry_of es r)) && (eqb r.kind express || eqb r.kind conventional))
      (eqb r.edition edition30 || eqb r.edition edition33) (within r.permitted (permissible r.kind r.edition))
      (within r.permitted (cond (eqb r.kind conventional) 0x02 0x1F)) (rw e) (rw e),
)
