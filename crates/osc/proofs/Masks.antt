-- The masks of the code give the granted set of each edition.
use Prim.Native.Nat.{ℕ}
use mathlib.Core.Path.{◌≡◌, refl, ap, ◌∙◌}
use mathlib.Core.Bool.{Bool, true, false, cond, not, ◌&&◌}
use mathlib.Core.List.{List}
use lib.Bits.{bit_and, bit_or}
use lib.Dec.{eqb}
use lib.ListN.{length}
use Rattle.codes.specs.Numbers.{edition_number, edition_of}
use Rattle.codes.specs.declared.Edition.{Edition}
use Rattle.codes.specs.declared.Edition.TheVariants.{V3_0, V3_3}
use Rattle.rules.specs.Numbers.{bit, within, number}
use Rattle.rules.specs.Granting.{Needs, needs_of, granted_by}
use Rattle.rules.specs.Editions.{controls30, controls33, control_bits, known_control, known_support}
use Rattle.rules.specs.Osc.{declared, granted}
use Rattle.rules.specs.declared.Bridge.{Bridge}
use Rattle.rules.proofs.Tests.{and_off}
use Rattle.rules.proofs.Bits.{bit_and_lem, mask_test}
use Rattle.std.proofs.lemmas.Nat.{and_comm}
use Rattle.rules.proofs.Sets.{bit_number, within_or}
use Rattle.rules.proofs.OnePass.{closed, by_masks}
use Rattle.osc.specs.Needs.{controls, needs_met, supports_met}

-- ---- the bits whose needs are met, each set of needs tested once

pub met_30 : (a : ℕ) → bit_or 0x12 (cond (within 0x10 a) 0x0D 0) ≡ needs_met (controls V3_0) a
unfolding needs_met control_bits
met_30 a = go (within 0x10 a) refl
  where
    go : (x : Bool) → within 0x10 a ≡ x → bit_or 0x12 (cond x 0x0D 0) ≡ number 5 (λ i. within (needs_of controls30 i).controls a)
    go true p = simp p
    go false p = simp p

-- with bit 4 bits 3 and 7 need each other; without it no bit that needs another has what it needs
pub met_33 : (a : ℕ) → within 0x10 a ≡ true → bit_or (bit_or 0x377 (cond (within 0x80 a) 0x08 0)) (cond (within 0x08 a) 0x80 0) ≡ needs_met (controls V3_3) a
unfolding needs_met control_bits
met_33 a e = go (within 0x80 a) (within 0x08 a) refl refl
  where
    go : (x y : Bool) → within 0x80 a ≡ x → within 0x08 a ≡ y
        → bit_or (bit_or 0x377 (cond x 0x08 0)) (cond y 0x80 0) ≡ number 10 (λ i. within (needs_of controls33 i).controls a)
    go true true p q = simp (within_or 0x10 0x80 a, within_or 0x08 0x10 a, e, p, q)
    go true false p q = simp (within_or 0x10 0x80 a, within_or 0x08 0x10 a, e, p, q)
    go false true p q = simp (within_or 0x10 0x80 a, within_or 0x08 0x10 a, e, p, q)
    go false false p q = simp (within_or 0x10 0x80 a, within_or 0x08 0x10 a, e, p, q)

pub free_33 : (a : ℕ) → within 0x10 a ≡ false → 0x250 ≡ needs_met (controls V3_3) a
unfolding needs_met control_bits
free_33 a e = simp (within_or 0x10 0x80 a, within_or 0x08 0x10 a, e, and_off (within 0x08 a))

-- no bit of edition 3.0 needs support
pub supports_30 : (u : ℕ) → 0x1F ≡ supports_met (controls V3_0) u
unfolding supports_met control_bits
supports_30 u = refl

pub supports_33 : (u : ℕ) → bit_or 0x37F (cond (within 0x80 u) 0x80 0) ≡ supports_met (controls V3_3) u
unfolding supports_met control_bits
supports_33 u = go (within 0x80 u) refl
  where
    go : (x : Bool) → within 0x80 u ≡ x → bit_or 0x37F (cond x 0x80 0) ≡ number 10 (λ i. within (needs_of controls33 i).supports u)
    go true p = simp p
    go false p = simp p

-- ---- the granted set of each edition

is_closed : (e : Edition) → closed (controls e) ≡ true
unfolding bit control_bits
is_closed V3_0 = refl
is_closed V3_3 = refl

pub granted_lem : (e : Edition) (p h u r k s m : ℕ) → k ≡ known_control (edition_number e) → s ≡ supports_met (controls e) u
    → m ≡ needs_met (controls e) (bit_and (bit_and r k) (bit_or h (bit_and p s)))
    → bit_and (bit_and (bit_and r k) (bit_or h (bit_and p s))) (bit_or h m) ≡ granted_by (controls e) p h u r
unfolding known_control supports_met needs_met
granted_lem e p h u r k s m known supported met = by_masks l (is_closed e) p h u r k (bit_and p s) m known
    (λ i j. bit_and_lem p s i ∙ ap (λ (t : Bool). bit p i && t) (ap (λ (x : ℕ). bit x i) supported ∙ bit_number (length l) (λ i. within (needs_of l i).supports u) i j))
    (λ i j. ap (λ (x : ℕ). bit x i) met ∙ bit_number (length l) (λ i. within (needs_of l i).controls (bit_and (bit_and r k) (bit_or h (bit_and p s)))) i j)
  where
    l : List Needs
    l = controls e

-- what a number says of an edition, the edition of that number says
controls_of : (n : ℕ) → controls (edition_of n) ≡ control_bits n
unfolding control_bits
controls_of n = go (eqb n 1)
  where
    go : (t : Bool) → control_bits (edition_number (cond t V3_3 V3_0)) ≡ cond t controls33 controls30
    go true = refl
    go false = refl

-- so the granted set of a bridge is that of its edition
pub granted_as : (b : Bridge) (e : Edition) (w r : ℕ) → e ≡ edition_of b.edition → granted_by (controls e) b.permitted b.held (declared b w) r ≡ granted b w r
unfolding granted
granted_as b e w r i = ap (λ (l : List Needs). granted_by l b.permitted b.held (declared b w) r) (ap controls i ∙ controls_of b.edition)

pub support_of : (n : ℕ) → known_support (edition_number (edition_of n)) ≡ known_support n
unfolding known_support
support_of n = go (eqb n 1)
  where
    go : (t : Bool) → known_support (edition_number (cond t V3_3 V3_0)) ≡ cond t 0x1FF 0x1F
    go true = refl
    go false = refl

-- the query flag
pub query_test : (x : ℕ) → not (eqb (bit_and x 1) 0) ≡ bit x 0
query_test x = mask_test x 0

pub ruleset needs = (met_30, met_33, free_33, and_comm)

pub ruleset supports = (supports_30, supports_33)
