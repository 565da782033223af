-- Document 02, d: the granting rule, stated "once over a list of bits and what each needs".
use Rattle.std.specs.Prelude.{ℕ, zero, suc, ◌<◌, ◌≡◌, Bool, true, ◌&&◌, ◌||◌, List, [], length, get_or}
use Rattle.rules.specs.Numbers.{bit, set_of, within, number}

-- "every control or support bit that the section .. requires with it", as two sets
pub record Needs : Type 0 where
  pub controls : ℕ
  pub supports : ℕ

-- a bit that needs these
abbrev pub needing : (controls supports : List ℕ) → Needs
needing controls supports = record { controls = set_of controls; supports = set_of supports }

-- what bit i of a list needs
abbrev pub needs_of : List Needs → ℕ → Needs
needs_of bits i = get_or bits i (needing [] [])

-- the "requested known bits" of a list of control bits, from bit 0 up, which are the known ones
unfoldable pub requested_known : List Needs → (requested : ℕ) → ℕ
requested_known bits requested = number (length bits) (λ i. bit requested i)

-- the rule for such a list, and for the bits permitted, held and declared
module _ (bits : List Needs) (permitted held declared : ℕ) where
  -- "is already held, or is permitted and has all the control bits it needs in the set and its needed support bits declared"
  abbrev pub stays : (set i : ℕ) → Bool
  stays set i = bit held i || (bit permitted i && within (needs_of bits i).controls set && within (needs_of bits i).supports declared)

  -- a "set of requested known bits in which each" does so
  abbrev pub Fits : (requested set : ℕ) → Type 0
  Fits requested set = (i : ℕ) → bit set i ≡ true → (bit requested i ≡ true) × (i < length bits) × (stays set i ≡ true)

  -- "the largest" such set: every other one lies within it
  pub record Largest (requested set : ℕ) : Type 0 where
    pub fits : Fits requested set
    pub largest : (other : ℕ) → Fits requested other → within other set ≡ true

  -- a set without the bits that do not stay in it
  unfoldable pub trim : ℕ → ℕ
  trim set = number (length bits) (λ i. bit set i && stays set i)

  -- so again, k times in all
  abbrev pub trimmed : (k : ℕ) → ℕ → ℕ
  trimmed zero set = set
  trimmed (suc k) set = trim (trimmed k set)

  -- "the granted set", found by trimming as often as there are bits; the claim `GrantedLargest` says that it is the largest
  unfoldable pub granted_by : (requested : ℕ) → ℕ
  granted_by requested = trimmed (length bits) (requested_known bits requested)
