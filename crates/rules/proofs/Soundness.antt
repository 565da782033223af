-- A sound table stays sound: Sound reads only what no call changes.
-- Assumes nothing.
use mathlib.Core.Path.{◌≡◌, sym, ap, ◌∙◌, subst}
use mathlib.Core.List.{List}
use Prim.Native.Nat.{ℕ, ◌≤◌, ◌<◌, ◌^◌}
use native.Mathlib.Omega.{arith}
use lib.ListN.{length, get_or, length-map}
use lib.Seq.{get_or-take, length-take-le}
use Rattle.rules.specs.Mcfg.{bus_end}
use Rattle.rules.specs.Tables.{cleared, no_bridge, bridge_at, bridges_of, fixed}
use Rattle.rules.specs.Place.{in_window}
use Rattle.rules.specs.Start.{Sound}
use Rattle.rules.specs.Calls.{Call, step, table_after}
use Rattle.rules.specs.declared.Bridge.{Bridge}
use Rattle.rules.specs.declared.Table.{Table}
use Rattle.rules.proofs.Local.{fixed_step, fixed_after, same_bridges}

module _ (u t : Table) (e : fixed u ≡ fixed t) where
  same_count : u.count ≡ t.count
  same_count = ap (λ (x : Table). x.count) e

  pub same_length : length u.bridges ≡ length t.bridges
  same_length = sym (length-map u.bridges cleared) ∙ ap (λ (x : Table). length x.bridges) e ∙ length-map t.bridges cleared

  pub sound_like : Sound t → Sound u
  sound_like h = record {
    full_length = same_length ∙ h.full_length;
    few = rw same_count h.few;
    windows_apart = λ i j p q ne a v w. h.windows_apart i j (rw same_count at p) (rw same_count at q) ne a
        (ap (in_window a) (sym (same_bridges u t e i)) ∙ v) (ap (in_window a) (sym (same_bridges u t e j)) ∙ w);
    window_ends = λ i p. subst (λ (b : Bridge). bus_end b.base b.last_bus ≤ 2 ^ 64) (sym (same_bridges u t e i)) (h.window_ends i (rw same_count at p));
  }

pub sound_step : (t : Table) (c : Call) → Sound t → Sound (step t c).table
sound_step t c = sound_like (step t c).table t (fixed_step t c)

pub sound_after : (t : Table) (l : List Call) → Sound t → Sound (table_after t l)
sound_after t l = sound_like (table_after t l) t (fixed_after l t)

-- ---- the bridges of a sound table

pub in_table : (t : Table) (i : ℕ) → i < t.count → get_or (bridges_of t) i no_bridge ≡ bridge_at t i
in_table t i h = get_or-take t.count t.bridges i no_bridge h

pub table_long : (t : Table) → Sound t → length (bridges_of t) ≡ t.count
table_long t st = length-take-le t.count t.bridges (omega (arith, st.full_length, st.few))
