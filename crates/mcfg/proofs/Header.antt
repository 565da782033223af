-- The header's conditions in the order in which the code tests them.
-- Assumes nothing.
use Prim.Native.Nat.{ℕ, ◌-◌, ◌/◌, ◌%◌, ◌≤◌, ◌<◌}
use mathlib.Core.Path.{◌≡◌}
use mathlib.Core.Bool.{true, false, ◌&&◌, and-true, and-false, and_assoc}
use mathlib.Core.List.{List}
use lib.Dec.{eqb}
use lib.ListN.{length, take}
use borrow.Author.Tests.{le-leb, lt-leb, eq-eqb, ne_eqb}
use Rattle.rules.specs.Limits.{max_entries}
use Rattle.rules.specs.Lists.{every, pairwise}
use Rattle.rules.specs.Numbers.{byte, dword, sum, same_bytes}
use Rattle.rules.specs.Mcfg.{entries, signature, entry_sound, share_no_bus, share_no_byte, mcfg_sound}
use Rattle.mcfg.specs.Rest.{header_sound}
use Rattle.mcfg.proofs.Entries.{entries_length}

module _ (m : List ℕ) where
  -- a condition that fails

  pub short : length m < 44 → header_sound m ≡ false
  unfolding header_sound
  short h = simp (lt-leb 44 (length m) h, and-false)

  pub other_letters : same_bytes (take 4 m) signature ≡ false → header_sound m ≡ false
  unfolding header_sound
  other_letters h = rw h

  pub other_length : (dword m 4 ≡ length m → ⊥) → header_sound m ≡ false
  unfolding header_sound
  other_length h = simp (ne_eqb (dword m 4) (length m) h, and-false)

  pub other_revision : (byte m 8 ≡ 1 → ⊥) → header_sound m ≡ false
  unfolding header_sound
  other_revision h = simp (ne_eqb (byte m 8) 1 h, and-false)

  pub part_entry : ((length m - 44) % 16 ≡ 0 → ⊥) → header_sound m ≡ false
  unfolding header_sound
  part_entry h = simp (ne_eqb ((length m - 44) % 16) 0 h, and-false)

  pub many_entries : max_entries < (length m - 44) / 16 → header_sound m ≡ false
  unfolding header_sound
  many_entries h = simp (entries_length m, lt-leb ((length m - 44) / 16) max_entries h, and-false)

  -- where all the others hold the sum decides
  pub by_sum : same_bytes (take 4 m) signature ≡ true → 44 ≤ length m → dword m 4 ≡ length m → byte m 8 ≡ 1
      → (length m - 44) % 16 ≡ 0 → (length m - 44) / 16 ≤ max_entries → header_sound m ≡ eqb (sum m % 256) 0
  unfolding header_sound
  by_sum letters long size revision whole few =
      simp (
        letters,
        le-leb 44 (length m) long,
        eq-eqb (dword m 4) (length m) size,
        eq-eqb (byte m 8) 1 revision,
        eq-eqb ((length m - 44) % 16) 0 whole,
        entries_length m,
        le-leb ((length m - 44) / 16) max_entries few,
        and-true,
      )

-- a table is sound where its header is, each entry is, and they are apart
pub sound_parts : (m : List ℕ)
    → mcfg_sound m ≡ (header_sound m && every entry_sound (entries m) && (pairwise share_no_bus (entries m) && pairwise share_no_byte (entries m)))
unfolding mcfg_sound header_sound
sound_parts m = and_assoc (header_sound m && every entry_sound (entries m)) (pairwise share_no_bus (entries m)) (pairwise share_no_byte (entries m))
