-- The entries of a table, record by record, and the window of a sound entry.
-- Assumes nothing.
use Rattle.std.proofs.Common.{◌≡◌, ℕ, zero, suc, ◌+◌, ◌-◌, ◌*◌, ◌/◌, ◌%◌, ◌^◌, ◌≤◌, ◌<◌, true, List, ◌∷◌, map, length, get_or, take, drop, leb, ltb, refl, sym, ap, ap₂, ◌∙◌, arith, drop-drop, length-drop}
use Rattle.std.specs.Simd.{first_chunks}
use Rattle.std.proofs.lemmas.List.{get_or-take, get_or-drop}
use borrow.Author.Tests.{eqb-true, leb-true, le-leb, ltb-true, lt-ltb}
use Rattle.rules.specs.Numbers.{word, qword}
use Rattle.rules.specs.Mcfg.{entries, entry_at, entries_from, bus_start, bus_end, entry_sound}
use Rattle.rules.specs.declared.Entry.{Entry}
use Rattle.rules.proofs.Tests.{and_l, and_r, same_test}
use Rattle.mcfg.specs.Rest.{entry_in, first_mib, last_mib}

-- the record of 16 bytes at a byte holds the entry there
module _ (m : List ℕ) (i : ℕ) where
  abbrev record_at : List ℕ
  record_at = take 16 (drop i m)

  same_byte : (k j : ℕ) → k < 16 → j ≡ i + k → get_or record_at k 0 ≡ get_or m j 0
  same_byte k j h e = get_or-take 16 (drop i m) k 0 h ∙ get_or-drop i m k 0 ∙ ap (λ (n : ℕ). get_or m n 0) (sym e)

  same_base : qword record_at 0 ≡ qword m i
  same_base =
      omega (
        arith,
        same_byte 0 i (omega arith) (omega arith),
        same_byte 1 (1 + i) (omega arith) (omega arith),
        same_byte 2 (2 + i) (omega arith) (omega arith),
        same_byte 3 (1 + (2 + i)) (omega arith) (omega arith),
        same_byte 4 (4 + i) (omega arith) (omega arith),
        same_byte 5 (1 + (4 + i)) (omega arith) (omega arith),
        same_byte 6 (2 + (4 + i)) (omega arith) (omega arith),
        same_byte 7 (1 + (2 + (4 + i))) (omega arith) (omega arith),
      )

  same_segment : word record_at 8 ≡ word m (8 + i)
  same_segment = omega (arith, same_byte 8 (8 + i) (omega arith) (omega arith), same_byte 9 (1 + (8 + i)) (omega arith) (omega arith))

  same_entry : entry_in record_at ≡ entry_at m i
  same_entry = cc (same_base, same_segment, same_byte 10 (10 + i) (omega arith) (omega arith), same_byte 11 (11 + i) (omega arith) (omega arith))

-- the first records hold the first entries
pub record_entries : (n : ℕ) (m : List ℕ) (i : ℕ) → map entry_in (first_chunks 16 n (drop i m)) ≡ entries_from n m i
record_entries zero m i = refl
record_entries (suc n) m i = ap₂ ◌∷◌ (same_entry m i) (ap (λ (b : List ℕ). map entry_in (first_chunks 16 n b)) next ∙ record_entries n m (16 + i))
  where
    next : drop 16 (drop i m) ≡ drop (16 + i) m
    next = drop-drop 16 i m ∙ ap (λ (k : ℕ). drop k m) (omega arith)

-- the records behind the header hold the entries
pub all_records : (m b : List ℕ) → b ≡ drop 44 m → map entry_in (first_chunks 16 (length b / 16) b) ≡ entries m
unfolding entries
all_records m b e = rw e (ap (λ (n : ℕ). map entry_in (first_chunks 16 n (drop 44 m))) count ∙ record_entries ((length m - 44) / 16) m 44)
  where
    count : length (drop 44 m) / 16 ≡ (length m - 44) / 16
    count = ap (λ (n : ℕ). n / 16) (length-drop 44 m)

from_length : (n : ℕ) (m : List ℕ) (i : ℕ) → length (entries_from n m i) ≡ n
from_length zero m i = refl
from_length (suc n) m i = ap suc (from_length n m (16 + i))

-- how many entries the bytes hold
pub entries_length : (m : List ℕ) → length (entries m) ≡ (length m - 44) / 16
unfolding entries
entries_length m = from_length ((length m - 44) / 16) m 44

-- the buses of a sound entry are in order
pub in_order : (e : Entry) → entry_sound e ≡ true → e.start_bus ≤ e.end_bus
in_order e h = leb-true e.start_bus e.end_bus (search (and_l, and_r))

-- its window ends at 2^64 at most
pub window_end : (e : Entry) → entry_sound e ≡ true → bus_end e.base e.end_bus ≤ 2 ^ 64
window_end e h = leb-true (bus_end e.base e.end_bus) (2 ^ 64) (search (and_l, and_r))

-- its base is a multiple of 2^20
whole_mib : (e : Entry) → entry_sound e ≡ true → e.base % 2 ^ 20 ≡ 0
whole_mib e h = eqb-true (e.base % 2 ^ 20) 0 (search (and_l, and_r))

-- so that its window is of whole MiB, and windows that share no MiB share no byte
pub windows_fit : (e f : Entry) → entry_sound e ≡ true → entry_sound f ≡ true
    → ltb (last_mib e) (first_mib f) ≡ leb (bus_end e.base e.end_bus) (bus_start f.base f.start_bus)
windows_fit e f s t = same_test _ _
    (λ h. let k = ltb-true (last_mib e) (first_mib f) h in le-leb (bus_end e.base e.end_bus) (bus_start f.base f.start_bus) (omega (arith, last, first)))
    (λ h. let k = leb-true (bus_end e.base e.end_bus) (bus_start f.base f.start_bus) h in lt-ltb (last_mib e) (first_mib f) (omega (arith, last, first)))
  where
    last : (last_mib e + 1) * 2 ^ 20 ≡ bus_end e.base e.end_bus
    last = let w = whole_mib e s in omega arith

    first : first_mib f * 2 ^ 20 ≡ bus_start f.base f.start_bus
    first = let w = whole_mib f t in omega arith
