-- What is written is a sound block in which each record is found as it was given, and a block of records read and written again is the same.
-- Assumes nothing.
use mathlib.Core.Path.{◌≡◌, refl, sym, ap, ◌∙◌}
use mathlib.Core.Bool.{Bool, true, ◌&&◌, true≢false}
use mathlib.Core.List.{List, [], ◌∷◌, ◌++◌, map}
use mathlib.Core.Option.{Option, none, some}
use Prim.Native.Nat.{ℕ, zero, suc, ◌≤◌, ◌<◌}
use native.Mathlib.Omega.{arith}
use borrow.Author.Tests.{ltb-false, not-false, le-leb, le-ltb, lt-ltb, ne_eqb}
use lib.Dec.{leb, ltb, leb-zero}
use lib.ListN.{length, drop, length-append, length-drop}
use lib.Seq.{take-append_seam, drop-append_seam}
use Rattle.rules.specs.Limits.{max_block}
use Rattle.rules.specs.Lists.{every, pairwise}
use Rattle.rules.specs.Refusals.{first_of}
use Rattle.rules.specs.Records.{fields_of, is_record, field_sound, not_twice, sound_fields, block_sound, find_record}
use Rattle.rules.specs.Writer.{Setting, present_in, laid_down, setting_sound, write_refusals, written_by, write_records, buffer_after, read_settings, place_among, rising_records, only_rising, dwords_in}
use Rattle.rules.specs.Claims.{written_part, WrittenSound, WrittenReadBack, ReadWrittenAgain}
use Rattle.rules.specs.declared.Field.{Field}
use Rattle.rules.specs.declared.Settings.{Settings}
use Rattle.rules.proofs.Tests.{and-true, and_is, and_off}
use Rattle.rules.proofs.Refusals.{clear}
use Rattle.rules.proofs.Rising.{every_of, pairwise_of}
use Rattle.rules.proofs.Whole.{setting_at, Whole, Fields, is_record_lem, all_same, all_whole}
use Rattle.rules.proofs.Laying.{Records, laid_most, placed_from, fields_read, settings_read, fields_whole, answer_by, place_found, present_rising}
use Rattle.rules.proofs.Again.{found_by_type, settings_same, block_again}

-- ---- records laid down, as a block

module _ (rs : List Setting) (k : Records 0 rs) (a : dwords_in rs ≡ true) where
  abbrev l : List ℕ
  l = laid_down rs

  abbrev r : List Field
  r = placed_from 0 rs

  -- its fields, which are whole and hold the records
  fields : fields_of l ≡ some r
  unfolding fields_of
  fields = fields_read l (length l) 0 0 rs k refl (omega arith) (omega arith)

  are_whole : Fields l 0 r
  are_whole = fields_whole l 0 0 rs k a refl

  same_settings : map (setting_at l) r ≡ rs
  same_settings = settings_read l 0 rs a refl

  -- what holds where the type rises holds of every pair
  by_type : (q : Field → Field → Bool) → ((f g : Field) → f.tag < g.tag → q f g ≡ true) → pairwise q r ≡ true
  by_type q h = pairwise_of (λ (f : Field). f.tag) (Whole l) q h 0 r are_whole

  -- it is a sound block of records by rising type
  laid_rising : only_rising l ≡ true
  unfolding only_rising
  laid_rising =
      ap (rising_records l) fields
      ∙ and_is (every_of (λ (f : Field). f.tag) (Whole l) (is_record l) 0 (λ f h w. is_record_lem l f w) r are_whole)
      (by_type (λ f g. ltb f.tag g.tag) (λ f g h. lt-ltb f.tag g.tag h))

  laid_short : leb (length l) max_block ≡ true
  unfolding max_block
  laid_short = le-leb (length l) max_block (omega (arith, laid_most 0 rs (omega arith) k))

  laid_sound : every setting_sound rs ≡ true → block_sound l ≡ true
  unfolding block_sound
  laid_sound s =
      and_is laid_short (ap (sound_fields l) fields ∙ and_is
      (all_same l 0 r are_whole ∙ ap (every setting_sound) same_settings ∙ s)
      (by_type (not_twice l) (λ f g h. rw (ne_eqb f.tag g.tag (λ e. omega arith), and_off (is_record l f && is_record l g)))))

  -- read, it gives the records, each at its place
  laid_read : present_in (read_settings l) ≡ rs
  laid_read = settings_same l r fields are_whole ∙ same_settings

  laid_found : every setting_sound rs ≡ true → (type : ℕ) → find_record [] l type ≡ place_among type 0 rs
  laid_found s type = rw (laid_sound s) (ap answer_by (found_by_type l r fields are_whole type) ∙ place_found type 0 rs)

-- ---- the writer, not refused

-- the number is 0: no value breaks a range, and the buffer has room
record Accepted (s : Settings) (buffer : List ℕ) : Type 0 where
  number_is : first_of (write_refusals s buffer) ≡ 0
  in_range_lem : every setting_sound (present_in s) ≡ true
  has_room : length (laid_down (present_in s)) ≤ length buffer

accepted : (s : Settings) (buffer : List ℕ) → (write_records s buffer).number ≡ 0 → Accepted s buffer
accepted s buffer z =
    let e = go (first_of (write_refusals s buffer)) z in
    let c = clear (write_refusals s buffer) (omega arith) e in
    record { number_is = e; in_range_lem = not-false (every setting_sound (present_in s)) c.0; has_room = ltb-false (length buffer) (length (laid_down (present_in s))) c.1.0 }
  where
    go : (k : ℕ) → (written_by k s).number ≡ 0 → k ≡ 0
    go zero e = refl
    go (suc k) e = e

-- the part handed back is the records laid down
part_is : (s : Settings) (buffer : List ℕ) → Accepted s buffer → written_part s buffer ≡ laid_down (present_in s)
part_is s buffer d = let l = laid_down (present_in s) in rw d.number_is (take-append_seam l (drop (length l) buffer))

pub written_sound : WrittenSound
written_sound s buffer fit z =
    let d = accepted s buffer z in
    let l = laid_down (present_in s) in (
      rw d.number_is d.has_room,
      rw d.number_is (drop-append_seam l (drop (length l) buffer)),
      rw d.number_is (omega (arith, length-append l (drop (length l) buffer), length-drop (length l) buffer)),
      rw (part_is s buffer d) (laid_sound (present_in s) (present_rising s) fit d.in_range_lem),
      rw (part_is s buffer d) (laid_rising (present_in s) (present_rising s) fit),
    )

pub written_read_back : WrittenReadBack
written_read_back s buffer fit z =
    let d = accepted s buffer z in (
      rw (part_is s buffer d) (laid_read (present_in s) (present_rising s) fit),
      rw (part_is s buffer d) (laid_found (present_in s) (present_rising s) fit d.in_range_lem),
    )

-- ---- read and written again

-- every type is one from 0 on
from_zero : (r : List Field) → every (λ (f : Field). leb 0 f.tag) r ≡ true
from_zero [] = refl
from_zero (f ∷ r) = rw (leb-zero f.tag) (from_zero r)

-- the writer's answer and buffer, where what is laid down is known
rewritten : (s : Settings) (block buffer : List ℕ) → every setting_sound (present_in s) ≡ true → laid_down (present_in s) ≡ block → length block ≤ length buffer
    → (write_records s buffer ≡ record { number = 0; length = length block }) × (buffer_after s buffer ≡ block ++ drop (length block) buffer)
rewritten s block buffer a e h =
    let z : first_of (write_refusals s buffer) ≡ 0 = rw (a, e, le-ltb (length buffer) (length block) h) in
    (rw (z, e), rw (z, e))

pub read_written_again : ReadWrittenAgain
unfolding block_sound only_rising
read_written_again block buffer b s o h = go (fields_of block) refl (and-true (leb (length block) max_block) (sound_fields block (fields_of block)) s).1 o
  where
    go : (m : Option (List Field)) → fields_of block ≡ m → sound_fields block m ≡ true → rising_records block m ≡ true
        → (write_records (read_settings block) buffer ≡ record { number = 0; length = length block })
        × (buffer_after (read_settings block) buffer ≡ block ++ drop (length block) buffer)
    go none e x y = absurd (true≢false (sym x))
    go (some r) e x y =
        let f = and-true (every (field_sound block) r) (pairwise (not_twice block) r) x in
        let g = and-true (every (is_record block) r) (pairwise (λ (p q : Field). ltb p.tag q.tag) r) y in
        let w = all_whole block 0 r (from_zero r) g.0 g.1 f.0 in
        let p = settings_same block r e w in
        rewritten (read_settings block) block buffer (ap (every setting_sound) p ∙ sym (all_same block 0 r w) ∙ f.0) (ap laid_down p ∙ sym (block_again block b r e w)) h
