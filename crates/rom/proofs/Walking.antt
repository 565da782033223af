-- The walk of a ROM, image by image: what the images left at a byte give is what all of them give. Whether a chain is sound, and what the search answers, are two things that images give.
-- Assumes nothing.
use Prim.Native.Nat.{ℕ, zero, suc, ◌+◌, ◌*◌, ◌/◌, ◌≤◌, ◌<◌}
use mathlib.Core.Path.{◌≡◌, refl, sym, ap, ◌∙◌, subst}
use mathlib.Core.Bool.{Bool, true, false, not, cond, ◌||◌}
use mathlib.Core.List.{List, [], ◌∷◌}
use mathlib.Core.Option.{Option, none, some}
use native.Mathlib.Omega.{arith}
use lib.Dec.{ltb}
use lib.ListN.{length}
use borrow.Author.Tests.{ltb-true, ltb-false, le-leb, lt-leb}
use Rattle.rules.specs.Limits.{max_rom}
use Rattle.rules.specs.Lists.{every, first, is_none, prepend}
use Rattle.rules.specs.Parts.{refused, part_by}
use Rattle.rules.specs.Refusals.{◌if◌, first_of}
use Rattle.rules.specs.Rom.{image_at, is_last, images_from, images_of, image_sound, sound_images, rom_sound, is_asked, image_among, image_in, image_refusals, image_part, find_image}
use Rattle.rules.specs.declared.FoundAt.{FoundAt}
use Rattle.rules.specs.declared.Image.{Image}
use Rattle.rules.proofs.Tests.{fails}
use Rattle.rules.proofs.Rom.{SoundImage, sound_image, unit, enough, any_bound, image_part_lem}
use Rattle.rom.specs.Images.{image_read, chain_sound, chosen_if}
use Rattle.std.specs.Prelude.{Ok, Err}
use Rattle.codes.specs.declared.Refusal.{Refusal}
use Rattle.rom.proofs.Reading.{is_read, is_broken}

-- ---- what a list of images gives: no last image, and an image that is not sound, give the same

pub record Giving (l : List ℕ) (A : Type 0) : Type 0 where
  pub of : Option (List Image) → A
  pub bad : A
  pub no_last : of none ≡ bad
  pub not_sound : (m : Image) (r : List Image) → image_sound l m ≡ false → of (some (m ∷ r)) ≡ bad

module _ (l : List ℕ) {A : Type 0} (g : Giving l A) (all : A) where
  -- at byte i at most `fuel` images are left, and they give what all do
  pub record Left (i : ℕ) : Type 0 where
    pub fuel : ℕ
    pub bound : length l < 512 + (512 * fuel + i)
    pub inside : i ≤ length l
    pub gives : g.of (images_from fuel l i) ≡ all

  -- an image that is not sound breaks the chain
  breaks : (n i : ℕ) → image_sound l (image_at l i) ≡ false → g.of (images_from n l i) ≡ g.bad
  breaks zero i e = g.no_last
  breaks (suc n) i e = go (is_last l (image_at l i)) (images_from n l ((image_at l i).size + i))
    where
      go : (q : Bool) (o : Option (List Image)) → g.of (cond q (some (image_at l i ∷ [])) (prepend (image_at l i) o)) ≡ g.bad
      go true o = g.not_sound (image_at l i) [] e
      go false none = g.no_last
      go false (some r) = g.not_sound (image_at l i) r e

  module _ (i : ℕ) (w : Left i) where
    refuses : image_sound l (image_at l i) ≡ false → g.bad ≡ all
    refuses e = sym (breaks w.fuel i e) ∙ w.gives

    pub ended : (r : Refusal) → Err r ≡ image_read l i → g.bad ≡ all
    ended r e = refuses (is_broken l i r e).0

    -- at the end there is no room for an image
    pub at_end : length l < 26 + i → g.bad ≡ all
    at_end h =
        refuses (fails (image_sound l (image_at l i)) (λ e.
        let s = sound_image l (image_at l i) e in
        absurd (omega (arith, s.ends, unit l i s))))

    -- an image that was read, and those after it
    module _ (m : Image) (e : Ok m ≡ image_read l i) where
      is : m ≡ image_at l i
      is = (is_read l i m e).0

      pub sound : image_sound l m ≡ true
      sound = subst (λ (x : Image). image_sound l x ≡ true) (sym is) (is_read l i m e).1

      good : SoundImage l (image_at l i)
      good = sound_image l (image_at l i) (is_read l i m e).1

      -- the last gives what all do
      pub at_last : is_last l m ≡ true → g.of (some (m ∷ [])) ≡ all
      at_last h = go w.fuel w.bound w.gives
        where
          here : is_last l (image_at l i) ≡ true
          here = subst (λ (x : Image). is_last l x ≡ true) is h

          go : (n : ℕ) → length l < 512 + (512 * n + i) → g.of (images_from n l i) ≡ all → g.of (some (m ∷ [])) ≡ all
          go zero b v = absurd (omega (arith, good.ends, unit l i good))
          go (suc n) b v = ap (λ (x : Image). g.of (some (x ∷ []))) is ∙ sym (ap g.of (passed n)) ∙ v
            where
              passed : (n : ℕ) → images_from (suc n) l i ≡ some (image_at l i ∷ [])
              passed n = rw here

      -- any other, with those that are left then
      pub record Rest : Type 0 where
        pub fuel : ℕ
        pub bound : length l < 512 + (512 * fuel + (m.size + i))
        pub inside : m.size + i ≤ length l
        pub gives : g.of (prepend m (images_from fuel l (m.size + i))) ≡ all

      pub rest : is_last l m ≡ false → Rest
      rest h = go w.fuel w.bound w.gives
        where
          here : is_last l (image_at l i) ≡ false
          here = subst (λ (x : Image). is_last l x ≡ false) is h

          passed : (n : ℕ) → images_from (suc n) l i ≡ prepend m (images_from n l (m.size + i))
          passed n = rw (here, is)

          size : m.size ≡ (image_at l i).size
          size = ap (λ (x : Image). x.size) is

          go : (n : ℕ) → length l < 512 + (512 * n + i) → g.of (images_from n l i) ≡ all → Rest
          go zero b v = absurd (omega (arith, good.ends, unit l i good))
          go (suc n) b v =
              record {
                fuel = n;
                bound = omega (arith, unit l i good, size);
                inside = omega (arith, good.ends, size);
                gives = sym (ap g.of (passed n)) ∙ v;
              }

      -- the walk goes on where the image adds nothing
      pub goes_on : is_last l m ≡ false → ((o : Option (List Image)) → g.of (prepend m o) ≡ g.of o) → Left (m.size + i)
      goes_on h f =
          let r = rest h in
          record { fuel = r.fuel; bound = r.bound; inside = r.inside; gives = sym (f (images_from r.fuel l (m.size + i))) ∙ r.gives }

-- ---- whether a chain is sound

abbrev pub chain : (l : List ℕ) → Giving l Bool
chain l = record { of = sound_images l; bad = false; no_last = refl; not_sound = λ m r e. rw e }

pub chain_from : (l : List ℕ) (i : ℕ) → i ≤ length l → Left l (chain l) (chain_sound l i) i
unfolding chain_sound
chain_from l i h = record { fuel = length l / 512; bound = omega (arith, enough (length l)); inside = h; gives = refl }

-- a sound image adds nothing
pub same_chain : (l : List ℕ) (m : Image) → image_sound l m ≡ true → (o : Option (List Image)) → sound_images l (prepend m o) ≡ sound_images l o
same_chain l m e none = refl
same_chain l m e (some r) = rw e

-- ---- what the search answers

module _ (l : List ℕ) (vendor device code_type : ℕ) where
  abbrev asked : Image → Bool
  asked m = is_asked l vendor device code_type m

  abbrev by_first : Option Image → FoundAt
  by_first none = refused 13
  by_first (some m) = image_part m

  abbrev answers : Option (List Image) → FoundAt
  answers none = refused 12
  answers (some r) = cond (every (image_sound l) r) (by_first (first asked r)) (refused 12)

  abbrev pub answer : Giving l FoundAt
  answer = record { of = answers; bad = refused 12; no_last = refl; not_sound = λ m r e. rw e }

  -- all images give the search's answer
  from_all : (o : Option (List Image)) → answers o
      ≡ part_by image_part (first_of ((12 if not (sound_images l o)) ∷ (13 if is_none (image_among l vendor device code_type o)) ∷ [])) (image_among l vendor device code_type o)
  from_all none = refl
  from_all (some r) = go (every (image_sound l) r) (first asked r)
    where
      go : (t : Bool) (o : Option Image) → cond t (by_first o) (refused 12) ≡ part_by image_part (first_of ((12 if not t) ∷ (13 if is_none o) ∷ [])) o
      go true none = refl
      go true (some m) = refl
      go false o = refl

  -- a ROM that is too large is refused
  pub too_large : ltb max_rom (length l) ≡ true → refused 12 ≡ find_image l vendor device code_type
  unfolding rom_sound
  too_large e = rw (lt-leb (length l) max_rom (ltb-true max_rom (length l) e))

  -- before the first image
  pub at_start : ltb max_rom (length l) ≡ false → Left l answer (find_image l vendor device code_type) 0
  unfolding rom_sound image_in images_of
  at_start e =
      record {
        fuel = length l / 512;
        bound = enough (length l);
        inside = omega arith;
        gives = rw (le-leb (length l) max_rom (ltb-false max_rom (length l) e)) (from_all (images_from (length l / 512) l 0));
      }

  module _ (m : Image) (sound : image_sound l m ≡ true) where
    -- an image that is not asked for adds nothing; the last of these gives 13
    pub no_match : asked m ≡ false → (o : Option (List Image)) → answers (prepend m o) ≡ answers o
    no_match a none = refl
    no_match a (some r) = rw (sound, a)

    pub none_found : asked m ≡ false → refused 13 ≡ answers (some (m ∷ []))
    none_found a = rw (sound, a)

    -- one that is asked for is the answer if the chain is sound
    pub match : asked m ≡ true → (o : Option (List Image)) → chosen_if (sound_images l o) m ≡ answers (prepend m o)
    match a none = refl
    match a (some r) = rw (sound, a)

    pub last_match : asked m ≡ true → image_part m ≡ answers (some (m ∷ []))
    last_match a = rw (sound, a)

  module _ (i : ℕ) (w : Left l answer (find_image l vendor device code_type) i) (m : Image) (e : Ok m ≡ image_read l i) (a : asked m ≡ true) where
    pub is_chosen : chosen_if (is_last l m || chain_sound l (m.size + i)) m ≡ find_image l vendor device code_type
    unfolding chain_sound
    is_chosen = go (is_last l m) refl
      where
        fine : image_sound l m ≡ true
        fine = sound l answer (find_image l vendor device code_type) i w m e

        go : (q : Bool) → is_last l m ≡ q → chosen_if (q || chain_sound l (m.size + i)) m ≡ find_image l vendor device code_type
        go true h = last_match m fine a ∙ at_last l answer (find_image l vendor device code_type) i w m e h
        go false h =
            let r = rest l answer (find_image l vendor device code_type) i w m e h in
            ap (λ (t : Bool). chosen_if t m) (any_bound l (m.size + i) (length l / 512) r.fuel (omega (arith, enough (length l))) r.bound)
            ∙ match m fine a (images_from r.fuel l (m.size + i))
            ∙ r.gives

-- ---- the part lies inside the ROM

pub found_fits : (l : List ℕ) (vendor device code_type : ℕ) → (find_image l vendor device code_type).start + (find_image l vendor device code_type).size ≤ length l
found_fits l vendor device code_type =
    go (first_of (image_refusals l vendor device code_type)) (image_in l vendor device code_type) (λ e. (image_part_lem l vendor device code_type e).0)
  where
    go : (k : ℕ) (o : Option Image) → ((part_by image_part k o).number ≡ 0 → (part_by image_part k o).start + (part_by image_part k o).size ≤ length l)
        → (part_by image_part k o).start + (part_by image_part k o).size ≤ length l
    go zero none h = omega arith
    go zero (some m) h = h refl
    go (suc k) o h = omega arith
