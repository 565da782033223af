-- Document 02, a, with document 000, section 5.1: the images of an expansion ROM, and the one that is chosen. Document 02's structure is 000's PCI Data Structure.
use Rattle.std.specs.Prelude.{ℕ, zero, suc, ◌+◌, ◌*◌, ◌/◌, ◌≡◌, Bool, true, false, not, cond, ◌&&◌, List, [], ◌∷◌, eqb, leb, length, take, drop}
use Rattle.std.proofs.Math.Option.{Option, none, some}
use Rattle.rules.specs.Limits.{max_rom}
use Rattle.rules.specs.Lists.{every, first, is_none, prepend}
use Rattle.rules.specs.Numbers.{byte, word, bit, same_bytes}
use Rattle.rules.specs.Parts.{part_by}
use Rattle.rules.specs.Refusals.{Refusal, ◌if◌, first_of}
use Rattle.rules.specs.declared.FoundAt.{FoundAt}
use Rattle.rules.specs.declared.Image.{Image}

-- `0x55 0xAA`, an image's signature (000, 5.1.1)
abbrev pub image_signature : List ℕ
image_signature = 0x55 ∷ 0xAA ∷ []

-- `PCIR`, a structure's signature (000, 5.1.2)
abbrev pub structure_signature : List ℕ
structure_signature = 0x50 ∷ 0x43 ∷ 0x49 ∷ 0x52 ∷ []

-- where the structure of the image at byte i starts: "pointer at 0x18", whose "reference point .. is the beginning of the ROM image" (000, 5.1.1)
abbrev pub structure_at : List ℕ → ℕ → ℕ
structure_at l i = word l (0x18 + i) + i

-- the image at byte i: "length in units of 512 bytes", at 0x10 of its structure (000, 5.1.2)
abbrev pub image_at : List ℕ → ℕ → Image
image_at l i = record { start = i; structure = structure_at l i; size = 512 * word l (0x10 + structure_at l i) }

-- "last-image bit": bit 7 of the byte at 0x15 (000, 5.1.2)
abbrev pub is_last : List ℕ → Image → Bool
is_last l m = bit (byte l (0x15 + m.structure)) 7

-- the images from byte i to the last, at most n of them; none where the last is not among these
abbrev pub images_from : ℕ → List ℕ → ℕ → Option (List Image)
images_from zero l i = none
images_from (suc n) l i =
    let m : Image = image_at l i in
    cond (is_last l m) (some (m ∷ [])) (prepend m (images_from n l (m.size + i)))

-- the images of a ROM, which has no more of them than units of 512 bytes
unfoldable pub images_of : List ℕ → Option (List Image)
images_of l = images_from (length l / 512) l 0

-- "every signature is right, every image and the 24 bytes from its structure's start lie inside the ROM and no length is 0"
abbrev pub image_sound : List ℕ → Image → Bool
image_sound l m =
    same_bytes (take 2 (drop m.start l)) image_signature
    && same_bytes (take 4 (drop m.structure l)) structure_signature
    && leb (m.size + m.start) (length l)
    && leb (24 + m.structure) (length l)
    && not (eqb m.size 0)

-- there is a last image, and each image to it is sound
abbrev pub sound_images : List ℕ → Option (List Image) → Bool
sound_images l none = false
sound_images l (some r) = every (image_sound l) r

-- "a lent ROM of up to 16 MiB", its chain not "broken before or in its last image"
unfoldable pub rom_sound : List ℕ → Bool
rom_sound l = leb (length l) max_rom && sound_images l (images_of l)

-- "the asked vendor, device and code type (its structure's own fields ..)", at 4, 6 and 0x14 (000, 5.1.2)
abbrev pub is_asked : List ℕ → (vendor device code_type : ℕ) → Image → Bool
is_asked l vendor device code_type m =
    eqb (word l (4 + m.structure)) vendor && eqb (word l (6 + m.structure)) device && eqb (byte l (0x14 + m.structure)) code_type

-- "the first image" so asked for
abbrev pub image_among : List ℕ → (vendor device code_type : ℕ) → Option (List Image) → Option Image
image_among l vendor device code_type none = none
image_among l vendor device code_type (some r) = first (is_asked l vendor device code_type) r

-- the same of a ROM
unfoldable pub image_in : List ℕ → (vendor device code_type : ℕ) → Option Image
image_in l vendor device code_type = image_among l vendor device code_type (images_of l)

-- "12 for a ROM above 16 MiB or a chain that is broken before or in its last image, 13 for a sound chain without a match"
abbrev pub image_refusals : List ℕ → (vendor device code_type : ℕ) → List Refusal
image_refusals l vendor device code_type = (12 if not (rom_sound l)) ∷ (13 if is_none (image_in l vendor device code_type)) ∷ []

-- the image whole, "as a part of the ROM"
abbrev pub image_part : Image → FoundAt
image_part m = record { number = 0; start = m.start; size = m.size }

-- "hand back the first image with the asked vendor, device and code type"
abbrev pub find_image : List ℕ → (vendor device code_type : ℕ) → FoundAt
find_image l vendor device code_type = part_by image_part (first_of (image_refusals l vendor device code_type)) (image_in l vendor device code_type)

-- ---- a chain of sound images: what `images_of` must be for a sound ROM, with no bound on their number

-- from byte i to the last image, each sound
pub data Chain (l : List ℕ) : ℕ → List Image → Type 0 where
  last : {i : ℕ} → image_sound l (image_at l i) ≡ true → is_last l (image_at l i) ≡ true → Chain l i (image_at l i ∷ [])
  next : {i : ℕ} {r : List Image} → image_sound l (image_at l i) ≡ true → is_last l (image_at l i) ≡ false
      → Chain l ((image_at l i).size + i) r → Chain l i (image_at l i ∷ r)
