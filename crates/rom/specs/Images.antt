-- Document 02, a: what the parts of the walk answer.
use Rattle.std.specs.Prelude.{ℕ, ◌/◌, Bool, cond, List, length, Result, Ok, Err}
use Rattle.codes.specs.declared.Refusal.{Refusal}
use Rattle.codes.specs.declared.Refusal.TheVariants.{Rom}
use Rattle.rules.specs.Parts.{refused}
use Rattle.rules.specs.Rom.{image_at, images_from, image_sound, sound_images, image_part}
use Rattle.rules.specs.declared.FoundAt.{FoundAt}
use Rattle.rules.specs.declared.Image.{Image}

-- the image at byte i, where it is sound; else 12
abbrev pub image_read : List ℕ → ℕ → Result Image Refusal
image_read l i = cond (image_sound l (image_at l i)) (Ok (image_at l i)) (Err Rom)

-- the chain from byte i on is sound
unfoldable pub chain_sound : List ℕ → ℕ → Bool
chain_sound l i = sound_images l (images_from (length l / 512) l i)

-- an image that was asked for, by whether the chain is sound; else 12
abbrev pub chosen_if : (sound : Bool) → Image → FoundAt
chosen_if sound m = cond sound (image_part m) (refused 12)
