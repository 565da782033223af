-- Document 02, g: the writer of record blocks. Its "known types" are 0, 1 and 2.
use Rattle.std.specs.Prelude.{ℕ, zero, suc, ◌+◌, ◌*◌, ◌/◌, Bool, false, not, cond, ◌&&◌, List, [], ◌∷◌, ◌++◌, eqb, ltb, length, get_or, drop}
use Rattle.std.proofs.Math.Option.{Option, none, some}
use Rattle.rules.specs.Lists.{every, pairwise}
use Rattle.rules.specs.Numbers.{le16, dwords}
use Rattle.rules.specs.Parts.{refused}
use Rattle.rules.specs.Refusals.{Refusal, ◌if◌, first_of}
use Rattle.rules.specs.Records.{fields_of, value, is_record, and_number, or_number, in_ranges, record_in}
use Rattle.rules.specs.declared.Field.{Field}
use Rattle.rules.specs.declared.FoundAt.{FoundAt}
use Rattle.rules.specs.declared.Masks.{Masks}
use Rattle.rules.specs.declared.PciSetting.{PciSetting}
use Rattle.rules.specs.declared.PciXSetting.{PciXSetting}
use Rattle.rules.specs.declared.ExpressSetting.{ExpressSetting}
use Rattle.rules.specs.declared.Settings.{Settings}
use Rattle.rules.specs.declared.Written.{Written}

-- ---- settings as records

-- a record as a value: its type and its numbers, "the first being the revision" (document 01)
pub record Setting : Type 0 where
  pub type : ℕ
  pub numbers : List ℕ

-- the numbers of each type "in that field order" (document 01; document 002, tables 6-7 to 6-9), behind revision 1
abbrev pub pci_numbers : PciSetting → List ℕ
pci_numbers p = 1 ∷ p.cache_line_size ∷ p.latency_timer ∷ p.enable_serr ∷ p.enable_perr ∷ []

abbrev pub pci_x_numbers : PciXSetting → List ℕ
pci_x_numbers p =
    1 ∷ p.maximum_memory_read_byte_count ∷ p.average_maximum_outstanding_split_transactions
    ∷ p.total_maximum_outstanding_split_transactions ∷ []

-- "AND/OR pairs" (document 01)
abbrev pub pairs_of : List Masks → List ℕ
pairs_of [] = []
pairs_of (m ∷ l) = m.and ∷ m.or ∷ pairs_of l

abbrev pub express_numbers : ExpressSetting → List ℕ
express_numbers e =
    1 ∷ pairs_of (e.uncorrectable_error_mask ∷ e.uncorrectable_error_severity ∷ e.correctable_error_mask
    ∷ e.advanced_error_capabilities_and_control ∷ e.device_control ∷ e.link_control
    ∷ e.secondary_uncorrectable_error_severity ∷ e.secondary_uncorrectable_error_mask ∷ [])

-- a record that is absent where its flag is 0
abbrev pub if_present : (flag type : ℕ) → List ℕ → List Setting
if_present flag type v = cond (eqb flag 0) [] (record { type = type; numbers = v } ∷ [])

-- "at most one record of each known type", those present, "by rising type"
unfoldable pub present_in : Settings → List Setting
present_in s =
    if_present s.has_pci 0 (pci_numbers s.pci)
    ++ if_present s.has_pci_x 1 (pci_x_numbers s.pci_x)
    ++ if_present s.has_express 2 (express_numbers s.express)

-- ---- the writer: its number, the length handed back, the buffer after it

-- "tag (record type, 1 byte), length (2 bytes, little-endian), value of 4-byte little-endian numbers" (document 01)
abbrev pub record_bytes : Setting → List ℕ
record_bytes r = r.type ∷ le16 (4 * length r.numbers) ++ dwords r.numbers

-- records laid down one after the other
abbrev pub laid_down : List Setting → List ℕ
laid_down [] = []
laid_down (r ∷ l) = record_bytes r ++ laid_down l

-- the values of a record break no "range in document 01", and no pair is senseless (document 02, h)
abbrev pub setting_sound : Setting → Bool
setting_sound r = in_ranges r.type (λ k. get_or r.numbers k 0)

-- "14 when a value breaks a range in document 01, number 15 when the buffer is too short for the result; 14 first"
abbrev pub write_refusals : Settings → (buffer : List ℕ) → List Refusal
write_refusals s buffer =
    (14 if not (every setting_sound (present_in s)))
    ∷ (15 if ltb (length buffer) (length (laid_down (present_in s))))
    ∷ []

-- by the number: "hands back their length"
abbrev pub written_by : ℕ → Settings → Written
written_by zero s = record { number = 0; length = length (laid_down (present_in s)) }
written_by (suc k) s = record { number = suc k; length = 0 }

-- by the number: "in a lent buffer, at the start, leaving the rest untouched"
abbrev pub buffer_by : ℕ → Settings → List ℕ → List ℕ
buffer_by zero s buffer = laid_down (present_in s) ++ drop (length (laid_down (present_in s))) buffer
buffer_by (suc k) s buffer = buffer

-- the writer
abbrev pub write_records : Settings → (buffer : List ℕ) → Written
write_records s buffer = written_by (first_of (write_refusals s buffer)) s

-- the buffer after it
abbrev pub buffer_after : Settings → (buffer : List ℕ) → List ℕ
buffer_after s buffer = buffer_by (first_of (write_refusals s buffer)) s buffer

-- ---- what was written, read

-- n numbers of a field's value, from number k on
abbrev pub numbers_from : (n k : ℕ) → List ℕ → Field → List ℕ
numbers_from zero k l f = []
numbers_from (suc n) k l f = value l f k ∷ numbers_from n (suc k) l f

-- the record that is read where one was found, or none
abbrev pub numbers_of : List ℕ → Option Field → List ℕ
numbers_of l none = []
numbers_of l (some f) = numbers_from (f.size / 4) 0 l f

-- its flag
abbrev pub flag_of : Option Field → ℕ
flag_of none = 0
flag_of (some f) = 1

-- the values of each type by its numbers
abbrev pub pci_of : List ℕ → PciSetting
pci_of v = record { cache_line_size = get_or v 1 0; latency_timer = get_or v 2 0; enable_serr = get_or v 3 0; enable_perr = get_or v 4 0 }

abbrev pub pci_x_of : List ℕ → PciXSetting
pci_x_of v = record {
  maximum_memory_read_byte_count = get_or v 1 0;
  average_maximum_outstanding_split_transactions = get_or v 2 0;
  total_maximum_outstanding_split_transactions = get_or v 3 0;
}

abbrev pub masks_of : List ℕ → ℕ → Masks
masks_of v k = record { and = get_or v (and_number k) 0; or = get_or v (or_number k) 0 }

abbrev pub express_of : List ℕ → ExpressSetting
express_of v = record {
  uncorrectable_error_mask = masks_of v 0;
  uncorrectable_error_severity = masks_of v 1;
  correctable_error_mask = masks_of v 2;
  advanced_error_capabilities_and_control = masks_of v 3;
  device_control = masks_of v 4;
  link_control = masks_of v 5;
  secondary_uncorrectable_error_severity = masks_of v 6;
  secondary_uncorrectable_error_mask = masks_of v 7;
}

-- by what the record search finds of each type; the values of a type that is not found are 0
abbrev pub settings_by : List ℕ → (pci pci_x express : Option Field) → Settings
settings_by l pci pci_x express = record {
  pci = pci_of (numbers_of l pci);
  pci_x = pci_x_of (numbers_of l pci_x);
  express = express_of (numbers_of l express);
  has_pci = flag_of pci;
  has_pci_x = flag_of pci_x;
  has_express = flag_of express;
}

-- a block read: its records of types 0 to 2
unfoldable pub read_settings : List ℕ → Settings
read_settings l = settings_by l (record_in l 0) (record_in l 1) (record_in l 2)

-- where the record of a type lies among records laid down from byte i on, and its length, header included
abbrev pub place_among : (type i : ℕ) → List Setting → FoundAt
place_among type i [] = refused 9
place_among type i (r ∷ l) =
    cond (eqb r.type type)
    (record { number = 0; start = i; size = length (record_bytes r) })
    (place_among type (length (record_bytes r) + i) l)

-- the fields are records of types 0 to 2 and revision 1, "in rising order"
abbrev pub rising_records : List ℕ → Option (List Field) → Bool
rising_records l none = false
rising_records l (some r) = every (is_record l) r && pairwise (λ f g. ltb f.tag g.tag) r

-- a block "that holds only revision 1 records of types 0 to 2, in rising order"
unfoldable pub only_rising : List ℕ → Bool
only_rising l = rising_records l (fields_of l)

-- numbers that a u32 holds, those of records, and bytes
abbrev pub are_dwords : List ℕ → Bool
are_dwords v = every (λ x. ltb x 4294967296) v

abbrev pub dwords_in : List Setting → Bool
dwords_in l = every (λ r. are_dwords r.numbers) l

abbrev pub are_bytes : List ℕ → Bool
are_bytes l = every (λ x. ltb x 256) l
