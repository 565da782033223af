-- The claims: each one closed statement, for every MCFG byte string and every list of rows, refused starts included. Document 01's demands
-- are demand 1 (exact refusals), demand 2 (the history) and demand 3 (separation).
use Rattle.std.specs.Prelude.{◌≡◌, ◌↔◌, ◌⊎◌, Bool, true, false, not, cond, ◌&&◌, ◌||◌, List, [], ◌∷◌, ◌++◌, map, ℕ, ◌+◌, ◌-◌, ◌*◌, ◌≤◌, ◌<◌, eqb, leb, length, get_or, take, drop, replicate}
use Rattle.std.proofs.Math.Option.{Option, none, some}
use Rattle.std.specs.Int.Bits.{bit_and, bit_or}
use Rattle.rules.specs.Limits.{max_owner, max_rom}
use Rattle.rules.specs.Lists.{every, pairwise, is_none}
use Rattle.rules.specs.Numbers.{byte, word, dword, le32, bit, within, number}
use Rattle.rules.specs.Refusals.{GivenBy}
use Rattle.rules.specs.Tables.{nothing_held, holding, cleared, owns, bridge_at}
use Rattle.rules.specs.Place.{InReach}
use Rattle.rules.specs.Start.{StartInput, entry_of, express, conventional, row_sound, start_refusals, start_number, start_table, table_of, Sound}
use Rattle.rules.specs.Granting.{Needs, Largest, granted_by}
use Rattle.rules.specs.Editions.{edition30, control_bits}
use Rattle.rules.specs.Osc.{declared, granted, grant_status, uuid_bytes, recognised, error_status, status, query, support, control, osc_answer, osc_after}
use Rattle.rules.specs.Records.{and_mask, or_mask, meaningful, block_sound, deciding, record_in, record_refusals, find_record, and_or}
use Rattle.rules.specs.Rom.{image_signature, structure_at, images_of, rom_sound, image_refusals, find_image, Chain}
use Rattle.rules.specs.Writer.{present_in, write_refusals, write_records, buffer_after, read_settings, place_among, only_rising, dwords_in, are_bytes}
use Rattle.rules.specs.Calls.{osc, reset, address, Call, on, locate, Result, addressed, located, Outcome, outcome, step, listed, zeros_of, lent_to, table_after, session_of, calls_of, outcomes_of, width_of}
use Rattle.rules.specs.History.{reaches, history_step, history_from}
use Rattle.rules.specs.declared.Bridge.{Bridge}
use Rattle.rules.specs.declared.BridgeRow.{BridgeRow}
use Rattle.rules.specs.declared.Entry.{Entry}
use Rattle.rules.specs.declared.BridgeNumber.{BridgeNumber}
use Rattle.rules.specs.declared.SessionNumber.{SessionNumber}
use Rattle.rules.specs.declared.Table.{Table}
use Rattle.rules.specs.declared.Field.{Field}
use Rattle.rules.specs.declared.FoundAt.{FoundAt}
use Rattle.rules.specs.declared.Image.{Image}
use Rattle.rules.specs.declared.Place.{Place}
use Rattle.rules.specs.declared.Holding.{Holding}
use Rattle.rules.specs.declared.Settings.{Settings}

-- ---- the tests over lists mean what they say

abbrev pub EveryAndPair : Type 1
EveryAndPair = (A : Type 0) (d : A) (l : List A)
    → ((p : A → Bool) → every p l ≡ true ↔ ((i : ℕ) → i < length l → p (get_or l i d) ≡ true))
    × ((p : A → A → Bool) → pairwise p l ≡ true ↔ ((i j : ℕ) → i < j → j < length l → p (get_or l i d) (get_or l j d) ≡ true))

-- ---- document 02, d: what is granted

-- whatever list of bits and needs, "the granted set is the largest set"; and a bridge grants that of its edition and of its own bits
abbrev pub GrantedLargest : Type 0
GrantedLargest =
    ((bits : List Needs) (permitted held declared requested : ℕ) → Largest bits permitted held declared requested (granted_by bits permitted held declared requested))
    × ((b : Bridge) (support requested : ℕ) → Largest (control_bits b.edition) b.permitted b.held (declared b support) requested (granted b support requested))

-- the granting rule as it was, of document 01 with document 02, b: the old edition's control bits from 0 up, each with the set of control bits that it needs
abbrev pub old_needs : List ℕ
old_needs =
    0x10  -- 0 Express hot plug
    ∷ 0  -- 1 SHPC hot plug
    ∷ 0x10  -- 2 PME
    ∷ 0x10  -- 3 AER
    ∷ 0  -- 4 Express capability structure
    ∷ []

-- the bits "requested in the same call" that are "held or permitted"
abbrev pub old_available : Bridge → (requested : ℕ) → ℕ
old_available b requested = bit_and requested (bit_or b.held b.permitted)

-- "a requested control bit is granted when it is 0 to 4 and either already held, or permitted and, for bits 0, 2 and 3", by b:
-- "only if bit 4 is requested in the same call and is held or permitted"
abbrev pub old_granted_bit : Bridge → (requested i : ℕ) → Bool
old_granted_bit b requested i =
    bit requested i && bit 0x1F i
    && (bit b.held i || (bit b.permitted i && within (get_or old_needs i 0) (old_available b requested)))

abbrev pub old_granted : Bridge → (requested : ℕ) → ℕ
old_granted b requested = number 32 (old_granted_bit b requested)

-- what was sound of one row
abbrev pub old_row_sound : List Entry → BridgeRow → Bool
old_row_sound es r =
    leb r.owner.0 max_owner && leb r.first_bus r.last_bus && not (is_none (entry_of es r)) && (eqb r.kind express || eqb r.kind conventional)
    && within r.permitted (cond (eqb r.kind conventional) 0x02 0x1F)

-- "Rows of the old edition answer as they did": what is granted, by that rule; the whole answer; what the bridge holds after it; which rows are sound
abbrev pub OldRows : Type 0
OldRows =
    ((b : Bridge) → b.edition ≡ edition30
    → ((w requested i : ℕ) → (bit (granted b w requested) i ≡ old_granted_bit b requested i) × (granted b w requested ≡ old_granted b requested))
    × ((revision count : ℕ) (uuid caps : List ℕ)
    → let g : ℕ = old_granted b (control caps) in
    (osc_answer b revision count uuid caps ≡ cond (recognised revision count uuid)
    (le32 (grant_status (control caps) g) ++ le32 (support caps) ++ le32 g)
    (le32 (error_status revision uuid) ++ replicate (4 * count - 4) 0))
    × (osc_after b revision count uuid caps ≡ cond (recognised revision count uuid && not (query caps))
    (record { held = bit_or b.held g; supported = bit_or b.supported (bit_and (support caps) 0x1F) }) (holding b))))
    × ((es : List Entry) (r : BridgeRow) → r.edition ≡ edition30 → row_sound es r ≡ old_row_sound es r)

-- ---- demand 1: a listed refusal exactly when its condition holds and none earlier does

abbrev pub RefusalsExactly : Type 0
RefusalsExactly =
    ((t : Table) (c : Call) (k : ℕ) → (step t c).outcome.number ≡ k ↔ GivenBy k (listed t c))
    × ((x : StartInput) (k : ℕ) → start_number x ≡ k ↔ GivenBy k (start_refusals x))
    × ((slot block : List ℕ) (type k : ℕ) → (find_record slot block type).number ≡ k ↔ GivenBy k (record_refusals slot block type))
    × ((rom : List ℕ) (vendor device code_type k : ℕ) → (find_image rom vendor device code_type).number ≡ k ↔ GivenBy k (image_refusals rom vendor device code_type))
    × ((s : Settings) (buffer : List ℕ) (k : ℕ) → (write_records s buffer).number ≡ k ↔ GivenBy k (write_refusals s buffer))

-- "A refused call hands back zeros (or the empty part) beside its number and changes nothing"
abbrev pub RefusedChangesNothing : Type 0
RefusedChangesNothing =
    ((t : Table) (c : Call) → ((step t c).outcome.number ≡ 0 → ⊥)
    → ((step t c).table ≡ t) × ((step t c).outcome.result ≡ zeros_of c) × ((step t c).outcome.left ≡ lent_to c))
    × ((x : StartInput) → (start_number x ≡ 0 → ⊥) → start_table x ≡ table_of [])
    × ((slot block : List ℕ) (type : ℕ) → ((find_record slot block type).number ≡ 0 → ⊥) → ((find_record slot block type).start ≡ 0) × ((find_record slot block type).size ≡ 0))
    × ((rom : List ℕ) (vendor device code_type : ℕ) → ((find_image rom vendor device code_type).number ≡ 0 → ⊥)
    → ((find_image rom vendor device code_type).start ≡ 0) × ((find_image rom vendor device code_type).size ≡ 0))
    × ((s : Settings) (buffer : List ℕ) → ((write_records s buffer).number ≡ 0 → ⊥) → ((write_records s buffer).length ≡ 0) × (buffer_after s buffer ≡ buffer))

-- "a full answer buffer": a call leaves every lent buffer as long as it was
abbrev pub BuffersKeepLength : Type 0
BuffersKeepLength = (t : Table) (c : Call) → map length (step t c).outcome.left ≡ map length (lent_to c)

-- "The record handed back is a part of whichever block decided, header included"
abbrev pub RecordPart : Type 0
RecordPart = (slot block : List ℕ) (type : ℕ)
    → let l : List ℕ = deciding slot block in
    let f : FoundAt = find_record slot block type in
    f.number ≡ 0
    → (f.start + f.size ≤ length l) × (byte l f.start ≡ type) × (f.size ≡ 3 + word l (1 + f.start)) × (dword l (3 + f.start) ≡ 1)

-- document 02, a: an image "with the asked vendor, device and code type (its structure's own fields ..) as a part of the ROM", header included; that it is the first is `image_among`
abbrev pub ImagePart : Type 0
ImagePart = (rom : List ℕ) (vendor device code_type : ℕ)
    → let f : FoundAt = find_image rom vendor device code_type in
    let s : ℕ = structure_at rom f.start in
    f.number ≡ 0
    → (f.start + f.size ≤ length rom) × (f.size ≡ 512 * word rom (0x10 + s)) × (take 2 (drop f.start rom) ≡ image_signature)
    × (word rom (4 + s) ≡ vendor) × (word rom (6 + s) ≡ device) × (byte rom (0x14 + s) ≡ code_type)

-- a ROM is sound exactly where it has a chain of sound images from its first byte to a last image, and these are then its images
abbrev pub SoundChain : Type 0
SoundChain = (rom : List ℕ) (r : List Image) → ((rom_sound rom ≡ true) × (images_of rom ≡ some r)) ↔ ((length rom ≤ max_rom) × Chain rom 0 r)

-- ---- document 02, h: what a pair of masks asks

-- document 002, of one bit: "RsvdP", which keeps its value; "configured as 0"; "configured a 1"; the fourth has no meaning
abbrev pub acpi_bit : (and or current : Bool) → Option Bool
acpi_bit true false current = some current
acpi_bit false false current = some false
acpi_bit true true current = some true
acpi_bit false true current = none

-- a pair is meaningful exactly where each bit is one of "ACPI's three cases" and the formula gives what its case says
abbrev pub ThreeCases : Type 0
ThreeCases = (and or : ℕ) → meaningful and or ≡ true ↔ ((current i : ℕ) → acpi_bit (bit and i) (bit or i) (bit current i) ≡ some (bit (and_or current and or) i))

-- "no sound block carries that pair": the eight pairs of the type 2 record of a sound block are meaningful
abbrev pub SoundPairs : Type 0
SoundPairs = (block : List ℕ) (f : Field) (k : ℕ) → block_sound block ≡ true → record_in block 2 ≡ some f → k < 8
    → meaningful (and_mask block f k) (or_mask block f k) ≡ true

-- ---- document 02, g: what is written

-- the part of the buffer that the writer hands back the length of
abbrev pub written_part : Settings → (buffer : List ℕ) → List ℕ
written_part s buffer = take (write_records s buffer).length (buffer_after s buffer)

-- every number of a present record is one that a u32 holds, as those of the code are
abbrev pub SettingsFit : Settings → Type 0
SettingsFit s = dwords_in (present_in s) ≡ true

-- what is written lies in the buffer, leaves the rest untouched, and is a sound block of revision 1 records of types 0 to 2 in rising order
abbrev pub WrittenSound : Type 0
WrittenSound = (s : Settings) (buffer : List ℕ) → SettingsFit s → (write_records s buffer).number ≡ 0
    → let n : ℕ = (write_records s buffer).length in
    (n ≤ length buffer) × (drop n (buffer_after s buffer) ≡ drop n buffer) × (length (buffer_after s buffer) ≡ length buffer)
    × (block_sound (written_part s buffer) ≡ true) × (only_rising (written_part s buffer) ≡ true)

-- "Reading what was written gives the same records": the record search finds each present one at its place, and no other
abbrev pub WrittenReadBack : Type 0
WrittenReadBack = (s : Settings) (buffer : List ℕ) → SettingsFit s → (write_records s buffer).number ≡ 0
    → (present_in (read_settings (written_part s buffer)) ≡ present_in s)
    × ((type : ℕ) → find_record [] (written_part s buffer) type ≡ place_among type 0 (present_in s))

-- "A sound block that holds only revision 1 records of types 0 to 2, in rising order, read and written again gives the same bytes"
abbrev pub ReadWrittenAgain : Type 0
ReadWrittenAgain = (block buffer : List ℕ) → are_bytes block ≡ true → block_sound block ≡ true → only_rising block ≡ true → length block ≤ length buffer
    → (write_records (read_settings block) buffer ≡ record { number = 0; length = length block })
    × (buffer_after (read_settings block) buffer ≡ block ++ drop (length block) buffer)

-- ---- what start leaves and every call keeps

-- a call changes no owner, segment, bus, base, edition or permitted bit: the bridge is the same but for what it holds
abbrev pub TablesSound : Type 0
TablesSound =
    ((x : StartInput) → Sound (start_table x))
    × ((t : Table) (c : Call) → Sound t → Sound (step t c).table)
    × ((t : Table) (c : Call) → ((step t c).table.count ≡ t.count) × ((i : ℕ) → cleared (bridge_at (step t c).table i) ≡ cleared (bridge_at t i)))

-- ---- demand 2: after any list of calls each bridge holds what the rules read off that list; "both are 0 at start"

abbrev pub History : Type 0
History = (x : StartInput) (l : List Call) (i : ℕ) → i < (start_table x).count
    → holding (bridge_at (table_after (start_table x) l) i) ≡ history_from (start_table x) i nothing_held l

-- "A query changes nothing"
abbrev pub QueriesChangeNothing : Type 0
QueriesChangeNothing = (t : Table) (s : SessionNumber) (n : BridgeNumber) (revision count : ℕ) (uuid caps answer : List ℕ)
    → query caps ≡ true → (step t (on s n (osc revision count uuid caps answer))).table ≡ t

-- "Held bits leave only by reset of that bridge"
abbrev pub HeldUntilReset : Type 0
HeldUntilReset = (t : Table) (c : Call) (i j : ℕ) → Sound t → i < t.count → bit (bridge_at t i).held j ≡ true
    → ((s : SessionNumber) (n : BridgeNumber) → c ≡ on s n reset → reaches t i s n ≡ false)
    → bit (bridge_at (step t c).table i).held j ≡ true

-- ---- an address leads back to its one place, a place to its one address

-- the address call for a place
abbrev pub address_call : SessionNumber → Place → (width : ℕ) → Call
address_call s p width = on s p.bridge (address p.bus p.device p.function p.offset width)

-- accepted, with this result; no buffer is lent
abbrev pub answers : Result → Outcome
answers r = outcome 0 r []

-- "An address given to a session, read back under that session, gives the place asked for", at any two times
abbrev pub ThereAndBack : Type 0
ThereAndBack = (x : StartInput) (l m : List Call) (s : SessionNumber) (p : Place) (width a : ℕ)
    → (step (table_after (start_table x) l) (address_call s p width)).outcome ≡ answers (addressed a)
    → (step (table_after (start_table x) m) (locate s a)).outcome ≡ answers (located p)

-- "a place so read, asked for under that session with width 1, gives that address"
abbrev pub BackAndThere : Type 0
BackAndThere = (x : StartInput) (l m : List Call) (s : SessionNumber) (p : Place) (a : ℕ)
    → (step (table_after (start_table x) l) (locate s a)).outcome ≡ answers (located p)
    → (step (table_after (start_table x) m) (address_call s p 1)).outcome ≡ answers (addressed a)

-- no two places have one address, whoever asks, and no place has two
abbrev pub OneAddress : Type 0
OneAddress = (x : StartInput) (l m : List Call) (s r : SessionNumber) (p q : Place) (v w a b : ℕ)
    → (step (table_after (start_table x) l) (address_call s p v)).outcome ≡ answers (addressed a)
    → (step (table_after (start_table x) m) (address_call r q w)).outcome ≡ answers (addressed b)
    → (a ≡ b) ↔ (p ≡ q)

-- ---- demand 3: one statement about two lists

-- "An address is given to a session when an address call under that session number answers 0 with it": somewhere in the run of the list from t
pub data Given (s : SessionNumber) (a width : ℕ) : Table → List Call → Type 0 where
  now : {t : Table} {c : Call} {l : List Call} → session_of c ≡ s → width_of c ≡ some width
      → (step t c).outcome.number ≡ 0 → (step t c).outcome.result ≡ addressed a → Given s a width t (c ∷ l)
  later : {t : Table} {c : Call} {l : List Call} → Given s a width (step t c).table l → Given s a width t (c ∷ l)

-- from one table, in two lists
pub record Separate (s : SessionNumber) (t : Table) (l m : List Call) : Type 0 where
  -- the session "gets the same numbers, results and bytes"
  pub same_outcomes : outcomes_of s t l ≡ outcomes_of s t m
  -- "its bridges hold the same at the end"
  pub same_holding : (i : ℕ) → owns s (bridge_at t i) ≡ true → holding (bridge_at (table_after t l) i) ≡ holding (bridge_at (table_after t m) i)
  -- no byte in reach of one session's address is in reach of another's, whichever run gave each
  pub no_shared_byte : (q r : SessionNumber) → (q ≡ r → ⊥) → (a v b w : ℕ) → Given q a v t l ⊎ Given q a v t m → Given r b w t l ⊎ Given r b w t m
      → (x : ℕ) → InReach a v x → InReach b w x → ⊥

-- two lists that agree on the calls of s
abbrev pub Separation : Type 0
Separation = (x : StartInput) (s : SessionNumber) (l m : List Call) → calls_of s l ≡ calls_of s m → Separate s (start_table x) l m

-- ---- negotiation

-- the buffers of an _OSC call with Count 3
pub record Buffers : Type 0 where
  pub caps : List ℕ
  pub answer : List ℕ
  pub caps_length : length caps ≡ 12
  pub answer_length : length answer ≡ 12

-- "right framing, UUID, revision and Count 3"
abbrev pub right_call : SessionNumber → BridgeNumber → Buffers → Call
right_call s n b = on s n (osc 1 3 uuid_bytes b.caps b.answer)

-- the answer buffer that an _OSC call leaves
abbrev pub answer_of : Outcome → List ℕ
answer_of o = get_or o.left 2 []

-- "no other taking call or reset reaches that bridge": no call of the list adds to or clears what the bridge holds, whatever that is
abbrev pub Undisturbed : Table → ℕ → List Call → Type 0
Undisturbed t i [] = Unit {0}
Undisturbed t i (c ∷ l) = ((h : Holding) → history_step t i h c ≡ h) × Undisturbed t i l

-- two queries and a taking call to bridge n of s from the table t on, with the calls l and m between the three
module _ (t : Table) (s : SessionNumber) (n : BridgeNumber) (first second taking : Buffers) (l m : List Call) where
  abbrev pub at_second : Table
  at_second = table_after t (right_call s n first ∷ l)

  abbrev pub at_taking : Table
  at_taking = table_after at_second (right_call s n second ∷ m)

  abbrev pub second_outcome : Outcome
  second_outcome = (step at_second (right_call s n second)).outcome

  abbrev pub taking_outcome : Outcome
  taking_outcome = (step at_taking (right_call s n taking)).outcome

  -- the control DWORD returned by the first query
  abbrev pub returned : ℕ
  returned = control (answer_of (step t (right_call s n first)).outcome)

  -- "The second answer is never masked, and the taking call grants exactly those bits", which are then held
  pub record Negotiated : Type 0 where
    pub second_number : second_outcome.number ≡ 0
    pub second_status : status (answer_of second_outcome) ≡ 0
    pub second_control : control (answer_of second_outcome) ≡ returned
    pub taking_number : taking_outcome.number ≡ 0
    pub taking_status : status (answer_of taking_outcome) ≡ 0
    pub taking_control : control (answer_of taking_outcome) ≡ returned
    pub held_after : (bridge_at (step at_taking (right_call s n taking)).table n.0).held ≡ bit_or (bridge_at t n.0).held returned

-- document 02, d: "The three negotiating calls must now carry the same support field"; to a bridge of the old edition they need not, since no bit of it needs support
abbrev pub SameSupport : Bridge → Buffers → Buffers → Type 0
SameSupport b c d = (b.edition ≡ edition30) ⊎ (support d.caps ≡ support c.caps)

-- after any list of calls, by the owner
abbrev pub Negotiation : Type 0
Negotiation = (x : StartInput) (before l m : List Call) (s : SessionNumber) (n : BridgeNumber) (first second taking : Buffers)
    → let t : Table = table_after (start_table x) before in
    n.0 < t.count → owns s (bridge_at t n.0) ≡ true
    → query first.caps ≡ true → query second.caps ≡ true → query taking.caps ≡ false
    → Undisturbed t n.0 l → Undisturbed t n.0 m
    → SameSupport (bridge_at t n.0) first second → SameSupport (bridge_at t n.0) first taking
    → control second.caps ≡ returned t s n first second taking l m
    → control taking.caps ≡ returned t s n first second taking l m
    → Negotiated t s n first second taking l m
