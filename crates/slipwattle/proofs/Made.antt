-- What the claims give for calls made one after the other, where each call does what the contracts of the exported functions say. Assumes nothing.
--     Made        calls on one lent table: each hands back and leaves what `step` says, as its contract does, and the next finds the table that it left
-- Each claim is used here at a type that is written out, so that one that is missing or renamed, or that says less, is an error.
use mathlib.Core.Path.{◌≡◌, refl, sym, ap, subst, ◌∙◌}
use mathlib.Core.Logic.{◌↔◌, ◌⊎◌}
use mathlib.Core.Bool.{Bool, true, false, not, cond, ◌&&◌, ◌||◌}
use mathlib.Core.List.{List, [], ◌∷◌, ◌++◌, map}
use Prim.Native.Nat.{ℕ, suc, ◌+◌, ◌-◌, ◌*◌, ◌≤◌, ◌<◌}
use native.Mathlib.Omega.{arith}
use lib.Bits.{bit_and, bit_or}
use lib.Dec.{eqb, leb, ltb}
use lib.ListN.{length, get_or, take, drop, replicate}
use mathlib.Core.Option.{some}
use Rattle.rules.specs.Limits.{max_owner, max_rom}
use Rattle.rules.specs.Numbers.{byte, word, dword, le32, bit, within, number}
use Rattle.rules.specs.Lists.{every, pairwise, is_none}
use Rattle.rules.specs.Refusals.{GivenBy}
use Rattle.rules.specs.Tables.{nothing_held, holding, cleared, owns, bridge_at}
use Rattle.rules.specs.Place.{InReach}
use Rattle.rules.specs.Start.{StartInput, entry_of, row_sound, start_refusals, start_number, start_table, table_of, Sound}
use Rattle.rules.specs.Granting.{Needs, granted_by}
use Rattle.rules.specs.Editions.{control_bits, known_support}
use Rattle.rules.specs.Osc.{granted, recognised, error_status, status, query, support, control, osc_answer, osc_after}
use Rattle.rules.specs.Records.{and_mask, or_mask, block_sound, deciding, record_in, record_refusals, find_record}
use Rattle.rules.specs.Rom.{image_signature, structure_at, images_of, rom_sound, image_refusals, find_image, Chain}
use Rattle.rules.specs.Writer.{Setting, present_in, write_refusals, write_records, buffer_after, read_settings, place_among, only_rising}
use Rattle.rules.specs.Calls.{Call, on, osc, reset, locate, Result, addressed, located, Outcome, outcome, step, listed, zeros_of, lent_to, table_after, outcomes, is_under, calls_of, outcomes_of}
use Rattle.rules.specs.History.{reaches, history_from}
use Rattle.rules.specs.Claims.{acpi_bit, address_call, answers, Given, Separate, Buffers, right_call, answer_of, Undisturbed, at_taking, second_outcome, taking_outcome, returned, Negotiated}
use Rattle.rules.specs.BenchSheet.{AllHold, sheet}
use Rattle.rules.specs.BenchRuns.{starts, run, searches, masks, writes, reads, images, rom_sizes, registers, grants, editions, mixed, places}
use Rattle.rules.specs.declared.Table.{Table}
use Rattle.rules.specs.declared.Bridge.{Bridge}
use Rattle.rules.specs.declared.BridgeRow.{BridgeRow}
use Rattle.rules.specs.declared.Entry.{Entry}
use Rattle.rules.specs.declared.Field.{Field}
use Rattle.rules.specs.declared.FoundAt.{FoundAt}
use Rattle.rules.specs.declared.Image.{Image}
use Rattle.rules.specs.declared.Place.{Place}
use Rattle.rules.specs.declared.BridgeNumber.{BridgeNumber}
use Rattle.rules.specs.declared.SessionNumber.{SessionNumber}
use Rattle.rules.specs.declared.Settings.{Settings}
use Rattle.rules.proofs.AllClaims.{all_claims}

-- ---- calls made one after the other

pub data Made : Table → List Call → List Outcome → Table → Type 0 where
  none : {t : Table} → Made t [] [] t
  call : {t u v : Table} {c : Call} {o : Outcome} {l : List Call} {p : List Outcome}
      → o ≡ (step t c).outcome → u ≡ (step t c).table → Made u l p v → Made t (c ∷ l) (o ∷ p) v

pub made_outcomes : (t : Table) (l : List Call) (p : List Outcome) (u : Table) → Made t l p u → p ≡ outcomes t l
made_outcomes t [] [] u none = refl
made_outcomes t [] (o ∷ p) u m = elim m [ ]
made_outcomes t (c ∷ l) [] u m = elim m [ ]
made_outcomes t (c ∷ l) (o ∷ p) v (call e f m) =
    ap (λ (x : Outcome). x ∷ p) e
    ∙ ap (λ (q : List Outcome). (step t c).outcome ∷ q) (made_outcomes _ l p v m ∙ ap (λ (w : Table). outcomes w l) f)

pub made_table : (t : Table) (l : List Call) (p : List Outcome) (u : Table) → Made t l p u → u ≡ table_after t l
made_table t [] [] u none = refl
made_table t [] (o ∷ p) u m = elim m [ ]
made_table t (c ∷ l) [] u m = elim m [ ]
made_table t (c ∷ l) (o ∷ p) v (call e f m) = made_table _ l p v m ∙ ap (λ (w : Table). table_after w l) f

-- what each call requires holds of the table that it finds
pub made_sound : (x : StartInput) (l : List Call) (p : List Outcome) (u : Table) → Made (start_table x) l p u → Sound u
made_sound x l p u m = subst Sound (sym (made_table (start_table x) l p u m)) (go (start_table x) l (all_claims.tables_sound.0 x))
  where
    go : (t : Table) (l : List Call) → Sound t → Sound (table_after t l)
    go t [] h = h
    go t (c ∷ l) h = go (step t c).table l (all_claims.tables_sound.1 t c h)

-- nothing but what bridges hold differs
pub made_fixed : (t : Table) (l : List Call) (p : List Outcome) (u : Table) → Made t l p u
    → (u.count ≡ t.count) × ((i : ℕ) → cleared (bridge_at u i) ≡ cleared (bridge_at t i))
made_fixed t [] [] u none = (refl, λ i. refl)
made_fixed t [] (o ∷ p) u m = elim m [ ]
made_fixed t (c ∷ l) [] u m = elim m [ ]
made_fixed t (c ∷ l) (o ∷ p) v (call {u = u} e f m) = (
  (made_fixed u l p v m).0 ∙ ap (λ (w : Table). w.count) f ∙ here.0,
  λ i. (made_fixed u l p v m).1 i ∙ ap (λ (w : Table). cleared (bridge_at w i)) f ∙ here.1 i,
)
  where
    here : ((step t c).table.count ≡ t.count) × ((i : ℕ) → cleared (bridge_at (step t c).table i) ≡ cleared (bridge_at t i))
    here = all_claims.tables_sound.2 t c

-- ---- demand 1, of any call: its number is the first in its list whose condition holds, and that fixes all that a refused call gives

pub exactly : (t : Table) (c : Call) (k : ℕ) → (step t c).outcome.number ≡ k ↔ GivenBy k (listed t c)
exactly = all_claims.refusals_exactly.0

pub exactly_start : (x : StartInput) (k : ℕ) → start_number x ≡ k ↔ GivenBy k (start_refusals x)
exactly_start = all_claims.refusals_exactly.1

pub exactly_search : (slot block : List ℕ) (type k : ℕ) → (find_record slot block type).number ≡ k ↔ GivenBy k (record_refusals slot block type)
exactly_search = all_claims.refusals_exactly.2

pub exactly_image : (rom : List ℕ) (vendor device code_type k : ℕ) → (find_image rom vendor device code_type).number ≡ k ↔ GivenBy k (image_refusals rom vendor device code_type)
exactly_image = all_claims.refusals_exactly.3

pub exactly_write : (s : Settings) (buffer : List ℕ) (k : ℕ) → (write_records s buffer).number ≡ k ↔ GivenBy k (write_refusals s buffer)
exactly_write = all_claims.refusals_exactly.4

not_zero : (n k : ℕ) → n ≡ suc k → n ≡ 0 → ⊥
not_zero n k e z = let f : suc k ≡ 0 = sym e ∙ z in absurd (omega arith)

pub refused : (t : Table) (c : Call) (k : ℕ) → GivenBy (suc k) (listed t c)
    → ((step t c).outcome ≡ outcome (suc k) (zeros_of c) (lent_to c)) × ((step t c).table ≡ t)
refused t c k g = (
  ap (λ (n : ℕ). outcome n o.result o.left) number
      ∙ ap (λ (r : Result). outcome (suc k) r o.left) kept.1
      ∙ ap (outcome (suc k) (zeros_of c)) kept.2,
  kept.0,
)
  where
    o : Outcome
    o = (step t c).outcome

    number : o.number ≡ suc k
    number = (exactly t c (suc k)).1 g

    kept : ((step t c).table ≡ t) × (o.result ≡ zeros_of c) × (o.left ≡ lent_to c)
    kept = all_claims.refused_changes_nothing.0 t c (not_zero o.number k number)

pub refused_start : (x : StartInput) (k : ℕ) → GivenBy (suc k) (start_refusals x) → start_table x ≡ table_of []
refused_start x k g = all_claims.refused_changes_nothing.1 x (not_zero (start_number x) k ((exactly_start x (suc k)).1 g))

pub refused_search : (slot block : List ℕ) (type k : ℕ) → GivenBy (suc k) (record_refusals slot block type)
    → ((find_record slot block type).start ≡ 0) × ((find_record slot block type).size ≡ 0)
refused_search slot block type k g =
    all_claims.refused_changes_nothing.2 slot block type (not_zero (find_record slot block type).number k ((exactly_search slot block type (suc k)).1 g))

pub refused_image : (rom : List ℕ) (vendor device code_type k : ℕ) → GivenBy (suc k) (image_refusals rom vendor device code_type)
    → ((find_image rom vendor device code_type).start ≡ 0) × ((find_image rom vendor device code_type).size ≡ 0)
refused_image rom vendor device code_type k g =
    all_claims.refused_changes_nothing.3 rom vendor device code_type
    (not_zero (find_image rom vendor device code_type).number k ((exactly_image rom vendor device code_type (suc k)).1 g))

pub refused_write : (s : Settings) (buffer : List ℕ) (k : ℕ) → GivenBy (suc k) (write_refusals s buffer)
    → ((write_records s buffer).length ≡ 0) × (buffer_after s buffer ≡ buffer)
refused_write s buffer k g =
    all_claims.refused_changes_nothing.4 s buffer (not_zero (write_records s buffer).number k ((exactly_write s buffer (suc k)).1 g))

pub same_lengths : (t : Table) (c : Call) → map length (step t c).outcome.left ≡ map length (lent_to c)
same_lengths = all_claims.buffers_keep_length

pub found_inside : (slot block : List ℕ) (type : ℕ) → (find_record slot block type).number ≡ 0
    → let l : List ℕ = deciding slot block in
    let f : FoundAt = find_record slot block type in
    (f.start + f.size ≤ length l) × (byte l f.start ≡ type) × (f.size ≡ 3 + word l (1 + f.start)) × (dword l (3 + f.start) ≡ 1)
found_inside = all_claims.record_part_lem

pub image_inside : (rom : List ℕ) (vendor device code_type : ℕ) → (find_image rom vendor device code_type).number ≡ 0
    → let f : FoundAt = find_image rom vendor device code_type in
    let s : ℕ = structure_at rom f.start in
    (f.start + f.size ≤ length rom) × (f.size ≡ 512 * word rom (0x10 + s)) × (take 2 (drop f.start rom) ≡ image_signature)
    × (word rom (4 + s) ≡ vendor) × (word rom (6 + s) ≡ device) × (byte rom (0x14 + s) ≡ code_type)
image_inside = all_claims.image_part_lem

pub chain_sound_lem : (rom : List ℕ) (r : List Image) → ((rom_sound rom ≡ true) × (images_of rom ≡ some r)) ↔ ((length rom ≤ max_rom) × Chain rom 0 r)
chain_sound_lem = all_claims.sound_chain

-- ---- document 02, h: what a pair of masks asks of each bit, and the pairs of a sound block

pub bits_asked : (and or : ℕ) → within or and ≡ true ↔ ((current i : ℕ) → acpi_bit (bit and i) (bit or i) (bit current i) ≡ some (bit (bit_or (bit_and current and) or) i))
bits_asked = all_claims.three_cases

pub pairs_sound : (block : List ℕ) (f : Field) (k : ℕ) → block_sound block ≡ true → record_in block 2 ≡ some f → k < 8
    → within (or_mask block f k) (and_mask block f k) ≡ true
pairs_sound = all_claims.sound_pairs

-- ---- document 02, g: written, read, and written again

module _ (s : Settings) (buffer : List ℕ) (fit : every (λ (r : Setting). every (λ x. ltb x 4294967296) r.numbers) (present_in s) ≡ true) (z : (write_records s buffer).number ≡ 0) where
  abbrev part : List ℕ
  part = take (write_records s buffer).length (buffer_after s buffer)

  pub sound_written : let n : ℕ = (write_records s buffer).length in
      (n ≤ length buffer) × (drop n (buffer_after s buffer) ≡ drop n buffer) × (length (buffer_after s buffer) ≡ length buffer)
      × (block_sound part ≡ true) × (only_rising part ≡ true)
  sound_written = all_claims.written_sound s buffer fit z

  pub read_back : (present_in (read_settings part) ≡ present_in s) × ((type : ℕ) → find_record [] part type ≡ place_among type 0 (present_in s))
  read_back = all_claims.written_read_back s buffer fit z

pub written_again : (block buffer : List ℕ) → every (λ x. ltb x 256) block ≡ true → block_sound block ≡ true → only_rising block ≡ true → length block ≤ length buffer
    → (write_records (read_settings block) buffer ≡ record { number = 0; length = length block })
    × (buffer_after (read_settings block) buffer ≡ block ++ drop (length block) buffer)
written_again = all_claims.read_written_again

-- ---- demand 2, of a list of calls made

module _ (x : StartInput) (l : List Call) (p : List Outcome) (u : Table) (a : Made (start_table x) l p u) where
  pub holds : (i : ℕ) → i < (start_table x).count → holding (bridge_at u i) ≡ history_from (start_table x) i nothing_held l
  holds i h = ap (λ (w : Table). holding (bridge_at w i)) (made_table (start_table x) l p u a) ∙ all_claims.history_holds x l i h

pub query_leaves : (t : Table) (s : SessionNumber) (n : BridgeNumber) (revision count : ℕ) (uuid caps answer : List ℕ)
    → query caps ≡ true → (step t (on s n (osc revision count uuid caps answer))).table ≡ t
query_leaves = all_claims.queries_change_nothing

pub held_stays : (t : Table) (c : Call) (i j : ℕ) → Sound t → i < t.count → bit (bridge_at t i).held j ≡ true
    → ((s : SessionNumber) (n : BridgeNumber) → c ≡ on s n reset → reaches t i s n ≡ false)
    → bit (bridge_at (step t c).table i).held j ≡ true
held_stays = all_claims.held_until_reset

-- ---- demands 2 and 3, of two lists of calls made from one start

module _ (x : StartInput) (l m : List Call) (p q : List Outcome) (u v : Table) (a : Made (start_table x) l p u) (b : Made (start_table x) m q v) where
  first : (A : Table → Type 0) → A u → A (table_after (start_table x) l)
  first A = subst A (made_table (start_table x) l p u a)

  second : (A : Table → Type 0) → A (table_after (start_table x) m) → A v
  second A = subst A (sym (made_table (start_table x) m q v b))

  second_too : (A : Table → Type 0) → A v → A (table_after (start_table x) m)
  second_too A = subst A (made_table (start_table x) m q v b)

  pub there_and_back : (s : SessionNumber) (k : Place) (width c : ℕ)
      → (step u (address_call s k width)).outcome ≡ answers (addressed c) → (step v (locate s c)).outcome ≡ answers (located k)
  there_and_back s k width c h =
      second
      (λ (w : Table). (step w (locate s c)).outcome ≡ answers (located k))
      (all_claims.there_and_back x l m s k width c (first (λ (w : Table). (step w (address_call s k width)).outcome ≡ answers (addressed c)) h))

  pub back_and_there : (s : SessionNumber) (k : Place) (c : ℕ)
      → (step u (locate s c)).outcome ≡ answers (located k) → (step v (address_call s k 1)).outcome ≡ answers (addressed c)
  back_and_there s k c h =
      second
      (λ (w : Table). (step w (address_call s k 1)).outcome ≡ answers (addressed c))
      (all_claims.back_and_there x l m s k c (first (λ (w : Table). (step w (locate s c)).outcome ≡ answers (located k)) h))

  pub one_address : (s r : SessionNumber) (k n : Place) (y z c d : ℕ)
      → (step u (address_call s k y)).outcome ≡ answers (addressed c) → (step v (address_call r n z)).outcome ≡ answers (addressed d)
      → (c ≡ d) ↔ (k ≡ n)
  one_address s r k n y z c d h i =
      all_claims.one_address x l m s r k n y z c d
      (first (λ (w : Table). (step w (address_call s k y)).outcome ≡ answers (addressed c)) h)
      (second_too (λ (w : Table). (step w (address_call r n z)).outcome ≡ answers (addressed d)) i)

-- what a session's calls of a list gave
abbrev pub mine : SessionNumber → List Call → List Outcome → List Outcome
mine s [] p = []
mine s (c ∷ l) [] = []
mine s (c ∷ l) (o ∷ p) = cond (is_under s c) (o ∷ mine s l p) (mine s l p)

mine_is : (s : SessionNumber) (t : Table) (l : List Call) → mine s l (outcomes t l) ≡ outcomes_of s t l
mine_is s t [] = refl
mine_is s t (c ∷ l) = ap (λ (q : List Outcome). cond (is_under s c) ((step t c).outcome ∷ q) q) (mine_is s (step t c).table l)

module _ (x : StartInput) (l m : List Call) (p q : List Outcome) (u v : Table) (a : Made (start_table x) l p u) (b : Made (start_table x) m q v) where
  module _ (s : SessionNumber) (e : calls_of s l ≡ calls_of s m) where
    apart : Separate s (start_table x) l m
    apart = all_claims.separation x s l m e

    given : (l : List Call) (p : List Outcome) (u : Table) → Made (start_table x) l p u → mine s l p ≡ outcomes_of s (start_table x) l
    given l p u a = ap (mine s l) (made_outcomes (start_table x) l p u a) ∙ mine_is s (start_table x) l

    at : (l : List Call) (p : List Outcome) (u : Table) → Made (start_table x) l p u
        → (i : ℕ) → holding (bridge_at u i) ≡ holding (bridge_at (table_after (start_table x) l) i)
    at l p u a i = ap (λ (w : Table). holding (bridge_at w i)) (made_table (start_table x) l p u a)

    -- the session gets the same, its bridges hold the same, and no address reaches another session's
    pub same_given : mine s l p ≡ mine s m q
    same_given = given l p u a ∙ apart.same_outcomes ∙ sym (given m q v b)

    pub same_held : (i : ℕ) → owns s (bridge_at (start_table x) i) ≡ true → holding (bridge_at u i) ≡ holding (bridge_at v i)
    same_held i h = at l p u a i ∙ apart.same_holding i h ∙ sym (at m q v b i)

    pub no_shared_byte : (g r : SessionNumber) → (g ≡ r → ⊥) → (c y d z : ℕ)
        → Given g c y (start_table x) l ⊎ Given g c y (start_table x) m → Given r d z (start_table x) l ⊎ Given r d z (start_table x) m
        → (k : ℕ) → InReach c y k → InReach d z k → ⊥
    no_shared_byte = apart.no_shared_byte

-- ---- negotiation, from any table of a run

pub negotiated : (x : StartInput) (before l m : List Call) (s : SessionNumber) (n : BridgeNumber) (f g h : Buffers)
    → let t : Table = table_after (start_table x) before in
    n.0 < t.count → owns s (bridge_at t n.0) ≡ true
    → query f.caps ≡ true → query g.caps ≡ true → query h.caps ≡ false
    → Undisturbed t n.0 l → Undisturbed t n.0 m
    → ((bridge_at t n.0).edition ≡ 0) ⊎ (support g.caps ≡ support f.caps) → ((bridge_at t n.0).edition ≡ 0) ⊎ (support h.caps ≡ support f.caps)
    → control g.caps ≡ returned t s n f g h l m → control h.caps ≡ returned t s n f g h l m
    → Negotiated t s n f g h l m
negotiated = all_claims.negotiation

pub negotiation_gives : (t : Table) (s : SessionNumber) (n : BridgeNumber) (f g h : Buffers) (l m : List Call) → Negotiated t s n f g h l m
    → let o : Outcome = second_outcome t s n f g h l m in
    let r : Outcome = taking_outcome t s n f g h l m in
    let c : ℕ = returned t s n f g h l m in
    (o.number ≡ 0) × (status (answer_of o) ≡ 0) × (control (answer_of o) ≡ c)
    × (r.number ≡ 0) × (status (answer_of r) ≡ 0) × (control (answer_of r) ≡ c)
    × ((bridge_at (step (at_taking t s n f g h l m) (right_call s n h)).table n.0).held ≡ bit_or (bridge_at t n.0).held c)
negotiation_gives t s n f g h l m d =
    (d.second_number, d.second_status, d.second_control, d.taking_number, d.taking_status, d.taking_control, d.held_after)

-- ---- what the definitions mean, and the lines of the document

pub every_and_pair : (A : Type 0) (d : A) (l : List A)
    → ((p : A → Bool) → every p l ≡ true ↔ ((i : ℕ) → i < length l → p (get_or l i d) ≡ true))
    × ((p : A → A → Bool) → pairwise p l ≡ true ↔ ((i j : ℕ) → i < j → j < length l → p (get_or l i d) (get_or l j d) ≡ true))
every_and_pair = all_claims.every_and_pair

-- the granted set of any list of bits and needs: each of its bits is requested, known, and held or permitted with its needs; and every other set of such bits lies within it
module _ (bits : List Needs) (permitted held declared requested : ℕ) where
  -- the control bits that bit i needs, and the support bits
  abbrev controls : ℕ → ℕ
  controls i = (get_or bits i (record { controls = 0; supports = 0 })).controls

  abbrev supports : ℕ → ℕ
  supports i = (get_or bits i (record { controls = 0; supports = 0 })).supports

  abbrev FitsIn : ℕ → Type 0
  FitsIn set = (i : ℕ) → bit set i ≡ true
      → (bit requested i ≡ true) × (i < length bits) × ((bit held i || (bit permitted i && within (controls i) set && within (supports i) declared)) ≡ true)

  abbrev Largest : ℕ → Type 0
  Largest set = FitsIn set × ((other : ℕ) → FitsIn other → within other set ≡ true)

  pub set_largest : Largest (granted_by bits permitted held declared requested)
  set_largest = let l = all_claims.granted_largest.0 bits permitted held declared requested in (l.fits, l.largest)

-- a bridge's, by its edition and its own bits
pub bridge_grants : (b : Bridge) (w requested : ℕ)
    → Largest (control_bits b.edition) b.permitted b.held (bit_or b.supported (bit_and w (known_support b.edition))) requested (granted b w requested)
bridge_grants b w requested = let l = all_claims.granted_largest.1 b w requested in (l.fits, l.largest)

-- what each bit of edition 3.3 needs, and how many there are
pub needs_33 : (map (λ (x : Needs). x.controls) (control_bits 1) ≡ (0x10 ∷ 0x10 ∷ 0x10 ∷ 0x90 ∷ 0 ∷ 0x10 ∷ 0 ∷ 0x18 ∷ 0x10 ∷ 0 ∷ []))
    × (map (λ (x : Needs). x.supports) (control_bits 1) ≡ (0 ∷ 0 ∷ 0 ∷ 0 ∷ 0 ∷ 0 ∷ 0 ∷ 0x80 ∷ 0 ∷ 0 ∷ [])) × (known_support 1 ≡ 0x1FF)
unfolding control_bits known_support
needs_33 = (refl, refl, refl)

-- rows of the old edition answer as they did
abbrev old_rule : Bridge → ℕ → ℕ → Bool
old_rule b requested i =
    bit requested i && bit 0x1F i && (bit b.held i || (bit b.permitted i && within (get_or (0x10 ∷ 0 ∷ 0x10 ∷ 0x10 ∷ 0 ∷ []) i 0) (bit_and requested (bit_or b.held b.permitted))))

module _ (b : Bridge) (e : b.edition ≡ 0) where
  pub old_granted_lem : (w requested i : ℕ) → (bit (granted b w requested) i ≡ old_rule b requested i) × (granted b w requested ≡ number 32 (old_rule b requested))
  old_granted_lem = (all_claims.old_rows.0 b e).0

  pub old_answer : (revision count : ℕ) (uuid caps : List ℕ) → let g : ℕ = number 32 (old_rule b (control caps)) in
      (osc_answer b revision count uuid caps ≡ cond (recognised revision count uuid)
      (le32 (cond (within (control caps) g) 0 0x10) ++ le32 (support caps) ++ le32 g)
      (le32 (error_status revision uuid) ++ replicate (4 * count - 4) 0))
      × (osc_after b revision count uuid caps ≡ cond (recognised revision count uuid && not (query caps))
      (record { held = bit_or b.held g; supported = bit_or b.supported (bit_and (support caps) 0x1F) }) (holding b))
  old_answer = (all_claims.old_rows.0 b e).1

pub old_row_sound_lem : (es : List Entry) (r : BridgeRow) → r.edition ≡ 0 → row_sound es r ≡ (leb r.owner.0 max_owner && leb r.first_bus r.last_bus
    && not (is_none (entry_of es r)) && (eqb r.kind 0 || eqb r.kind 1) && within r.permitted (cond (eqb r.kind 1) 0x02 0x1F))
old_row_sound_lem = all_claims.old_rows.1

-- as many lines as there are, and all hold
pub lines : AllHold sheet × (AllHold starts × AllHold run × AllHold searches × AllHold masks × AllHold writes × AllHold reads × AllHold images × AllHold rom_sizes × AllHold registers × AllHold grants × AllHold editions × AllHold mixed × AllHold places)
lines = (all_claims.bench_sheet, all_claims.example_runs)

pub how_many : (length sheet ≡ 14) × (length starts ≡ 42) × (length run ≡ 1) × (length searches ≡ 17) × (length masks ≡ 33) × (length writes ≡ 53) × (length reads ≡ 11) × (length images ≡ 29) × (length rom_sizes ≡ 2) × (length registers ≡ 11) × (length grants ≡ 5) × (length editions ≡ 48) × (length mixed ≡ 1) × (length places ≡ 13)
how_many = (refl, refl, refl, refl, refl, refl, refl, refl, refl, refl, refl, refl, refl, refl)
