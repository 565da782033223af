-- The claims, proved.
-- Assumes nothing.
use mathlib.Core.Path.{◌≡◌, refl, sym, ap, ◌∙◌}
use mathlib.Core.Logic.{◌↔◌}
use mathlib.Core.List.{List, []}
use mathlib.Core.Option.{Option, none, some}
use Prim.Native.Nat.{ℕ, zero, suc}
use Rattle.rules.specs.Refusals.{Refusal, first_of, GivenBy}
use Rattle.rules.specs.Tables.{with_holding, bridge_at, with_bridge, fixed}
use Rattle.rules.specs.Place.{no_place}
use Rattle.rules.specs.Start.{StartInput, start_refusals, start_number, start_by, start_table, table_of}
use Rattle.rules.specs.Osc.{recognised, osc_after}
use Rattle.rules.specs.Parts.{part_by}
use Rattle.rules.specs.Records.{record_refusals, record_part, find_record, deciding, record_in}
use Rattle.rules.specs.Rom.{image_refusals, image_part, find_image, image_in}
use Rattle.rules.specs.Writer.{write_refusals, written_by, buffer_by, write_records}
use Rattle.rules.specs.Calls.{osc, Call, on, locate, number_at, outcome_by, bridge_by, locate_by, locate_refusals, place_by, window_of, located, step, listed, zeros, lent, zeros_of, lent_to, table_after}
use Rattle.rules.specs.History.{history_from}
use Rattle.rules.specs.Claims.{RefusalsExactly, RefusedChangesNothing, TablesSound, History, QueriesChangeNothing, HeldUntilReset, ThereAndBack, BackAndThere, OneAddress, Separation, Negotiation}
use Rattle.rules.specs.declared.Table.{Table}
use Rattle.rules.proofs.Tests.{and_off}
use Rattle.rules.proofs.Refusals.{exactly}
use Rattle.rules.proofs.Local.{fixed_step, fixed_after, same_bridges, same_bridge}
use Rattle.rules.proofs.Separation.{same_outcomes, same_holding}
use Rattle.rules.proofs.Soundness.{sound_step, sound_after}
use Rattle.rules.proofs.Reach.{number_by, no_shared_byte}
use Rattle.rules.proofs.Places.{there_and_back_like, back_and_there_like, one_address_like}
use Rattle.rules.proofs.Starting.{start_sound, start_holds}
use Rattle.rules.proofs.History.{history_from_lem, in_array, held_bit}
use Rattle.rules.proofs.Negotiation.{negotiated}
use Rattle.rules.specs.declared.FoundAt.{FoundAt}
use Rattle.rules.specs.declared.Place.{Place}
use Rattle.rules.specs.declared.Holding.{Holding}
use Rattle.rules.specs.declared.Settings.{Settings}

-- ---- refusals

locate_number : (k : ℕ) (p : Place) → (locate_by k p).number ≡ k
locate_number zero p = refl
locate_number (suc k) p = refl

-- a search's number, where a part that is found has number 0
part_number : {A : Type 0} (p : A → FoundAt) → ((x : A) → (p x).number ≡ 0) → (k : ℕ) (o : Option A) → (part_by p k o).number ≡ k
part_number p z zero none = refl
part_number p z zero (some x) = z x
part_number p z (suc k) o = refl

write_number : (s : Settings) (k : ℕ) → (written_by k s).number ≡ k
write_number s zero = refl
write_number s (suc k) = refl

call_number : (t : Table) (c : Call) → (step t c).outcome.number ≡ first_of (listed t c)
unfolding step
call_number t (on s n o) = number_by (number_at t.count s n (bridge_at t n.0) o) (bridge_at t n.0) o
call_number t (locate s a) = locate_number (first_of (locate_refusals (fixed t) s a)) (place_by (fixed t) a (window_of (fixed t) s a))

-- a number that is the first of a list is given by the list
by_list : (n k : ℕ) (l : List Refusal) → n ≡ first_of l → n ≡ k ↔ GivenBy k l
by_list n k l e = (λ h. (exactly k l).0 (sym e ∙ h), λ f. e ∙ (exactly k l).1 f)

pub refusals_exactly : RefusalsExactly
unfolding start_number
refusals_exactly = (
  λ t c k. by_list (step t c).outcome.number k (listed t c) (call_number t c),
  λ x k. by_list (start_number x) k (start_refusals x) refl,
  λ slot block type k. by_list (find_record slot block type).number k (record_refusals slot block type)
      (part_number record_part (λ f. refl) (first_of (record_refusals slot block type)) (record_in (deciding slot block) type)),
  λ rom vendor device code_type k. by_list (find_image rom vendor device code_type).number k (image_refusals rom vendor device code_type)
      (part_number image_part (λ m. refl) (first_of (image_refusals rom vendor device code_type)) (image_in rom vendor device code_type)),
  λ s buffer k. by_list (write_records s buffer).number k (write_refusals s buffer) (write_number s (first_of (write_refusals s buffer))),
)

-- ---- refused calls

call_refused : (t : Table) (c : Call) → ((step t c).outcome.number ≡ 0 → ⊥)
    → ((step t c).table ≡ t) × ((step t c).outcome.result ≡ zeros_of c) × ((step t c).outcome.left ≡ lent_to c)
unfolding step
call_refused t (on s n o) = go (number_at t.count s n (bridge_at t n.0) o)
  where
    go : (k : ℕ) → ((outcome_by k (bridge_at t n.0) o).number ≡ 0 → ⊥)
        → (with_bridge t n.0 (bridge_by k (bridge_at t n.0) o) ≡ t) × ((outcome_by k (bridge_at t n.0) o).result ≡ zeros o) × ((outcome_by k (bridge_at t n.0) o).left ≡ lent o)
    go zero r = absurd (r (number_by 0 (bridge_at t n.0) o))
    go (suc k) r = (same_bridge t n.0, refl, refl)
call_refused t (locate s a) = go (first_of (locate_refusals (fixed t) s a)) (place_by (fixed t) a (window_of (fixed t) s a))
  where
    go : (k : ℕ) (p : Place) → ((locate_by k p).number ≡ 0 → ⊥) → (t ≡ t) × ((locate_by k p).result ≡ located no_place) × ((locate_by k p).left ≡ [])
    go zero p r = absurd (r refl)
    go (suc k) p r = (refl, refl, refl)

start_refused : (k : ℕ) (x : StartInput) → (k ≡ 0 → ⊥) → start_by k x ≡ table_of []
start_refused zero x r = absurd (r refl)
start_refused (suc k) x r = refl

part_refused : {A : Type 0} (p : A → FoundAt) → ((x : A) → (p x).number ≡ 0) → (k : ℕ) (o : Option A) → ((part_by p k o).number ≡ 0 → ⊥) → ((part_by p k o).start ≡ 0) × ((part_by p k o).size ≡ 0)
part_refused p z zero none r = (refl, refl)
part_refused p z zero (some x) r = absurd (r (z x))
part_refused p z (suc k) o r = (refl, refl)

write_refused : (s : Settings) (buffer : List ℕ) (k : ℕ) → ((written_by k s).number ≡ 0 → ⊥) → ((written_by k s).length ≡ 0) × (buffer_by k s buffer ≡ buffer)
write_refused s buffer zero r = absurd (r refl)
write_refused s buffer (suc k) r = (refl, refl)

pub refused_changes_nothing : RefusedChangesNothing
unfolding start_table
refused_changes_nothing = (
  call_refused,
  λ x. start_refused (start_number x) x,
  λ slot block type. part_refused record_part (λ f. refl) (first_of (record_refusals slot block type)) (record_in (deciding slot block) type),
  λ rom vendor device code_type.
      part_refused image_part (λ m. refl) (first_of (image_refusals rom vendor device code_type)) (image_in rom vendor device code_type),
  λ s buffer. write_refused s buffer (first_of (write_refusals s buffer)),
)

-- ---- tables

pub tables_sound : TablesSound
tables_sound = (
  start_sound,
  sound_step,
  λ t c. (ap (λ (x : Table). x.count) (fixed_step t c), same_bridges (step t c).table t (fixed_step t c)),
)

pub history_holds : History
history_holds x l i h =
    history_from_lem (start_table x) i l (start_table x) refl (in_array (start_table x) (start_sound x) i h)
    ∙ ap (λ (y : Holding). history_from (start_table x) i y l) (start_holds x i)

pub queries_change_nothing : QueriesChangeNothing
unfolding step osc_after
queries_change_nothing t s n revision count uuid caps answer q =
    go (number_at t.count s n (bridge_at t n.0) (osc revision count uuid caps answer))
  where
    unchanged : with_holding (bridge_at t n.0) (osc_after (bridge_at t n.0) revision count uuid caps) ≡ bridge_at t n.0
    unchanged = rw (q, and_off (recognised revision count uuid))

    go : (k : ℕ) → with_bridge t n.0 (bridge_by k (bridge_at t n.0) (osc revision count uuid caps answer)) ≡ t
    go zero = ap (with_bridge t n.0) unchanged ∙ same_bridge t n.0
    go (suc k) = same_bridge t n.0

pub held_until_reset : HeldUntilReset
held_until_reset t c i j st h e r = held_bit t st c i j h e r

-- ---- places: any two tables of runs from one start differ in nothing fixed

module _ (x : StartInput) (l m : List Call) where
  two_runs : fixed (table_after (start_table x) l) ≡ fixed (table_after (start_table x) m)
  two_runs = fixed_after l (start_table x) ∙ sym (fixed_after m (start_table x))

pub there_and_back : ThereAndBack
there_and_back x l m = there_and_back_like (table_after (start_table x) l) (table_after (start_table x) m) (two_runs x l m) (sound_after (start_table x) m (start_sound x))

pub back_and_there : BackAndThere
back_and_there x l m = back_and_there_like (table_after (start_table x) l) (table_after (start_table x) m) (two_runs x l m) (sound_after (start_table x) m (start_sound x))

pub one_address : OneAddress
one_address x l m = one_address_like (table_after (start_table x) l) (table_after (start_table x) m) (two_runs x l m) (sound_after (start_table x) m (start_sound x))

-- ---- separation and negotiation

pub separation : Separation
separation x s l m e = record {
  same_outcomes = same_outcomes s (start_table x) l m e;
  same_holding = same_holding s (start_table x) l m e;
  no_shared_byte = no_shared_byte (start_sound x);
}

pub negotiation : Negotiation
negotiation x before l m = negotiated (table_after (start_table x) before) (sound_after (start_table x) before (start_sound x)) l m
