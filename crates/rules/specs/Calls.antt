-- Document 01, "Refusal numbers" and "Proof of the pudding": what each call on a table refuses, hands back, leaves and changes; lists of calls.
use Rattle.std.specs.Prelude.{ℕ, zero, suc, Bool, not, cond, List, [], ◌∷◌, eqb, leb, replicate}
use Rattle.std.proofs.Math.Option.{Option, none, some}
use Rattle.rules.specs.Lists.{find, is_none}
use Rattle.rules.specs.Numbers.{bit}
use Rattle.rules.specs.Refusals.{Refusal, ◌if◌, first_of}
use Rattle.rules.specs.Tables.{nothing_held, holding, with_holding, owns, bridge_at, bridges_of, with_bridge, fixed}
use Rattle.rules.specs.Place.{address_of, place_bad, bus_outside, own_window, place_of, no_place}
use Rattle.rules.specs.Osc.{framing_bad, osc_answer, osc_after}
use Rattle.rules.specs.Records.{block_sound, deciding, record_in, registers_bad, new_values}
use Rattle.rules.specs.declared.Bridge.{Bridge}
use Rattle.rules.specs.declared.BridgeNumber.{BridgeNumber}
use Rattle.rules.specs.declared.SessionNumber.{SessionNumber}
use Rattle.rules.specs.declared.Table.{Table}
use Rattle.rules.specs.declared.Field.{Field}
use Rattle.rules.specs.declared.Place.{Place}
use Rattle.rules.specs.declared.Holding.{Holding}

-- what a call asks of the one bridge that it names
pub data Operation : Type 0 where
  osc : (revision count : ℕ) (uuid capabilities answer : List ℕ) → Operation
  reset : Operation
  report : Operation
  address : (bus device function offset width : ℕ) → Operation
  register_values : (slot block current : List ℕ) → Operation

-- "A list gives each call its kind, its session number, its other numbers and the bytes lent to it"; locate is document 01's "back"
pub data Call : Type 0 where
  on : SessionNumber → BridgeNumber → Operation → Call
  locate : SessionNumber → (at : ℕ) → Call

-- "The result is all that the call hands back beside its number and the table"
pub data Result : Type 0 where
  nothing : Result
  reported : Holding → Result
  addressed : ℕ → Result
  located : Place → Result
  values : List ℕ → Result

-- number, result, and "the bytes it leaves" in every buffer lent to it
pub record Outcome : Type 0 where
  pub number : ℕ
  pub result : Result
  pub left : List (List ℕ)

-- an outcome of these three
abbrev pub outcome : ℕ → Result → List (List ℕ) → Outcome
outcome k r l = record { number = k; result = r; left = l }

-- ---- an operation by session s on bridge n, which is b, of a table with so many bridges

-- 1: "the bridge number is not in the table"
abbrev pub absent : (bridges : ℕ) → BridgeNumber → Bool
absent bridges n = leb bridges n.0

-- 2: "the bridge's owner is not the calling session"
abbrev pub foreign : SessionNumber → Bridge → Bool
foreign s b = not (owns s b)

-- "A call checks only the numbers listed for it, in this order"
abbrev pub refusals : (bridges : ℕ) → SessionNumber → BridgeNumber → Bridge → Operation → List Refusal
refusals bridges s n b (osc revision count uuid caps answer) =
    (1 if absent bridges n) ∷ (2 if foreign s b) ∷ (3 if framing_bad count uuid caps answer) ∷ []
refusals bridges s n b reset = (1 if absent bridges n) ∷ (2 if foreign s b) ∷ []
refusals bridges s n b report = (1 if absent bridges n) ∷ (2 if foreign s b) ∷ []
refusals bridges s n b (address bus device function offset width) =
    (1 if absent bridges n) ∷ (2 if foreign s b) ∷ (5 if place_bad device function offset width) ∷ (4 if bus_outside b bus) ∷ []
refusals bridges s n b (register_values slot block current) =
    (1 if absent bridges n)
    ∷ (2 if foreign s b)
    ∷ (11 if not (bit b.held 0))
    ∷ (10 if registers_bad current)
    ∷ (8 if not (block_sound (deciding slot block)))
    ∷ (9 if is_none (record_in (deciding slot block) 2))
    ∷ []

-- "The type 2 record is used"; without one the call is refused
abbrev pub values_by : Bridge → List ℕ → List ℕ → Option Field → List ℕ
values_by b l current none = replicate 8 0
values_by b l current (some f) = new_values (bit b.held 3) l f 0 current

-- what an accepted call hands back and leaves
abbrev pub accepted : Bridge → Operation → Outcome
accepted b (osc revision count uuid caps answer) = outcome 0 nothing (uuid ∷ caps ∷ osc_answer b revision count uuid caps ∷ [])
accepted b reset = outcome 0 nothing []
accepted b report = outcome 0 (reported (holding b)) []
accepted b (address bus device function offset width) = outcome 0 (addressed (address_of b bus device function offset)) []
accepted b (register_values slot block current) =
    let l = deciding slot block in
    outcome 0 (values (values_by b l current (record_in l 2))) (slot ∷ block ∷ current ∷ [])

-- the zeros of each kind of result
abbrev pub zeros : Operation → Result
zeros (osc revision count uuid caps answer) = nothing
zeros reset = nothing
zeros report = reported nothing_held
zeros (address bus device function offset width) = addressed 0
zeros (register_values slot block current) = values (replicate 8 0)

-- the buffers as lent
abbrev pub lent : Operation → List (List ℕ)
lent (osc revision count uuid caps answer) = uuid ∷ caps ∷ answer ∷ []
lent reset = []
lent report = []
lent (address bus device function offset width) = []
lent (register_values slot block current) = slot ∷ block ∷ current ∷ []

-- what the bridge holds after an accepted call
abbrev pub after : Bridge → Operation → Holding
after b (osc revision count uuid caps answer) = osc_after b revision count uuid caps
after b reset = nothing_held
after b report = holding b
after b (address bus device function offset width) = holding b
after b (register_values slot block current) = holding b

-- a call "gives the first that applies"
abbrev pub number_at : (bridges : ℕ) → SessionNumber → BridgeNumber → Bridge → Operation → ℕ
number_at bridges s n b o = first_of (refusals bridges s n b o)

-- by the number: 0 does the operation; any other "hands back zeros beside its number and changes nothing"
abbrev pub outcome_by : ℕ → Bridge → Operation → Outcome
outcome_by zero b o = accepted b o
outcome_by (suc k) b o = outcome (suc k) (zeros o) (lent o)

-- the bridge by the number
abbrev pub bridge_by : ℕ → Bridge → Operation → Bridge
bridge_by zero b o = with_holding b (after b o)
bridge_by (suc k) b o = b

-- the outcome of the call, and the bridge after it
abbrev pub outcome_at : (bridges : ℕ) → SessionNumber → BridgeNumber → Bridge → Operation → Outcome
outcome_at bridges s n b o = outcome_by (number_at bridges s n b o) b o

abbrev pub bridge_after : (bridges : ℕ) → SessionNumber → BridgeNumber → Bridge → Operation → Bridge
bridge_after bridges s n b o = bridge_by (number_at bridges s n b o) b o

-- ---- locate

-- the bridge of this session whose window has the address
abbrev pub window_of : Table → SessionNumber → ℕ → Option ℕ
window_of t s a = find (own_window s a) (bridges_of t) 0

-- "Back 4 only": "reading an address back, it lies in no bridge of this session"
abbrev pub locate_refusals : Table → SessionNumber → ℕ → List Refusal
locate_refusals t s a = (4 if is_none (window_of t s a)) ∷ []

-- the place at the bridge found
abbrev pub place_by : Table → ℕ → Option ℕ → Place
place_by t a none = no_place
place_by t a (some i) = place_of i (bridge_at t i) a

-- by the number: the place, or zeros
abbrev pub locate_by : ℕ → Place → Outcome
locate_by zero p = outcome 0 (located p) []
locate_by (suc k) p = outcome (suc k) (located no_place) []

-- locate on a table
abbrev pub locate_in : Table → SessionNumber → ℕ → Outcome
locate_in t s a = locate_by (first_of (locate_refusals t s a)) (place_by t a (window_of t s a))

-- ---- one call on a table: its outcome and the table after it

pub record Step : Type 0 where
  pub outcome : Outcome
  pub table : Table

-- a call on a bridge stores that bridge back; locate reads what no call changes
unfoldable pub step : Table → Call → Step
step t (on s n o) =
    let b = bridge_at t n.0 in
    record { outcome = outcome_at t.count s n b o; table = with_bridge t n.0 (bridge_after t.count s n b o) }
step t (locate s a) = record { outcome = locate_in (fixed t) s a; table = t }

-- the refusals listed for a call, in its order
abbrev pub listed : Table → Call → List Refusal
listed t (on s n o) = refusals t.count s n (bridge_at t n.0) o
listed t (locate s a) = locate_refusals (fixed t) s a

-- what a refused call hands back, and the buffers lent to a call
abbrev pub zeros_of : Call → Result
zeros_of (on s n o) = zeros o
zeros_of (locate s a) = located no_place

abbrev pub lent_to : Call → List (List ℕ)
lent_to (on s n o) = lent o
lent_to (locate s a) = []

-- ---- lists of calls

-- the table after a list
abbrev pub table_after : Table → List Call → Table
table_after t [] = t
table_after t (c ∷ l) = table_after (step t c).table l

-- what each call gave, in order
abbrev pub outcomes : Table → List Call → List Outcome
outcomes t [] = []
outcomes t (c ∷ l) = (step t c).outcome ∷ outcomes (step t c).table l

-- the session number that a call carries
abbrev pub session_of : Call → SessionNumber
session_of (on s n o) = s
session_of (locate s a) = s

-- the call carries this session number
abbrev pub is_under : SessionNumber → Call → Bool
is_under s c = eqb (session_of c).0 s.0

-- the calls under one session number, and what they gave
abbrev pub calls_of : SessionNumber → List Call → List Call
calls_of s [] = []
calls_of s (c ∷ l) = cond (is_under s c) (c ∷ calls_of s l) (calls_of s l)

abbrev pub outcomes_of : SessionNumber → Table → List Call → List Outcome
outcomes_of s t [] = []
outcomes_of s t (c ∷ l) = cond (is_under s c) ((step t c).outcome ∷ outcomes_of s (step t c).table l) (outcomes_of s (step t c).table l)

-- the width that an address is asked for
abbrev pub width_of : Call → Option ℕ
width_of (on s n (osc revision count uuid caps answer)) = none
width_of (on s n reset) = none
width_of (on s n report) = none
width_of (on s n (address bus device function offset width)) = some width
width_of (on s n (register_values slot block current)) = none
width_of (locate s a) = none
