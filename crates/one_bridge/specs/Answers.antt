-- Document 01, "Refusal numbers": what a call on one bridge gives, by the outcome and the bridge after it of crates/rules.
use Rattle.std.specs.Prelude.{ℕ, List, Result, Ok, Err}
use Rattle.codes.specs.declared.Refusal.{Refusal}
use Rattle.rules.specs.Tables.{with_holding}
use Rattle.rules.specs.Calls.{Operation, osc, address, Outcome, outcome_at, bridge_after}
use Rattle.rules.specs.declared.Bridge.{Bridge}
use Rattle.rules.specs.declared.Holding.{Holding}
use Rattle.osc.specs.declared.Request.{Request}
use Rattle.ecam.specs.declared.Asked.{Asked}
use Rattle.one_bridge.specs.declared.BridgeCall.{BridgeCall}

-- the _OSC operation of a request, with the answer buffer as lent
abbrev pub requested : Request → List ℕ → Operation
requested r answer = osc r.revision r.count r.uuid.now r.caps.now answer

-- the operation that asks for this place's address
abbrev pub asked_for : Asked → Operation
asked_for p = address p.bus p.device p.function p.offset p.width

-- what an operation asked for by this call hands back
abbrev pub outcome_of : BridgeCall → Operation → Outcome
outcome_of c o = outcome_at c.bridges c.session c.number c.bridge o

-- the bridge after it
abbrev pub after : BridgeCall → Operation → Bridge
after c o = bridge_after c.bridges c.session c.number c.bridge o

-- the bridge with what a call gave stored; a refused call "changes nothing"
abbrev pub keeping : Bridge → Result Holding Refusal → Bridge
keeping b (Ok h) = with_holding b h
keeping b (Err r) = b
