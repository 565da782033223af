-- Document 01, "What the service does" and "Proof of the pudding": a call on a table; the call on one bridge of it, and the table with what that gave.
use Rattle.std.specs.Prelude.{◌≡◌, ◌%◌, Result}
use Rattle.codes.specs.declared.Refusal.{Refusal}
use Rattle.rules.specs.Limits.{max_rows}
use Rattle.rules.specs.Tables.{bridge_at, with_bridge}
use Rattle.rules.specs.Calls.{Call, Outcome, step}
use Rattle.rules.specs.declared.Table.{Table}
use Rattle.rules.specs.declared.Holding.{Holding}
use Rattle.rules.specs.declared.BridgeNumber.{BridgeNumber}
use Rattle.rules.specs.declared.SessionNumber.{SessionNumber}
use Rattle.one_bridge.specs.Answers.{keeping}
use Rattle.one_bridge.specs.declared.BridgeCall.{BridgeCall}

-- the call on table t has this outcome and leaves table u
abbrev pub Steps : Table → Call → Outcome → Table → Type 0
Steps t c o u = (o ≡ (step t c).outcome) × (u ≡ (step t c).table)

-- session s calls on bridge n: the bridge at the number's index of the array
abbrev pub call_on : Table → SessionNumber → BridgeNumber → BridgeCall
call_on t s n = record { bridges = t.count; bridge = bridge_at t (n.0 % max_rows); session = s; number = n }

-- the table with what a call gave stored in that bridge; a refused call "changes nothing"
abbrev pub storing : Table → BridgeNumber → Result Holding Refusal → Table
storing t n done = let i = n.0 % max_rows in with_bridge t i (keeping (bridge_at t i) done)
