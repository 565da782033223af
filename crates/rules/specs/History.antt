-- Document 01, "Proof of the pudding": "The list gives what they must be". Of the starting table only the number of bridges,
-- owners, permitted bits and editions are read.
use Rattle.std.specs.Prelude.{ℕ, Bool, not, cond, ◌&&◌, List, [], ◌∷◌, eqb}
use Rattle.std.specs.Int.Bits.{bit_and, bit_or}
use Rattle.rules.specs.Tables.{nothing_held, with_holding, bridge_at}
use Rattle.rules.specs.Editions.{known_support}
use Rattle.rules.specs.Osc.{granted, framing_bad, recognised, query, support, control}
use Rattle.rules.specs.Calls.{absent, foreign, Call, on, locate, osc, reset, report, address, register_values}
use Rattle.rules.specs.declared.Bridge.{Bridge}
use Rattle.rules.specs.declared.BridgeNumber.{BridgeNumber}
use Rattle.rules.specs.declared.SessionNumber.{SessionNumber}
use Rattle.rules.specs.declared.Table.{Table}
use Rattle.rules.specs.declared.Holding.{Holding}

-- the call names bridge i, and meets neither 1 nor 2
abbrev pub reaches : Table → ℕ → SessionNumber → BridgeNumber → Bool
reaches t i s n = eqb n.0 i && (not (absent t.count n) && not (foreign s (bridge_at t n.0)))

-- a taking call: "names the bridge, meets none of 1, 2 and 3, and has the right UUID, revision 1, Count 3 and no query flag"
abbrev pub takes : Table → ℕ → SessionNumber → BridgeNumber → (revision count : ℕ) (uuid caps answer : List ℕ) → Bool
takes t i s n revision count uuid caps answer =
    reaches t i s n && not (framing_bad count uuid caps answer) && (recognised revision count uuid && not (query caps))

-- "adds its granted bits to the held ones and its known support bits to the supported ones"
abbrev pub added : Bridge → List ℕ → Holding
added b caps = record { held = bit_or b.held (granted b (support caps) (control caps)); supported = bit_or b.supported (bit_and (support caps) (known_support b.edition)) }

-- what bridge i holds after one more call, where it held h
abbrev pub history_step : Table → ℕ → Holding → Call → Holding
history_step t i h (on s n (osc revision count uuid caps answer)) =
    cond (takes t i s n revision count uuid caps answer) (added (with_holding (bridge_at t i) h) caps) h
history_step t i h (on s n reset) = cond (reaches t i s n) nothing_held h
history_step t i h (on s n report) = h
history_step t i h (on s n (address bus device function offset width)) = h
history_step t i h (on s n (register_values slot block current)) = h
history_step t i h (locate s a) = h

-- and after a list of calls
abbrev pub history_from : Table → ℕ → Holding → List Call → Holding
history_from t i h [] = h
history_from t i h (c ∷ l) = history_from t i (history_step t i h c) l
