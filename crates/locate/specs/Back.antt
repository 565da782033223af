-- Document 01, "Place and address", "Reading back": what the search among the bridges of a table hands back.
use Rattle.std.specs.Prelude.{ℕ, List, [], get_or, position, Option, None, Some}
use Rattle.rules.specs.Tables.{no_bridge}
use Rattle.rules.specs.Place.{own_window, place_of, no_place}
use Rattle.rules.specs.Calls.{Outcome, outcome, located}
use Rattle.rules.specs.declared.Bridge.{Bridge}
use Rattle.rules.specs.declared.SessionNumber.{SessionNumber}

-- by the number of the bridge found: the place in it, or refusal 4, "it lies in no bridge of this session", and zeros
abbrev pub back_by : List Bridge → ℕ → Option ℕ → Outcome
back_by l a None = outcome 4 (located no_place) []
back_by l a (Some i) = outcome 0 (located (place_of i (get_or l i no_bridge) a)) []

-- the address read back among these bridges: the first one of the session whose window has it is found
abbrev pub read_back : List Bridge → SessionNumber → ℕ → Outcome
read_back l s a = back_by l a (position (own_window s a) l)
