-- The search for the bridge that has an address, turn by turn: what the theorem `Seeking` speaks of.
use Rattle.std.specs.Prelude.{ℕ, ◌+◌, Bool, true, false}
use Rattle.rules.specs.Place.{own_window, place_of, no_place}
use Rattle.rules.specs.declared.Bridge.{Bridge}
use Rattle.rules.specs.declared.SessionNumber.{SessionNumber}
use Rattle.locate.specs.declared.Search.{Search}

-- bridge 0 is next, and refusal 4 stands until a bridge is found
abbrev pub at_first : Search
at_first = record { next = 0; found = record { number = 4; place = no_place } }

-- by the test of bridge b: the search ends at it, with the place in it, or goes on to the bridge behind it
abbrev pub turn_by : Bool → Search → (bridges : ℕ) → Bridge → ℕ → Search
turn_by true p bridges b a = record { next = bridges; found = record { number = 0; place = place_of p.next b a } }
turn_by false p bridges b a = record { next = p.next + 1; found = p.found }

-- after bridge b, of a table with so many bridges: the test is that the address lies in it and that it is of the session
abbrev pub after_bridge : Search → (bridges : ℕ) → Bridge → SessionNumber → ℕ → Search
after_bridge p bridges b s a = turn_by (own_window s a b) p bridges b a
