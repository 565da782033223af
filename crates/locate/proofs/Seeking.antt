-- The search over the bridges of a table, turn by turn; `read_back_is` of Found goes by it.
--     Seeking          the search, gone on with, gives what `locate` gives
--     seek_first, seek_on, seek_end      it holds before the first turn and after a turn, and where no bridge is next the search has the answer
--     seek_near        a turn comes nearer to the end
use Prim.Native.Nat.{ℕ, suc, ◌-◌, ◌≤◌, ◌<◌, zero-le}
use mathlib.Core.Path.{◌≡◌, refl, sym, ap, ◌∙◌}
use mathlib.Core.Bool.{Bool, true, false}
use mathlib.Core.List.{List, [], ◌∷◌}
use mathlib.Core.Option.{Option, none, some}
use native.Mathlib.Numerals.{add-one}
use native.Mathlib.Omega.{arith}
use lib.ListN.{length, drop, get_or, drop_of_length-le}
use lib.Seq.{drop-cons}
use Rattle.rules.specs.Lists.{find, is_none}
use Rattle.rules.specs.Tables.{no_bridge, bridge_at, bridges_of}
use Rattle.rules.specs.Place.{own_window, place_of}
use Rattle.rules.specs.Start.{Sound}
use Rattle.rules.specs.Calls.{Outcome, outcome, located, locate, window_of, place_by, locate_by, step}
use Rattle.rules.specs.Refusals.{◌if◌, first_of}
use Rattle.rules.specs.declared.Bridge.{Bridge}
use Rattle.rules.specs.declared.SessionNumber.{SessionNumber}
use Rattle.rules.specs.declared.Table.{Table}
use Rattle.rules.proofs.Soundness.{in_table, table_long}
use Rattle.rules.proofs.Places.{locate_is}
use Rattle.locate.specs.Turns.{at_first, turn_by, after_bridge}
use Rattle.rules.specs.declared.Located.{Located}
use Rattle.locate.specs.declared.Search.{Search}

-- the search from position i: past an element that fails, at one that passes, past the end
module _ (p : Bridge → Bool) (l : List Bridge) (i : ℕ) where
  find_past : i < length l → p (get_or l i no_bridge) ≡ false → find p (drop i l) i ≡ find p (drop (suc i) l) (suc i)
  find_past h e = rw (drop-cons l i no_bridge, e)

  find_here : i < length l → p (get_or l i no_bridge) ≡ true → find p (drop i l) i ≡ some i
  find_here h e = rw (drop-cons l i no_bridge, e)

  find_end : length l ≤ i → find p (drop i l) i ≡ none
  find_end h = rw (drop_of_length-le l {i = i} h)

-- what the search gives: the bridge found among those ahead, else what was found so far
abbrev pub gives : Table → ℕ → Located → Option ℕ → Outcome
gives t a f none = outcome f.number (located f.place) []
gives t a f (some i) = outcome 0 (located (place_of i (bridge_at t i) a)) []

pub record Seeking (t : Table) (s : SessionNumber) (a : ℕ) (p : Search) : Type 0 where
  pub within : p.next ≤ t.count
  pub rest : gives t a p.found (find (own_window s a) (drop p.next (bridges_of t)) p.next) ≡ (step t (locate s a)).outcome

module _ (t : Table) (s : SessionNumber) (a : ℕ) where
  pub seek_first : Seeking t s a at_first
  seek_first = record { within = zero-le; rest = go (window_of t s a) ∙ sym (locate_is t s a) }
    where
      go : (o : Option ℕ) → gives t a at_first.found o ≡ locate_by (first_of ((4 if is_none o) ∷ [])) (place_by t a o)
      go none = refl
      go (some i) = refl

  module _ (h : Sound t) (p : Search) (w : Seeking t s a p) where
    abbrev i : ℕ
    i = p.next

    abbrev test : Bridge → Bool
    test = own_window s a

    abbrev turn : Bool → Search
    turn q = turn_by q p t.count (bridge_at t i) a

    pub seek_on : i < t.count → Seeking t s a (after_bridge p t.count (bridge_at t i) s a)
    seek_on l = go (test (bridge_at t i)) refl
      where
        go : (q : Bool) → test (bridge_at t i) ≡ q → Seeking t s a (turn q)
        go true e = record {
          within = omega arith;
          rest =
              ap (gives t a (turn true).found) (find_end test (bridges_of t) t.count (omega (arith, table_long t h)))
              ∙ sym (ap (gives t a p.found) (find_here test (bridges_of t) i (omega (arith, table_long t h)) (ap test (in_table t i l) ∙ e)))
              ∙ w.rest;
        }
        go false e = record {
          within = omega arith;
          rest = rw add-one (sym (ap (gives t a p.found) (find_past test (bridges_of t) i (omega (arith, table_long t h)) (ap test (in_table t i l) ∙ e))) ∙ w.rest);
        }

    pub seek_near : i < t.count → t.count - (after_bridge p t.count (bridge_at t i) s a).next < t.count - i
    seek_near l = go (test (bridge_at t i))
      where
        go : (q : Bool) → t.count - (turn q).next < t.count - i
        go true = omega arith
        go false = omega arith

    pub seek_end : t.count ≤ i → outcome p.found.number (located p.found.place) [] ≡ (step t (locate s a)).outcome
    seek_end l = sym (ap (gives t a p.found) (find_end test (bridges_of t) i (omega (arith, table_long t h)))) ∙ w.rest
