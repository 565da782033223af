-- The bridge that the search finds: its window has the address; and among the bridges of a table the search, turn by turn, gives what the call on the table gives.
use Rattle.std.proofs.Common.{◌≡◌, ℕ, zero, suc, ◌-◌, ◌<◌, ◌≤◌, List, [], length, Bool, true, false, get_or, drop, position, Some, refl, sym, ap, subst, add-one, drop-cons, ◌∙◌, arith}
use Rattle.std.specs.List.{position_from}
use Rattle.std.proofs.lemmas.Iterator.Adapters.{position_from-zero}
use Rattle.std.proofs.lemmas.List.Quantifiers.{position-Some}
use native.Mathlib.Decide.{dec_lt}
use lib.ListN.{drop_of_length-le}
use Rattle.rules.specs.Tables.{no_bridge, bridge_at, bridges_of}
use Rattle.rules.specs.Place.{in_window, own_window, place_of}
use Rattle.rules.specs.Start.{Sound}
use Rattle.rules.specs.Calls.{Outcome, outcome, located, locate, step}
use Rattle.rules.specs.declared.Bridge.{Bridge}
use Rattle.rules.specs.declared.Located.{Located}
use Rattle.rules.specs.declared.SessionNumber.{SessionNumber}
use Rattle.rules.specs.declared.Table.{Table}
use Rattle.rules.proofs.Tests.{and-true}
use Rattle.rules.proofs.Soundness.{in_table, table_long}
use Rattle.locate.specs.Back.{back_by, read_back}
use Rattle.locate.specs.Turns.{at_first, turn_by}
use Rattle.locate.specs.declared.Search.{Search}
use Rattle.locate.proofs.Seeking.{Seeking, seek_first, seek_on, seek_near, seek_end}

-- the window of the bridge that is found has the address
pub in_found : (l : List Bridge) (s : SessionNumber) (a i : ℕ) → position (own_window s a) l ≡ Some i → in_window a (get_or l i no_bridge) ≡ true
in_found l s a i e = (and-true _ _ (position-Some (own_window s a) l i no_bridge e).1).1

-- among the bridges of a table: what the call on the table hands back
module _ (t : Table) (h : Sound t) (s : SessionNumber) (a : ℕ) where
  abbrev all : List Bridge
  all = bridges_of t

  abbrev test : Bridge → Bool
  test = own_window s a

  -- what is read back from bridge i on
  abbrev back_from : ℕ → Outcome
  back_from i = back_by all a (position_from test i (drop i all))

  -- a search that has found nothing yet reads back what the call gives
  abbrev Reads : Search → Type 0
  Reads p = back_from p.next ≡ (step t (locate s a)).outcome

  module _ (p : Search) (w : Seeking t s a p) (none_yet : p.found ≡ at_first.found) where
    -- no bridge is next
    ended : t.count ≤ p.next → Reads p
    ended past =
        rw (drop_of_length-le all {i = p.next} (omega (arith, table_long t h)))
        (ap (λ (f : Located). outcome f.number (located f.place) []) (sym none_yet) ∙ seek_end t s a h p w past)

    -- one turn: the search ends at this bridge, or goes on nearer to the end
    turned : p.next < t.count → ((q : Search) → Seeking t s a q → q.found ≡ at_first.found → t.count - q.next < t.count - p.next → Reads q) → Reads p
    turned left rest = go (test here) refl
      where
        here : Bridge
        here = bridge_at t p.next

        turn : Bool → Search
        turn q = turn_by q p t.count here a

        on : (q : Bool) → test here ≡ q → Seeking t s a (turn q)
        on q e = subst (λ (r : Bool). Seeking t s a (turn r)) e (seek_on t s a h p w left)

        near : (q : Bool) → test here ≡ q → t.count - (turn q).next < t.count - p.next
        near q e = subst (λ (r : Bool). t.count - (turn r).next < t.count - p.next) e (seek_near t s a h p w left)

        go : (q : Bool) → test here ≡ q → Reads p
        go true e =
            let inside : p.next < length all = omega (arith, table_long t h) in
            let at : test (get_or all p.next no_bridge) ≡ true = ap test (in_table t p.next left) ∙ e in
            rw (drop-cons all p.next no_bridge, at)
            (ap (λ (b : Bridge). outcome 0 (located (place_of p.next b a)) []) (in_table t p.next left) ∙ seek_end t s a h (turn true) (on true e) (omega arith))
        go false e =
            let inside : p.next < length all = omega (arith, table_long t h) in
            let at : test (get_or all p.next no_bridge) ≡ false = ap test (in_table t p.next left) ∙ e in
            rw (drop-cons all p.next no_bridge, at, add-one) (rw add-one at (rest (turn false) (on false e) none_yet (near false e)))

  -- turn by turn, at most n
  turns : (n : ℕ) (p : Search) → Seeking t s a p → p.found ≡ at_first.found → t.count - p.next ≤ n → Reads p
  turns zero p w none_yet few = ended p w none_yet (omega arith)
  turns (suc n) p w none_yet few = elim (dec_lt p.next t.count) [
    | yes left ↦ turned p w none_yet left (λ q v none_still near. turns n q v none_still (omega arith))
    | no past ↦ ended p w none_yet (omega arith)
  ]

  pub read_back_is : read_back (bridges_of t) s a ≡ (step t (locate s a)).outcome
  read_back_is = ap (back_by all a) (position_from-zero test all) ∙ turns t.count at_first (seek_first t s a) refl (omega arith)
