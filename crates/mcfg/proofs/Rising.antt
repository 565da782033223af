-- Entries each of which is below the next are apart, each from all later ones; what is tested of sound entries by the bytes of their windows.
-- Assumes nothing.
use Prim.Native.Nat.{ℕ, ◌+◌, ◌*◌, ◌≤◌, ◌<◌}
use mathlib.Core.Path.{◌≡◌, refl, ap, ap₂}
use mathlib.Core.Bool.{Bool, true, false, ◌&&◌}
use mathlib.Core.List.{List, [], ◌∷◌, map}
use native.Mathlib.Omega.{arith}
use lib.Dec.{eqb, leb, ltb}
use Rattle.std.specs.List.{list_all, zip}
use borrow.Author.Tests.{eqb-true, leb-true, le-leb, lt-ltb, ltb-true}
use Rattle.rules.specs.Lists.{every, pairwise}
use Rattle.rules.specs.Mcfg.{bus_start, bus_end, entry_sound, share_no_bus}
use Rattle.rules.specs.declared.Entry.{Entry}
use Rattle.rules.proofs.Tests.{and_is, and_l, and_r}
use Rattle.mcfg.specs.Rest.{apart, below, seen_apart, seen_below, rising}
use Rattle.mcfg.proofs.Heads.{every_weaker}
use Rattle.mcfg.proofs.Entries.{in_order, windows_fit}

-- an entry's first and last bus among the buses of all segments, and where its window starts and ends
abbrev first_bus : Entry → ℕ
first_bus e = e.segment * 256 + e.start_bus

abbrev last_bus : Entry → ℕ
last_bus e = e.segment * 256 + e.end_bus

abbrev starts : Entry → ℕ
starts e = bus_start e.base e.start_bus

abbrev ends : Entry → ℕ
ends e = bus_end e.base e.end_bus

module _ (e f : Entry) where
  in_rows : below e f ≡ true → last_bus e < first_bus f
  in_rows h = ltb-true (last_bus e) (first_bus f) (and_l (ltb (last_bus e) (first_bus f)) (leb (ends e) (starts f)) h)

  window_below : below e f ≡ true → ends e ≤ starts f
  window_below h = leb-true (ends e) (starts f) (and_r (ltb (last_bus e) (first_bus f)) (leb (ends e) (starts f)) h)

  below_is : last_bus e < first_bus f → ends e ≤ starts f → below e f ≡ true
  below_is b w = and_is (lt-ltb (last_bus e) (first_bus f) b) (le-leb (ends e) (starts f) w)

  -- what is below is apart: of one segment, the last bus is below the first
  below_apart : below e f ≡ true → apart e f ≡ true
  below_apart h = and_is (buses (eqb e.segment f.segment) refl) (rw (le-leb (ends e) (starts f) (window_below h)))
    where
      buses : (t : Bool) → eqb e.segment f.segment ≡ t → share_no_bus e f ≡ true
      buses true s =
          let same = eqb-true e.segment f.segment s in let b = in_rows h in
          rw (s, lt-ltb e.end_bus f.start_bus (omega arith))
      buses false s = rw s

-- below an entry that is below a third
below_trans : (e f g : Entry) → entry_sound f ≡ true → below e f ≡ true → below f g ≡ true → below e g ≡ true
below_trans e f g s h k =
    let o = in_order f s in let a = in_rows e f h in let b = in_rows f g k in let v = window_below e f h in let w = window_below f g k in
    below_is e g (omega arith) (omega arith)

-- the first of rising entries is below all later ones
every_below : (e : Entry) (l : List Entry) → every entry_sound l ≡ true → rising below (e ∷ l) ≡ true → every (below e) l ≡ true
every_below e [] s r = refl
every_below e (f ∷ []) s r = r
every_below e (f ∷ g ∷ l) s r =
    let h = and_l (below e f) (rising below (f ∷ g ∷ l)) r in let t = and_r (below e f) (rising below (f ∷ g ∷ l)) r in
    and_is h (every_below e (g ∷ l) (and_r (entry_sound f) (every entry_sound (g ∷ l)) s)
    (and_is (below_trans e f g (and_l (entry_sound f) (every entry_sound (g ∷ l)) s) h (and_l (below f g) (rising below (g ∷ l)) t)) (and_r (below f g) (rising below (g ∷ l)) t)))

rising_tail : (e : Entry) (l : List Entry) → rising below (e ∷ l) ≡ true → rising below l ≡ true
rising_tail e [] r = refl
rising_tail e (f ∷ l) r = and_r (below e f) (rising below (f ∷ l)) r

pub rising_apart : (l : List Entry) → every entry_sound l ≡ true → rising below l ≡ true → pairwise apart l ≡ true
rising_apart [] s r = refl
rising_apart (e ∷ l) s r =
    let t = and_r (entry_sound e) (every entry_sound l) s in
    and_is (every_weaker (below e) (apart e) (below_apart e) l (every_below e l t r)) (rising_apart l t (rising_tail e l r))

-- sound entries are tested by the first and the last bytes of their windows

seen_apart_is : (e f : Entry) → entry_sound e ≡ true → entry_sound f ≡ true → seen_apart e f ≡ apart e f
seen_apart_is e f s t = rw (windows_fit e f s t, windows_fit f e t s)

seen_below_is : (e f : Entry) → entry_sound e ≡ true → entry_sound f ≡ true → seen_below e f ≡ below e f
seen_below_is e f s t = rw (windows_fit e f s t)

seen_from : (e : Entry) (l : List Entry) → entry_sound e ≡ true → every entry_sound l ≡ true → every (seen_apart e) l ≡ every (apart e) l
seen_from e [] s a = refl
seen_from e (f ∷ l) s a =
    ap₂ ◌&&◌ (seen_apart_is e f s (and_l (entry_sound f) (every entry_sound l) a)) (seen_from e l s (and_r (entry_sound f) (every entry_sound l) a))

pub seen_pairwise : (l : List Entry) → every entry_sound l ≡ true → pairwise seen_apart l ≡ pairwise apart l
seen_pairwise [] a = refl
seen_pairwise (e ∷ l) a =
    let t = and_r (entry_sound e) (every entry_sound l) a in
    ap₂ ◌&&◌ (seen_from e l (and_l (entry_sound e) (every entry_sound l) a) t) (seen_pairwise l t)

pub seen_rising : (l : List Entry) → every entry_sound l ≡ true → rising seen_below l ≡ rising below l
seen_rising [] a = refl
seen_rising (e ∷ []) a = refl
seen_rising (e ∷ f ∷ l) a =
    let t = and_r (entry_sound e) (every entry_sound (f ∷ l)) a in
    ap₂ ◌&&◌ (seen_below_is e f (and_l (entry_sound e) (every entry_sound (f ∷ l)) a) (and_l (entry_sound f) (every entry_sound l) t)) (seen_rising (f ∷ l) t)

-- each element and the next, each made of another
pub next_rising : {A : Type 0} (f : A → Entry) (p : Entry → Entry → Bool) (a : A) (l : List A)
    → list_all (λ (x : A × A). p (f x.0) (f x.1)) (zip (a ∷ l) l) ≡ rising p (map f (a ∷ l))
next_rising f p a [] = refl
next_rising f p a (b ∷ l) = ap (λ (t : Bool). p (f a) (f b) && t) (next_rising f p b l)
