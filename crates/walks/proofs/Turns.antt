-- A loop's turn: a pass through its body.
--     past             what follows n statements in their list: the part of a turn that the generated MIR has under no name
--     Nearer           a turn ends at a larger place, of places up to n.        Nearer-wf      there are no more turns than places
--     turned           where a turn ends: at another state of the loop, nearer to the end, or the loop is left and the statements behind it run
-- Assumes nothing.
use Prim.Native.Nat.{ℕ, zero, suc, ◌-◌, ◌<◌}
use mathlib.Core.WellFounded.InvImage
use mathlib.Core.WellFounded.{WellFounded}
use lib.WfN.{lt-wf_rel}
use mathlib.Core.List.{List}
use prog.Wp.{after_turn}
use Rattle.walks.proofs.Kit.{Ura, SProp, Tables, Env, Out, Wp, after_seq, after_block, at_return, Val, Item, Below, Code, skip, seq, assign, block, loop, cond, switch, exit, return, call}
use mir.Syntax.{unreachable, call_v, lend_static}
use types.Logic.{Logic}

abbrev after : Code → Code
after skip = skip
after (seq a b) = b
after (assign p r) = skip
after (block a) = skip
after (loop a) = skip
after (cond c a b) = skip
after (switch c arms) = skip
after (exit n) = skip
after return = skip
after unreachable = skip
after (call f xs p) = skip
after (call_v c ς xs p) = skip
after (lend_static p τ c) = skip

abbrev pub past : ℕ → Code → Code
past zero b = b
past (suc n) b = past n (after b)

module _ {X : Type 0} (n : ℕ) (at : X → ℕ) where
  abbrev pub Nearer : X → X → Type 0
  Nearer s' s = n - at s' < n - at s

  pub Nearer-wf : WellFounded Nearer
  Nearer-wf = InvImage.wf (λ (s : X). n - at s) lt-wf_rel.wf

abbrev pub turned : {M : Type 1} {𝓤 : Ura M} (𝓛 : Logic 𝓤) (𝓣 : Tables 𝓤 𝓛.H) (E : Env 𝓤 𝓛.H) → (Val → SProp 𝓤) → Code → {X : Type 0} → (X → X → Type 0) → (X → List (Item 𝓤)) → X → Out → SProp 𝓤
turned {𝓤 = 𝓤} 𝓛 𝓣 E Post rest ≺ At z = after_turn 𝓤 𝓛.H (Below 𝓛 ≺ At z) (after_block 𝓤 𝓛.H (after_seq 𝓤 𝓛.H (Wp 𝓤 𝓛.H 𝓣.C 𝓣.Λ E rest (at_return 𝓤 𝓛.H E Post)) (at_return 𝓤 𝓛.H E Post)))
