-- At each return the condition that failed decides, at the last the sum.
use Rattle.std.proofs.Common.{arith, sym, ◌∙◌}
use Rattle.rules.specs.Limits.{max_entries}
use Rattle.mcfg.proofs.Header.{short, other_letters, other_length, other_revision, part_entry, many_entries, by_sum}
use Rattle.mcfg.proofs.header_sound.Goals as goal

pub returns-then-m-lt44 : goal.returns-then-m-lt44
returns-then-m-lt44 c = sym (short _ (omega arith))

pub returns-then-not-same : goal.returns-then-not-same
returns-then-not-same c = sym (other_letters _ (sym c.same.ensures ∙ c.if-not-same.true))

pub returns-then-read32-m : goal.returns-then-read32-m
returns-then-read32-m c = sym (other_length _ (λ e. c.if-read32-m.true (c.read32.ensures ∙ e)))

pub returns-then-m-ne1 : goal.returns-then-m-ne1
returns-then-m-ne1 c = sym (other_revision _ c.if-m-ne1.true)

pub returns-then-m-ne0 : goal.returns-then-m-ne0
returns-then-m-ne0 c = sym (part_entry _ (λ e. c.if-m-ne0.true (omega arith)))

pub returns-then-m-gt-MAX_ENTRIES : goal.returns-then-m-gt-MAX_ENTRIES
unfolding max_entries
returns-then-m-gt-MAX_ENTRIES c = sym (many_entries _ (omega arith))

pub returns : goal.returns
unfolding max_entries
returns c =
    rw c.byte_sum.ensures
    (sym
    (by_sum _
    (sym c.same.ensures ∙ c.if-not-same.false)
    (omega arith)
    (sym c.read32.ensures ∙ c.if-read32-m.false)
    c.if-m-ne1.false
    c.if-m-ne0.false
    (omega arith)))
