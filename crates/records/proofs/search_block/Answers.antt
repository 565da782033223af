use Rattle.std.proofs.Common.{sym, ◌∙◌}
use Rattle.std.proofs.lemmas.Result.{err_from_is_err_and}
use Rattle.records.proofs.Walking.{within, shorter, walked, runs_out, refuses, refuses_second, skips, keeps, passes_by}
use Rattle.records.proofs.search_block.Goals as goal

pub returns-in_default : goal.returns-in_default
returns-in_default c =
    runs_out _ _ _ _ _ c.loop-rest.invariant c.loop-rest-test.ensures c.in_default.ensures

pub returns-in_err-is_record : goal.returns-in_err-is_record
returns-in_err-is_record c =
    let p = err_from_is_err_and c.from_residual.result c.from_residual.ensures.1 in
    rw (p.1, p.2)
    (refuses _ _ _ _ _ c.loop-rest.invariant c.loop-rest-test.ensures c.in-Some.field _ c.in-Some.ensures
    _ c.in_err-is_record.ensures)

pub returns-then-seen-field : goal.returns-then-seen-field
returns-then-seen-field c =
    refuses_second _ _ _ _ _ c.loop-rest.invariant c.loop-rest-test.ensures c.in-Some.field _ c.in-Some.ensures
    (rw c.if-branch.true at c.in_ok-is_record.ensures) c.if-seen-field.true

pub loop-rest-preserved-then-from-record_type : goal.loop-rest-preserved-then-from-record_type
loop-rest-preserved-then-from-record_type c =
    keeps _ _ _ _ _ c.loop-rest.invariant c.loop-rest-test.ensures c.in-Some.field _ c.in-Some.ensures
    (rw c.if-branch.true at c.in_ok-is_record.ensures) c.if-seen-field.false (sym c.from.ensures ∙ c.if-from-record_type.true)

pub loop-rest-preserved-else-from-record_type : goal.loop-rest-preserved-else-from-record_type
loop-rest-preserved-else-from-record_type c =
    passes_by _ _ _ _ _ c.loop-rest.invariant c.loop-rest-test.ensures c.in-Some.field _ c.in-Some.ensures
    (rw c.if-branch.true at c.in_ok-is_record.ensures) c.if-seen-field.false (λ e. c.if-from-record_type.false (c.from.ensures ∙ e))

pub loop-rest-preserved : goal.loop-rest-preserved
loop-rest-preserved c =
    skips _ _ _ _ _ c.loop-rest.invariant c.loop-rest-test.ensures c.in-Some.field _ c.in-Some.ensures
    (rw c.if-branch.false at c.in_ok-is_record.ensures)

pub returns : goal.returns
returns c = rw c.ok_or.ensures.value (walked _ _ _ _ _ c.loop-rest.invariant c.loop-rest-test.ensures)

pub overflow_sub-found : goal.overflow_sub-found
overflow_sub-found c = within _ _ _ _ _ c.loop-rest.invariant

pub loop-rest-smaller-then-from-record_type : goal.loop-rest-smaller-then-from-record_type
loop-rest-smaller-then-from-record_type c = shorter _ _ c.in-Some.field c.in-Some.ensures

pub loop-rest-smaller-else-from-record_type : goal.loop-rest-smaller-else-from-record_type
loop-rest-smaller-else-from-record_type c = shorter _ _ c.in-Some.field c.in-Some.ensures

pub loop-rest-smaller : goal.loop-rest-smaller
loop-rest-smaller c = shorter _ _ c.in-Some.field c.in-Some.ensures
