use Rattle.std.proofs.Common.{sym, ◌∙◌}
use Rattle.cred_audit.proofs.One.{one_left}
use Rattle.cred_audit.proofs.Reports.{one_more_compared, wrong_entry, stops_early, empty_by_test, some_by_test}
use Rattle.cred_audit.proofs.verdict.compare.Goals as goal

pub returns-in_default : goal.returns-in_default
returns-in_default c =
    wrong_entry c.args.script.now c.args.report.now c.entries.rest.now c.entries.entry c.entries.run c.entries.invariant
    (some_by_test c.entries.rest.now (sym c.is_empty.ensures ∙ c.entries-test.true)) (rw c.in_default.is at c.in_ok-after.ensures)

pub entries-preserved : goal.entries-preserved
entries-preserved c =
    one_more_compared c.args.script.now c.args.report.now c.entries.rest.now c.entries.entry c.entries.run c.rest_after_next.new.run c.in-Some.after.now
    c.entries.invariant (rw c.in-Some.is at c.in_ok-after.ensures)

pub returns-else-has_ended : goal.returns-else-has_ended
returns-else-has_ended c =
    stops_early c.args.script.now c.args.report.now c.entries.rest.now c.entries.entry c.entries.run c.entries.invariant
    (empty_by_test c.entries.rest.now (sym c.is_empty.ensures ∙ c.entries-test.false)) (rw c.if-has_ended.false at c.has_ended.ensures)

pub returns-then-has_ended : goal.returns-then-has_ended
returns-then-has_ended c =
    one_left c.args.script.now c.args.report.now c.entries.rest.now c.entries.entry c.entries.run c.entries.invariant
    (empty_by_test c.entries.rest.now (sym c.is_empty.ensures ∙ c.entries-test.false)) (rw c.if-has_ended.true at c.has_ended.ensures)
