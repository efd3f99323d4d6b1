use denote.Text.{Utf8}
use denote.Shadow.{shadow}
use Rattle.cred_rows.proofs.tests.faults.ends.Given as goal

-- says that each `&str` the loop changes is text
abbrev pub invariant-loop-entry : goal.invariant-loop-entry
invariant-loop-entry l =
    (goal.iterator-loop-entry).can_next l.entry-iterator ×
    (goal.iterator-loop-entry).is_finite l.entry-iterator ×
    shadow (Utf8 l.number)
