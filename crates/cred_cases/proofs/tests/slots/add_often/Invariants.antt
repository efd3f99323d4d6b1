use Rattle.std.proofs.Common.{◌<◌, count_by, ◌==◌}
use Rattle.cred_cases.proofs.tests.slots.add_often.Given as goal

abbrev pub invariant-loop : goal.invariant-loop
invariant-loop l = 0 < count_by (λ n. n == l.number) l.slots.held
