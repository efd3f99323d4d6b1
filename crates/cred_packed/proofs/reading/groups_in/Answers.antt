use Rattle.std.proofs.Common.{ap, ◌∙◌, arith}
use Rattle.cred_ids.specs.Ordered.{in_order}
use Rattle.cred_record.proofs.WordLemmas.{group-at, groups-sorted, groups-few}
use Rattle.cred_packed.proofs.reading.groups_in.Goals as goal

pub returns-then-count-gt-GROUP_LIMIT-clause-none : goal.returns-then-count-gt-GROUP_LIMIT-clause-none
returns-then-count-gt-GROUP_LIMIT-clause-none c is =
    let few = groups-few _ is in let many = c.if-count-gt-GROUP_LIMIT.true in omega (arith, c.group_count-count.ensures)

pub returns-in_default-clause-none : goal.returns-in_default-clause-none
returns-in_default-clause-none c is =
    let none = rw c.in_default.is at c.in_ok-ids.ensures.none in
    let below = none.1 in
    none.2 (group-at _ none.0 is (omega (arith, c.group_count-count.ensures)))

pub returns-in-Ok-clause-some : goal.returns-in-Ok-clause-some
returns-in-Ok-clause-some c is =
    let items = rw c.in-Some.is at c.in_ok-ids.ensures.some in
    c.in-Ok.ensures.sorted ∙ ap in_order (c.as_slice.ensures.value ∙ items) ∙ groups-sorted _ _ is c.group_count-count.ensures
