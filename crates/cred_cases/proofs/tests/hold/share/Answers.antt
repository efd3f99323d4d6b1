use Rattle.std.proofs.Common.{ap, ◌∙◌}
use Rattle.cred_cases.proofs.tests.hold.share.Goals as goal

pub seal_three-requires-clause-own : goal.seal_three-requires-clause-own
seal_three-requires-clause-own g c = c.requires.own

pub seal_three-requires-clause-none : goal.seal_three-requires-clause-none
seal_three-requires-clause-none g c = c.requires.none

pub lend-hold-requires-clause-own : goal.lend-hold-requires-clause-own
lend-hold-requires-clause-own g c = c.run-found.ensures.master.0

pub lend-hold-requires-clause-sealed : goal.lend-hold-requires-clause-sealed
lend-hold-requires-clause-sealed g c = (_, c.run-found.ensures.put)

pub read-last-requires : goal.read-last-requires
read-last-requires g c = c.lend-hold.ensures.hold.0 ∙ c.run-found.ensures.master.0

pub give_back-requires : goal.give_back-requires
give_back-requires g c =
    let own = c.run-found.ensures.master.0 in
    record { own = (c.lend-hold.ensures.rest.0 ∙ own, ap (λ h. h.id) c.read-last.ensures.same ∙ c.lend-hold.ensures.hold.0 ∙ own) }
