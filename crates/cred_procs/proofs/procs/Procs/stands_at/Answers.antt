use Rattle.cred_procs.proofs.Places.{stands}
use Rattle.cred_procs.proofs.procs.Procs.stands_at.Goals as goal

pub returns-in-Some-clause-place : goal.returns-in-Some-clause-place
returns-in-Some-clause-place c =
    rw (← c.self.view_is)
    (λ same. (stands c.self.inside.tasks.entries c.args.place c.args.task _ _ c.in-Some.ensures.entry c.in-Some.ensures.value same).0)

pub returns-in-Some-clause-alive : goal.returns-in-Some-clause-alive
returns-in-Some-clause-alive c =
    rw (← c.self.view_is)
    (λ same. (stands c.self.inside.tasks.entries c.args.place c.args.task _ _ c.in-Some.ensures.entry c.in-Some.ensures.value same).1)
