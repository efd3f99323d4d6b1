use Rattle.std.proofs.Common.{◌∙◌, ap}
use Rattle.std.proofs.lemmas.List.{take_all}
use Rattle.cred_procs.specs.Kept.{tasks_of}
use Rattle.cred_procs.proofs.Many.{numbers_in, numbers-those}
use Rattle.cred_procs.proofs.procs.Procs.numbers_in.Goals as goal

pub returns-clause-numbers : goal.returns-clause-numbers
returns-clause-numbers c = λ ends these.
    let ts = tasks_of c.self.inside.tasks.entries in
    let of = rw (← c.self.view_is) at these in
    rw (← c.self.view_is)
    (c.from_vec.ensures ∙ rw (← c.self.view_is) at c.loop-task.invariant
    ∙ ap (numbers_in ts) (take_all c.loop-task.task-index c.args.tasks.now c.loop-task-test.false ∙ of)
    ∙ numbers-those ends ts c.self.invariant.sound.apart)
