use Rattle.std.proofs.Common.{refl, ap, ◌∙◌}
use Rattle.std.proofs.lemmas.Bool.{eq-eqb}
use Rattle.cred_model.specs.Ends.{is_task, survivors}
use Rattle.cred_model.specs.Moves.{first_task}
use Rattle.cred_tables.proofs.Spawns.{last_goes}
use Rattle.cred_tables.proofs.flags.begin_process.Goals as goal

-- where the flag had no memory, the thread is gone again
pub returns-in-Err-clause-no_tasks : goal.returns-in-Err-clause-no_tasks
returns-in-Err-clause-no_tasks c =
    let task = c.args.task in
    c.remove.ensures
    ∙ ap (survivors (is_task task)) c.in_ok-start.ensures.ok
    ∙ last_goes task c.args.tasks.now (first_task task c.args.process c.args.number)
    (eq-eqb task task refl) c.requires.new
