use Rattle.std.proofs.Common.{◌∙◌, ap}
use Rattle.cred_model.specs.Ends.{is_task, survivors}
use Rattle.cred_tables.proofs.Spawns.{spawn_undone}
use Rattle.cred_tables.proofs.broadcasts.spawn_in.Goals as goal

-- where the broadcasts had no memory, the thread is gone again
pub returns-in-Err-clause-no_tasks : goal.returns-in-Err-clause-no_tasks
returns-in-Err-clause-no_tasks c =
    c.remove.ensures
    ∙ ap (survivors (is_task c.args.child)) c.in_ok-spawn.ensures.ok
    ∙ spawn_undone c.args.tasks.now c.args.task c.args.child c.requires.new
