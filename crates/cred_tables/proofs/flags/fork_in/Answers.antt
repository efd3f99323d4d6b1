use Rattle.cred_model.specs.State.{Task}
use Rattle.cred_procs.specs.Tasks.{task_in}
use Rattle.cred_tables.proofs.Flagged.{forked_flag, forks, on_ok, seen_there}
use Rattle.cred_tables.proofs.Owners.{process_there}
use Rattle.cred_tables.proofs.flags.fork_in.Goals as goal

pub unwrap-own-requires : goal.unwrap-own-requires
unwrap-own-requires c =
    process_there (task_in c.args.tasks.now c.args.task) c.requires.alive c.process_of.ensures

pub unwrap-number-requires : goal.unwrap-number-requires
unwrap-number-requires c =
    seen_there (λ (t : Task). t.current) (task_in c.args.tasks.now c.args.task) c.requires.alive
    c.current.ensures

pub returns-clause-tasks : goal.returns-clause-tasks
returns-clause-tasks c =
    on_ok c.begin_process.result
    (λ made. forks c.args.tasks.now c.begin_process.new.tasks c.args.task c.args.child
    c.args.process c.unwrap-number.result c.requires.alive c.current.ensures
    c.unwrap-number.ensures made)
    c.begin_process.ensures.tasks

pub returns-clause-flags : goal.returns-clause-flags
returns-clause-flags c =
    on_ok c.begin_process.result
    (λ made owner lives. forked_flag c.args.tasks.now c.args.task c.unwrap-own.result
    c.process_of.ensures c.unwrap-own.ensures owner lives c.args.flags.now
    c.begin_process.new.flags c.args.process c.is_dumpable-dumpable.result
    c.is_dumpable-dumpable.ensures made)
    c.begin_process.ensures.flags
