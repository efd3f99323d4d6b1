use Rattle.cred_procs.specs.Tasks.{task_in}
use Rattle.cred_tables.proofs.Flagged.{left_flags}
use Rattle.cred_tables.proofs.Owners.{process_there}
use Rattle.cred_tables.proofs.flags.exit_in.Goals as goal

pub unwrap-process-requires : goal.unwrap-process-requires
unwrap-process-requires c =
    process_there (task_in c.args.tasks.now c.args.task) c.requires c.process_of.ensures

pub returns-clause-flags : goal.returns-clause-flags
returns-clause-flags c = λ owner lives.
    left_flags c.args.tasks.now c.args.task c.unwrap-process.result c.process_of.ensures
    c.unwrap-process.ensures owner lives c.exit.new.self c.args.flags.now c.leave.new.self
    c.has_process-has_other.result c.in_ok-numbers.ensures.tasks c.has_process-has_other.ensures
    c.leave.ensures
