use Rattle.std.proofs.Common.{sym, ap, ◌∙◌}
use Rattle.cred_model.specs.Dumpable.{renewed}
use Rattle.cred_procs.specs.Tasks.{task_in}
use Rattle.cred_tables.proofs.Flagged.{renewed_flag}
use Rattle.cred_tables.proofs.Owners.{process_there}
use Rattle.cred_tables.proofs.flags.renew_in.Goals as goal

pub unwrap-process-requires : goal.unwrap-process-requires
unwrap-process-requires c =
    process_there (task_in c.args.tasks.now c.args.task) c.requires c.process_of.ensures

pub returns : goal.returns
returns c = λ owner lives.
    renewed_flag c.args.tasks.now c.args.task c.unwrap-process.result c.process_of.ensures
    c.unwrap-process.ensures owner lives c.args.flags.now c.set.new.self c.args.ids_changed
    (c.set.ensures
    ∙ ap (renewed c.args.flags.now c.unwrap-process.result) (sym c.if-not-ids_changed.false))
