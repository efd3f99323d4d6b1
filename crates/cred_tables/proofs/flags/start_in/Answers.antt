use Rattle.std.proofs.Common.{sym, ◌∙◌}
use Rattle.cred_tables.proofs.Flagged.{no_flag}
use Rattle.cred_tables.proofs.flags.start_in.Goals as goal

pub begin_process-requires-clause-unused : goal.begin_process-requires-clause-unused
begin_process-requires-clause-unused c =
    no_flag c.args.flags.now c.args.tasks.now c.args.process c.requires.own
    (sym c.has_process.ensures ∙ c.if-has_process.false)
