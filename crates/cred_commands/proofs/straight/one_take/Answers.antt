use Rattle.cred_commands.proofs.Writes.{one_written}
use Rattle.cred_commands.proofs.straight.one_take.Goals as goal

pub returns-clause-runs : goal.returns-clause-runs
returns-clause-runs c = one_written _ c.args.script.now c.args.past _ _ _ _ _ c.requires.run c.requires.here c.in_ok-take.ensures.made
