use Rattle.cred_commands.proofs.Writes.{ok_then, one_written}
use Rattle.cred_commands.proofs.straight.one_release.Goals as goal

pub returns-clause-runs : goal.returns-clause-runs
returns-clause-runs c =
    ok_then c.release.result c.release.ensures.made
    (λ makes. one_written _ c.args.script.now c.args.past _ _ _ _ _ c.requires.run c.requires.here makes)
