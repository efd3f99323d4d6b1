use Rattle.cred_runs.proofs.Parts.{none_written}
use Rattle.cred_runs.proofs.report.write_lanes.Goals as goal

pub returns-in_default-clause-err : goal.returns-in_default-clause-err
returns-in_default-clause-err g c = none_written c.args.script _
