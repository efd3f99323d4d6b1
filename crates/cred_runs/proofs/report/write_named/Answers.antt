use Rattle.cred_runs.proofs.Parts.{none_written}
use Rattle.cred_runs.proofs.report.write_named.Goals as goal

pub returns-in_default-clause-err : goal.returns-in_default-clause-err
returns-in_default-clause-err g c = none_written g.N.Name.script _
