use Rattle.cred_model.specs.Journal.{IsLegal}
use Rattle.cred_output.proofs.Runs.{leaves_any, leaves_script, reads_on}
use Rattle.cred_runs.proofs.runs.read_and_lanes.Goals as goal

pub returns-in-Ok-clause-report : goal.returns-in-Ok-clause-report
returns-in-Ok-clause-report g c =
    let untouched = c.in-Ok.ensures.writing in
    leaves_script IsLegal _ _ _ _ c.in-Ok.script c.report.result c.in-Ok.ensures.script (λ journal legal. legal)
    (rw untouched at c.report.ensures.done) (rw untouched at c.report.ensures.prefix) c.report.ensures.only

pub returns-in-Ok-clause-reading : goal.returns-in-Ok-clause-reading
returns-in-Ok-clause-reading g c = reads_on _ c.report.result _ _ _ _ c.report.ensures.only c.in-Ok.ensures.reading

pub returns-in-Err-clause-report : goal.returns-in-Err-clause-report
returns-in-Err-clause-report g c = leaves_any IsLegal c.in-Err.status _ _ _ _ c.in-Err.ensures.refused
