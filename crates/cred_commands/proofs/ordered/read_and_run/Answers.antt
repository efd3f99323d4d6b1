use Rattle.cred_laws.proofs.OrderLaws.{sequence_is_legal}
use Rattle.cred_model.specs.Journal.{IsSequence}
use Rattle.cred_output.proofs.Runs.{leaves_any, leaves_script, reads_on}
use Rattle.cred_commands.proofs.ordered.read_and_run.Goals as goal

pub returns-in-Ok-clause-report : goal.returns-in-Ok-clause-report
returns-in-Ok-clause-report g c =
    let untouched = c.in-Ok.ensures.writing in
    leaves_script IsSequence _ _ _ _ c.in-Ok.script c.report_in_order-status.result c.in-Ok.ensures.script
    (λ journal one. sequence_is_legal c.in-Ok.script journal c.in-Ok.ensures.script.is.setup one)
    (rw untouched at c.report_in_order-status.ensures.done) (rw untouched at c.report_in_order-status.ensures.prefix) c.report_in_order-status.ensures.only

pub returns-in-Ok-clause-reading : goal.returns-in-Ok-clause-reading
returns-in-Ok-clause-reading g c =
    reads_on _ c.report_in_order-status.result _ _ _ _ c.report_in_order-status.ensures.only c.in-Ok.ensures.reading

pub returns-in-Err-clause-report : goal.returns-in-Err-clause-report
returns-in-Err-clause-report g c = leaves_any IsSequence c.in-Err.status _ _ _ _ c.in-Err.ensures.refused
