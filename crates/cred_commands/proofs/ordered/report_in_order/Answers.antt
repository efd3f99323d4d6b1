use Rattle.std.proofs.Common.{sym, ◌∙◌}
use Rattle.cred_output.specs.declared.status.Status.TheVariants.{Done}
use Rattle.cred_output.proofs.Finished.{finished_counts, finished_for_text, finished_whole}
use Rattle.cred_commands.proofs.Kept.{begins_either, sequence_done}
use Rattle.cred_commands.proofs.ordered.report_in_order.Goals as goal

pub returns-clause-done : goal.returns-clause-done
returns-clause-done g c = λ done.
    sequence_done c.args.script.now _ _ c.write_in_order.result c.write_in_order.ensures.ok (sym c.finish.ensures ∙ done)

pub returns-clause-prefix : goal.returns-clause-prefix
returns-clause-prefix g c =
    begins_either c.args.script.now _ _ c.write_in_order.result c.write_in_order.ensures.ok c.write_in_order.ensures.err

pub returns-clause-only : goal.returns-clause-only
returns-clause-only g c = finished_for_text c.write_in_order.result c.finish.result c.finish.ensures

pub returns-clause-writing : goal.returns-clause-writing
returns-clause-writing g c = record {
  flushed = finished_whole c.write_in_order.result Done c.finish.result c.write_in_order.ensures.flushed c.finish.ensures;
  cause = finished_counts c.write_in_order.result Done c.finish.result _ _ (λ fault. cc) c.finish.ensures c.write_in_order.ensures.cause;
}
