use Rattle.std.proofs.Common.{sym, ◌∙◌}
use Rattle.cred_output.specs.declared.status.Status.TheVariants.{Done}
use Rattle.cred_output.proofs.Finished.{finished_counts, finished_for_text, finished_whole}
use Rattle.cred_runs.proofs.Parts.{begins_either, legal_done}
use Rattle.cred_runs.proofs.report.report.Goals as goal

pub returns-clause-done : goal.returns-clause-done
returns-clause-done g c = λ done. legal_done c.args.script _ _ c.write_lanes.result c.write_lanes.ensures.ok (sym c.finish.ensures ∙ done)

pub returns-clause-prefix : goal.returns-clause-prefix
returns-clause-prefix g c = begins_either c.args.script _ _ c.write_lanes.result c.write_lanes.ensures.ok c.write_lanes.ensures.err

pub returns-clause-only : goal.returns-clause-only
returns-clause-only g c = finished_for_text c.write_lanes.result c.finish.result c.finish.ensures

pub returns-clause-writing : goal.returns-clause-writing
returns-clause-writing g c = record {
  flushed = finished_whole c.write_lanes.result Done c.finish.result c.write_lanes.ensures.flushed c.finish.ensures;
  cause = finished_counts c.write_lanes.result Done c.finish.result _ _ (λ fault. cc) c.finish.ensures c.write_lanes.ensures.cause;
}
