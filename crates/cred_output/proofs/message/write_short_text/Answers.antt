use Rattle.std.proofs.Common.{subst}
use Rattle.cred_output.specs.Ends.{IsWhole}
use Rattle.cred_output.proofs.Finished.{finished_counts, finished_whole}
use Rattle.cred_output.proofs.Messages.{told}
use Rattle.cred_output.proofs.message.write_short_text.Goals as goal

pub returns-clause-told : goal.returns-clause-told
returns-clause-told g c =
    told c.args.status c.args.text.now c.write_text.result c.finish.result _ _ c.requires c.write_text.ensures.ok c.write_text.ensures.err c.finish.ensures

pub returns-clause-writing : goal.returns-clause-writing
returns-clause-writing g c = record {
  flushed = finished_whole c.write_text.result c.args.status c.finish.result c.write_text.ensures.flushed c.finish.ensures;
  cause =
      finished_counts c.write_text.result c.args.status c.finish.result _ _ (λ fault. subst IsWhole fault c.requires) c.finish.ensures
      c.write_text.ensures.cause;
}
