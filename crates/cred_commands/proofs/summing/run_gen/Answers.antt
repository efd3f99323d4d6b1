use Rattle.std.proofs.Common.{ap, sym, subst}
use Rattle.std.proofs.lemmas.Result.{IfOk-weaker}
use Rattle.cred_output.specs.Ends.{IsWhole}
use Rattle.cred_commands.specs.Summing.{SaysSummary}
use Rattle.cred_output.proofs.Messages.{told_one}
use Rattle.cred_commands.proofs.Summed.{leaves_summary}
use Rattle.cred_commands.proofs.summing.run_gen.Goals as goal

pub write_message-requires : goal.write_message-requires
write_message-requires g c = IfOk-weaker c.message_of.result _ _ (λ s is. subst IsWhole (sym is.done) tt) c.message_of.ensures

pub returns-clause-summary : goal.returns-clause-summary
returns-clause-summary g c =
    leaves_summary c.args.n c.write_message.result _ _ _ (λ same. ap g.K.Sink.written same)
    (told_one (SaysSummary c.args.n) c.message_of.result c.write_message.result _ _ _ c.message_of.ensures
    (IfOk-weaker c.message_of.result _ _ (λ s is. subst IsWhole (sym is.done) tt) c.message_of.ensures) c.write_message.ensures.told)
