use Rattle.std.proofs.Common.{subst}
use Rattle.cred_inspect.specs.Operands.{SuitsOperand}
use Rattle.cred_output.specs.declared.status.Status.TheVariants.{ReadFault}
use Rattle.cred_output.proofs.Finished.{for_text_apart}
use Rattle.cred_program.proofs.Unread.{unread}
use Rattle.cred_program.proofs.program.credtrace.Goals as goal

pub returns-in-Ok-Some-Gen-clause-reading : goal.returns-in-Ok-Some-Gen-clause-reading
returns-in-Ok-Some-Gen-clause-reading g c =
    unread _ c.run_gen.result _ _ (for_text_apart c.run_gen.result ReadFault c.run_gen.ensures.summary.suits (λ text. text))

pub returns-in-Ok-Some-Decode-clause-reading : goal.returns-in-Ok-Some-Decode-clause-reading
returns-in-Ok-Some-Decode-clause-reading g c =
    unread _ c.run_decode.result _ _ (λ is. subst (SuitsOperand _ _) is c.run_decode.ensures.attribute.suits)

pub returns-in-Ok-Some-Encode-clause-reading : goal.returns-in-Ok-Some-Encode-clause-reading
returns-in-Ok-Some-Encode-clause-reading g c =
    unread _ c.run_encode.result _ _ (λ is. subst (SuitsOperand _ _) is c.run_encode.ensures.line.suits)

pub returns-in-Ok-Some-Capdata-clause-reading : goal.returns-in-Ok-Some-Capdata-clause-reading
returns-in-Ok-Some-Capdata-clause-reading g c =
    unread _ c.run_capdata.result _ _ (λ is. subst (SuitsOperand _ _) is c.run_capdata.ensures.record.suits)
