use Rattle.std.proofs.Common.{rules}
use Rattle.std.proofs.lemmas.Result.{IfOk-weaker}
use Rattle.cred_inspect.specs.Auditing.{IsAuditWithin}
use Rattle.cred_output.proofs.Messages.{or_so}
use Rattle.cred_inspect.proofs.Verdicts.{said_suits, said_verdict, says_whole}
use Rattle.cred_inspect.proofs.auditing.run_audit.Goals as goal

pub write_message-requires : goal.write_message-requires
write_message-requires g c = IfOk-weaker c.message_of.result _ _ (λ s is. says_whole c.args.input.now s.status s.text.items is) c.message_of.ensures

pub returns-clause-whole : goal.returns-clause-whole
returns-clause-whole g c =
    (said_verdict c.args.input.now c.message_of.result c.write_message.result _ _ _ c.message_of.ensures c.write_message.ensures.told).whole

pub returns-clause-too_large : goal.returns-clause-too_large
returns-clause-too_large g c = λ large.
    absurd ((said_verdict c.args.input.now c.message_of.result c.write_message.result _ _ _ c.message_of.ensures c.write_message.ensures.told).no_too_large large)

pub returns-clause-no_read_fault : goal.returns-clause-no_read_fault
returns-clause-no_read_fault g c =
    (said_verdict c.args.input.now c.message_of.result c.write_message.result _ _ _ c.message_of.ensures c.write_message.ensures.told).no_read_fault

pub returns-clause-suits : goal.returns-clause-suits
returns-clause-suits g c =
    let within : IsAuditWithin c.args.input.now = search rules in
    said_suits c.args.input.now c.write_message.result _ _ _ within
    (said_verdict c.args.input.now c.message_of.result c.write_message.result _ _ _ c.message_of.ensures c.write_message.ensures.told)

pub returns-clause-prefix : goal.returns-clause-prefix
returns-clause-prefix g c =
    let within : IsAuditWithin c.args.input.now = search rules in
    let said = said_verdict c.args.input.now c.message_of.result c.write_message.result _ _ _ c.message_of.ensures c.write_message.ensures.told in
    or_so (λ one. (within, one)) said.prefix
