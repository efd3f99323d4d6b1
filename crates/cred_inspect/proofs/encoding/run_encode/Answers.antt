use Rattle.std.proofs.Common.{ap}
use Rattle.cred_inspect.specs.Encoding.{IsDigitsOf, IsTextFault}
use Rattle.cred_inspect.proofs.Operands.{leaves_either, said_whole}
use Rattle.cred_inspect.proofs.encoding.run_encode.Goals as goal

pub write_message-requires : goal.write_message-requires
write_message-requires g c = said_whole (IsDigitsOf c.args.text.now) (IsTextFault c.args.text.now) c.message_of.result c.message_of.ensures

pub returns-clause-line : goal.returns-clause-line
returns-clause-line g c =
    leaves_either (IsDigitsOf c.args.text.now) (IsTextFault c.args.text.now) c.message_of.result c.write_message.result _ _ _ (λ same. ap g.K.Sink.written same)
    c.message_of.ensures c.write_message.ensures.told
