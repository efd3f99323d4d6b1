use Rattle.std.proofs.Common.{ap}
use Rattle.cred_inspect.specs.Decoding.{IsAttributeText, IsFaultText}
use Rattle.cred_inspect.proofs.Operands.{leaves_either, said_whole}
use Rattle.cred_inspect.proofs.decoding.run_decode.Goals as goal

pub write_message-requires : goal.write_message-requires
write_message-requires g c = said_whole (IsAttributeText c.args.bytes.now) (IsFaultText c.args.bytes.now) c.message_of.result c.message_of.ensures

pub returns-clause-attribute : goal.returns-clause-attribute
returns-clause-attribute g c =
    leaves_either (IsAttributeText c.args.bytes.now) (IsFaultText c.args.bytes.now) c.message_of.result c.write_message.result _ _ _ (λ same. ap g.K.Sink.written same)
    c.message_of.ensures c.write_message.ensures.told
