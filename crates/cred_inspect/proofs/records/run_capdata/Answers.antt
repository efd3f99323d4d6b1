use Rattle.std.proofs.Common.{ap}
use Rattle.cred_inspect.specs.Records.{IsRecordText, IsRecordFault}
use Rattle.cred_inspect.proofs.Operands.{leaves_either, said_whole}
use Rattle.cred_inspect.proofs.records.run_capdata.Goals as goal

pub write_message-requires : goal.write_message-requires
write_message-requires g c = said_whole (IsRecordText c.args.bytes.now) (IsRecordFault c.args.bytes.now) c.message_of.result c.message_of.ensures

pub returns-clause-record : goal.returns-clause-record
returns-clause-record g c =
    leaves_either (IsRecordText c.args.bytes.now) (IsRecordFault c.args.bytes.now) c.message_of.result c.write_message.result _ _ _ (λ same. ap g.K.Sink.written same)
    c.message_of.ensures c.write_message.ensures.told
