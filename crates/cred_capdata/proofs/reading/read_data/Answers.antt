use Rattle.cred_capdata.proofs.DataOf.{read-is}
use Rattle.cred_capdata.proofs.reading.read_data.Goals as goal

pub returns-clause-function : goal.returns-clause-function
returns-clause-function c = read-is c.args.bytes.now c.record_of.result c.record_of.ensures.value c.record_of.ensures.each_value
