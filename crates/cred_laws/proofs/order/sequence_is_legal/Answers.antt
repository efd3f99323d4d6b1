use Rattle.cred_laws.proofs.OrderLaws.{sequence_is_legal}
use Rattle.cred_laws.proofs.order.sequence_is_legal.Goals as goal

pub returns : goal.returns
returns c = sequence_is_legal
