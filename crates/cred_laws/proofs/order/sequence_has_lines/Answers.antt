use Rattle.cred_laws.proofs.OrderLaws.{sequence_has_lines}
use Rattle.cred_laws.proofs.order.sequence_has_lines.Goals as goal

pub returns : goal.returns
returns c = sequence_has_lines
