use Rattle.cred_laws.proofs.LegalLaws.{legal_is_sequence}
use Rattle.cred_laws.proofs.order.legal_is_sequence.Goals as goal

pub returns : goal.returns
returns c = legal_is_sequence
