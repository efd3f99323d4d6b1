use Rattle.cred_laws.proofs.ValidLaws.{valid_journal}
use Rattle.cred_laws.proofs.valid.sealed_are_valid.Goals as goal

pub returns : goal.returns
returns c = valid_journal
