use Rattle.cred_audit.proofs.One.{one_journal}
use Rattle.cred_audit.proofs.laws.one_journal.Goals as goal

pub returns : goal.returns
returns c = one_journal
