use Rattle.std.proofs.Common.{rules}
use Rattle.cred_record.proofs.cred.first.Goals as goal

pub returns : goal.returns
returns c = search rules
