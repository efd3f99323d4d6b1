use Rattle.std.proofs.Common.{rules}
use Rattle.cred_decide.proofs.replies.is_capable.Goals as goal

pub returns : goal.returns
returns c = search rules
