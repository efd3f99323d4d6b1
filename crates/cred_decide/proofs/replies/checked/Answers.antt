use Rattle.std.proofs.Common.{rules}
use Rattle.cred_decide.proofs.replies.checked.Goals as goal

pub returns-in-Some : goal.returns-in-Some
returns-in-Some c = search rules
