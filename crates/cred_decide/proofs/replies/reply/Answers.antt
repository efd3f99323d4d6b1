use Rattle.std.proofs.Common.{rules}
use Rattle.cred_decide.proofs.replies.reply.Goals as goal

pub returns-in-Capable-clause-memory : goal.returns-in-Capable-clause-memory
returns-in-Capable-clause-memory c = search rules
