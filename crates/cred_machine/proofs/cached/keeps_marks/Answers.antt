use Rattle.std.proofs.Common.{rules}
use Rattle.cred_machine.proofs.cached.keeps_marks.Goals as goal

pub returns-after-matches : goal.returns-after-matches
returns-after-matches c = search rules
