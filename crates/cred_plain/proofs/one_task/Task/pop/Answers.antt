use Rattle.std.proofs.Common.{rules}
use Rattle.cred_plain.proofs.one_task.Task.pop.Goals as goal

pub returns-then-not-is_empty : goal.returns-then-not-is_empty
returns-then-not-is_empty c = search rules
