use Rattle.std.proofs.Common.{rules}
use Rattle.cred_course.proofs.stages.some_wait.Goals as goal

pub returns-in-Began : goal.returns-in-Began
returns-in-Began c = search rules
