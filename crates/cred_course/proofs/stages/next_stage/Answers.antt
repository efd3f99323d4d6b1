use Rattle.std.proofs.Common.{rules}
use Rattle.cred_course.proofs.stages.next_stage.Goals as goal

pub returns-in-Change-Altering : goal.returns-in-Change-Altering
returns-in-Change-Altering c = search rules
