use Rattle.cred_sound.proofs.TaskCount.{few_after}
use Rattle.cred_sound.proofs.tasks_are_few.Goals as goal

pub returns : goal.returns
returns c = few_after
