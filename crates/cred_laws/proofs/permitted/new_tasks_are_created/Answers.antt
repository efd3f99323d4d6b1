use Rattle.cred_laws.proofs.PermittedLaws.{new_tasks_are_created}
use Rattle.cred_laws.proofs.permitted.new_tasks_are_created.Goals as goal

pub returns : goal.returns
returns c = new_tasks_are_created
