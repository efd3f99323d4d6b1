use Rattle.std.proofs.Common.{rules}
use Rattle.cred_machine.proofs.label_events.prepare.ends_with.Goals as goal

pub returns-in-Exec : goal.returns-in-Exec
returns-in-Exec c = search rules
