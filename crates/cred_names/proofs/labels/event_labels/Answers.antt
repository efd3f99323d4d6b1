use Rattle.std.proofs.Common.{rules}
use Rattle.cred_names.proofs.labels.event_labels.Goals as goal

pub returns-in-Prepare : goal.returns-in-Prepare
returns-in-Prepare c = search rules
