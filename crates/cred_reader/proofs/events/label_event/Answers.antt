use Rattle.std.proofs.Common.{rules}
use Rattle.cred_reader.specs.Events.{label_event}
use Rattle.cred_reader.proofs.events.label_event.Goals as goal

pub returns-in_ok-label-in-Prepare : goal.returns-in_ok-label-in-Prepare
unfolding label_event
returns-in_ok-label-in-Prepare c = search rules
