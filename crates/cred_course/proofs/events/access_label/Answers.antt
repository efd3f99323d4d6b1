use Rattle.std.proofs.Common.{rules}
use Rattle.cred_course.proofs.events.access_label.Goals as goal

pub returns : goal.returns
returns c = search rules
