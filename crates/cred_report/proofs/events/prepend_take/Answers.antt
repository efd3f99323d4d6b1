use Rattle.std.proofs.Common.{arith}
use Rattle.std.proofs.lemmas.Grind.{common_steps}
use Rattle.cred_report.proofs.events.prepend_take.Goals as goal

pub returns-in-Objective-clause-text : goal.returns-in-Objective-clause-text
returns-in-Objective-clause-text c = grind (arith, common_steps)
