use Rattle.std.proofs.Common.{arith}
use Rattle.std.proofs.lemmas.Grind.{common_steps}
use Rattle.cred_report.proofs.told.prepend_values.Goals as goal

pub returns-in-Ids-clause-text : goal.returns-in-Ids-clause-text
returns-in-Ids-clause-text c = grind (arith, common_steps)
