use Rattle.std.proofs.Common.{refl}
use Rattle.cred_record.specs.declared.refusal.Denial.TheVariants.{Perm, Invalid}
use Rattle.cred_decide.proofs.refusals.refusal_answer.Goals as goal

pub returns-in-Perm-clause-answer : goal.returns-in-Perm-clause-answer
returns-in-Perm-clause-answer c = record { denial = Perm; reports = c.in-Perm.is; answers = refl }

pub returns-in-Invalid-clause-answer : goal.returns-in-Invalid-clause-answer
returns-in-Invalid-clause-answer c = record { denial = Invalid; reports = c.in-Invalid.is; answers = refl }
