use Rattle.std.proofs.Common.{rules}
use Rattle.cred_rules.specs.Exec.{attribute_for}
use Rattle.cred_exec.proofs.attribute.attribute_for.Goals as goal

pub returns-in-Some-clause-value : goal.returns-in-Some-clause-value
unfolding attribute_for
returns-in-Some-clause-value c = search rules

pub returns-in-Some-clause-refusal : goal.returns-in-Some-clause-refusal
unfolding attribute_for
returns-in-Some-clause-refusal c = search rules
