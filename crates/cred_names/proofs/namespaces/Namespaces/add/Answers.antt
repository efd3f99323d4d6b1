use Rattle.std.proofs.Common.{rules}
use Rattle.cred_names.proofs.namespaces.Namespaces.add.Goals as goal

pub returns-clause-ok : goal.returns-clause-ok
returns-clause-ok c = search rules
