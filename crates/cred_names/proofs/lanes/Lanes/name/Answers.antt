use Rattle.std.proofs.Common.{rules}
use Rattle.cred_names.proofs.lanes.Lanes.name.Goals as goal

pub returns-then-self-eq0-clause-ok : goal.returns-then-self-eq0-clause-ok
returns-then-self-eq0-clause-ok c = search rules
