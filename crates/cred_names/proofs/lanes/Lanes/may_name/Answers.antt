use Rattle.std.proofs.Common.{rules}
use Rattle.cred_names.proofs.lanes.Lanes.may_name.Goals as goal

pub returns-then-is_free : goal.returns-then-is_free
returns-then-is_free c = search rules
