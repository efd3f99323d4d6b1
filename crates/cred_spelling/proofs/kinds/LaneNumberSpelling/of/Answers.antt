use Rattle.std.proofs.Common.{rules}
use Rattle.cred_spelling.proofs.kinds.LaneNumberSpelling.of.Goals as goal

pub returns : goal.returns
returns c = search rules
