use Rattle.std.proofs.Common.{rules}
use Rattle.cred_reader.proofs.reader.body_of.Goals as goal

pub returns : goal.returns
returns c = search rules
