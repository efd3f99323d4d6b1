use Rattle.std.proofs.Common.{rules}
use Rattle.cred_reader.proofs.reader.is_confirmed.Goals as goal

pub returns-clause-sound : goal.returns-clause-sound
returns-clause-sound c = search rules
