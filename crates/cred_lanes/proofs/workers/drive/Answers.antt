use Rattle.std.proofs.Common.{rules}
use Rattle.cred_lanes.proofs.workers.drive.Goals as goal

pub all_turns-requires-clause-count : goal.all_turns-requires-clause-count
all_turns-requires-clause-count g c = search rules
