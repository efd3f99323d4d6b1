use Rattle.std.proofs.Common.{refl}
use Rattle.cred_ids.specs.Limits.{slots}
use Rattle.cred_slots.specs.Flags.{flags_of}
use Rattle.cred_slots.proofs.flags.Flags.new.Goals as goal

pub returns : goal.returns
unfolding flags_of slots
returns c = refl
