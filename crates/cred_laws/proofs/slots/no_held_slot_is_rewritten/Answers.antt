use Rattle.cred_laws.proofs.Unused.{no_held_slot_is_rewritten}
use Rattle.cred_laws.proofs.slots.no_held_slot_is_rewritten.Goals as goal

pub returns : goal.returns
returns c = no_held_slot_is_rewritten
