use Rattle.cred_laws.proofs.ConfinedLaws as proved
use Rattle.cred_laws.proofs.confined.events_leave_in.Goals as goal

pub returns : goal.returns
returns c = proved.events_leave_in
