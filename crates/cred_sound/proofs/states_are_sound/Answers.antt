use Rattle.cred_sound.proofs.Sound.{sound_after}
use Rattle.cred_sound.proofs.states_are_sound.Goals as goal

pub returns : goal.returns
returns c = sound_after
