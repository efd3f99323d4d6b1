use Rattle.cred_turn.proofs.Steps.{opens}
use Rattle.cred_turn.proofs.roll.Roll.make.Goals as goal

pub of_words-requires : goal.of_words-requires
of_words-requires c = opens _
