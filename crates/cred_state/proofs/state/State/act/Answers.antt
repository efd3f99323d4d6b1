use Rattle.std.proofs.Common.{rules}
use Rattle.cred_state.proofs.state.State.act.Goals as goal

-- what the step before made is made of this credential too, with the same word on its ids
pub act_with-requires-clause-made : goal.act_with-requires-clause-made
act_with-requires-clause-made c = search rules
