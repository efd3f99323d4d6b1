use Rattle.cred_grammar.proofs.Own.{call_own}
use Rattle.cred_grammar.proofs.reading.Reading.add_call.Goals as goal

pub add_held-requires-clause-own : goal.add_held-requires-clause-own
add_held-requires-clause-own c = call_own _ _ _ _ c.in_ok-content.ensures
