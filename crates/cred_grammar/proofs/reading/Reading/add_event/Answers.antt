use Rattle.cred_grammar.proofs.Own.{event_own}
use Rattle.cred_grammar.proofs.reading.Reading.add_event.Goals as goal

pub add_held-requires-clause-own : goal.add_held-requires-clause-own
add_held-requires-clause-own c = rw c.event_actor.ensures (event_own _ _ _ _ c.in_ok-event.ensures)
