use Rattle.cred_grammar.proofs.Own.{held}
use Rattle.cred_grammar.proofs.reading.Reading.add_held.Goals as goal

pub hold-requires-clause-sound : goal.hold-requires-clause-sound
hold-requires-clause-sound c = held _ _ _ c.requires.own c.in_ok-may_hold.ensures
