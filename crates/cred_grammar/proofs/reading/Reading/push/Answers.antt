use Rattle.cred_grammar.proofs.LanesOfLines.{pushed}
use Rattle.cred_grammar.proofs.reading.Reading.push.Goals as goal

pub invariant_of-self-2 : goal.invariant_of-self-2
invariant_of-self-2 c =
    let room = rw (← c.self.view_is) at c.requires.few in
    let sound = rw (← c.self.view_is) at c.requires.sound in
    let lines = rw c.current-lane.ensures at c.in_ok-push.ensures.items in
    pushed _ _ c.args.content lines room c.self.invariant sound
