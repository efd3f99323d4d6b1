use Rattle.cred_grammar.proofs.LanesOfLines.{held_next, owned_still}
use Rattle.cred_grammar.proofs.reading.Reading.hold.Goals as goal

pub invariant_of-self : goal.invariant_of-self
invariant_of-self c = owned_still _ _ c.self.inside.lanes _ _ c.name.ensures.keeps c.self.invariant

pub invariant_of-self-2 : goal.invariant_of-self-2
invariant_of-self-2 c = owned_still _ _ c.self.inside.lanes _ _ c.name.ensures.keeps c.self.invariant

pub push-requires-clause-sound : goal.push-requires-clause-sound
push-requires-clause-sound c =
    let held = rw (← c.self.view_is) at c.requires.sound in
    rw c.in_ok-name.ensures.ok (held_next _ c.args.by c.args.content held)
