use Rattle.std.proofs.Common.{ℕ, None, subst}
use Rattle.cred_words.specs.Lists.{IsTaken}
use Rattle.cred_hold.specs.Tokens.{loan}
use Rattle.cred_state.proofs.Returns.{changed_kept, changed_like, set_within}
use Rattle.cred_state.proofs.state.State.change_to.Goals as goal

pub invariant_of-self : goal.invariant_of-self
invariant_of-self c =
    let t = c.self.inside in
    let sound = rw (← c.self.view_is) at c.requires.sound in
    let are = rw (← c.self.view_is) at c.requires.out in
    let new = c.take_back.new.self in
    let slot = c.args.writer.slot in
    let taken = subst (λ (n : ℕ). IsTaken t.master.loans (loan n slot None) new.loans) c.requires.label c.take_back.ensures.taken in
    let lt = set_within t.master.slots new.slots slot c.args.writer.put c.take_back.ensures.slots c.take_back.ensures.slot in
    rw (c.change.ensures, c.take_back.ensures.slots)
    (changed_kept c.self.invariant sound are c.args.label slot new.loans taken c.args.writer.put lt c.args.to c.requires.put)

pub returns-clause-like : goal.returns-clause-like
returns-clause-like c =
    let t = c.self.inside in
    let sound = rw (← c.self.view_is) at c.requires.sound in
    let are = rw (← c.self.view_is) at c.requires.out in
    let new = c.take_back.new.self in
    let slot = c.args.writer.slot in
    let taken = subst (λ (n : ℕ). IsTaken t.master.loans (loan n slot None) new.loans) c.requires.label c.take_back.ensures.taken in
    let lt = set_within t.master.slots new.slots slot c.args.writer.put c.take_back.ensures.slots c.take_back.ensures.slot in
    rw (← c.self.view_is, c.change.ensures, c.take_back.ensures.slots)
    (changed_like c.self.invariant sound are c.args.label slot new.loans taken c.args.writer.put lt c.args.to c.requires.put)
