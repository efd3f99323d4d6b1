use Rattle.std.proofs.Common.{◌≡◌, ℕ, List, None, Some, slice_get, slice_set, sym, ap, ◌∙◌, subst}
use Rattle.cred_words.specs.Lists.{IsTaken}
use Rattle.cred_hold.specs.Tokens.{Written, loan}
use Rattle.cred_tables.specs.Kept.{creds_in}
use Rattle.cred_tables.proofs.Stored.{slots-creds_in}
use Rattle.cred_state.proofs.Seen.{seen_state}
use Rattle.cred_state.specs.TokensOut.{earlier_of}
use Rattle.cred_state.proofs.Returns.{earlier_kept, earlier_like, set_within}
use Rattle.cred_state.proofs.state.State.put_earlier.Goals as goal

pub invariant_of-self : goal.invariant_of-self
invariant_of-self c =
    let t = c.self.inside in
    let s = seen_state t in
    let sound = rw (← c.self.view_is) at c.requires.sound in
    let are = rw (← c.self.view_is) at c.requires.out in
    let new = c.take_back.new.self in
    let w = c.put_again.new.writer in
    let slot = c.args.writer.slot in
    let at : w.slot ≡ slot = ap (λ (x : Written). x.slot) c.put_again.ensures.put in
    let puts : w.put ≡ earlier_of c.args.self.now.state c.args.label = ap (λ (x : Written). x.put) c.put_again.ensures.put in
    let again : w.put ≡ earlier_of s c.args.label = rw (← c.self.view_is) at puts in
    let taken = subst (λ (n : ℕ). IsTaken t.master.loans (loan n slot None) new.loans) c.requires.label
    (subst (λ (x : Written). IsTaken t.master.loans (loan x.label x.slot None) new.loans) c.put_again.ensures.put c.take_back.ensures.taken) in
    let slots : new.slots ≡ slice_set t.master.slots slot w.put = c.take_back.ensures.slots ∙ ap (λ (n : ℕ). slice_set t.master.slots n w.put) at in
    let there : slice_get new.slots slot ≡ Some w.put = ap (slice_get new.slots) (sym at) ∙ c.take_back.ensures.slot in
    let lt = set_within t.master.slots new.slots slot w.put slots there in
    rw slots (earlier_kept c.self.invariant sound are c.args.label slot new.loans taken w.put lt again)

pub returns-clause-like : goal.returns-clause-like
returns-clause-like c =
    let t = c.self.inside in
    let s = seen_state t in
    let sound = rw (← c.self.view_is) at c.requires.sound in
    let are = rw (← c.self.view_is) at c.requires.out in
    let new = c.take_back.new.self in
    let w = c.put_again.new.writer in
    let slot = c.args.writer.slot in
    let at : w.slot ≡ slot = ap (λ (x : Written). x.slot) c.put_again.ensures.put in
    let puts : w.put ≡ earlier_of c.args.self.now.state c.args.label = ap (λ (x : Written). x.put) c.put_again.ensures.put in
    let again : w.put ≡ earlier_of s c.args.label = rw (← c.self.view_is) at puts in
    let taken = subst (λ (n : ℕ). IsTaken t.master.loans (loan n slot None) new.loans) c.requires.label
    (subst (λ (x : Written). IsTaken t.master.loans (loan x.label x.slot None) new.loans) c.put_again.ensures.put c.take_back.ensures.taken) in
    let slots : new.slots ≡ slice_set t.master.slots slot w.put = c.take_back.ensures.slots ∙ ap (λ (n : ℕ). slice_set t.master.slots n w.put) at in
    let there : slice_get new.slots slot ≡ Some w.put = ap (slice_get new.slots) (sym at) ∙ c.take_back.ensures.slot in
    let lt = set_within t.master.slots new.slots slot w.put slots there in
    rw (← c.self.view_is, slots) (earlier_like c.self.invariant sound are c.args.label slot new.loans taken w.put lt again)

pub returns-clause-state : goal.returns-clause-state
returns-clause-state c =
    let t = c.self.inside in
    let s = seen_state t in
    rw (← c.self.view_is)
    (ap (λ (ss : List ℕ). record s { creds = creds_in c.take_back.new.self.slots ss }) (sym (slots-creds_in t.master.slots t.slots.sealed)))
