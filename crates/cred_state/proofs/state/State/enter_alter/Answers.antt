use Rattle.cred_model.specs.Slots.{kept}
use Rattle.cred_state.specs.TokensOut.{hold_loan}
use Rattle.cred_tables.proofs.Returned.{has_taken, taken_has}
use Rattle.cred_state.proofs.Returns.{apart_taken, base_own, holds_apart}
use Rattle.cred_state.proofs.state.State.enter_alter.Goals as goal

pub take_hold_back-requires-clause-apart : goal.take_hold_back-requires-clause-apart
take_hold_back-requires-clause-apart c =
    let s = c.args.self.now.state in
    let out = c.args.self.now.words.out in
    rw c.enter_change-answer.ensures.kept
    (apart_taken (kept s) out _ c.enter_change-answer.new.self.words.out (holds_apart s out c.requires.sound c.requires.out)
    c.enter_change-answer.ensures.taken)

pub returns-clause-made : goal.returns-clause-made
returns-clause-made c = λ script chain right.
    let s = c.args.self.now.state in
    let out = c.args.self.now.words.out in
    let mid = c.enter_change-answer.new.self.words.out in
    let base = c.args.base in
    let has =
    taken_has out _ mid c.enter_change-answer.ensures.taken _
    (has_taken mid (hold_loan base) c.take_hold_back.new.self.words.out c.take_hold_back.ensures.taken) in
    let own = base_own s out c.requires.sound c.requires.out base.label base.slot base.cred has in
    let made = rw c.label.ensures at (c.enter_change-answer.ensures.made script chain base.cred right (rw c.label.ensures own)) in
    rw c.take_hold_back.ensures.state made
