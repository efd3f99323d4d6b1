use Rattle.std.proofs.Common.{if◌then◌else◌, ◌≡◌, ◌∷◌, [], None, refl, ◌∙◌}
use Rattle.cred_event.specs.declared.answer.Answer.TheVariants.{Done, Eacces}
use Rattle.cred_model.specs.Answers.{checked, reply}
use Rattle.cred_model.specs.Named.{query_files}
use Rattle.cred_model.specs.Slots.{kept}
use Rattle.cred_model.specs.State.{held_by, info_of}
use Rattle.cred_model.proofs.Likes.{does_same}
use Rattle.cred_hold.specs.Tokens.{loan}
use Rattle.cred_tables.proofs.Returned.{has_taken, taken_has}
use Rattle.cred_state.specs.TokensOut.{hold_loan}
use Rattle.cred_state.proofs.Entering.{both_right, held_right, one_right, taken_same}
use Rattle.cred_state.proofs.Returns.{apart_taken, held_own, holds_apart}
use Rattle.cred_state.proofs.state.State.enter.Goals as goal

pub take_hold_back-requires-clause-apart : goal.take_hold_back-requires-clause-apart
take_hold_back-requires-clause-apart c = holds_apart c.args.self.now.state c.args.self.now.words.out c.requires.sound c.requires.out

pub take_hold_back-requires-in-Some-may-clause-apart : goal.take_hold_back-requires-in-Some-may-clause-apart
take_hold_back-requires-in-Some-may-clause-apart c = holds_apart c.args.self.now.state c.args.self.now.words.out c.requires.sound c.requires.out

pub take_hold_back-requires-in-Some-may-2-clause-apart : goal.take_hold_back-requires-in-Some-may-2-clause-apart
take_hold_back-requires-in-Some-may-2-clause-apart c =
    let s = c.args.self.now.state in
    let out = c.args.self.now.words.out in
    rw c.take_hold_back-in-Some-may.ensures.state
    (apart_taken (kept s) out _ c.take_hold_back-in-Some-may.new.self.words.out (holds_apart s out c.requires.sound c.requires.out)
    c.take_hold_back-in-Some-may.ensures.taken)

pub enter_open-requires-clause-apart : goal.enter_open-requires-clause-apart
enter_open-requires-clause-apart c = holds_apart c.args.self.now.state c.args.self.now.words.out c.requires.sound c.requires.out

pub returns-in-Some-clause-ok : goal.returns-in-Some-clause-ok
returns-in-Some-clause-ok c = λ script line chain is right.
    let s = c.args.self.now.state in
    let out = c.args.self.now.words.out in
    let a = c.in-Asking in
    let hold = a.hold in
    let r = rw (a.is, c.in-Some.is) at right in
    let has = has_taken out (hold_loan hold) c.take_hold_back.new.self.words.out c.take_hold_back.ensures.taken in
    let own = held_own s out c.requires.sound c.requires.out hold.label hold.slot hold.cred has in
    let told = one_right (λ x. reply (info_of s.inodes (query_files a.query)) x a.query) c.in-Some.told (held_by s hold.label) hold.cred own r in
    let asked = rw (c.take_hold_back.ensures.state, c.label-label.ensures) at c.enter_ask.ensures in
    rw (a.is, c.take_hold_back.ensures.state) (does_same _ _ _ (asked a.query told))

pub returns-in-Ok-clause-ok : goal.returns-in-Ok-clause-ok
returns-in-Ok-clause-ok c = λ script line chain is right.
    let s = c.args.self.now.state in
    let out = c.args.self.now.words.out in
    let a = c.in-Opening in
    let hold = a.hold in
    let r = rw a.is at right in
    let has = has_taken out (hold_loan hold) c.enter_open.new.self.words.out c.in-Ok.ensures.taken in
    let own = held_own s out c.requires.sound c.requires.out hold.label hold.slot hold.cred has in
    let may =
    held_right (λ m x. checked x (info_of s.inodes (a.file ∷ [])) a.want ≡ (if m then Done else Eacces)) a.may (held_by s hold.label) hold.cred r own in
    rw a.is (does_same _ _ _ (c.in-Ok.ensures.ok a.want may))

pub returns-in-Some-may-clause-ok : goal.returns-in-Some-may-clause-ok
returns-in-Some-may-clause-ok c = λ script line chain is right.
    let s = c.args.self.now.state in
    let out = c.args.self.now.words.out in
    let mid = c.take_hold_back-in-Some-may.new.self.words.out in
    let new = c.take_hold_back-in-Some-may-2.new.self.words.out in
    let a = c.in-Signalling in
    let from = a.hold in
    let to = a.target in
    let r = rw (a.is, c.in-Some-may.is) at right in
    let first = c.take_hold_back-in-Some-may.ensures in
    let second = c.take_hold_back-in-Some-may-2.ensures in
    let has_to = has_taken out (hold_loan to) mid first.taken in
    let has_from = taken_has out _ mid first.taken _ (has_taken mid (hold_loan from) new second.taken) in
    let own = held_own s out c.requires.sound c.requires.out from.label from.slot from.cred has_from in
    let other = held_own s out c.requires.sound c.requires.out to.label to.slot to.cred has_to in
    let both = both_right (held_by s from.label) (held_by s to.label) from.cred to.cred c.in-Some-may.may own other r in
    let same = second.state ∙ first.state in
    let signalled = rw (same, c.label-own.ensures, c.label-other.ensures) at c.enter_signal.ensures in
    rw (a.is, same) (does_same _ _ _ (signalled both))

pub returns-in-Some-may-clause-taken : goal.returns-in-Some-may-clause-taken
returns-in-Some-may-clause-taken c =
    rw c.in-Signalling.is (
      c.take_hold_back-in-Some-may.new.self.words.out,
      c.take_hold_back-in-Some-may.ensures.taken,
      (c.take_hold_back-in-Some-may-2.new.self.words.out, c.take_hold_back-in-Some-may-2.ensures.taken, refl),
    )

pub returns-in-Some-may-clause-back : goal.returns-in-Some-may-clause-back
returns-in-Some-may-clause-back c =
    let a = c.in-Signalling in
    rw a.is
    (record {
      id = c.take_hold_back-in-Some-may-2.ensures.id ∙ c.take_hold_back-in-Some-may.ensures.id;
      out = taken_same (hold_loan a.target ∷ hold_loan a.hold ∷ []) c.args.self.now.words.out c.take_hold_back-in-Some-may-2.new.self.words.out (
        c.take_hold_back-in-Some-may.new.self.words.out,
        c.take_hold_back-in-Some-may.ensures.taken,
        (c.take_hold_back-in-Some-may-2.new.self.words.out, c.take_hold_back-in-Some-may-2.ensures.taken, refl),
      );
    })

pub returns-in-Some-made-clause-back : goal.returns-in-Some-made-clause-back
returns-in-Some-made-clause-back c =
    let a = c.in-Altering in
    rw a.is
    (record {
      id = c.enter_alter.ensures.id;
      out = taken_same (loan a.writer.label a.writer.slot None ∷ hold_loan a.base ∷ []) c.args.self.now.words.out c.enter_alter.new.self.words.out
          c.enter_alter.ensures.taken;
    })
