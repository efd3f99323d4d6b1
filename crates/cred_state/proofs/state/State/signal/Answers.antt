use Rattle.std.proofs.Common.{None, sym}
use Rattle.cred_model.specs.Slots.{kept}
use Rattle.cred_sound.specs.Sound.{IsSound}
use Rattle.cred_work.specs.declared.pending.Pending.TheVariants.{Signalling}
use Rattle.cred_tables.specs.Out.{AreOut}
use Rattle.cred_state.specs.TokensOut.{with_lent}
use Rattle.cred_state.proofs.Asking.{were_signalled}
use Rattle.cred_state.proofs.Deciding.{back_two, lent_are, lent_sound}
use Rattle.cred_state.proofs.Returns.{apart_taken, holds_apart}
use Rattle.cred_state.proofs.Standing.{held-in_use}
use Rattle.cred_state.proofs.state.State.signal.Goals as goal

pub lend_found-sender-requires-clause-used : goal.lend_found-sender-requires-clause-used
lend_found-sender-requires-clause-used c = held-in_use c.args.self.now.state c.args.hold _ (sym c.in-Some.ensures)

pub lend_found-receiver-requires-clause-used : goal.lend_found-receiver-requires-clause-used
lend_found-receiver-requires-clause-used c =
    rw c.lend_found-sender.ensures.lent (held-in_use c.args.self.now.state c.args.target _ (sym c.in-Some-held.ensures))

pub take_hold_back-requires-clause-apart : goal.take_hold_back-requires-clause-apart
take_hold_back-requires-clause-apart c =
    let s = c.args.self.now in
    let a = c.lend_found-sender.result in
    let b = c.lend_found-receiver.result in
    let second = rw c.lend_found-sender.ensures.lent at c.lend_found-receiver.ensures in
    let were = were_signalled s c.args.cells.now c.args.from c.args.hold c.args.to c.args.target _ _ a b (sym c.in-Some.ensures) (sym c.in-Some-held.ensures)
    c.lend_found-sender.ensures.hold second.hold c.requires.sound c.requires.out c.requires.home c.lend_found-sender.ensures.standing in
    let now = with_lent s (Signalling c.args.from a c.args.to b None) in
    rw second.lent (holds_apart now.state now.words.out (lent_sound were) (lent_are were))

pub take_hold_back-requires-2-clause-apart : goal.take_hold_back-requires-2-clause-apart
take_hold_back-requires-2-clause-apart c =
    let s = c.args.self.now in
    let a = c.lend_found-sender.result in
    let b = c.lend_found-receiver.result in
    let second = rw c.lend_found-sender.ensures.lent at c.lend_found-receiver.ensures in
    let were = were_signalled s c.args.cells.now c.args.from c.args.hold c.args.to c.args.target _ _ a b (sym c.in-Some.ensures) (sym c.in-Some-held.ensures)
    c.lend_found-sender.ensures.hold second.hold c.requires.sound c.requires.out c.requires.home c.lend_found-sender.ensures.standing in
    let mid = c.lend_found-receiver.new.self in
    let sound : IsSound mid.state = rw second.lent (lent_sound were) in
    let out : AreOut mid.state mid.words.out = rw second.lent (lent_are were) in
    rw c.take_hold_back.ensures.state
    (apart_taken (kept mid.state) mid.words.out _ c.take_hold_back.new.self.words.out (holds_apart mid.state mid.words.out sound out)
    c.take_hold_back.ensures.taken)

pub returns-clause-same : goal.returns-clause-same
returns-clause-same c =
    let s = c.args.self.now in
    let a = c.lend_found-sender.result in
    let b = c.lend_found-receiver.result in
    let second = rw c.lend_found-sender.ensures.lent at c.lend_found-receiver.ensures in
    let were = were_signalled s c.args.cells.now c.args.from c.args.hold c.args.to c.args.target _ _ a b (sym c.in-Some.ensures) (sym c.in-Some-held.ensures)
    c.lend_found-sender.ensures.hold second.hold c.requires.sound c.requires.out c.requires.home c.lend_found-sender.ensures.standing in
    let same = c.decide_signal-may.ensures.same in
    let first = rw same.1 at c.take_hold_back.ensures in
    let last = rw same.0 at c.take_hold_back-2.ensures in
    back_two s c.lend_found-receiver.new.self c.take_hold_back.new.self c.take_hold_back-2.new.self c.args.from c.args.to a b None were second.lent
    first.state first.places first.id first.taken last.state last.places last.id last.taken
