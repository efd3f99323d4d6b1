use Rattle.std.proofs.Common.{◌≡◌, false, length, sym, subst, ◌∙◌}
use Rattle.cred_event.specs.declared.answer.Answer.{Answer}
use Rattle.cred_model.specs.State.{State}
use Rattle.cred_machine.specs.Kept.{KeepsReferred, may_have_dropped}
use Rattle.cred_machine.proofs.Forgetting.{gives_like, still_referred}
use Rattle.cred_machine.proofs.KeptByEvents.{Keeps}
use Rattle.cred_machine.proofs.NothingIsLost.{counted, keeps}
use Rattle.cred_machine.specs.Slots.{takes_slot}
use Rattle.cred_machine.proofs.Live.{known_like, known_still}
use Rattle.cred_machine.proofs.StillLive.{known_kept}
use Rattle.cred_machine.proofs.cached.CachedState.step.Goals as goal

pub invariant_of-self : goal.invariant_of-self
invariant_of-self c = record {
  known = known_still (takes_slot c.args.event.now) c.self.inside.live c.make.new.live c.self.inside.state c.make.new.self
      c.in_err-answer.ensures.live c.in_err-answer.ensures.err c.self.invariant.known;
  kept = subst KeepsReferred (sym c.in_err-answer.ensures.err) c.self.invariant.kept;
}

pub forget_if-requires : goal.forget_if-requires
forget_if-requires c = λ unswept.
    let s = c.self.inside.state in
    let t = c.make.new.self in
    let event = c.args.event.now in
    let test : may_have_dropped event (length s.deferred) c.in_ok-answer.answer (length t.deferred) ≡ false
    = rw (← c.given_up-before.ensures, ← c.given_up.ensures) (sym c.may_have_dropped-swept.ensures ∙ unswept) in
    still_referred s t event c.in_ok-answer.answer
    (subst (λ (made : Answer × State). Keeps s (counted event made)) c.in_ok-answer.ensures.ok
    (keeps c.args.script.now s c.args.line event (rw (← c.self.view_is) at c.requires.sound)))
    test c.self.invariant.kept

pub invariant_of-self-2 : goal.invariant_of-self-2
invariant_of-self-2 c = record {
  known = known_like c.keep_marks.new.live _ _ c.forget_if.ensures.like
      (known_kept c.args.script.now c.self.inside.state c.make.new.self c.args.line c.args.event.now c.in_ok-answer.answer c.self.inside.live
      c.make.new.live c.keep_marks.new.live (rw (← c.self.view_is) at c.requires.sound) c.in_ok-answer.ensures.ok c.self.invariant.known
      c.in_ok-answer.ensures.live c.keep_marks.ensures);
  kept = c.forget_if.ensures.kept;
}

pub returns-clause-ok : goal.returns-clause-ok
returns-clause-ok c =
    rw (← c.self.view_is)
    (gives_like _ c.in_ok-answer.answer c.make.new.self c.forget_if.new.self c.in_ok-answer.ensures.ok c.forget_if.ensures.like)
