use Rattle.std.proofs.Common.{not, sym, ap, ◌∙◌}
use Rattle.cred_machine.proofs.Free.{same_slot, free_now, no_sweep, free_swept, needs_sweep}
use Rattle.cred_machine.proofs.state.State.room_in.Goals as goal

pub returns-then-is_some-clause-slot : goal.returns-then-is_some-clause-slot
returns-then-is_some-clause-slot c =
    let first = c.first_clear-slot.ensures.slot ∙ same_slot _ _ (λ k h. ap not (c.requires k h)) in
    free_now c.args.self.now _ first (sym c.is_some.ensures ∙ c.if-is_some.true)

pub returns-then-is_some-clause-swept : goal.returns-then-is_some-clause-swept
returns-then-is_some-clause-swept c =
    let first = c.first_clear-slot.ensures.slot ∙ same_slot _ _ (λ k h. ap not (c.requires k h)) in
    no_sweep c.args.self.now _ first (sym c.is_some.ensures ∙ c.if-is_some.true)

pub returns-clause-slot : goal.returns-clause-slot
returns-clause-slot c =
    let first = c.first_clear-slot.ensures.slot ∙ same_slot _ _ (λ k h. ap not (c.requires k h)) in
    let after = c.first_clear-slot-2.ensures.slot ∙ same_slot _ _ (λ k h. ap not (c.in_ok-live_swept.ensures k h)) in
    free_swept c.args.self.now _ first _ (sym c.is_some.ensures ∙ c.if-is_some.false) after

pub returns-clause-swept : goal.returns-clause-swept
returns-clause-swept c =
    let first = c.first_clear-slot.ensures.slot ∙ same_slot _ _ (λ k h. ap not (c.requires k h)) in
    needs_sweep c.args.self.now _ first (sym c.is_some.ensures ∙ c.if-is_some.false)
