use Rattle.std.proofs.Common.{◌≡◌, false, sym, ap, ◌∙◌, subst}
use Rattle.cred_event.specs.declared.event.Change.{Change}
use Rattle.cred_model.specs.State.{Changed}
use Rattle.cred_model.specs.LabelEvents.{is_access}
use Rattle.cred_tables.specs.Prepared.{IsReady}
use Rattle.cred_tables.proofs.Labels.{readies}
use Rattle.cred_tables.proofs.prepared.Preparing.ready.Goals as goal

pub returns : goal.returns
returns c =
    let p = c.in_ok-preparation.preparation.now in
    let other : is_access c.in_ok-last.last.now.change ≡ false
    = ap (λ (last : Changed). is_access last.change) (sym c.last.view_is) ∙ sym c.is_access.ensures ∙ c.if-is_access.false in
    subst (λ (change : Change). IsReady c.args.self.now c.args.label p.task p.base change) (sym (ap (λ (last : Changed). last.change) c.last.view_is))
    (readies c.args.self.now c.args.label p c.in_ok-last.last.now (sym c.in_ok-preparation.ensures) (sym c.in_ok-last.ensures.value) other)
