use Rattle.std.proofs.Common.{◌≡◌, ◌==◌, position, None, Some, sym, ap, ◌∙◌}
use Rattle.cred_model.specs.State.{Prepared}
use Rattle.cred_plain.proofs.Places.{changed_none, changed_one}
use Rattle.cred_plain.proofs.labels.change_at.Goals as goal

pub returns-in_default : goal.returns-in_default
returns-in_default c = λ apart.
    let at : position (λ (p : Prepared). p.label == c.args.label) c.args.prepared.now.items ≡ None
    = ap (position (λ (p : Prepared). p.label == c.args.label)) (sym c.deref.ensures.value) ∙ sym c.in_default.ensures in
    changed_none c.args.label c.args.to c.args.prepared.now.items at

pub returns : goal.returns
returns c = λ apart.
    let at : position (λ (p : Prepared). p.label == c.args.label) c.args.prepared.now.items ≡ Some c.in-Some.place
    = ap (position (λ (p : Prepared). p.label == c.args.label)) (sym c.deref.ensures.value) ∙ sym c.in-Some.ensures in
    changed_one c.args.label c.args.to c.args.prepared.now.items c.in-Some.place c.index_mut.result.now c.change.new.self at
    c.index_mut.ensures.value c.change.ensures apart
