use Rattle.std.proofs.Common.{◌==◌, refl, sym, ap, ◌∙◌}
use Rattle.cred_record.specs.Credential.{Credential}
use Rattle.cred_model.specs.Change.{Made}
use Rattle.cred_model.specs.Script.{chain_of}
use Rattle.cred_model.specs.State.{Prepared}
use Rattle.cred_plain.specs.Creds.{seen_numbered}
use Rattle.cred_machine.proofs.Altered.{alter_leads, alter_refused}
use Rattle.cred_machine.proofs.Seen.{found_in, seen_prepared, seen_state}
use Rattle.cred_machine.proofs.state.State.alter.Goals as goal

pub returns-in-Err-clause-ok : goal.returns-in-Err-clause-ok
returns-in-Err-clause-ok c =
    let s = seen_state c.self.inside in
    let p = seen_prepared c.label_of.inside in
    let there = found_in (λ (q : Prepared). q.label == c.args.label) s.prepared _ p _ c.deref.ensures.value c.in-Some.ensures c.label_of.view_is in
    let ids = c.chain_of-chain.ensures ∙ ap (λ (of : Credential). chain_of c.args.script.now of.ns) c.base.view_is in
    rw (← c.self.view_is)
    (alter_refused c.args.script.now s c.args.label c.args.change p (seen_numbered c.in-Some-get.field-0) there (sym c.in-Some-get.ensures) _ _
    c.executed_file-file.ensures ids c.in_ok-made.field-0 c.in-Err.answer c.in_ok-made.ensures.made c.in-Err.is)

pub returns-clause-ok : goal.returns-clause-ok
returns-clause-ok c =
    let s = seen_state c.self.inside in
    let p = seen_prepared c.label_of.inside in
    let there = found_in (λ (q : Prepared). q.label == c.args.label) s.prepared _ p _ c.deref.ensures.value c.in-Some.ensures c.label_of.view_is in
    let ids = c.chain_of-chain.ensures ∙ ap (λ (of : Credential). chain_of c.args.script.now of.ns) c.base.view_is in
    let m : Made = record { answer = c.answer.inside.answer; cred = c.answer.inside.cred; gains = c.answer.inside.gains } in
    let sound = rw (← c.self.view_is) at c.requires in
    rw (← c.self.view_is)
    (alter_leads c.args.script.now s c.args.label c.args.change p (seen_numbered c.in-Some-get.field-0) there (sym c.in-Some-get.ensures) _ _
    c.executed_file-file.ensures ids c.in_ok-made.field-0 m _ _ c.in_ok-made.ensures.made (rw (← c.answer.view_is) at c.in-Ok.is) refl
    (c.change_at.ensures sound.prepared))
