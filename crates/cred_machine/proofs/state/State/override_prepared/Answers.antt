use Rattle.std.proofs.Common.{ℕ, ◌==◌, arith, sym, ap, ◌∙◌, List}
use Rattle.std.proofs.lemmas.Option.{slice_get_within}
use Rattle.cred_model.specs.State.{Changed, Prepared, SealedCred}
use Rattle.cred_plain.proofs.Places.{found_is}
use Rattle.cred_machine.proofs.Refusals.{some_of}
use Rattle.cred_machine.proofs.CommitParts.{some_by}
use Rattle.cred_machine.proofs.Overrides.{access_deep, access_lends, is_deep, lend_other, not_deep, said_of}
use Rattle.cred_machine.proofs.Seen.{placed, seen_state}
use Rattle.cred_machine.proofs.Unchanged.{on_err}
use Rattle.cred_machine.proofs.state.State.override_prepared.Goals as goal

pub returns-in_default-for_access-clause-ok : goal.returns-in_default-for_access-clause-ok
returns-in_default-for_access-clause-ok c =
    let s = seen_state c.self.inside in
    let owner = some_of _ (rw (← c.self.view_is) at c.requires.alive) in
    let p = c.index-own.result.now in
    let at = placed (λ (q : Prepared). q.label == c.args.label) s.prepared _ c.in-Some.place p c.deref.ensures.value c.in-Some.ensures c.index-own.ensures in
    rw (← c.self.view_is)
    (lend_other s c.args.task c.args.label owner.0 owner.1 (rw (← c.self.view_is) at c.requires.unheld) c.in-Some.place p at.0 at.1
    (sym c.in_default-for_access.ensures))

pub returns-then-depth-clause-ok : goal.returns-then-depth-clause-ok
returns-then-depth-clause-ok c =
    let s = seen_state c.self.inside in
    let p = c.index-own.result.now in
    let at = placed (λ (q : Prepared). q.label == c.args.label) s.prepared _ c.in-Some.place p c.deref.ensures.value c.in-Some.ensures c.index-own.ensures in
    rw (← c.self.view_is)
    (access_deep s c.args.task c.args.label c.unwrap.result.now (found_is (λ t. t.now) c.get.result _ c.unwrap.result c.get.ensures c.unwrap.ensures)
    (rw (← c.self.view_is) at c.requires.unheld) c.in-Some.place p at.0 at.1
    c.in-Some-for_access.last.now (sym c.in-Some-for_access.ensures)
    (is_deep _ c.depth.result c.depth.ensures c.if-depth.true))

pub returns-clause-ok : goal.returns-clause-ok
returns-clause-ok c =
    let s = seen_state c.self.inside in
    let p = c.index-own.result.now in
    let at = placed (λ (q : Prepared). q.label == c.args.label) s.prepared _ c.in-Some.place p c.deref.ensures.value c.in-Some.ensures c.index-own.ensures in
    let lives = found_is (λ t. t.now) c.get.result _ c.unwrap.result c.get.ensures c.unwrap.ensures in
    let sound = rw (← c.self.view_is) at c.requires.sound in
    rw (← c.self.view_is)
    (access_lends s c.args.task c.args.label c.unwrap.result.now lives
    (rw (← c.self.view_is) at c.requires.unheld) c.in-Some.place p at.0 at.1
    c.in-Some-for_access.last.now (sym c.in-Some-for_access.ensures)
    c.next_number-number.result c.own.inside.slot c.own.inside.base _ _ _ _ _ _ _
    (not_deep _ c.depth.result c.depth.ensures c.if-depth.false)
    c.in_ok-reserve.ensures.list c.next_number-number.ensures
    (ap (λ (q : Prepared). q.slot) c.own.view_is) (ap (λ (q : Prepared). q.base) c.own.view_is)
    (c.in_ok-cred.ensures ∙ ap (λ (l : Changed). l.cred) c.last.view_is)
    (said_of s.tasks c.args.task _ c.unwrap.result.now sound.tasks lives c.in_ok-push_override.ensures.ok)
    c.seal.ensures.sealed c.in_ok-reserve-2.ensures.items (rw c.unwrap-2.ensures at c.push.ensures.items) c.remove.ensures.items)

pub returns-in_err-reserve-clause-err : goal.returns-in_err-reserve-clause-err
returns-in_err-reserve-clause-err c =
    let s = seen_state c.self.inside in
    rw (← c.self.view_is) (on_err _ (ap (λ (l : List SealedCred). record s { creds = l }) c.in_err-reserve.ensures.list))

pub returns-in_err-cred-clause-err : goal.returns-in_err-cred-clause-err
returns-in_err-cred-clause-err c =
    let s = seen_state c.self.inside in
    rw (← c.self.view_is)
    (on_err _
    (ap (λ (l : List ℕ). record s { deferred = l; creds = c.reserve.new.self.list }) c.in_ok-reserve-2.ensures.items
    ∙ ap (λ (l : List SealedCred). record s { creds = l }) c.in_ok-reserve.ensures.list))

pub remove-requires : goal.remove-requires
remove-requires c =
    let s = seen_state c.self.inside in
    let p = c.index-own.result.now in
    let at = placed (λ (q : Prepared). q.label == c.args.label) s.prepared _ c.in-Some.place p c.deref.ensures.value c.in-Some.ensures c.index-own.ensures in
    let within = slice_get_within s.prepared c.in-Some.place p at.1 in
    omega (arith, within, c.self.inside.prepared.ok)

pub unwrap-requires : goal.unwrap-requires
unwrap-requires c =
    let s = seen_state c.self.inside in
    let owner = some_of _ (rw (← c.self.view_is) at c.requires.alive) in
    some_by (λ t. t.now) c.get.result _ owner.0 c.get.ensures owner.1

pub seal-requires : goal.seal-requires
seal-requires c =
    c.in_ok-reserve.ensures.room
