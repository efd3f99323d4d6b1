use Rattle.std.proofs.Common.{◌≡◌, ℕ, List, [], ◌∷◌, ◌++◌, Option, Some, is_some, arith, refl, ap, ◌∙◌}
use Rattle.cred_model.specs.State.{Changed, Prepared, SealedCred, task_of}
use Rattle.cred_machine.specs.Labels.{CanCommit, IsChanged}
use Rattle.cred_plain.proofs.Places.{found_is}
use Rattle.cred_machine.proofs.CommitParts.{commits, is_within, own_is, read_is, some_by}
use Rattle.cred_machine.proofs.Seen.{seen_prepared, seen_state, seen_task}
use Rattle.cred_machine.proofs.Unchanged.{on_err}
use Rattle.cred_machine.proofs.state.State.settle.Goals as goal

pub returns-clause-ok : goal.returns-clause-ok
returns-clause-ok c =
    let s = seen_state c.self.inside in
    let own = seen_prepared c.own.inside in
    let owner = seen_task c.owner.inside in
    let can : CanCommit s c.args.place = rw (← c.self.view_is) at c.requires.can in
    let read = read_is s c.args.place can own _ owner _ c.own.view_is c.index-own.ensures c.owner.view_is
    (found_is _ c.get.result _ c.unwrap-owner.result c.get.ensures c.unwrap-owner.ensures) in
    let last : Changed = record { change = c.last.inside.change; cred = c.last.inside.cred; gains = c.last.inside.gains } in
    let changed : own.changed ≡ Some last
    = rw (← c.last.view_is) at (found_is _ c.as_ref.result _ c.unwrap-last.result c.as_ref.ensures.value c.unwrap-last.ensures) in
    let is : IsChanged s c.args.place own owner last = record { there = read.there; changed = changed; lives = read.lives } in
    rw (← c.self.view_is)
    (commits s c.args.place own owner last is c.ends_with-ending.result c.committed_by-answer.result c.seal-number.result c.count-ended.result _ _ _ _ _ _ _ _
    c.differs_from-ids_changed.result _ _
    (rw (← c.self.view_is) at c.requires.current) c.ends_with-ending.ensures c.seal-number.ensures.number c.in_ok-make_room.ensures.list c.count-ended.ensures
    c.committed_by-answer.ensures c.set_current.ensures c.end.ensures c.drop_with.ensures c.remove.ensures.items
    (c.deref.ensures.value ∙ c.in_ok-extend_from_slice.ensures.items
    ∙ ap (λ (ns : List ℕ). ns ++ owner.current ∷ own.base ∷ []) c.in_ok-numbers.ensures)
    c.in_ok-make_room.ensures.ok c.commit.ensures c.differs_from-ids_changed.ensures c.in_ok-cred.ensures c.seal-number.ensures.sealed)

pub returns-in_err-numbers-clause-err : goal.returns-in_err-numbers-clause-err
returns-in_err-numbers-clause-err c = on_err _ refl

pub returns-in_err-extend_from_slice-clause-err : goal.returns-in_err-extend_from_slice-clause-err
returns-in_err-extend_from_slice-clause-err c = on_err _ refl

pub returns-in_err-cred-clause-err : goal.returns-in_err-cred-clause-err
returns-in_err-cred-clause-err c = on_err _ refl

pub returns-in_err-make_room-clause-err : goal.returns-in_err-make_room-clause-err
returns-in_err-make_room-clause-err c =
    let s = seen_state c.self.inside in
    rw (← c.self.view_is)
    (on_err _
    (ap (λ (l : List ℕ). record s { deferred = l; creds = c.make_room.new.creds.list }) c.in_err-make_room.ensures.err
    ∙ ap (λ (l : List SealedCred). record s { creds = l }) c.in_err-make_room.ensures.list))

pub index-own-requires : goal.index-own-requires
index-own-requires c =
    let s = seen_state c.self.inside in
    let can : CanCommit s c.args.place = rw (← c.self.view_is) at c.requires.can in
    let within = is_within s c.args.place can in omega (arith, within, c.self.inside.prepared.ok)

pub unwrap-last-requires : goal.unwrap-last-requires
unwrap-last-requires c =
    let s = seen_state c.self.inside in
    let can : CanCommit s c.args.place = rw (← c.self.view_is) at c.requires.can in
    let is = own_is s c.args.place can c.index-own.result.now c.index-own.ensures in
    c.as_ref.ensures.variant ∙ ap (λ (o : Option Changed). is_some o) (ap (λ (p : Prepared). p.changed) c.own.view_is ∙ is.changed)

pub unwrap-owner-requires : goal.unwrap-owner-requires
unwrap-owner-requires c =
    let s = seen_state c.self.inside in
    let can : CanCommit s c.args.place = rw (← c.self.view_is) at c.requires.can in
    let is = own_is s c.args.place can c.index-own.result.now c.index-own.ensures in
    some_by (λ t. t.now) c.get.result _ can.owner c.get.ensures (ap (λ (p : Prepared). task_of s p.task) c.own.view_is ∙ is.lives)

pub seal-number-requires : goal.seal-number-requires
seal-number-requires c =
    c.in_ok-make_room.ensures.room

pub remove-requires : goal.remove-requires
remove-requires c =
    let s = seen_state c.self.inside in
    let can : CanCommit s c.args.place = rw (← c.self.view_is) at c.requires.can in
    let within = is_within s c.args.place can in omega (arith, within, c.self.inside.prepared.ok)
