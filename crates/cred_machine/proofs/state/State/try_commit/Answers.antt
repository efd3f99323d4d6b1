use Rattle.std.proofs.Common.{◌≡◌, ap, arith, slice_get, ◌∙◌}
use Rattle.cred_model.specs.State.{Prepared, task_of}
use Rattle.cred_model.specs.Moves.{given_up}
use Rattle.cred_machine.specs.Labels.{CanCommit}
use Rattle.cred_model.proofs.Places.{if_some}
use Rattle.cred_plain.proofs.Places.{found_is}
use Rattle.cred_machine.proofs.CommitParts.{commits_stale, is_within, on_current, own_is, read_is, some_by}
use Rattle.cred_machine.proofs.Seen.{seen_prepared, seen_state, seen_task}
use Rattle.cred_machine.proofs.state.State.try_commit.Goals as goal

pub returns-then-now-base-clause-ok : goal.returns-then-now-base-clause-ok
returns-then-now-base-clause-ok c =
    let s = seen_state c.self.inside in
    let own = seen_prepared c.own.inside in
    let owner = seen_task c.owner.inside in
    let can : CanCommit s c.args.place = rw (← c.self.view_is) at c.requires in
    let is = read_is s c.args.place can own _ owner _ c.own.view_is c.index-own.ensures c.owner.view_is
    (found_is _ c.get.result _ c.unwrap-owner.result c.get.ensures c.unwrap-owner.ensures) in
    rw (← c.self.view_is)
    (commits_stale s c.args.place own owner can.last is c.give_up.new.self c.if-now-base.true
    (if_some (λ (p : Prepared). c.give_up.new.self ≡ given_up s c.args.place p) (slice_get s.prepared c.args.place) own is.there
    (rw (← c.self.view_is) at c.in_ok-give_up.ensures.ok)))

pub settle-requires-clause-current : goal.settle-requires-clause-current
settle-requires-clause-current c =
    let s = seen_state c.self.inside in
    let own = seen_prepared c.own.inside in
    let owner = seen_task c.owner.inside in
    let can : CanCommit s c.args.place = rw (← c.self.view_is) at c.requires in
    let is = read_is s c.args.place can own _ owner _ c.own.view_is c.index-own.ensures c.owner.view_is
    (found_is _ c.get.result _ c.unwrap-owner.result c.get.ensures c.unwrap-owner.ensures) in
    rw (← c.self.view_is) (on_current s c.args.place own owner can.last is c.if-now-base.false)

pub index-own-requires : goal.index-own-requires
index-own-requires c =
    let s = seen_state c.self.inside in
    let can : CanCommit s c.args.place = rw (← c.self.view_is) at c.requires in
    let within = is_within s c.args.place can in omega (arith, within, c.self.inside.prepared.ok)

pub unwrap-owner-requires : goal.unwrap-owner-requires
unwrap-owner-requires c =
    let s = seen_state c.self.inside in
    let can : CanCommit s c.args.place = rw (← c.self.view_is) at c.requires in
    let is = own_is s c.args.place can c.index-own.result.now c.index-own.ensures in
    some_by (λ t. t.now) c.get.result _ can.owner c.get.ensures (ap (λ (p : Prepared). task_of s p.task) c.own.view_is ∙ is.lives)
