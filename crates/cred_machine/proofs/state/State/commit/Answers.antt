use Rattle.cred_event.specs.declared.answer.Answer.TheVariants.{Busy, Overridden}
use Rattle.cred_machine.proofs.Leads.{busy_at}
use Rattle.cred_machine.proofs.CommitParts.{can_commit, commit_busy, commit_does, commit_overridden, finds}
use Rattle.cred_machine.proofs.Seen.{seen_prepared, seen_state}
use Rattle.cred_machine.proofs.state.State.commit.Goals as goal

pub returns-in-Some-begun_by-clause-ok : goal.returns-in-Some-begun_by-clause-ok
returns-in-Some-begun_by-clause-ok c =
    let s = seen_state c.self.inside in
    let own = seen_prepared c.own.inside in
    let last = c.in-Some-for_task.last.now in
    let owner = c.in-Some-get.owner.now in
    let found = finds s c.args.label c.in-Some.place _ own _ last owner c.deref.ensures.value c.in-Some.ensures c.own.view_is c.index-own.ensures
    c.in-Some-for_task.ensures c.in-Some-get.ensures in
    rw (← c.self.view_is)
    (commit_busy s c.args.label c.in-Some.place own last owner found (Busy c.in-Some-begun_by.broadcast)
    (busy_at s _ own.task _ c.deref-2.ensures.value c.in-Some-begun_by.ensures))

pub returns-in-Some-overridden-clause-ok : goal.returns-in-Some-overridden-clause-ok
returns-in-Some-overridden-clause-ok c =
    let s = seen_state c.self.inside in
    let own = seen_prepared c.own.inside in
    let last = c.in-Some-for_task.last.now in
    let owner = c.in-Some-get.owner.now in
    let found = finds s c.args.label c.in-Some.place _ own _ last owner c.deref.ensures.value c.in-Some.ensures c.own.view_is c.index-own.ensures
    c.in-Some-for_task.ensures c.in-Some-get.ensures in
    rw (← c.self.view_is)
    (commit_overridden s c.args.label c.in-Some.place own last owner found (Overridden c.in-Some-overridden.depth)
    (busy_at s _ own.task _ c.deref-2.ensures.value c.in_default-begun_by.ensures) c.in-Some-overridden.ensures)

pub try_commit-requires : goal.try_commit-requires
try_commit-requires c =
    let s = seen_state c.self.inside in
    let own = seen_prepared c.own.inside in
    let last = c.in-Some-for_task.last.now in
    let owner = c.in-Some-get.owner.now in
    let found = finds s c.args.label c.in-Some.place _ own _ last owner c.deref.ensures.value c.in-Some.ensures c.own.view_is c.index-own.ensures
    c.in-Some-for_task.ensures c.in-Some-get.ensures in
    rw (← c.self.view_is) (can_commit s c.args.label c.in-Some.place own last owner found)

pub returns-clause-ok : goal.returns-clause-ok
returns-clause-ok c =
    let s = seen_state c.self.inside in
    let own = seen_prepared c.own.inside in
    let last = c.in-Some-for_task.last.now in
    let owner = c.in-Some-get.owner.now in
    let found = finds s c.args.label c.in-Some.place _ own _ last owner c.deref.ensures.value c.in-Some.ensures c.own.view_is c.index-own.ensures
    c.in-Some-for_task.ensures c.in-Some-get.ensures in
    rw (← c.self.view_is)
    (commit_does s c.args.label c.in-Some.place own last owner found c.try_commit.result c.try_commit.new.self
    (busy_at s _ own.task _ c.deref-2.ensures.value c.in_default-begun_by.ensures) c.in_default-overridden.ensures
    (rw (← c.self.view_is) at c.try_commit.ensures.ok))
