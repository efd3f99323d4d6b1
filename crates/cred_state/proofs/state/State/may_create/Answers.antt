use Rattle.std.proofs.Common.{length, sym, ◌∙◌}
use Rattle.cred_model.proofs.Numbers.{current_is}
use Rattle.cred_model.proofs.Places.{none_by_test}
use Rattle.cred_tables.proofs.Owners.{own_owner, over_owner}
use Rattle.cred_state.proofs.Seen.{seen_state}
use Rattle.cred_state.proofs.Creating.{creating_none, creating_busy, creating_exists, creating_used, creating_overridden, creating_many}
use Rattle.cred_state.proofs.Inits.{few_by_test, many_by_test}
use Rattle.cred_state.proofs.state.State.may_create.Goals as goal

pub returns-in_default : goal.returns-in_default
returns-in_default c = creating_none c.args.self.now.state c.args.task c.args.child c.args.process (sym c.in_default.ensures)

pub returns-in-Some-begun : goal.returns-in-Some-begun
returns-in-Some-begun c =
    let s = c.args.self.now.state in
    let u = current_is s c.args.task _ (sym c.in-Some.ensures) in
    creating_busy s c.args.task c.args.child _ (sym c.in-Some.ensures) u.owner u.is c.args.process c.in-Some-begun.broadcast c.in-Some-begun.ensures

pub returns-then-alive : goal.returns-then-alive
returns-then-alive c =
    let t = c.self.inside in
    let s = seen_state t in
    let has = rw (← c.self.view_is) at c.in-Some.ensures in
    let u = current_is s c.args.task _ (sym has) in
    let idle = rw (← c.self.view_is) at c.in_default-begun.ensures in
    rw (← c.self.view_is)
    (creating_exists s c.args.task c.args.child _ (sym has) u.owner u.is idle c.args.process (sym c.alive.ensures ∙ c.if-alive.true))

pub returns-in-Some-in_use : goal.returns-in-Some-in_use
returns-in-Some-in_use c =
    let t = c.self.inside in
    let s = seen_state t in
    let has = rw (← c.self.view_is) at c.in-Some.ensures in
    let u = current_is s c.args.task _ (sym has) in
    let idle = rw (← c.self.view_is) at c.in_default-begun.ensures in
    let new = none_by_test _ c.alive.result c.alive.ensures c.if-alive.false in
    let used = rw (← c.self.view_is) at c.in-Some-in_use.ensures in
    rw (← c.self.view_is, used.0) (creating_used s c.args.task c.args.child _ (sym has) u.owner u.is idle new c.in-Some-in_use.number used.1)

pub returns-in-Some-overridden : goal.returns-in-Some-overridden
returns-in-Some-overridden c =
    let t = c.self.inside in
    let s = seen_state t in
    let has = rw (← c.self.view_is) at c.in-Some.ensures in
    let u = current_is s c.args.task _ (sym has) in
    let idle = rw (← c.self.view_is) at c.in_default-begun.ensures in
    let new = none_by_test _ c.alive.result c.alive.ensures c.if-alive.false in
    let unused = rw (← c.self.view_is) at c.in_default-in_use.ensures in
    let over = rw (← c.self.view_is) at c.in-Some-overridden.ensures in
    rw (← c.self.view_is)
    (creating_overridden s c.args.task c.args.child _ (sym has) u.owner u.is idle new c.args.process c.in-Some-overridden.depth unused
    (over_owner s c.args.task c.in-Some-overridden.depth u.owner u.is over))

pub returns-then-full : goal.returns-then-full
returns-then-full c =
    let t = c.self.inside in
    let s = seen_state t in
    let has = rw (← c.self.view_is) at c.in-Some.ensures in
    let u = current_is s c.args.task _ (sym has) in
    let idle = rw (← c.self.view_is) at c.in_default-begun.ensures in
    let new = none_by_test _ c.alive.result c.alive.ensures c.if-alive.false in
    let unused = rw (← c.self.view_is) at c.in_default-in_use.ensures in
    let own = rw (← c.self.view_is) at c.in_default-overridden.ensures in
    rw (← c.self.view_is)
    (creating_many s c.args.task c.args.child _ (sym has) u.owner u.is idle new c.args.process unused
    (own_owner s c.args.task u.owner u.is own) (many_by_test (length t.tasks) c.full.result c.full.ensures.full c.if-full.true))

pub returns : goal.returns
returns c =
    let t = c.self.inside in
    let s = seen_state t in
    let has = rw (← c.self.view_is) at c.in-Some.ensures in
    let u = current_is s c.args.task _ (sym has) in
    let idle = rw (← c.self.view_is) at c.in_default-begun.ensures in
    let new = none_by_test _ c.alive.result c.alive.ensures c.if-alive.false in
    let unused = rw (← c.self.view_is) at c.in_default-in_use.ensures in
    let own = rw (← c.self.view_is) at c.in_default-overridden.ensures in
    rw (← c.self.view_is) (
      record {
        owner = u.owner;
        lives = u.is;
        has = sym has;
        idle = idle;
        new = new;
        own = own_owner s c.args.task u.owner u.is own;
        few = few_by_test (length t.tasks) c.full.result c.full.ensures.full c.if-full.false;
      },
      unused,
    )
