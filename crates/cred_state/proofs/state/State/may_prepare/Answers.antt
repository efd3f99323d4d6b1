use Rattle.std.proofs.Common.{length, sym, ◌∙◌, arith}
use Rattle.cred_model.proofs.Places.{none_by_test}
use Rattle.cred_state.proofs.Seen.{seen_state}
use Rattle.cred_state.proofs.Labelling.{present, held_hold, neither_found, no_number, prepare_no_task, prepare_busy, prepare_no_hold, prepare_exists}
use Rattle.cred_state.proofs.Labelling.{prepare_many, many_prepared}
use Rattle.cred_state.proofs.state.State.may_prepare.Goals as goal

pub returns : goal.returns
returns c =
    let t = c.self.inside in
    let owner = present c.args.task t.tasks c.alive.result c.alive.ensures c.if-not-alive.false in
    let base = held_hold _ c.in-Some-get.base c.in-Some-get.ensures in
    let idle = rw (← c.self.view_is) at c.in_default.ensures in
    let labels = rw (← c.self.view_is) at c.has_label.ensures in
    let new = neither_found _ _ c.has_label.result labels c.if-has_label.false in
    rw (← c.self.view_is)
    (record {
      owner = owner.0;
      lives = owner.1;
      idle = idle;
      base = base.0;
      has = base.1;
      is = base.2;
      new = new.0;
      unprepared = new.1;
      few = omega (arith, c.len.ensures, c.if-len-ge-PREPARED.false);
    })

pub returns-then-not-alive : goal.returns-then-not-alive
returns-then-not-alive c =
    let t = c.self.inside in
    let s = seen_state t in
    rw (← c.self.view_is) (prepare_no_task s c.args.label c.args.task c.args.hold (none_by_test _ c.alive.result c.alive.ensures c.if-not-alive.true))

pub returns-in-Some : goal.returns-in-Some
returns-in-Some c =
    let t = c.self.inside in
    let s = seen_state t in
    let owner = present c.args.task t.tasks c.alive.result c.alive.ensures c.if-not-alive.false in
    let busy = rw (← c.self.view_is) at c.in-Some.ensures in
    rw (← c.self.view_is) (prepare_busy s c.args.label c.args.task c.args.hold owner.0 owner.1 c.in-Some.broadcast busy)

pub returns-in_default-get : goal.returns-in_default-get
returns-in_default-get c =
    let t = c.self.inside in
    let s = seen_state t in
    let owner = present c.args.task t.tasks c.alive.result c.alive.ensures c.if-not-alive.false in
    let idle = rw (← c.self.view_is) at c.in_default.ensures in
    rw (← c.self.view_is) (prepare_no_hold s c.args.label c.args.task c.args.hold owner.0 owner.1 idle (no_number _ c.in_default-get.ensures))

pub returns-then-has_label : goal.returns-then-has_label
returns-then-has_label c =
    let t = c.self.inside in
    let s = seen_state t in
    let owner = present c.args.task t.tasks c.alive.result c.alive.ensures c.if-not-alive.false in
    let idle = rw (← c.self.view_is) at c.in_default.ensures in
    let base = held_hold _ c.in-Some-get.base c.in-Some-get.ensures in
    let labels = rw (← c.self.view_is) at c.has_label.ensures in
    rw (← c.self.view_is) (prepare_exists s c.args.label c.args.task c.args.hold owner.0 owner.1 idle base.0 base.1 (sym labels ∙ c.if-has_label.true))

pub returns-then-len-ge-PREPARED : goal.returns-then-len-ge-PREPARED
returns-then-len-ge-PREPARED c =
    let t = c.self.inside in
    let s = seen_state t in
    let owner = present c.args.task t.tasks c.alive.result c.alive.ensures c.if-not-alive.false in
    let idle = rw (← c.self.view_is) at c.in_default.ensures in
    let base = held_hold _ c.in-Some-get.base c.in-Some-get.ensures in
    let labels = rw (← c.self.view_is) at c.has_label.ensures in
    let new = neither_found _ _ c.has_label.result labels c.if-has_label.false in
    rw (← c.self.view_is)
    (prepare_many s c.args.label c.args.task c.args.hold owner.0 owner.1 idle base.0 base.1 new.0 new.1
    (many_prepared (length t.prepared) c.len.result c.len.ensures c.if-len-ge-PREPARED.true))
