use Rattle.std.proofs.Common.{◌≡◌, ◌<◌, ◌==◌, true, count_by, refl, sym, subst}
use Rattle.cred_model.proofs.Likes.{does_same}
use Rattle.cred_slots.specs.Table.{Table, is_kept_in}
use Rattle.cred_state.proofs.Labelling.{slot-kept, base-held}
use Rattle.cred_state.proofs.Overrides.{alive_is, lends, is_deep, unprepared, access_deep, access_last, prepared_kept, prepared_done}
use Rattle.cred_tables.proofs.Puts.{put_less}
use Rattle.cred_state.proofs.Keeping.{overridden_words}
use Rattle.cred_state.proofs.state.State.override_prepared.Goals as goal

pub returns-then-not-is_for_access-clause-ok : goal.returns-then-not-is_for_access-clause-ok
returns-then-not-is_for_access-clause-ok c =
    let alive = rw (← c.self.view_is) at c.requires.alive in
    let unheld = rw (← c.self.view_is) at c.requires.unheld in
    let own = alive_is c.self.inside.tasks c.args.task alive in
    rw (← c.self.view_is)
    (does_same _ _ _ (unprepared _ c.args.task c.args.label own.0 own.1 unheld c.is_for_access.result c.is_for_access.ensures c.if-not-is_for_access.true))

pub returns-then-not-push_override-clause-ok : goal.returns-then-not-push_override-clause-ok
returns-then-not-push_override-clause-ok c =
    let alive = rw (← c.self.view_is) at c.requires.alive in
    let unheld = rw (← c.self.view_is) at c.requires.unheld in
    let deep = is_deep c.self.inside.tasks c.push_override.new.self c.args.task alive c.next_number-next.result c.push_override.result
    c.push_override.ensures.pushed c.push_override.ensures.tasks c.if-not-push_override.true in
    rw (← c.self.view_is, deep.same, c.in_ok-reserve.ensures.ok)
    (does_same _ _ _
    (access_deep _ c.args.task c.args.label deep.owner deep.lives unheld c.is_for_access.result c.is_for_access.ensures c.if-not-is_for_access.false deep.many))

pub seal_kept-number-requires-clause-slot : goal.seal_kept-number-requires-clause-slot
seal_kept-number-requires-clause-slot c =
    let gives = c.finish.ensures.gives in
    subst (λ (t : Table). is_kept_in t c.finish.result.0.slot ≡ true) (sym c.in_ok-reserve.ensures.ok) (slot-kept c.self.invariant.0 gives.place _ gives.there)

pub seal_kept-number-requires-clause-base : goal.seal_kept-number-requires-clause-base
seal_kept-number-requires-clause-base c =
    let gives = c.finish.ensures.gives in
    let base = c.finish.result.0.base in
    subst (λ (t : Table). 0 < count_by (λ m. m == base) t.held) (sym c.in_ok-reserve.ensures.ok) (base-held c.self.invariant.0 gives.place _ gives.there)

pub invariant_of-self-2 : goal.invariant_of-self-2
invariant_of-self-2 c =
    let t = c.self.inside in
    let alive = rw (← c.self.view_is) at c.requires.alive in
    let sound = rw (← c.self.view_is) at c.requires.sound in
    let gives = c.finish.ensures.gives in
    let lent = lends t.tasks c.push_override.new.self c.args.task alive c.next_number-next.result c.push_override.result
    c.push_override.ensures.pushed c.push_override.ensures.tasks c.if-not-push_override.false in
    let out = rw (← c.self.view_is) at c.requires.out in
    let home = rw (← c.self.view_is) at c.requires.home in
    let words =
    overridden_words t.master.loans c.self.invariant c.args.task c.args.label gives.place _ gives.found gives.there c.finish.result.1 refl sound out home in
    rw gives.left (
      prepared_kept c.self.invariant.0 c.args.task c.push_override.new.self sound.tasks c.seal_kept-number.new.slots lent c.args.label gives.place _ gives.there
          sound.slots.own c.finish.result.1 c.in_ok-reserve.ensures.ok words c.seal_kept-number.ensures c.next_number-next.ensures,
      put_less t.prepared gives.place t.master.loans t.master.slots c.self.invariant.1,
    )

pub returns-clause-ok : goal.returns-clause-ok
returns-clause-ok c =
    let t = c.self.inside in
    let alive = rw (← c.self.view_is) at c.requires.alive in
    let unheld = rw (← c.self.view_is) at c.requires.unheld in
    let sound = rw (← c.self.view_is) at c.requires.sound in
    let gives = c.finish.ensures.gives in
    let lent = lends t.tasks c.push_override.new.self c.args.task alive c.next_number-next.result c.push_override.result
    c.push_override.ensures.pushed c.push_override.ensures.tasks c.if-not-push_override.false in
    let out = rw (← c.self.view_is) at c.requires.out in
    let home = rw (← c.self.view_is) at c.requires.home in
    let words =
    overridden_words t.master.loans c.self.invariant c.args.task c.args.label gives.place _ gives.found gives.there c.finish.result.1 refl sound out home in
    let for = access_last t.prepared c.args.task c.args.label c.is_for_access.result c.is_for_access.ensures c.if-not-is_for_access.false gives.place _
    c.finish.result.1 gives.found gives.there refl in
    rw (← c.self.view_is, gives.left)
    (prepared_done c.self.invariant.0 c.args.task c.push_override.new.self sound.tasks c.seal_kept-number.new.slots lent c.args.label gives.place _ gives.there
    sound.slots.own c.finish.result.1 c.in_ok-reserve.ensures.ok words c.seal_kept-number.ensures c.next_number-next.ensures
    gives.found for unheld)

pub invariant_of-self : goal.invariant_of-self
invariant_of-self c = rw c.in_err-reserve.ensures.err c.self.invariant
