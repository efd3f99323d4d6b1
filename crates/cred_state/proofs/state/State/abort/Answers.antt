use Rattle.std.proofs.Common.{◌<◌, ◌==◌, ◌∷◌, ◌++◌, [], count_by, sym, ap, ◌∙◌, subst}
use Rattle.cred_slots.specs.Table.{Table, IsSameBag}
use Rattle.cred_tables.proofs.Puts.{put_less}
use Rattle.cred_state.proofs.Labelling.{slot-kept, base-held, abort_kept, abort_done}
use Rattle.cred_state.proofs.state.State.abort.Goals as goal

pub give_up-requires-2 : goal.give_up-requires-2
give_up-requires-2 c = slot-kept c.self.invariant.0 c.in-Some.ensures.gives.place _ c.in-Some.ensures.gives.there

pub drop_later-requires : goal.drop_later-requires
drop_later-requires c =
    let gives = c.in-Some.ensures.gives in
    let base = c.in-Some.field-0.base in
    subst (λ (x : Table). 0 < count_by (λ m. m == base) x.held) (sym c.give_up-2.ensures) (base-held c.self.invariant.0 gives.place _ gives.there)

pub invariant_of-self-2 : goal.invariant_of-self-2
invariant_of-self-2 c =
    let gives = c.in-Some.ensures.gives in
    let base = c.in-Some.field-0.base in
    let after = c.drop_later.new.self in
    let sound = rw (← c.self.view_is) at c.requires in
    rw gives.left (
      abort_kept c.self.invariant.0 gives.place _ gives.there after
          (subst (λ (x : Table). IsSameBag x.held (base ∷ after.held)) c.give_up-2.ensures c.drop_later.ensures.held)
          (ap (λ (x : Table). x.sealed) c.drop_later.ensures.table ∙ ap (λ (x : Table). x.sealed) c.give_up-2.ensures)
          (ap (λ (x : Table). x.deferred) c.drop_later.ensures.table ∙ ap (λ (x : Table). x.deferred ++ base ∷ []) c.give_up-2.ensures)
          sound.slots.own
          (ap (λ (x : Table). x.kept) c.drop_later.ensures.table ∙ ap (λ (x : Table). x.kept) c.give_up-2.ensures),
      put_less c.self.inside.prepared gives.place c.self.inside.master.loans c.self.inside.master.slots c.self.invariant.1,
    )

pub returns-clause-made : goal.returns-clause-made
returns-clause-made c =
    let gives = c.in-Some.ensures.gives in
    let base = c.in-Some.field-0.base in
    let after = c.drop_later.new.self in
    rw (← c.self.view_is, gives.left)
    (abort_done c.self.invariant.0 gives.place _ gives.there after
    (subst (λ (x : Table). IsSameBag x.held (base ∷ after.held)) c.give_up-2.ensures c.drop_later.ensures.held)
    (ap (λ (x : Table). x.sealed) c.drop_later.ensures.table ∙ ap (λ (x : Table). x.sealed) c.give_up-2.ensures)
    (ap (λ (x : Table). x.deferred) c.drop_later.ensures.table ∙ ap (λ (x : Table). x.deferred ++ base ∷ []) c.give_up-2.ensures)
    c.args.label gives.found)
