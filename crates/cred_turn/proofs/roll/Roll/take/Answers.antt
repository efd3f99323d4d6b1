use Rattle.std.proofs.Common.{◌≡◌, Some, arith, sym, ap, ◌∙◌}
use Rattle.cred_turn.specs.declared.view.TurnView.TheVariants.{Roll}
use Rattle.cred_turn.specs.Rule.{rows_of, lent_of}
use Rattle.cred_turn.proofs.Steps.{Held}
use Rattle.cred_turn.proofs.Seats.{held, returns_as, learns_as, came_back}
use Rattle.cred_turn.proofs.roll.Roll.take.Goals as goal

pub join_seat-requires : goal.join_seat-requires
join_seat-requires c =
    let i = c.self.invariant in
    let words = i.1 in
    let same = ap (λ v. v.roll) c.pass.view_is ∙ c.requires.own ∙ sym (ap (λ v. v.id) c.self.view_is) in
    (i.0, same, ap (λ (m : Held). m.1) c.pass.invariant, omega arith, returns_as _ _ _ _ _ _ i.2 i.3 c.pass.invariant)

pub load-requires : goal.load-requires
load-requires c =
    let i = c.self.invariant in
    let words = i.1 in
    let j = c.join_seat.ensures in
    let is : c.join_seat.new.seat.me ≡ held (Roll (rows_of c.self.inside.seat.me.0) (Some (lent_of c.pass.inside.seat.me.0))) =
    j.2 ∙ came_back _ _ _ _ i.3 c.pass.invariant in
    (j.0 ∙ i.0, omega arith, learns_as _ _ (rows_of c.self.inside.seat.me.0) (lent_of c.pass.inside.seat.me.0) _ (j.1 ∙ i.2) is)
