use Rattle.std.proofs.Common.{arith, sym, ap, subst, List, false, ◌≡◌}
use Rattle.cred_turn.specs.declared.view.LaneRow.{LaneRow}
use Rattle.cred_turn.specs.Rows.{HasRow, row_of}
use Rattle.cred_turn.proofs.Seats.{lends_as}
use Rattle.cred_turn.proofs.roll.Roll.lend_as.Goals as goal

pub split_seat-requires : goal.split_seat-requires
split_seat-requires g c =
    let i = c.self.invariant in
    let words = i.1 in
    let is = sym (ap (λ v. v.rows) c.self.view_is) in
    let here = subst (λ (r : List LaneRow). HasRow r g.O.Order.lane) is c.requires.lane in
    let home = subst (λ (r : List LaneRow). (row_of r g.O.Order.lane).lent ≡ false) is c.requires.home in
    (i.0, omega arith, lends_as _ _ _ _ _ i.2 i.3 here home)
