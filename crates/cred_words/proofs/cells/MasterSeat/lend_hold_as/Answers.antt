use Rattle.std.proofs.Common.{false, sym, ap, ◌∙◌, subst, arith, refl}
use Rattle.cred_words.specs.declared.view.Ledger.{Ledger}
use Rattle.cred_words.specs.Seen.{IsSealedSlot}
use Rattle.cred_words.specs.Words.{ledger_of, lent_token}
use Rattle.cred_words.proofs.Seats.{lends_hold_as, sealed_within, lent_ok}
use Rattle.cred_words.proofs.cells.MasterSeat.lend_hold_as.Goals as goal

pub split_seat-requires : goal.split_seat-requires
split_seat-requires g c =
    let i = c.self.invariant in
    let words = c.cells.invariant in
    let own = ap (λ m. m.id) c.self.view_is ∙ c.requires.own ∙ sym c.cells.view_is in
    let sealed = subst (λ (d : Ledger). IsSealedSlot d g.O.Order.slot) (sym (ap (λ m. m.ledger) c.self.view_is)) c.requires.sealed in
    (own, omega arith, lends_hold_as _ _ _ _ _ i.0 i.1 sealed)

pub invariant_of-result : goal.invariant_of-result
invariant_of-result g c =
    let i = c.self.invariant in
    let d = ledger_of c.self.inside.seat.me.0 in
    let sealed = subst (λ (d : Ledger). IsSealedSlot d g.O.Order.slot) (sym (ap (λ m. m.ledger) c.self.view_is)) c.requires.sealed in
    let small = sealed_within d g.O.Order.slot sealed in
    let many = i.2 in
    lent_ok false c.split_seat.result.me (lent_token d g.O.Order.label g.O.Order.slot false) c.split_seat.ensures.4 refl (omega arith)
