use Rattle.std.proofs.Common.{sym, ap, ◌∙◌, subst, arith}
use Rattle.cred_words.specs.declared.view.Ledger.{Ledger}
use Rattle.cred_words.specs.Seen.{NoTokenIsOn}
use Rattle.cred_words.proofs.Seats.{lends_writer_as}
use Rattle.cred_words.proofs.cells.MasterSeat.lend_writer_as.Goals as goal

pub split_seat-requires : goal.split_seat-requires
split_seat-requires g c =
    let i = c.self.invariant in
    let words = c.cells.invariant in
    let own = ap (λ m. m.id) c.self.view_is ∙ c.requires.own ∙ sym c.cells.view_is in
    let alone = subst (λ (d : Ledger). NoTokenIsOn d g.O.Order.slot) (sym (ap (λ m. m.ledger) c.self.view_is)) c.requires.alone in
    let small = c.requires.within in
    let many = i.2 in
    (own, omega arith, lends_writer_as _ _ _ _ _ i.0 i.1 (omega arith) alone)
