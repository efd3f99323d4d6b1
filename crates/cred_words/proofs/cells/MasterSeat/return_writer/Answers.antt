use Rattle.std.proofs.Common.{sym, ap, ◌∙◌, arith}
use Rattle.cred_words.proofs.Steps.{Held}
use Rattle.cred_words.proofs.Seats.{returns_as}
use Rattle.cred_words.proofs.cells.MasterSeat.return_writer.Goals as goal

pub join_seat-requires : goal.join_seat-requires
join_seat-requires c =
    let i = c.self.invariant in
    let j = c.writer.invariant in
    let words = c.cells.invariant in
    let own = ap (λ m. m.id) c.self.view_is ∙ c.requires.own.0 ∙ sym c.cells.view_is in
    let theirs = ap (λ m. m.id) c.writer.view_is ∙ c.requires.own.1 ∙ sym c.cells.view_is in
    let empty = ap (λ m. m.ledger.kept) c.self.view_is ∙ c.requires.empty in
    (own, theirs, ap (λ (m : Held). m.1) j.0, omega arith, returns_as _ _ _ _ _ _ i.0 i.1 j.0 empty)
