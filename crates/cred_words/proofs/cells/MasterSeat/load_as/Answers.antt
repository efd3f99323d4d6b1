use Rattle.std.proofs.Common.{sym, ap, ◌∙◌, arith}
use Rattle.cred_words.specs.Words.{ledger_of}
use Rattle.cred_words.proofs.Seats.{learns_as, some_of}
use Rattle.cred_words.proofs.cells.MasterSeat.load_as.Goals as goal

pub load-requires : goal.load-requires
load-requires g c =
    let i = c.self.invariant in
    let words = c.cells.invariant in
    let own = ap (λ m. m.id) c.self.view_is ∙ c.requires.own ∙ sym c.cells.view_is in
    let kept = some_of c.args.self.now.ledger.kept c.requires.returned in
    (own, omega arith, learns_as _ _ (ledger_of c.self.inside.seat.me.0) kept.0 _ _ i.0 i.1 (ap (λ m. m.ledger.kept) c.self.view_is ∙ kept.1))
