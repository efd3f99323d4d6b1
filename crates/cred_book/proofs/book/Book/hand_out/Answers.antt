use Rattle.std.proofs.Common.{sym, subst}
use Rattle.cred_tables.specs.Out.{AreHome}
use Rattle.cred_book.specs.Book.{Recorded}
use Rattle.cred_book.proofs.book.Book.hand_out.Goals as goal

pub lend-requires-clause-home : goal.lend-requires-clause-home
lend-requires-clause-home c =
    let home = subst (λ (b : Recorded). AreHome c.args.event.now b.words.out) (sym c.deciding_ns.ensures.same) c.requires.home in
    subst (λ (b : Recorded). AreHome c.args.event.now b.words.out) (sym c.ask.ensures.same) home
