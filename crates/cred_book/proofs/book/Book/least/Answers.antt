use Rattle.std.proofs.Common.{MatchOption, subst}
use Rattle.cred_course.specs.LaneCursors.{AreOver, IsLeast}
use Rattle.cred_book.specs.Book.{Recorded}
use Rattle.cred_book.specs.Cursor.{IsLeastLane, NoLineIsLeft}
use Rattle.cred_book.proofs.Cursors.{least_by}
use Rattle.cred_book.proofs.Places.{all_home}
use Rattle.cred_book.proofs.book.Book.least.Goals as goal

pub returns-clause-least : goal.returns-clause-least
returns-clause-least c =
    let book : Recorded = c.args.self.now in
    let found : MatchOption c.least.result (AreOver book.cursors) (IsLeast book.cursors)
    = subst (λ (b : Recorded). MatchOption c.least.result (AreOver b.cursors) (IsLeast b.cursors)) c.self.view_is c.least.ensures in
    least_by book c.least.result c.requires found

pub returns-clause-home : goal.returns-clause-home
returns-clause-home c none =
    let book : Recorded = c.args.self.now in
    let found : MatchOption c.least.result (AreOver book.cursors) (IsLeast book.cursors)
    = subst (λ (b : Recorded). MatchOption c.least.result (AreOver b.cursors) (IsLeast b.cursors)) c.self.view_is c.least.ensures in
    all_home book c.requires (subst (λ o. MatchOption o (NoLineIsLeft book) (IsLeastLane book)) none (least_by book c.least.result c.requires found))
