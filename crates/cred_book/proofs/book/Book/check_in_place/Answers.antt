use Rattle.cred_book.proofs.Places.{in_place_like}
use Rattle.cred_book.proofs.book.Book.check_in_place.Goals as goal

pub returns : goal.returns
returns c = rw (← c.self.view_is) (in_place_like _ _ _ c.self.invariant.0.0 c.check_in_place.ensures)
