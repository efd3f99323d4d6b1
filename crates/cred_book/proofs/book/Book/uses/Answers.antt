use Rattle.std.proofs.Common.{◌∙◌}
use Rattle.cred_book.proofs.Entered.{uses_like}
use Rattle.cred_book.proofs.book.Book.uses.Goals as goal

pub returns : goal.returns
returns c = rw (← c.self.view_is) (c.uses.ensures ∙ uses_like _ _ c.args.slot c.self.invariant.0.0)
