use Rattle.std.proofs.Common.{ap, ◌∙◌}
use Rattle.std.specs.List.{list_all}
use Rattle.std.proofs.Common.{is_none}
use Rattle.cred_book.specs.Book.{Recorded}
use Rattle.cred_book.proofs.Rest.{over_is_legal}
use Rattle.cred_book.proofs.book.Book.has_ended.Goals as goal

pub returns : goal.returns
returns c over =
    over_is_legal c.args.self.now c.requires c.has_ended.result (c.has_ended.ensures ∙ ap (λ (b : Recorded). list_all is_none b.cursors) c.self.view_is) over
