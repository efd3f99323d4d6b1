use Rattle.std.proofs.Common.{◌≡◌, ℕ, None}
use Rattle.cred_book.specs.Book.{out_of}
use Rattle.cred_book.specs.Cursor.{BookStands, steps_left}
use Rattle.cred_walks.proofs.tests.books.run_whole.Given as goal

abbrev pub invariant-steps : goal.invariant-steps
invariant-steps l = record {
  cells : l.book.words.id ≡ l.initial.book.words.id;
  stands : BookStands l.book;
  home : (lane : ℕ) → out_of l.book lane ≡ None;
}

abbrev pub decreases-steps : goal.decreases-steps
decreases-steps l = steps_left l.book
