use Rattle.std.proofs.Common.{◌≡◌}
use Rattle.cred_book.specs.Cursor.{BookStands, steps_left}
use Rattle.cred_kernel.proofs.Setup.{IsHome}
use Rattle.cred_kernel.proofs.parts.run_setup.Given as goal

abbrev pub invariant-setup : goal.invariant-setup
invariant-setup l = record {
  script : l.book.script ≡ l.initial.book.script;
  earlier : l.book.earlier ≡ l.initial.book.earlier;
  cells : l.book.words.id ≡ l.initial.book.words.id;
  stands : BookStands l.book;
  home : IsHome l.book;
}

abbrev pub decreases-setup : goal.decreases-setup
decreases-setup l = steps_left l.book
