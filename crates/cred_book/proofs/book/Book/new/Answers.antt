use Rattle.std.proofs.Common.{[], ◌++◌, sym, subst, arith}
use Rattle.cred_model.specs.State.{opening}
use Rattle.cred_model.specs.Journal.{replay}
use Rattle.cred_model.proofs.Likes.{like_self}
use Rattle.cred_tables.specs.Out.{AreOut}
use Rattle.cred_tables.proofs.TokensOfLabels.{has_out}
use Rattle.cred_book.specs.Book.{Recorded}
use Rattle.cred_book.proofs.Cursors.{no_work, nothing_run}
use Rattle.cred_book.proofs.book.Book.new.Goals as goal

pub invariant_of-book : goal.invariant_of-book
invariant_of-book c = (
  rw (c.in-Ok.ensures.state, c.in-Ok.ensures.earlier, c.in-Ok.ensures.kept) (like_self (opening c.args.script), λ k lt. absurd (omega arith)),
  subst (AreOut (replay c.args.script (c.in-Ok.begun.earlier ++ c.in-Ok.begun.kept.items))) (sym c.in-Ok.ensures.lent)
      (has_out (replay c.args.script (c.in-Ok.begun.earlier ++ c.in-Ok.begun.kept.items)) [] (λ e has. absurd has)),
)

pub returns-clause-home : goal.returns-clause-home
returns-clause-home c =
    let begun = c.in-Ok.begun in
    let book : Recorded = record {
      script = c.args.script;
      journal = begun.earlier ++ begun.kept.items;
      earlier = begun.earlier;
      cursors = begun.cursors;
      ended = begun.ended.items;
      outs = begun.outs.items;
      words = begun.state.words;
      places = begun.state.places;
    } in
    (c.in-Ok.ensures.lent, λ lane. no_work book _ lane c.in-Ok.ensures.outs)

pub returns-clause-stands : goal.returns-clause-stands
returns-clause-stands c =
    let begun = c.in-Ok.begun in
    let book : Recorded = record {
      script = c.args.script;
      journal = begun.earlier ++ begun.kept.items;
      earlier = begun.earlier;
      cursors = begun.cursors;
      ended = begun.ended.items;
      outs = begun.outs.items;
      words = begun.state.words;
      places = begun.state.places;
    } in
    nothing_run book (record {
      journal = rw c.in-Ok.ensures.earlier c.in-Ok.ensures.kept;
      cursors = c.in-Ok.ensures.cursors;
      ended = c.in-Ok.ensures.ended;
      places = c.in-Ok.ensures.places;
      few = c.in-Ok.ensures.few;
      last = c.in-Ok.ensures.lanes;
      setup = c.in-Ok.ensures.setup;
      fixed = c.in-Ok.ensures.fixed;
      named = c.in-Ok.ensures.named;
      outs = c.in-Ok.ensures.outs;
      lent = c.in-Ok.ensures.lent;
    })
