use Rattle.std.proofs.Common.{◌++◌, ◌≡◌, ℕ, ◌+◌, Bool, false, List, set, get_or, Option, sym, ap, ◌∙◌, arith}
use Rattle.std.proofs.lemmas.List.{set-get_or}
use Rattle.cred_model.specs.Course.{Course}
use Rattle.cred_book.specs.Book.{Recorded}
use Rattle.cred_book.specs.Counts.{count_of}
use Rattle.cred_book.specs.Cursor.{has_left, moved_on}
use Rattle.cred_book.proofs.book.Book.move_on.Goals as goal

-- a number that nothing is added to stays
number_stays : (ended : List ℕ) (lane : ℕ) (test : Bool) → test ≡ false → set ended lane (get_or ended lane 0 + count_of test) ≡ ended
number_stays ended lane test not =
    let none : get_or ended lane 0 + count_of false ≡ get_or ended lane 0 = omega arith in
    ap (λ t. set ended lane (get_or ended lane 0 + count_of t)) not ∙ ap (set ended lane) none ∙ set-get_or ended lane 0

pub returns-else-has_ended : goal.returns-else-has_ended
returns-else-has_ended c =
    let b = c.self.inside in
    let not : has_left c.args.cursor c.args.line ≡ false = sym c.has_left-has_ended.ensures ∙ c.if-has_ended.false in
    let seen : List (Option Course) → List ℕ → Recorded
    = λ cursors ended.
    record {
      script = b.script;
      journal = b.earlier ++ b.kept.items;
      earlier = b.earlier;
      cursors = cursors;
      ended = ended;
      outs = b.outs.items;
      words = b.state.words;
      places = b.state.places;
    } in
    ap (λ cursors. seen cursors b.ended.items) c.move_on.ensures
    ∙ ap (seen (set b.cursors c.args.lane c.args.cursor)) (sym (number_stays b.ended.items c.args.lane (has_left c.args.cursor c.args.line) not))
    ∙ ap (λ (r : Recorded). moved_on r c.args.lane c.args.line c.args.cursor) c.self.view_is
