-- What a pass that comes back says of its lane.
use Rattle.std.proofs.Common.{◌≡◌, ℕ, ◌+◌, ◌≤◌, ◌&&◌, List, [], ◌∷◌, length, fold, Bool, true, false, Option, Some, sym, ap, ◌∙◌, subst, arith}
use Rattle.atomic_table.specs.Seated.{TableId}
use Rattle.cred_event.specs.declared.entry.Entry.{Entry}
use Rattle.cred_model.specs.Script.{Script}
use Rattle.cred_tables.specs.Out.{needs_tokens}
use Rattle.cred_turn.specs.declared.numbers.LaneNumbers.{LaneNumbers}
use Rattle.cred_turn.specs.declared.view.LaneRow.{LaneRow}
use Rattle.cred_turn.specs.Rows.{lent_row, HasRow, row_of}
use Rattle.cred_turn.specs.Seen.{Passed, pass}
use Rattle.cred_book.specs.Book.{Recorded}
use Rattle.cred_book.specs.Counts.{Tally, count_of, decided_of, first_tally, is_of_lane, tallied}
use Rattle.cred_book.proofs.Ends.{entered_within}
use Rattle.cred_kernel.specs.Locks.{AreLent, numbers_in}

-- a pass that comes back has its lane's numbers in the book
pub its_numbers : (book : Recorded) (rows : List LaneRow) (roll : TableId) (lane : ℕ) (numbers : LaneNumbers) (back : Passed) → AreLent book rows
    → back ≡ pass roll lane numbers → HasRow rows back.lane → row_of rows back.lane ≡ lent_row back.numbers
    → numbers ≡ numbers_in book lane
its_numbers book rows roll lane numbers back lent is here was =
    subst (λ (p : Passed). p.numbers ≡ numbers_in book p.lane) is
    (ap (λ (r : LaneRow). r.numbers) (sym was ∙ lent.each back.lane here))

-- a pass that is known in two ways
pub is_back : (held : Option Passed) (back other : Passed) → held ≡ Some back → held ≡ Some other → back ≡ other
is_back held back other is also = let same : Some back ≡ Some other = sym is ∙ also in cc

at_most_one : (yes : Bool) → count_of yes ≤ 1
at_most_one true = omega arith
at_most_one false = omega arith

tallied_within : (script : Script) (lane : ℕ) (journal : List Entry) (tally : Tally)
    → (fold (tallied script lane) tally journal).decided ≤ tally.decided + length journal
tallied_within script lane [] tally = omega arith
tallied_within script lane (entry ∷ entries) tally =
    let rest = tallied_within script lane entries (tallied script lane tally entry) in
    let one = at_most_one (is_of_lane script lane entry && needs_tokens tally.state entry.event) in
    omega (arith, rest, one)

decided_within : (script : Script) (journal : List Entry) (lane : ℕ) → decided_of script journal lane ≤ length journal
decided_within script journal lane = let within = tallied_within script lane journal (first_tally script) in omega (arith, within)

-- The lane has no more entries than the journal.
pub entered_few : (book : Recorded) (lane : ℕ) (numbers : LaneNumbers) → numbers ≡ numbers_in book lane → numbers.entered ≤ length book.journal
entered_few book lane numbers is =
    let few = entered_within book.script book.journal lane in omega (arith, few, ap (λ (n : LaneNumbers). n.entered) is)

pub decided_few : (book : Recorded) (lane : ℕ) (numbers : LaneNumbers) → numbers ≡ numbers_in book lane → numbers.decided ≤ length book.journal
decided_few book lane numbers is =
    let few = decided_within book.script book.journal lane in omega (arith, few, ap (λ (n : LaneNumbers). n.decided) is)
