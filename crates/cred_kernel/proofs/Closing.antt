-- All passes have come back from turns that have ended.
use Rattle.std.proofs.Common.{◌≡◌, ℕ, ◌+◌, ◌-◌, ◌<◌, List, length, sym, ap, ◌∙◌, subst, arith}
use Rattle.cred_record.specs.File.{File}
use Rattle.cred_model.specs.Script.{Script}
use Rattle.cred_model.specs.Journal.{IsLegal}
use Rattle.cred_script.specs.Lanes.{lanes}
use Rattle.cred_turn.specs.declared.numbers.LaneNumbers.{LaneNumbers}
use Rattle.cred_turn.specs.declared.view.LaneRow.{LaneRow}
use Rattle.cred_turn.specs.Rows.{HasRow}
use Rattle.cred_turn.specs.Seen.{Rolled}
use Rattle.atomic_table.specs.Seated.{TableId}
use Rattle.cred_book.specs.Book.{Recorded}
use Rattle.cred_book.specs.Counts.{ended_of, entered_of, lines_in}
use Rattle.cred_kernel.specs.Locks.{AreTheirs, IsLocked, numbers_in}
use Rattle.cred_kernel.specs.Turns.{AreAllTurns, AreCounted, HaveEnded, turn_at, SeenTurn}
use Rattle.cred_kernel.proofs.Ends.{is_legal}

-- A turn has the numbers of its lane in the journal.
their_numbers : (script : Script) (id cells : TableId) (inodes : List File) (book : Recorded) (roll : Rolled) (turns : List SeenTurn)
    → IsLocked script id cells inodes book roll → AreTheirs roll.rows turns
    → AreAllTurns script turns → (k : ℕ) → k < length turns → numbers_in book (k + 1) ≡ (turn_at turns k).numbers
their_numbers script id cells inodes book roll turns kept theirs all k lt =
    let same : lanes book.script.lines ≡ lanes script.lines = ap (λ (s : Script). lanes s.lines) kept.script_is in
    let here : HasRow roll.rows (k + 1) = (omega arith, omega (arith, kept.lent.count, same, all.count, lt)) in
    ap (λ (r : LaneRow). r.numbers) (sym (kept.lent.each (k + 1) here) ∙ theirs k lt)

lane_over : (script : Script) (id cells : TableId) (inodes : List File) (book : Recorded) (roll : Rolled) (turns : List SeenTurn)
    → IsLocked script id cells inodes book roll → AreTheirs roll.rows turns
    → AreAllTurns script turns → HaveEnded script turns → (lane k : ℕ) → lane ≡ k + 1 → k < length turns
    → ended_of book.script book.journal lane ≡ lines_in book.script lane
lane_over script id cells inodes book roll turns kept theirs all ended lane k is lt =
    let at : (turn_at turns k).lane ≡ lane = all.in_order k lt ∙ sym is in
    ap (ended_of book.script book.journal) is
    ∙ ap (λ (n : LaneNumbers). n.ended) (their_numbers script id cells inodes book roll turns kept theirs all k lt)
    ∙ (ended k lt).0
    ∙ ap (lines_in script) at
    ∙ ap (λ (s : Script). lines_in s lane) (sym kept.script_is)

pub close_is_legal : (script : Script) (id cells : TableId) (inodes : List File) (book : Recorded) (roll : Rolled) (turns : List SeenTurn)
    → IsLocked script id cells inodes book roll → AreTheirs roll.rows turns
    → AreAllTurns script turns → HaveEnded script turns → IsLegal script book.journal
close_is_legal script id cells inodes book roll turns kept theirs all ended =
    let same : lanes book.script.lines ≡ lanes script.lines = ap (λ (s : Script). lanes s.lines) kept.script_is in
    subst (λ (s : Script). IsLegal s book.journal) kept.script_is
    (is_legal book.script book.journal kept.stands.so_far kept.set_up (λ lane some few.
    lane_over script id cells inodes book roll turns kept theirs all ended lane (lane - 1) (omega (arith, some)) (omega (arith, some, few, same, all.count))))

pub close_counts : (script : Script) (id cells : TableId) (inodes : List File) (book : Recorded) (roll : Rolled) (turns : List SeenTurn)
    → IsLocked script id cells inodes book roll → AreTheirs roll.rows turns
    → AreAllTurns script turns → AreCounted script book.journal turns
close_counts script id cells inodes book roll turns kept theirs all k lt =
    ap (λ (s : Script). entered_of s book.journal (k + 1)) (sym kept.script_is)
    ∙ ap (λ (n : LaneNumbers). n.entered) (their_numbers script id cells inodes book roll turns kept theirs all k lt)
