-- A book's cursors, and the steps that move them on.
use Rattle.std.specs.Prelude.{◌≡◌, ◌≤◌, ◌==◌, ℕ, ◌+◌, ◌*◌, [], ◌∷◌, ◌++◌, length, set, Some, None}
use Rattle.std.specs.Prelude.{Bool, true, false, not, slice_index_or, IfSome}
use Rattle.std.specs.declared.option.Option.{Option}
use Rattle.std.specs.List.{sum_by}
use Rattle.std.specs.Option.{option_map_or}
use Rattle.cred_ids.specs.Limits.{LINE_LIMIT, LAST_LANE}
use Rattle.cred_event.specs.declared.entry.Entry.{Entry}
use Rattle.cred_model.specs.Course.{Course}
use Rattle.cred_model.specs.FileChanges.{FixesFiles}
use Rattle.cred_model.specs.Script.{SetupFirst}
use Rattle.cred_model.specs.Journal.{SoFar, lane_of, next, next_in_order, replay}
use Rattle.cred_script.specs.Lanes.{lanes}
use Rattle.cred_course.specs.Cursor.{left_at}
use Rattle.cred_course.specs.LaneCursors.{AreCursors}
use Rattle.cred_course.specs.Waiting.{waiting}
use Rattle.cred_tables.specs.Out.{AreSameTokens, needs_tokens}
use Rattle.cred_work.specs.Decisions.{work_event}
use Rattle.cred_work.specs.Work.{Work}
use Rattle.cred_work.specs.DecidedWorks.{IsUndecided}
use Rattle.cred_book.specs.Book.{Recorded, out_of}
use Rattle.cred_book.specs.Counts.{AreEnded, count_of}
use Rattle.cred_book.specs.Works.{AreNamedApart, IsBack, IsOfLane, IsOutOf, tokens_out}
use Rattle.cred_book.specs.Works.{with_work}
use Rattle.cred_book.specs.declared.step.Step.{Step}
use Rattle.cred_book.specs.declared.step.Step.TheVariants.{More, Ended}
use Rattle.cred_book.specs.declared.step.Step.TheVariants as step

-- how many steps may be left, at most: those of each lane's lines, and those of the tasks that wait
abbrev pub steps_left : Recorded → ℕ
steps_left book =
    sum_by (left_at book.script) book.cursors + waiting (replay book.script book.journal)

-- how many entries a journal has, at most: 152 for each line, for all lanes and the setup, as all
-- lines may be of any of them
abbrev pub MOST_STEPS : ℕ
MOST_STEPS = 152 * LINE_LIMIT * (LAST_LANE + 1)

-- Each entry is the next one of its line's lane after the entries before it, and each lane's cursor
-- and its count of ended lines are the journal's. The script has no more lines than one may have,
-- and the journal no more entries. The setup's lines come first, those that change a file are among
-- them, and no label stands in the lines of two lanes. Each work that is out is that of its lane's
-- next event, and what is lent is just the tokens of these works.
pub record BookStands (book : Recorded) : Type 0 where
  pub so_far : SoFar book.script book.journal
  pub cursors : AreCursors book.script book.journal book.cursors
  pub ended : AreEnded book.script book.journal book.ended
  pub places : length book.ended ≡ lanes book.script.lines + 1
  pub few : length book.script.lines ≤ LINE_LIMIT
  pub most : length book.journal + steps_left book ≤ MOST_STEPS
  pub setup : SetupFirst book.script
  pub fixed : FixesFiles book.script
  pub named : AreNamedApart book.script.lines
  pub outs : length book.outs ≡ lanes book.script.lines + 1
  pub works : (lane : ℕ) → IfSome (out_of book lane) (IsOutOf book lane)
  pub lent : AreSameTokens book.words.out (tokens_out book)

-- The lane's cursor doesn't stand on the line of this number any more, so the line has ended.
abbrev pub has_left : Option Course → ℕ → Bool
has_left cursor line = option_map_or (λ course. not (course.line == line)) cursor true

-- The book in which the lane has moved on from this line to this cursor. A line that it has left
-- is counted.
abbrev pub moved_on : Recorded → ℕ → ℕ → Option Course → Recorded
moved_on book lane line cursor = record book {
  cursors = set book.cursors lane cursor;
  ended = set book.ended lane
      (slice_index_or book.ended lane 0 + count_of (has_left cursor line));
}

-- What a step of the lane makes, where this is its next entry. One whose event waits for a decision
-- isn't entered: its work goes out, which isn't decided yet. Where there is none the book is as it
-- was.
abbrev pub Makes : Recorded → Recorded → ℕ → Option Entry → Step → Type 0
Makes before after lane (Some entry) More =
    (needs_tokens (replay before.script before.journal) entry.event ≡ false)
    × (after.journal ≡ before.journal ++ entry ∷ [])
    × (after.outs ≡ before.outs)
    × (after.words ≡ before.words)
Makes before after lane (Some entry) (step.Work work) =
    (needs_tokens (replay before.script before.journal) entry.event ≡ true)
    × (work.line ≡ entry.line)
    × (work_event work.lent ≡ entry.event)
    × IsUndecided work
    × IsOfLane after lane work
    × (after ≡ with_work before lane work)
Makes before after lane None Ended = after ≡ before
Makes before after lane next step = ⊥

-- The lane's next entry is of the work's event, with its answer. It was entered, and the work's
-- tokens have come back.
abbrev pub Finishes : Recorded → Recorded → ℕ → Work → Option Entry → Type 0
Finishes before after lane work (Some entry) =
    (entry.line ≡ work.line)
    × (entry.event ≡ work_event work.lent)
    × (after.journal ≡ before.journal ++ entry ∷ [])
    × IsBack before after lane work
Finishes before after lane work None = ⊥

-- no line is left
abbrev pub NoLineIsLeft : Recorded → Type 0
NoLineIsLeft book = next_in_order book.script book.journal ≡ None

-- The lane is that of the least line that has not ended. So the next entry where all lines run in
-- order is the lane's next one.
pub record IsLeastLane (book : Recorded) (lane : ℕ) : Type 0 where
  pub entry : Entry
  pub first : next_in_order book.script book.journal ≡ Some entry
  pub of : lane_of book.script entry.line ≡ Some lane
  pub next : next book.script book.journal lane ≡ Some entry
