-- Journals, and which journals a script has.
use Rattle.std.specs.Prelude.{◌≡◌, ℕ, ◌+◌, ◌-◌, ◌<◌, ◌==◌, Bool, true, not, ◌&&◌, List, [], ◌∷◌}
use Rattle.std.specs.Prelude.{length, take, fold, slice_get, Some, None, IfSome, is_some}
use Rattle.std.specs.Prelude.{if◌then◌else◌}
use Rattle.std.specs.declared.option.Option.{Option}
use Rattle.std.specs.List.{filter_map}
use Rattle.std.specs.Option.{option_map, option_map_or}
use Rattle.cred_event.specs.declared.event.Event.{Event}
use Rattle.cred_event.specs.declared.answer.Answer.{Answer}
use Rattle.cred_event.specs.declared.entry.Entry.{Entry}
use Rattle.cred_event.specs.declared.content.Content.{Content}
use Rattle.cred_model.specs.Script.{Script, Line}
use Rattle.cred_model.specs.State.{State, opening}
use Rattle.cred_model.specs.Step.{step}
use Rattle.cred_model.specs.Course.{event_at, leads}

-- the state after a journal
abbrev pub replay : Script → List Entry → State
replay script journal =
    fold (λ state entry. (step script state entry.line entry.event).1) (opening script) journal

-- Each entry has the answer that its event gets in the state after the entries before it.
abbrev pub IsAnswered : Script → List Entry → Type 0
IsAnswered script journal =
    (k : ℕ) → k < length journal
    → IfSome (slice_get journal k) (λ entry.
    let before = replay script (take k journal) in
    entry.answer ≡ (step script before entry.line entry.event).0)

-- the answers that a line had
abbrev pub answers_of : List Entry → ℕ → List Answer
answers_of journal line =
    filter_map (λ entry. if entry.line == line then Some entry.answer else None) journal

-- the next event of a line after a journal, or none where the line has ended
abbrev pub next_event : List Entry → ℕ → Content → Option Event
next_event journal line content = event_at content (leads line content (answers_of journal line))

-- an event that a line is to make next
pub record Due : Type 0 where
  pub line : ℕ
  pub event : Event

-- the next event of the first line, from this number on, that is one of these and has not ended
abbrev pub first_due : (Line → Bool) → List Entry → ℕ → List Line → Option Due
first_due these journal number [] = None
first_due these journal number (line ∷ lines) =
    if these line
    then
    option_map_or (λ event. Some (record { line = number; event = event }))
    (next_event journal number line.content) (first_due these journal (number + 1) lines)
    else first_due these journal (number + 1) lines

-- the entry that the event makes after a journal
abbrev pub entry_of : Script → List Entry → Due → Entry
entry_of script journal due = record {
  line = due.line;
  event = due.event;
  answer = (step script (replay script journal) due.line due.event).0;
}

-- the next event of a lane, whose lines come whole, one after another
abbrev pub due_in : Script → List Entry → ℕ → Option Due
due_in script journal lane = first_due (λ line. line.lane == lane) journal 1 script.lines

-- The next entry of a lane. All other lanes wait for the setup.
abbrev pub next : Script → List Entry → ℕ → Option Entry
next script journal lane =
    if not (lane == 0) && is_some (due_in script journal 0) then None
    else option_map (entry_of script journal) (due_in script journal lane)

-- the lane of the line of this number
abbrev pub lane_of : Script → ℕ → Option ℕ
lane_of script number =
    if number == 0 then None
    else option_map (λ line. line.lane) (slice_get script.lines (number - 1))

-- Each entry is of a line of the script, and is the next one of that line's lane after the entries
-- before it.
abbrev pub SoFar : Script → List Entry → Type 0
SoFar script journal =
    (k : ℕ) → k < length journal
    → IfSome (slice_get journal k) (λ entry.
    (lane : ℕ)
    × (lane_of script entry.line ≡ Some lane)
    × (next script (take k journal) lane ≡ Some entry))

-- A journal is legal for a script if it is one so far, and no lane has a next entry.
pub record IsLegal (script : Script) (journal : List Entry) : Type 0 where
  pub so_far : SoFar script journal
  pub ended : (lane : ℕ) → next script journal lane ≡ None

-- the next entry where all lines run whole, in the script's order: that of the least line that has
-- not ended
abbrev pub next_in_order : Script → List Entry → Option Entry
next_in_order script journal =
    option_map (entry_of script journal) (first_due (λ line. true) journal 1 script.lines)

-- Each entry is the next one in order.
abbrev pub IsInOrder : Script → List Entry → Type 0
IsInOrder script journal =
    (k : ℕ) → k < length journal
    → next_in_order script (take k journal) ≡ slice_get journal k

-- The journal in which all lines run whole, in the script's order.
pub record IsSequence (script : Script) (journal : List Entry) : Type 0 where
  pub in_order : IsInOrder script journal
  pub ended : next_in_order script journal ≡ None
