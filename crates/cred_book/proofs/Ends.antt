-- What the numbers of a lane are at most, and where no line of it is left.
use Rattle.std.proofs.Common.{◌≡◌, ℕ, ◌+◌, ◌<◌, ◌≤◌, ◌==◌, ◌&&◌, cond, Bool, true, false, List, [], ◌∷◌, length, Option, Some, None, is_none, refl, ap, ◌∙◌}
use Rattle.std.proofs.Common.{arith}
use Rattle.std.specs.List.{sum_by}
use Rattle.std.specs.Option.{option_map_or}
use Rattle.std.proofs.lemmas.Bool.Decides.{nat_tests}
use Rattle.std.proofs.lemmas.List.Sums.{sum_by-cons}
use Rattle.cred_event.specs.declared.event.Event.{Event}
use Rattle.cred_event.specs.declared.entry.Entry.{Entry}
use Rattle.cred_model.specs.Script.{Script, Line}
use Rattle.cred_model.specs.Journal.{Due, due_in, first_due, next_event}
use Rattle.cred_script.specs.Lanes.{lanes}
use Rattle.cred_book.specs.Counts.{count_of, ended_from, ended_of, entered_of, is_of_lane, lines_in}

at_most_one : (yes : Bool) → count_of yes ≤ 1
at_most_one true = omega arith
at_most_one false = omega arith

at_most_first : (first second : Bool) → count_of (first && second) ≤ count_of first
at_most_first true second = at_most_one second
at_most_first false second = omega arith

at_most_length : {A : Type 0} (f : A → ℕ) → ((x : A) → f x ≤ 1) → (xs : List A) → sum_by f xs ≤ length xs
at_most_length f few [] = omega arith
at_most_length f few (x ∷ xs) = let rest = at_most_length f few xs in omega (arith, sum_by-cons f x xs, few x, rest)

-- A lane has no more entries than the journal.
pub entered_within : (script : Script) (journal : List Entry) (lane : ℕ) → entered_of script journal lane ≤ length journal
entered_within script journal lane =
    at_most_length (λ entry. count_of (is_of_lane script lane entry)) (λ entry. at_most_one (is_of_lane script lane entry)) journal

-- how many of these lines are the lane's
abbrev lines_of : ℕ → List Line → ℕ
lines_of lane lines = sum_by (λ line. count_of (line.lane == lane)) lines

within : (journal : List Entry) (lane number : ℕ) (lines : List Line) → ended_from journal lane number lines ≤ lines_of lane lines
within journal lane number [] = omega arith
within journal lane number (line ∷ lines) =
    let here = at_most_first (line.lane == lane) (is_none (next_event journal number line.content)) in
    let rest = within journal lane (number + 1) lines in
    omega (arith, sum_by-cons (λ (l : Line). count_of (l.lane == lane)) line lines, here, rest)

-- No more lines of a lane have ended than there are.
pub ended_within : (script : Script) (journal : List Entry) (lane : ℕ) → ended_of script journal lane ≤ lines_in script lane
ended_within script journal lane = within journal lane 1 script.lines

-- a line, and the lines after it: if all that are the lane's have ended, none of them is due
none_from : (own : Bool) (event : Option Event) (number : ℕ) (later : Option Due) (ended lines : ℕ) → ended ≤ lines
    → count_of (own && is_none event) + ended ≡ count_of own + lines → (ended ≡ lines → later ≡ None)
    → cond own (option_map_or (λ event. Some (record { line = number; event = event })) event later) later ≡ None
none_from true None number later ended lines most same none = none (omega (arith, same))
none_from true (Some event) number later ended lines most same none = absurd (omega (arith, most, same))
none_from false event number later ended lines most same none = none (omega (arith, same))

none_left : (journal : List Entry) (lane number : ℕ) (lines : List Line) → ended_from journal lane number lines ≡ lines_of lane lines
    → first_due (λ line. line.lane == lane) journal number lines ≡ None
none_left journal lane number [] same = refl
none_left journal lane number (line ∷ lines) same =
    none_from (line.lane == lane) (next_event journal number line.content) number (first_due (λ line. line.lane == lane) journal (number + 1) lines)
    (ended_from journal lane (number + 1) lines) (lines_of lane lines) (within journal lane (number + 1) lines)
    (same ∙ sum_by-cons (λ (l : Line). count_of (l.lane == lane)) line lines) (none_left journal lane (number + 1) lines)

-- A lane whose lines have all ended makes no event.
pub due_none : (script : Script) (journal : List Entry) (lane : ℕ) → ended_of script journal lane ≡ lines_in script lane → due_in script journal lane ≡ None
due_none script journal lane same = none_left journal lane 1 script.lines same

none_past : (lane : ℕ) (lines : List Line) → lanes lines < lane → lines_of lane lines ≡ 0
none_past lane [] past = refl
none_past lane (line ∷ lines) past =
    let other : (line.lane == lane) ≡ false = grind (arith, nat_tests, past) in
    let none : count_of (line.lane == lane) ≡ 0 = ap count_of other in
    let rest = none_past lane lines (omega (arith, past)) in
    omega (arith, sum_by-cons (λ (l : Line). count_of (l.lane == lane)) line lines, none, rest)

-- There are no lines of a lane past the greatest.
pub lines_past : (script : Script) (lane : ℕ) → lanes script.lines < lane → lines_in script lane ≡ 0
lines_past script lane past = none_past lane script.lines past
