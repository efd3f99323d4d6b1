-- How many entries a journal may have, and how many credentials it seals.
use Rattle.std.proofs.Common.{◌≡◌, ◌≢◌, ℕ, zero, suc, ◌+◌, ◌*◌, ◌-◌, ◌<◌, ◌≤◌, ◌==◌, ◌&&◌, not, Bool, true, false, cond, is_some, List, [], ◌∷◌, ◌++◌, length}
use Rattle.std.proofs.Common.{take, fold, slice_get, Option, Some, None, refl, sym, ap, ◌∙◌, subst, arith}
use Rattle.std.specs.Option.{IfSome, option_map, option_map_or, option_and_then}
use Rattle.std.proofs.lemmas.Bool.Decides.{nat_tests}
use Rattle.std.proofs.lemmas.List.{length_push, take_more}
use Rattle.std.proofs.lemmas.List.Sums.{fold_push}
use Rattle.std.proofs.lemmas.Option.{get_or_from_slice_get}
use Rattle.cred_event.specs.declared.content.Content.{Content}
use Rattle.cred_event.specs.declared.content.Content.TheVariants.{One, Id}
use Rattle.cred_event.specs.declared.content.Stage.{Stage}
use Rattle.cred_event.specs.declared.content.Stage.TheVariants.{First}
use Rattle.cred_event.specs.declared.answer.Answer.{Answer}
use Rattle.cred_event.specs.declared.entry.Entry.{Entry}
use Rattle.cred_event.specs.declared.event.Event.{Event}
use Rattle.cred_model.specs.Script.{Script, Line}
use Rattle.cred_model.specs.State.{State, SealedCred}
use Rattle.cred_model.specs.Course as model
use Rattle.cred_model.specs.Course.{Course, start, event_at, after, leads, makes_events}
use Rattle.cred_model.specs.Step.{step}
use Rattle.cred_model.specs.Journal.{Due, replay, answers_of, next_event, first_due, entry_of, due_in, next, lane_of, SoFar}
use Rattle.cred_model.proofs.Courses.{after_line}
use Rattle.cred_model.proofs.Lines.{answers_of-push_same, answers_of-push_other}
use Rattle.cred_model.proofs.Lists.{slice_get_at}
use Rattle.cred_script.specs.Lines.{line_at}
use Rattle.cred_laws.specs.States.{state_at}
use Rattle.cred_laws.proofs.States.{step_at}
use Rattle.cred_sound.proofs.Parts.{CredsChange, SameCreds, Seals, sealed_cred}
use Rattle.cred_sound.proofs.Events.{changes}
use Rattle.cred_course.specs.Cursor.{left_at, new_waiters, new_waiters_at}
use Rattle.cred_course.specs.Waiting.{waiting}
use Rattle.cred_course.proofs.Measure.{step_falls}
use Rattle.cred_fits.specs.Fitting.{JournalsAreShort}

-- ---- the line of an entry

-- of the lines from this number on, the one that makes what is due
record IsDue (journal : List Entry) (first : ℕ) (lines : List Line) (due : Due) : Type 0 where
  place : ℕ
  line : Line
  here : slice_get lines place ≡ Some line
  number : due.line ≡ first + place
  event : next_event journal due.line line.content ≡ Some due.event

later : (journal : List Entry) (first : ℕ) (line : Line) (lines : List Line) (due : Due) → IsDue journal (first + 1) lines due
    → IsDue journal first (line ∷ lines) due
later journal first line lines due found =
    let number = found.number in
    record {
      place = suc found.place;
      line = found.line;
      here = found.here;
      number = omega (arith, number);
      event = found.event;
    }

due_found : (these : Line → Bool) (journal : List Entry) (first : ℕ) (lines : List Line) (due : Due) → first_due these journal first lines ≡ Some due
    → IsDue journal first lines due
due_found these journal first [] due is = absurd (cc)
due_found these journal first (line ∷ lines) due is =
    by (these line) (next_event journal first line.content) refl is (λ behind. due_found these journal (first + 1) lines due behind)
  where
    by : (b : Bool) (o : Option Event) → next_event journal first line.content ≡ o
        → cond b (option_map_or (λ event. Some (record { line = first; event = event })) o (first_due these journal (first + 1) lines))
        (first_due these journal (first + 1) lines)
        ≡ Some due
        → (first_due these journal (first + 1) lines ≡ Some due → IsDue journal (first + 1) lines due) → IsDue journal first (line ∷ lines) due
    by true None at is more = later journal first line lines due (more is)
    by true (Some event) at is more =
        let same : record { line = first; event = event } ≡ due = cc in
        subst (IsDue journal first (line ∷ lines)) same
        (record { place = zero; line = line; here = refl; number = omega arith; event = at })
    by false o at is more = later journal first line lines due (more is)

-- the entry is made by a line
record IsMade (script : Script) (journal : List Entry) (entry : Entry) : Type 0 where
  due : Due
  found : IsDue journal 1 script.lines due
  is : entry_of script journal due ≡ entry

entry_made : (script : Script) (journal : List Entry) (lane : ℕ) (entry : Entry) → next script journal lane ≡ Some entry → IsMade script journal entry
entry_made script journal lane entry is = by (not (lane == 0) && is_some (due_in script journal 0)) (due_in script journal lane) refl is
  where
    by : (b : Bool) (o : Option Due) → due_in script journal lane ≡ o → cond b None (option_map (entry_of script journal) o) ≡ Some entry
        → IsMade script journal entry
    by true o at is = absurd (cc)
    by false None at is = absurd (cc)
    by false (Some due) at is =
        record { due = due; found = due_found _ journal 1 script.lines due at; is = (let same : entry_of script journal due ≡ entry = cc in same) }

-- ---- what the lines leave to do

-- how many entries a line may still have, beside the steps of those that wait
abbrev weight : Script → List Entry → ℕ → Line → ℕ
weight script journal number line =
    let course = leads number line.content (answers_of journal number) in model.left course + new_waiters_at script course

-- the same of the lines from this number on
abbrev left_of : Script → List Entry → ℕ → List Line → ℕ
left_of script journal number [] = 0
left_of script journal number (line ∷ lines) = weight script journal number line + left_of script journal (number + 1) lines

module _ (script : Script) (journal : List Entry) (entry : Entry) where
  abbrev grown : List Entry
  grown = journal ++ entry ∷ []

  other_weight : (number : ℕ) (line : Line) → entry.line ≢ number → weight script grown number line ≡ weight script journal number line
  other_weight number line differ =
      ap (λ answers. let course = leads number line.content answers in model.left course + new_waiters_at script course)
      (answers_of-push_other journal entry number differ)

  later_left : (number : ℕ) (lines : List Line) → entry.line < number → left_of script grown number lines ≡ left_of script journal number lines
  later_left number [] lt = refl
  later_left number (line ∷ lines) lt =
      let here = other_weight number line (λ same. omega (arith, same, lt)) in
      let rest = later_left (number + 1) lines (omega (arith, lt)) in
      omega (arith, here, rest)

  -- only the entry's own line has come on
  one_line : (number : ℕ) (lines : List Line) (place : ℕ) (line : Line) → slice_get lines place ≡ Some line → entry.line ≡ number + place
      → left_of script grown number lines + weight script journal entry.line line
      ≡ left_of script journal number lines + weight script grown entry.line line
  one_line number [] place line here is = absurd (cc)
  one_line number (l ∷ lines) zero line here is =
      let same : l ≡ line = cc in
      let own : entry.line ≡ number = omega (arith, is) in
      let before : weight script journal number l ≡ weight script journal entry.line line
      = ap (λ n. weight script journal n l) (sym own) ∙ ap (weight script journal entry.line) same in
      let now : weight script grown number l ≡ weight script grown entry.line line
      = ap (λ n. weight script grown n l) (sym own) ∙ ap (weight script grown entry.line) same in
      let rest = later_left (number + 1) lines (omega (arith, own)) in
      omega (arith, before, now, rest)
  one_line number (l ∷ lines) (suc place) line here is =
      let head = other_weight number l (λ same. omega (arith, same, is)) in
      let rest = one_line (number + 1) lines place line here (omega (arith, is)) in
      omega (arith, head, rest)

led_line : (content : Content) (answers : List Answer) (course : Course) → (fold (after content) course answers).line ≡ course.line
led_line content [] course = refl
led_line content (answer ∷ answers) course = led_line content answers (after content course answer) ∙ after_line content course answer

-- where a line makes an event, it has a stage
has_stage : (content : Content) (course : Course) (event : Event) → event_at content course ≡ Some event → (stage : Stage) × (course.stage ≡ Some stage)
has_stage content course event is = by course.stage refl is
  where
    by : (o : Option Stage) → course.stage ≡ o → option_and_then (model.event_in course.line content) o ≡ Some event
        → (stage : Stage) × (course.stage ≡ Some stage)
    by None at is = absurd (cc)
    by (Some stage) at is = (stage, at)

-- the line that made an entry has less left, counting those that wait
weight_falls : (script : Script) (journal : List Entry) (due : Due) (place : ℕ) (line : Line) → slice_get script.lines place ≡ Some line
    → due.line ≡ 1 + place → next_event journal due.line line.content ≡ Some due.event
    → let entry = entry_of script journal due in
    weight script (journal ++ entry ∷ []) due.line line + waiting (replay script (journal ++ entry ∷ []))
    < weight script journal due.line line + waiting (replay script journal)
weight_falls script journal due place line here number event =
    let entry : Entry = entry_of script journal due in
    let answers = answers_of journal due.line in
    let course : Course = leads due.line line.content answers in
    let own : course.line ≡ due.line = led_line line.content answers (start due.line line.content) in
    let staged = has_stage line.content course due.event event in
    let at : line_at script due.line ≡ Some line = line_here script due.line place line number here in
    let same : entry_of script journal (record { line = course.line; event = due.event }) ≡ entry
    = ap (λ n. entry_of script journal (record { line = n; event = due.event })) own in
    let fell = step_falls script journal course staged.0 line due.event staged.1 (ap (line_at script) own ∙ at)
    (record { answers = answers; is = ap (λ n. leads n line.content answers) (sym own) }) event in
    let now : leads due.line line.content (answers_of (journal ++ entry ∷ []) due.line) ≡ after line.content course entry.answer
    = ap (leads due.line line.content) (answers_of-push_same journal entry due.line refl)
    ∙ fold_push (after line.content) (start due.line line.content) answers entry.answer in
    let fell_here =
    subst
    (λ (e : Entry). left_at script (Some (after line.content course e.answer)) + waiting (replay script (journal ++ e ∷ [])) < left_at script
    (Some course) + waiting (replay script journal))
    same fell in
    let next = after line.content course entry.answer in
    let lines : length script.lines - next.line ≡ length script.lines - course.line =
    ap (λ n. length script.lines - n) (after_line line.content course entry.answer) in
    let left_now : weight script (journal ++ entry ∷ []) due.line line ≡ model.left next + new_waiters_at script next
    = ap (λ (c : Course). model.left c + new_waiters_at script c) now in
    omega (arith, fell_here, lines, left_now)
  where
    line_here : (script : Script) (number place : ℕ) (line : Line) → number ≡ 1 + place → slice_get script.lines place ≡ Some line
        → line_at script number ≡ Some line
    line_here script number place line is here =
        let some : (number == 0) ≡ false = grind (arith, nat_tests) in
        let before : number - 1 ≡ place = omega (arith, is) in
        rw (some, before) here

-- all that is left falls with each entry
all_falls : (script : Script) (journal : List Entry) (entry : Entry) → IsMade script journal entry
    → left_of script (journal ++ entry ∷ []) 1 script.lines + waiting (replay script (journal ++ entry ∷ []))
    < left_of script journal 1 script.lines + waiting (replay script journal)
all_falls script journal entry made =
    let found = made.found in
    let due = made.due in
    let fell =
    subst
    (λ (e : Entry). weight script (journal ++ e ∷ []) due.line found.line + waiting (replay script (journal ++ e ∷ [])) < weight script journal due.line
    found.line + waiting (replay script journal))
    made.is
    (weight_falls script journal due found.place found.line found.here found.number found.event) in
    let own : entry.line ≡ due.line = ap (λ (e : Entry). e.line) (sym made.is) in
    let one = one_line script journal entry 1 script.lines found.place found.line found.here (own ∙ found.number) in
    let before : weight script journal entry.line found.line ≡ weight script journal due.line found.line = ap (λ n. weight script journal n found.line) own in
    let now : weight script (journal ++ entry ∷ []) entry.line found.line ≡ weight script (journal ++ entry ∷ []) due.line found.line
    = ap (λ n. weight script (journal ++ entry ∷ []) n found.line) own in
    omega (arith, fell, one, before, now)

-- ---- at the start

few_left : (line : Line) (number : ℕ) → model.left (start number line.content) ≤ 86
few_left line number = elim (makes_events line.content) as (λ b. model.left (record { line = number; stage = cond b (Some First) None; tries = 1 }) ≤ 86) [
  | true ↦ omega arith
  | false ↦ omega arith
]

few_wait : (content : Content) (stage : Option Stage) → new_waiters content stage ≤ 64
few_wait (One event) (Some First) = omega arith
few_wait (Id task call) (Some First) = omega arith
few_wait content stage = omega arith

few_wait_at : (script : Script) (course : Course) → new_waiters_at script course ≤ 64
few_wait_at script course = by (line_at script course.line)
  where
    by : (found : Option Line) → option_map_or (λ line. new_waiters line.content course.stage) found 0 ≤ 64
    by None = omega arith
    by (Some line) = few_wait line.content course.stage

few_at_start : (script : Script) (number : ℕ) (lines : List Line) → left_of script [] number lines ≤ 150 * length lines
few_at_start script number [] = omega arith
few_at_start script number (line ∷ lines) =
    let rest = few_at_start script (number + 1) lines in
    omega (arith, rest, few_left line number, few_wait_at script (start number line.content))

-- ---- journals

-- so many entries, and what is left after them
spent : (script : Script) (journal : List Entry) (k : ℕ) → SoFar script journal → k ≤ length journal
    → k + (left_of script (take k journal) 1 script.lines + waiting (state_at script journal k)) ≤ 150 * length script.lines
spent script journal zero so_far le = let first = few_at_start script 1 script.lines in omega (arith, first)
spent script journal (suc k) so_far le =
    let lt : k < length journal = omega (arith, le) in
    let at = slice_get_at journal k lt in
    let of : (lane : ℕ) × (lane_of script at.0.line ≡ Some lane) × (next script (take k journal) lane ≡ Some at.0)
    = subst (λ o. IfSome o (λ entry. (lane : ℕ) × (lane_of script entry.line ≡ Some lane) × (next script (take k journal) lane ≡ Some entry))) at.1
    (so_far k lt) in
    let before = spent script journal k so_far (omega (arith, le)) in
    let fell = all_falls script (take k journal) at.0 (entry_made script (take k journal) of.0 at.0 of.2) in
    let next : k + 1 ≡ suc k = omega arith in
    let more : take (suc k) journal ≡ take k journal ++ at.0 ∷ []
    = ap (λ n. take n journal) (sym next) ∙ take_more journal k at.0 lt
    ∙ ap (λ (e : Entry). take k journal ++ e ∷ []) (get_or_from_slice_get journal k at.0 at.0 at.1) in
    let same : left_of script (take (suc k) journal) 1 script.lines + waiting (state_at script journal (suc k))
    ≡ left_of script (take k journal ++ at.0 ∷ []) 1 script.lines + waiting (replay script (take k journal ++ at.0 ∷ []))
    = ap (λ (es : List Entry). left_of script es 1 script.lines + waiting (replay script es)) more in
    omega (arith, before, fell, same)

pub short : JournalsAreShort
short script journal so_far = let all = spent script journal (length journal) so_far (omega arith) in omega (arith, all)

-- an event seals one credential at most
one_sealed : (s : State) (event : Event) (left : List ℕ) (t : State) → CredsChange s event left t → length t.creds ≤ length s.creds + 1
one_sealed s event left t (SameCreds same) = let long = ap (λ (creds : List SealedCred). length creds) same in omega (arith, long)
one_sealed s event left t (Seals c slot creds fits origin) =
    let long = ap (λ (creds : List SealedCred). length creds) creds in omega (arith, long, length_push s.creds (sealed_cred c slot))

pub few_sealed : (script : Script) (journal : List Entry) (k : ℕ) → k ≤ length journal → length (state_at script journal k).creds ≤ k
few_sealed script journal zero le = omega arith
few_sealed script journal (suc k) le =
    let at = slice_get_at journal k (omega (arith, le)) in
    let before = few_sealed script journal k (omega (arith, le)) in
    let s = state_at script journal k in
    let c = changes script s at.0.line at.0.event in
    let one = one_sealed s at.0.event c.left (step script s at.0.line at.0.event).1 c.creds in
    let next : k + 1 ≡ suc k = omega arith in
    let same : length (state_at script journal (suc k)).creds ≡ length (step script s at.0.line at.0.event).1.creds
    = ap (λ (t : State). length t.creds) (ap (state_at script journal) (sym next) ∙ step_at script journal k at.0 at.1) in
    omega (arith, before, one, same)
