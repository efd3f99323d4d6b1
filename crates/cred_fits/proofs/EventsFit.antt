-- The events of a script's journals fit it.
use Rattle.std.proofs.Common.{◌≡◌, ℕ, ◌+◌, ◌*◌, ◌<◌, ◌≤◌, ◌==◌, ◌&&◌, not, Bool, true, false, cond, is_some, List, [], ◌∷◌, length, take, fold, slice_get}
use Rattle.std.proofs.Common.{Option, Some, None, Ok, refl, sym, ◌∙◌, subst, arith}
use Rattle.std.specs.List.{All}
use Rattle.std.specs.Option.{IfSome, option_map, option_map_or, option_and_then}
use Rattle.std.proofs.lemmas.List.Elements.{All-head, All-tail, All-weaker}
use Rattle.std.proofs.lemmas.Option.{IfSome_then, get_or_from_slice_get}
use Rattle.cred_ids.specs.Limits.{LINE_LIMIT, FIRST_LINE_LABEL, LABELS_A_LINE}
use Rattle.cred_event.specs.declared.content.Content.{Content}
use Rattle.cred_event.specs.declared.content.Content.TheVariants.{One, Id, Question, Open, Fcap, Signal, Ptrace, Change, Access, OnFile}
use Rattle.cred_event.specs.declared.content.Stage.{Stage}
use Rattle.cred_event.specs.declared.content.Stage.TheVariants as stage
use Rattle.cred_event.specs.declared.answer.Answer.{Answer}
use Rattle.cred_event.specs.declared.entry.Entry.{Entry}
use Rattle.cred_event.specs.declared.event.Event.{Event}
use Rattle.cred_model.specs.Script.{Script, Line}
use Rattle.cred_model.specs.Course.{Course, start, event_in, event_at, after, leads}
use Rattle.cred_model.specs.Journal.{Due, answers_of, next_event, first_due, entry_of, due_in, next, SoFar}
use Rattle.cred_model.specs.Named.{IsContentOf, IsEventOf, event_files}
use Rattle.cred_model.proofs.Courses.{after_line}
use Rattle.cred_model.proofs.Lists.{slice_get_at}
use Rattle.cred_model.proofs.Names.{event_named}
use Rattle.cred_grammar.specs.Grammar.{script_of}
use Rattle.cred_reader.specs.Fits.{IsFile, IsNumber, FitsEvent, IsOf}
use Rattle.cred_reader.proofs.EventsFit.{calling_fits}
use Rattle.cred_fits.specs.Content.{FitsContent}
use Rattle.cred_fits.specs.Fitting.{EventFits, EventsFit}
use Rattle.cred_fits.proofs.FilesFit.{is_file}
use Rattle.cred_fits.proofs.ScriptFits.{AreRead, script_fits}

-- ---- the events of a line

-- a label that a line takes for itself is of 32 bits
own_label : (line more : ℕ) → line ≤ LINE_LIMIT → more ≤ 2 → IsNumber (FIRST_LINE_LABEL + more + LABELS_A_LINE * line)
own_label line more few small = omega (arith, few, small)

stage_fits : (line : ℕ) (content : Content) (at : Stage) → line ≤ LINE_LIMIT → FitsContent content → IfSome (event_in line content at) FitsEvent
stage_fits line (One event) stage.First few fits = fits
stage_fits line (Id task call) stage.First few fits = fits
stage_fits line (Id task call) stage.Acting few fits = omega (arith, few)
stage_fits line (Question task query) stage.First few fits = (omega (arith, few), fits.0)
stage_fits line (Question task query) stage.Asking few fits = (omega (arith, few), fits.1)
stage_fits line (Question task query) stage.Releasing few fits = omega (arith, few)
stage_fits line (Open task file want fd) stage.First few fits = (omega (arith, few), fits.0)
stage_fits line (Open task file want fd) stage.Opening few fits = (omega (arith, few), fits.1, fits.2)
stage_fits line (Open task file want fd) stage.Releasing few fits = omega (arith, few)
stage_fits line (Fcap task fd cap) stage.First few fits = (omega (arith, few), fits.1)
stage_fits line (Fcap task fd cap) stage.Asking few fits = (omega (arith, few), fits.2)
stage_fits line (Fcap task fd cap) stage.Releasing few fits = omega (arith, few)
stage_fits line (Signal task to) stage.First few fits = (omega (arith, few), fits.0)
stage_fits line (Signal task to) stage.TakingTarget few fits = (omega (arith, few), fits.1)
stage_fits line (Signal task to) stage.Signalling few fits = (fits.0, omega (arith, few), fits.1, omega (arith, few))
stage_fits line (Signal task to) stage.ReleasingTarget few fits = omega (arith, few)
stage_fits line (Signal task to) stage.Releasing few fits = omega (arith, few)
stage_fits line (Ptrace task to mode) stage.First few fits = (omega (arith, few), fits.0)
stage_fits line (Ptrace task to mode) stage.TakingTarget few fits = (omega (arith, few), fits.1)
stage_fits line (Ptrace task to mode) stage.Tracing few fits = (fits.0, omega (arith, few), fits.1, omega (arith, few))
stage_fits line (Ptrace task to mode) stage.ReleasingTarget few fits = omega (arith, few)
stage_fits line (Ptrace task to mode) stage.Releasing few fits = omega (arith, few)
stage_fits line (Change task change) stage.First few fits = (omega (arith, few), fits.0)
stage_fits line (Change task change) stage.Preparing few fits = (omega (arith, few), fits.0, omega (arith, few))
stage_fits line (Change task change) stage.Altering few fits = (omega (arith, few), fits.1)
stage_fits line (Change task change) stage.Committing few fits = omega (arith, few)
stage_fits line (Change task change) stage.Aborting few fits = omega (arith, few)
stage_fits line (Change task change) stage.Releasing few fits = omega (arith, few)
stage_fits line (Change task change) stage.Retrying few fits = omega (arith, few)
stage_fits line (Access task file want) stage.First few fits = (omega (arith, few), fits.0)
stage_fits line (Access task file want) stage.Preparing few fits = (omega (arith, few), fits.0, omega (arith, few))
stage_fits line (Access task file want) stage.Altering few fits = (omega (arith, few), tt)
stage_fits line (Access task file want) stage.Overriding few fits = (fits.0, omega (arith, few))
stage_fits line (Access task file want) stage.TakingAccess few fits = (omega (arith, few), fits.0)
stage_fits line (Access task file want) stage.Asking few fits = (omega (arith, few), fits.1)
stage_fits line (Access task file want) stage.ReleasingAccess few fits = omega (arith, few)
stage_fits line (Access task file want) stage.Reverting few fits = fits.0
stage_fits line (Access task file want) stage.Aborting few fits = omega (arith, few)
stage_fits line (Access task file want) stage.Releasing few fits = omega (arith, few)
stage_fits line (OnFile task call) stage.First few fits = (omega (arith, few), fits.0)
stage_fits line (OnFile task call) stage.Calling few fits = calling_fits (FIRST_LINE_LABEL + LABELS_A_LINE * line) call (omega (arith, few)) fits.1
stage_fits line (OnFile task call) stage.Releasing few fits = omega (arith, few)
stage_fits line content at few fits = tt

course_fits : (content : Content) (course : Course) → course.line ≤ LINE_LIMIT → FitsContent content → IfSome (event_at content course) FitsEvent
course_fits content course few fits = by course.stage
  where
    by : (o : Option Stage) → IfSome (option_and_then (event_in course.line content) o) FitsEvent
    by None = tt
    by (Some at) = stage_fits course.line content at few fits

led_line : (content : Content) (answers : List Answer) (course : Course) → (fold (after content) course answers).line ≡ course.line
led_line content [] course = refl
led_line content (answer ∷ answers) course = led_line content answers (after content course answer) ∙ after_line content course answer

-- ---- the first that is due

-- what the next event of a line of a script is
pub record IsOfScript (script : Script) (number : ℕ) (made : Event) : Type 0 where
  pub line : IsNumber number
  pub event : FitsEvent made
  pub names : IsEventOf (length script.files) script.namespaces made

line_event : (script : Script) (journal : List Entry) (number : ℕ) (content : Content) → number ≤ LINE_LIMIT → FitsContent content
    → IsContentOf (length script.files) script.namespaces content → IfSome (next_event journal number content) (IsOfScript script number)
line_event script journal number content few fits of = by (next_event journal number content) refl
  where
    course : Course
    course = leads number content (answers_of journal number)

    own : course.line ≡ number
    own = led_line content (answers_of journal number) (start number content)

    by : (o : Option Event) → event_at content course ≡ o → IfSome o (IsOfScript script number)
    by None is = tt
    by (Some event) is = record {
      line = omega (arith, few);
      event = subst (λ (o : Option Event). IfSome o FitsEvent) is (course_fits content course (rw own few) fits);
      names = event_named (length script.files) script.namespaces content course event of is;
    }

first_fits : (script : Script) (these : Line → Bool) (journal : List Entry) (number : ℕ) (lines : List Line) → number + length lines ≤ LINE_LIMIT + 1
    → All (λ line. FitsContent line.content) lines → All (λ line. IsContentOf (length script.files) script.namespaces line.content) lines
    → IfSome (first_due these journal number lines) (λ due. IsOfScript script due.line due.event)
first_fits script these journal number [] few fits of = tt
first_fits script these journal number (line ∷ lines) few fits of =
    by (these line) (next_event journal number line.content)
    (line_event script journal number line.content (omega (arith, few)) (All-head (λ (l : Line). FitsContent l.content) line lines fits)
    (All-head (λ (l : Line). IsContentOf (length script.files) script.namespaces l.content) line lines of))
    (first_fits script these journal (number + 1) lines (omega (arith, few)) (All-tail (λ (l : Line). FitsContent l.content) line lines fits)
    (All-tail (λ (l : Line). IsContentOf (length script.files) script.namespaces l.content) line lines of))
  where
    by : (b : Bool) (o : Option Event) → IfSome o (IsOfScript script number)
        → IfSome (first_due these journal (number + 1) lines) (λ due. IsOfScript script due.line due.event)
        → IfSome
        (cond b (option_map_or (λ event. Some (record { line = number; event = event })) o (first_due these journal (number + 1) lines))
        (first_due these journal (number + 1) lines))
        (λ due. IsOfScript script due.line due.event)
    by true None h rest = rest
    by true (Some event) h rest = h
    by false o h rest = rest

-- ---- entries

entry_fits : (script : Script) (before : List Entry) (lane : ℕ) → length script.lines ≤ LINE_LIMIT → AreRead script.files script.namespaces script.lines
    → IfSome (next script before lane) (λ entry. IsOfScript script entry.line entry.event)
entry_fits script before lane few read = by (not (lane == 0) && is_some (due_in script before 0))
  where
    made : (o : Option Due) → IfSome o (λ due. IsOfScript script due.line due.event)
        → IfSome (option_map (entry_of script before) o) (λ entry. IsOfScript script entry.line entry.event)
    made None h = tt
    made (Some due) h = h

    by : (b : Bool) → IfSome (cond b None (option_map (entry_of script before) (due_in script before lane))) (λ entry. IsOfScript script entry.line entry.event)
    by true = tt
    by false = made (due_in script before lane) (first_fits script _ before 1 script.lines (omega (arith, few)) read.lines read.names)

is_of : (script : Script) (event : Event) → AreRead script.files script.namespaces script.lines → IsEventOf (length script.files) script.namespaces event
    → IsOf script event
is_of script event read of = record {
  files = All-weaker (λ file. file < length script.files) (IsFile script) (λ place lt. is_file script place read.files lt) (event_files event) of.files;
  namespaces = of.namespaces;
}

entry_event : (bytes : List ℕ) (script : Script) (journal : List Entry) → script_of bytes ≡ Ok script → length script.lines ≤ LINE_LIMIT
    → SoFar script journal → (k : ℕ) → k < length journal → IfSome (slice_get journal k) (EventFits script)
entry_event bytes script journal is few so_far k lt =
    let read = script_fits bytes script is in
    IfSome_then (slice_get journal k) (so_far k lt)
    (λ entry of.
    let due = subst (λ (o : Option Entry). IfSome o (λ e. IsOfScript script e.line e.event)) of.2 (entry_fits script (take k journal) of.0 few read) in
    record { line = due.line; event = due.event; names = is_of script entry.event read due.names })

-- what holds of the element at each place
pub each_at : {X : Type 0} (P : X → Type 0) (xs : List X) → ((k : ℕ) → k < length xs → IfSome (slice_get xs k) P) → All P xs
each_at P xs each k d lt =
    let at = slice_get_at xs k lt in
    subst P (sym (get_or_from_slice_get xs k at.0 d at.1)) (subst (λ o. IfSome o P) at.1 (each k lt))

pub events_fit : EventsFit
events_fit bytes script journal is few so_far = each_at (EventFits script) journal (entry_event bytes script journal is few so_far)
