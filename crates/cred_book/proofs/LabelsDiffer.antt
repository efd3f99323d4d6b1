-- The next events of two lanes have no label in common.
use Rattle.std.proofs.Common.{◌≡◌, ◌≢◌, ℕ, suc, ◌+◌, ◌<◌, ◌≤◌, ◌==◌, cond, Bool, true, false, List, [], ◌∷◌, get_or, slice_get, All, AllPairs, inl, inr, Option}
use Rattle.std.proofs.Common.{Some, None, refl, sym, ap, ◌∙◌, subst, arith}
use Rattle.std.specs.List.{Contains, fold}
use Rattle.std.specs.Option.{option_and_then, option_map_or}
use Rattle.std.proofs.lemmas.Bool.{cases_order}
use Rattle.std.proofs.lemmas.Bool.Decides.{nat_tests}
use Rattle.std.proofs.lemmas.List.Elements.{All-contains}
use Rattle.std.proofs.lemmas.Option.{get_or_from_slice_get, slice_get_within}
use Rattle.cred_ids.specs.Limits.{LABELS_A_LINE, LAST_NUMBER}
use Rattle.cred_event.specs.declared.content.Content.{Content}
use Rattle.cred_event.specs.declared.content.Stage.{Stage}
use Rattle.cred_event.specs.declared.answer.Answer.{Answer}
use Rattle.cred_event.specs.declared.event.Event.{Event}
use Rattle.cred_event.specs.declared.entry.Entry.{Entry}
use Rattle.cred_model.specs.Script.{Script, Line}
use Rattle.cred_model.specs.Course.{Course, after, event_in, hold_label, leads, start}
use Rattle.cred_model.specs.Journal.{Due, answers_of, due_in, first_due, next_event}
use Rattle.cred_model.proofs.Courses.{after_line}
use Rattle.cred_names.specs.Labels.{event_labels, labels}
use Rattle.cred_script.specs.Sound.{AreApart}
use Rattle.cred_state.proofs.Lines.{IsLines, IsOwnLabel, names_own}
use Rattle.cred_book.specs.Works.{AreNamedApart}

-- ---- the line that a lane's next event is of

-- some line of the lane makes the event next
pub record IsOfPlace (journal : List Entry) (lane n : ℕ) (lines : List Line) (due : Due) : Type 0 where
  pub place : ℕ
  pub number : due.line ≡ place + n
  pub line : Line
  pub here : slice_get lines place ≡ Some line
  pub own : (line.lane == lane) ≡ true
  pub next : next_event journal due.line line.content ≡ Some due.event

first_from : (journal : List Entry) (lane n : ℕ) (lines : List Line) (due : Due) → first_due (λ line. line.lane == lane) journal n lines ≡ Some due
    → IsOfPlace journal lane n lines due
first_from journal lane n [] due is = cc
first_from journal lane n (line ∷ lines) due is =
    by (line.lane == lane) refl (next_event journal n line.content) refl (λ rest. first_from journal lane (n + 1) lines due rest) is
  where
    behind : IsOfPlace journal lane (n + 1) lines due → IsOfPlace journal lane n (line ∷ lines) due
    behind at =
        let same = at.number in
        record {
          place = suc at.place;
          number = omega (arith, same);
          line = at.line;
          here = at.here;
          own = at.own;
          next = at.next;
        }

    by : (own : Bool) → (line.lane == lane) ≡ own → (event : Option Event) → next_event journal n line.content ≡ event
        → (first_due (λ line. line.lane == lane) journal (n + 1) lines ≡ Some due → IsOfPlace journal lane (n + 1) lines due)
        → cond own
        (option_map_or (λ event. Some (record { line = n; event = event })) event (first_due (λ line. line.lane == lane) journal (n + 1) lines))
        (first_due (λ line. line.lane == lane) journal (n + 1) lines) ≡ Some due
        → IsOfPlace journal lane n (line ∷ lines) due
    by true own None next later rest = behind (later rest)
    by true own (Some event) next later found =
        let same : record { line = n; event = event } ≡ due = cc in
        let number : n ≡ due.line = ap (λ (d : Due). d.line) same in
        record {
          place = 0;
          number = omega (arith, number);
          line = line;
          here = refl;
          own = own;
          next = ap (λ (d : Due). next_event journal d.line line.content) (sym same) ∙ next ∙ ap (λ (d : Due). Some d.event) same;
        }
    by false own event next later rest = behind (later rest)

pub due_from : (script : Script) (journal : List Entry) (lane : ℕ) (due : Due) → due_in script journal lane ≡ Some due
    → IsOfPlace journal lane 1 script.lines due
due_from script journal lane due is = first_from journal lane 1 script.lines due is

-- ---- the stage that it is made at

folded_line : (content : Content) (course : Course) (answers : List Answer) → (fold (after content) course answers).line ≡ course.line
folded_line content course [] = refl
folded_line content course (answer ∷ answers) = folded_line content (after content course answer) answers ∙ after_line content course answer

-- an event that a line makes, at some stage
pub record IsMadeAt (line : ℕ) (content : Content) (event : Event) : Type 0 where
  pub stage : Stage
  pub made : event_in line content stage ≡ Some event

pub next_made : (journal : List Entry) (line : ℕ) (content : Content) (event : Event) → next_event journal line content ≡ Some event
    → IsMadeAt line content event
next_made journal line content event is = by (leads line content (answers_of journal line)).stage made
  where
    made : option_and_then (event_in line content) (leads line content (answers_of journal line)).stage ≡ Some event
    made =
        ap (λ n. option_and_then (event_in n content) (leads line content (answers_of journal line)).stage)
        (sym (folded_line content (start line content) (answers_of journal line))) ∙ is

    by : (o : Option Stage) → option_and_then (event_in line content) o ≡ Some event → IsMadeAt line content event
    by None at = cc
    by (Some stage) at = record { stage = stage; made = at }

-- ---- labels

abbrev pub ByWords : Line → ℕ → Type 0
ByWords line label = Contains (labels line.content) label

-- a line's own labels are among as many as it may have
record IsOwn (line label : ℕ) : Type 0 where
  from : hold_label line ≤ label
  below : label < hold_label line + LABELS_A_LINE

own_label : (line label : ℕ) → IsOwnLabel line label → IsOwn line label
own_label line label (inl is) = record { from = omega (arith, is); below = omega (arith, is) }
own_label line label (inr (inl is)) = record { from = omega (arith, is); below = omega (arith, is) }
own_label line label (inr (inr is)) = record { from = omega (arith, is); below = omega (arith, is) }

pair_at : (lines : List Line) (i j : ℕ) (one other : Line) → AllPairs AreApart lines → slice_get lines i ≡ Some one → slice_get lines j ≡ Some other → i < j
    → AreApart one other
pair_at lines i j one other apart first second before =
    let within = slice_get_within lines j other second in
    subst (λ x. AreApart x other) (get_or_from_slice_get lines i one one first)
    (subst (λ y. AreApart (get_or lines i one) y) (get_or_from_slice_get lines j other one second) (apart i j one before within))

words_small : (lines : List Line) (k : ℕ) (line : Line) (label : ℕ) → AreNamedApart lines → slice_get lines k ≡ Some line → ByWords line label
    → label ≤ LAST_NUMBER
words_small lines k line label named at has =
    let within = slice_get_within lines k line at in
    let small =
    subst (λ (l : Line). All (λ label. label ≤ LAST_NUMBER) (labels l.content)) (get_or_from_slice_get lines k line line at) (named.small k line within) in
    All-contains (λ label. label ≤ LAST_NUMBER) (labels line.content) label small has

-- two places of different lanes, neither of which is the setup
labels_differ : (lines : List Line) (named : AreNamedApart lines) (i j : ℕ) (one other : Line) (label : ℕ)
    → slice_get lines i ≡ Some one → slice_get lines j ≡ Some other → one.lane ≢ 0 → other.lane ≢ 0 → one.lane ≢ other.lane
    → IsLines (i + 1) one.content label → IsLines (j + 1) other.content label → ⊥
labels_differ lines named i j one other label first second own its differ (inl words) (inl also) = elim (cases_order i j) [
  | inl same ↦
      let lines_same : Some one ≡ Some other = sym first ∙ ap (slice_get lines) same ∙ second in
      let is : one ≡ other = cc in
      differ (ap (λ (l : Line). l.lane) is)
  | inr (inl before) ↦ (pair_at lines i j one other named.apart first second before own its differ).1 label words also
  | inr (inr after) ↦ (pair_at lines j i other one named.apart second first after its own (λ e. differ (sym e))).1 label also words
]
labels_differ lines named i j one other label first second own its differ (inl words) (inr mine) =
    let small = words_small lines i one label named first words in
    let line = own_label (j + 1) label mine in
    omega (arith, small, line.from)
labels_differ lines named i j one other label first second own its differ (inr mine) (inl words) =
    let small = words_small lines j other label named second words in
    let line = own_label (i + 1) label mine in
    omega (arith, small, line.from)
labels_differ lines named i j one other label first second own its differ (inr mine) (inr theirs) =
    let line = own_label (i + 1) label mine in
    let also = own_label (j + 1) label theirs in
    let same : i ≡ j = omega (arith, line.from, line.below, also.from, also.below) in
    let lines_same : Some one ≡ Some other = sym first ∙ ap (slice_get lines) same ∙ second in
    let one_is : one ≡ other = cc in
    differ (ap (λ (l : Line). l.lane) one_is)

same_number : (a b : ℕ) → (a == b) ≡ true → a ≡ b
same_number a b test = grind (arith, nat_tests)

-- what the event that a lane makes next names
pub names_at : (journal : List Entry) (lane : ℕ) (lines : List Line) (due : Due) (at : IsOfPlace journal lane 1 lines due) (label : ℕ)
    → Contains (event_labels due.event) label → IsLines (at.place + 1) at.line.content label
names_at journal lane lines due at label named =
    let made = next_made journal due.line at.line.content due.event at.next in
    let cases = names_own due.line at.line.content made.stage due.event made.made label named in
    subst (λ n. IsLines n at.line.content label) at.number cases

-- a label of a line's next event, and one of a line of another lane
pub names_differ : (journal : List Entry) (lane other : ℕ) (lines : List Line) (due its : Due) (label : ℕ)
    → AreNamedApart lines → lane ≢ 0 → other ≢ 0 → lane ≢ other
    → (at : IsOfPlace journal lane 1 lines due) (there : IsOfPlace journal other 1 lines its)
    → IsLines (at.place + 1) at.line.content label → IsLines (there.place + 1) there.line.content label → ⊥
names_differ journal lane other lines due its label named first second differ at there one two =
    let mine : at.line.lane ≡ lane = same_number at.line.lane lane at.own in
    let theirs : there.line.lane ≡ other = same_number there.line.lane other there.own in
    labels_differ lines named at.place there.place at.line there.line label at.here there.here
    (λ e. first (sym mine ∙ e)) (λ e. second (sym theirs ∙ e)) (λ e. differ (sym mine ∙ e ∙ theirs)) one two

-- ---- two lanes

-- The lane makes this event next: no line of the setup is left, or the lane is the setup's.
pub record IsNext (script : Script) (journal : List Entry) (lane : ℕ) (due : Due) : Type 0 where
  pub is : due_in script journal lane ≡ Some due
  pub set_up : lane ≢ 0 → due_in script journal 0 ≡ None

-- two lanes that both have a next event are none of them the setup's
pub never_setup : (script : Script) (journal : List Entry) (lane other : ℕ) (due its : Due) → IsNext script journal lane due → IsNext script journal other its
    → lane ≢ other → lane ≢ 0
never_setup script journal lane other due its one two differ first =
    let none : due_in script journal 0 ≡ None = two.set_up (λ e. differ (first ∙ sym e)) in
    let both : Some due ≡ None = sym one.is ∙ ap (due_in script journal) first ∙ none in
    absurd (cc)

pub labels_apart : (script : Script) (journal : List Entry) (lane other : ℕ) (due its : Due) (label : ℕ)
    → AreNamedApart script.lines → IsNext script journal lane due → IsNext script journal other its → lane ≢ other
    → Contains (event_labels due.event) label → Contains (event_labels its.event) label → ⊥
labels_apart script journal lane other due its label named first second differ one two =
    let at = due_from script journal lane due first.is in
    let there = due_from script journal other its second.is in
    names_differ journal lane other script.lines due its label named
    (never_setup script journal lane other due its first second differ)
    (never_setup script journal other lane its due second first (λ e. differ (sym e)))
    differ at there
    (names_at journal lane script.lines due at label one) (names_at journal other script.lines its there label two)
