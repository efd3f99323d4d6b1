-- The course of a lane's line, from event to event and from line to line.
use Rattle.std.proofs.Common.{◌≡◌, ◌≢◌, ℕ, zero, suc, ◌+◌, ◌-◌, ◌<◌, ◌≤◌, ◌==◌, cond, List, [], ◌∷◌, ◌++◌, length, slice_get, Option, Some, None, is_some}
use Rattle.std.proofs.Common.{is_none, true, false, refl, sym, ap, ◌∙◌, subst, inl, inr, arith}
use Rattle.std.specs.Option.{IfSome, option_and_then, option_map_or}
use Rattle.std.proofs.lemmas.List.Sums.{fold_push}
use Rattle.std.proofs.lemmas.Bool.{cases_lt}
use Rattle.std.proofs.lemmas.Bool.Decides.{nat_tests}
use Rattle.cred_event.specs.declared.content.Content.{Content}
use Rattle.cred_event.specs.declared.content.Content.TheVariants.{One, Id}
use Rattle.cred_event.specs.declared.content.Stage.{Stage}
use Rattle.cred_event.specs.declared.content.Stage.TheVariants.{First}
use Rattle.cred_event.specs.declared.entry.Entry.{Entry}
use Rattle.cred_model.specs.Script.{Script, Line}
use Rattle.cred_model.specs.Course as model
use Rattle.cred_model.specs.Course.{Course, Leads, start, event_in, event_at, leads}
use Rattle.cred_model.specs.Journal.{answers_of, next_event}
use Rattle.cred_model.proofs.Courses.{after_line}
use Rattle.cred_model.proofs.Lines.{answers_of-push_same, answers_of-push_other}
use Rattle.cred_script.specs.Lines.{line_at}
use Rattle.cred_course.specs.Cursor.{EndedInLane, NotBegunInLane, IsOver, IsPastInLane, StandsOn, IsLaneCursor}
use Rattle.cred_course.specs.Cursor.{new_waiters, new_waiters_at, IsOfLine, MovesOnTo, MovesOnFrom, is_of}

-- the line at a place has the next number
pub line_at-place : (script : Script) (place : ℕ) → line_at script (place + 1) ≡ slice_get script.lines place
line_at-place script place =
    let above : (place + 1 == 0) ≡ false = grind (arith, nat_tests) in
    let down : place + 1 - 1 ≡ place = omega arith in
    rw (above, down) refl

pub slice_get-none : {A : Type 0} (xs : List A) (i : ℕ) → slice_get xs i ≡ None → length xs ≤ i
slice_get-none [] i none = omega arith
slice_get-none (x ∷ xs) zero none = cc
slice_get-none (x ∷ xs) (suc i) none = let rest = slice_get-none xs i none in omega arith

slice_get-past : {A : Type 0} (xs : List A) (i : ℕ) (x : A) → length xs ≤ i → slice_get xs i ≡ Some x → ⊥
slice_get-past [] i x past found = cc
slice_get-past (y ∷ ys) zero x past found = absurd (omega arith)
slice_get-past (y ∷ ys) (suc i) x past found = slice_get-past ys i x (omega arith) found

-- ---- a course and its line

pub line_is : {lane : ℕ} (script : Script) (journal : List Entry) (course : Course) (at : StandsOn script journal lane course)
    → line_at script course.line ≡ Some at.line
line_is script journal course at = ap (line_at script) at.number ∙ line_at-place script at.place ∙ at.here

pub of_line : {lane : ℕ} (script : Script) (journal : List Entry) (course : Course) → StandsOn script journal lane course
    → IsOfLine script course
of_line script journal course at =
    let own : Leads at.line.content course = record {
      answers = answers_of journal (at.place + 1);
      is = at.stands ∙ ap (λ n. leads n at.line.content (answers_of journal (at.place + 1))) (sym at.number);
    } in
    subst (λ (o : Option Line). IfSome o (λ line. Leads line.content course)) (sym (line_is script journal course at)) own

-- its next event is that of its line
pub next_is : {lane : ℕ} (script : Script) (journal : List Entry) (course : Course) (at : StandsOn script journal lane course)
    → next_event journal (at.place + 1) at.line.content ≡ event_at at.line.content course
next_is script journal course at = ap (event_at at.line.content) (sym at.stands)

-- ---- the end of a line

-- a line whose course has no stage has ended
ended_here : (script : Script) (journal : List Entry) (lane : ℕ) (course : Course) (at : StandsOn script journal lane course)
    → course.stage ≡ None → EndedInLane script journal lane at.place
ended_here script journal lane course at over =
    subst (λ (o : Option Line). IfSome o (λ line. is_of lane line ≡ true → next_event journal (at.place + 1) line.content ≡ None)) (sym at.here)
    (λ own. next_is script journal course at ∙ ap (option_and_then (event_in course.line at.line.content)) over)

-- one line more
one_more : (P : ℕ → Type 0) (number : ℕ) → ((k : ℕ) → k < number → P k) → P number → (k : ℕ) → k < number + 1 → P k
one_more P number before here k lt = elim (cases_lt k number) [
  | inl below ↦ before k below
  | inr above ↦ let same : number ≡ k = omega arith in subst P same here
]

past : (script : Script) (journal : List Entry) (lane : ℕ) (course : Course) → StandsOn script journal lane course
    → course.stage ≡ None → IsPastInLane script journal lane course.line
past script journal lane course at over =
    subst (IsPastInLane script journal lane) (sym at.number) (record {
      ended = one_more (EndedInLane script journal lane) at.place at.ended (ended_here script journal lane course at over);
      later = λ k le. at.later k (omega arith);
    })

-- ---- from line to line

-- the line after those that are past
line_behind : (script : Script) (number : ℕ) (line : Line) → line_at script (number + 1) ≡ Some line → slice_get script.lines number ≡ Some line
line_behind script number line following = sym (line_at-place script number) ∙ following

no_answers : (script : Script) (journal : List Entry) (lane : ℕ) (number : ℕ) (line : Line) → IsPastInLane script journal lane number
    → line_at script (number + 1) ≡ Some line → is_of lane line ≡ true → answers_of journal (number + 1) ≡ []
no_answers script journal lane number line at following own =
    subst (λ (o : Option Line). IfSome o (λ l. is_of lane l ≡ true → answers_of journal (number + 1) ≡ [])) (line_behind script number line following)
    (at.later number (omega arith)) own

-- it begins there
begins : (script : Script) (journal : List Entry) (lane : ℕ) (number : ℕ) (line : Line) → IsPastInLane script journal lane number
    → line_at script (number + 1) ≡ Some line → is_of lane line ≡ true → StandsOn script journal lane (start (number + 1) line.content)
begins script journal lane number line at following own = record {
  place = number;
  number = refl;
  line = line;
  here = line_behind script number line following;
  own = own;
  ended = at.ended;
  later = λ k lt. at.later k (omega arith);
  stands = sym (ap (leads (number + 1) line.content) (no_answers script journal lane number line at following own));
}

-- a line of another lane is passed over, and so is one without events
passes_by : (script : Script) (journal : List Entry) (lane : ℕ) (number : ℕ) (line : Line) → IsPastInLane script journal lane number
    → line_at script (number + 1) ≡ Some line → (is_of lane line ≡ true → (start (number + 1) line.content).stage ≡ None)
    → IsPastInLane script journal lane (number + 1)
passes_by script journal lane number line at following over =
    let here : EndedInLane script journal lane number
    = subst (λ (o : Option Line). IfSome o (λ l. is_of lane l ≡ true → next_event journal (number + 1) l.content ≡ None))
    (sym (line_behind script number line following))
    (λ own. ap (λ answers. event_at line.content (leads (number + 1) line.content answers)) (no_answers script journal lane number line at following own)
    ∙ ap (option_and_then (event_in (number + 1) line.content)) (over own)) in
    record {
      ended = one_more (EndedInLane script journal lane) number at.ended here;
      later = λ k le. at.later k (omega arith);
    }

-- where no line follows all of the lane's have ended
all_past : (script : Script) (journal : List Entry) (lane : ℕ) (number : ℕ) → IsPastInLane script journal lane number
    → line_at script (number + 1) ≡ None → IsOver script journal lane
all_past script journal lane number at none =
    let long = slice_get-none script.lines number (sym (line_at-place script number) ∙ none) in
    record { ended = λ k lt. at.ended k (omega (arith, long, lt)) }

-- a line that follows has a place
later_line : (script : Script) (number : ℕ) (line : Line) → line_at script (number + 1) ≡ Some line → number < length script.lines
later_line script number line following =
    elim (cases_lt number (length script.lines)) [
      | inl within ↦ within
      | inr past ↦ absurd (slice_get-past script.lines number line past (line_behind script number line following))
    ]

-- before the first event no line is past
nothing_begun : (o : Option Line) (lane number : ℕ) → IfSome o (λ line. is_of lane line ≡ true → answers_of [] number ≡ [])
nothing_begun None lane number = tt
nothing_begun (Some line) lane number = λ own. refl

pub first_of_lane : (script : Script) (lane : ℕ) (to : Option Course) → MovesOnFrom script lane 0 to → IsLaneCursor script [] lane to
first_of_lane script lane to from = from.stands [] (record {
  ended = λ k lt. absurd (omega arith);
  later = λ k le. nothing_begun (slice_get script.lines k) lane (k + 1);
})

-- ---- over the lines

-- after the one line, where those of the lane's lines that come before the other have ended at once
pub record Reaches (script : Script) (lane : ℕ) (from number : ℕ) : Type 0 where
  pub stands : (journal : List Entry) → IsPastInLane script journal lane from → IsPastInLane script journal lane number
  pub on : from ≤ number

none_of : {A : Type 0} (o : Option A) → is_none o ≡ true → o ≡ None
none_of None is = refl
none_of (Some x) is = cc

some_of : {A : Type 0} (o : Option A) → is_none o ≡ false → is_some o ≡ true
some_of None is = cc
some_of (Some x) is = refl

-- no more than a whole course is left of a line
pub few_left : (content : Content) (number : ℕ) → model.left (start number content) ≤ 86
few_left content number = elim (model.makes_events content) as (λ b. model.left (record { line = number; stage = cond b (Some First) None; tries = 1 }) ≤ 86) [
  | true ↦ omega arith
  | false ↦ omega arith
]

-- no more tasks than may live wait after its next event
few_wait : (content : Content) (stage : Option Stage) → new_waiters content stage ≤ 64
few_wait (One event) (Some First) = omega arith
few_wait (Id task call) (Some First) = omega arith
few_wait content stage = omega arith

pub few_wait_at : (script : Script) (course : Course) → new_waiters_at script course ≤ 64
few_wait_at script course = by (line_at script course.line)
  where
    by : (found : Option Line) → option_map_or (λ line. new_waiters line.content course.stage) found 0 ≤ 64
    by None = omega arith
    by (Some line) = few_wait line.content course.stage

pub reaches_self : (script : Script) (lane : ℕ) (number : ℕ) → Reaches script lane number number
reaches_self script lane number = record { stands = λ journal at. at; on = omega arith }

pub reaches_next : (script : Script) (lane : ℕ) (from number : ℕ) (line : Line) → Reaches script lane from number
    → line_at script (number + 1) ≡ Some line → (is_of lane line ≡ true → (start (number + 1) line.content).stage ≡ None)
    → Reaches script lane from (number + 1)
reaches_next script lane from number line at following over = record {
  stands = λ journal before. passes_by script journal lane number line (at.stands journal before) following over;
  on = let on = at.on in omega (arith, on);
}

pub next_shorter : (script : Script) (number : ℕ) (line : Line) → line_at script (number + 1) ≡ Some line
    → length script.lines - (number + 1) < length script.lines - number
next_shorter script number line following =
    let within = later_line script number line following in
    omega (arith, within)

pub reaches_end : (script : Script) (lane : ℕ) (from number : ℕ) → Reaches script lane from number → line_at script (number + 1) ≡ None
    → MovesOnFrom script lane from None
reaches_end script lane from number at none = record {
  stands = λ journal before. all_past script journal lane number (at.stands journal before) none;
  falls = omega arith;
}

pub reaches_due : (script : Script) (lane : ℕ) (from number : ℕ) (line : Line) → Reaches script lane from number
    → line_at script (number + 1) ≡ Some line → is_of lane line ≡ true → is_none (start (number + 1) line.content).stage ≡ false
    → MovesOnFrom script lane from (Some (start (number + 1) line.content))
reaches_due script lane from number line at following own going =
    let course = start (number + 1) line.content in
    let within = later_line script number line following in
    let few = few_left line.content (number + 1) in
    let wait = few_wait_at script course in
    let on = at.on in
    record {
      stands = λ journal before. (
        begins script journal lane number line (at.stands journal before) following own,
        some_of course.stage going,
      );
      falls = omega (arith, within, few, wait, on);
    }

-- ---- from a course on

pub passes_ended : (script : Script) (lane : ℕ) (course : Course) (to : Option Course) → is_none course.stage ≡ true
    → MovesOnFrom script lane course.line to → MovesOnTo script lane course to
passes_ended script lane course to over from =
    let fell = from.falls in
    record {
      stands = λ journal at. from.stands journal (past script journal lane course at (none_of course.stage over));
      falls = omega (arith, fell);
    }

pub passes_due : (script : Script) (lane : ℕ) (course : Course) → is_none course.stage ≡ false → MovesOnTo script lane course (Some course)
passes_due script lane course going = record {
  stands = λ journal at. (at, some_of course.stage going);
  falls = omega arith;
}

-- ---- an entry

-- an entry of the course's line leads it on
pub goes_on : {lane : ℕ} (script : Script) (journal : List Entry) (course : Course) (entry : Entry) (at : StandsOn script journal lane course)
    → entry.line ≡ course.line → StandsOn script (journal ++ entry ∷ []) lane (model.after at.line.content course entry.answer)
goes_on {lane} script journal course entry at same =
    let number : entry.line ≡ at.place + 1 = same ∙ at.number in
    record {
      place = at.place;
      number = after_line at.line.content course entry.answer ∙ at.number;
      line = at.line;
      here = at.here;
      own = at.own;
      ended = λ k lt.
          let other = answers_of-push_other journal entry (k + 1) (λ e. omega arith) in
          subst (λ answers. IfSome (slice_get script.lines k) (λ l. is_of lane l ≡ true → event_at l.content (leads (k + 1) l.content answers) ≡ None))
          (sym other)
          (at.ended k lt);
      later = λ k lt.
          let other = answers_of-push_other journal entry (k + 1) (λ e. omega arith) in
          subst (λ answers. IfSome (slice_get script.lines k) (λ l. is_of lane l ≡ true → answers ≡ [])) (sym other) (at.later k lt);
      stands = ap (λ c. model.after at.line.content c entry.answer) at.stands
          ∙ sym (ap (leads (at.place + 1) at.line.content) (answers_of-push_same journal entry (at.place + 1) number)
          ∙ fold_push (model.after at.line.content) (start (at.place + 1) at.line.content) (answers_of journal (at.place + 1)) entry.answer);
    }

-- the entry is of none of the lane's lines
abbrev pub IsOther : Script → ℕ → Entry → Type 0
IsOther script lane entry = (k : ℕ) → IfSome (slice_get script.lines k) (λ line. is_of lane line ≡ true → entry.line ≢ k + 1)

both : {A : Type 0} (o : Option A) {P Q R : A → Type 0} → IfSome o P → IfSome o Q → ((x : A) → P x → Q x → R x) → IfSome o R
both None p q f = tt
both (Some x) p q f = f x p q

ended_stays : (script : Script) (journal : List Entry) (lane : ℕ) (entry : Entry) (k : ℕ) → IsOther script lane entry
    → EndedInLane script journal lane k → EndedInLane script (journal ++ entry ∷ []) lane k
ended_stays script journal lane entry k other ended =
    both (slice_get script.lines k) (other k) ended
    (λ line differ over own. ap (λ answers. event_at line.content (leads (k + 1) line.content answers))
    (answers_of-push_other journal entry (k + 1) (differ own)) ∙ over own)

later_stays : (script : Script) (journal : List Entry) (lane : ℕ) (entry : Entry) (k : ℕ) → IsOther script lane entry
    → NotBegunInLane script journal lane k → NotBegunInLane script (journal ++ entry ∷ []) lane k
later_stays script journal lane entry k other later =
    both (slice_get script.lines k) (other k) later
    (λ line differ none own. answers_of-push_other journal entry (k + 1) (differ own) ∙ none own)

course_stays : (script : Script) (journal : List Entry) (lane : ℕ) (course : Course) (entry : Entry) → IsOther script lane entry
    → StandsOn script journal lane course → StandsOn script (journal ++ entry ∷ []) lane course
course_stays script journal lane course entry other at =
    let differ : entry.line ≢ at.place + 1
    = subst (λ (o : Option Line). IfSome o (λ line. is_of lane line ≡ true → entry.line ≢ at.place + 1)) at.here (other at.place) at.own in
    record {
      place = at.place;
      number = at.number;
      line = at.line;
      here = at.here;
      own = at.own;
      ended = λ k lt. ended_stays script journal lane entry k other (at.ended k lt);
      later = λ k lt. later_stays script journal lane entry k other (at.later k lt);
      stands = at.stands ∙ sym (ap (leads (at.place + 1) at.line.content) (answers_of-push_other journal entry (at.place + 1) differ));
    }

-- an entry of none of the lane's lines leaves its cursor where it is
pub cursor_stays : (script : Script) (journal : List Entry) (lane : ℕ) (cursor : Option Course) (entry : Entry) → IsOther script lane entry
    → IsLaneCursor script journal lane cursor → IsLaneCursor script (journal ++ entry ∷ []) lane cursor
cursor_stays script journal lane None entry other at = record {
  ended = λ k lt. ended_stays script journal lane entry k other (at.ended k lt);
}
cursor_stays script journal lane (Some course) entry other at = (course_stays script journal lane course entry other at.0, at.1)
