-- Lines that run whole and in order: from event to event, from line to line, and to the end.
use Rattle.std.proofs.Common.{◌≡◌, ℕ, zero, suc, ◌+◌, ◌<◌, ◌≤◌, List, [], ◌∷◌, ◌++◌, length, slice_get, Option, Some, None, is_some, true, refl, sym, ap, ◌∙◌}
use Rattle.std.proofs.Common.{subst, inl, inr, append_assoc, arith}
use Rattle.std.specs.Option.{IfSome, option_and_then, option_map}
use Rattle.std.proofs.lemmas.List.{append-nil}
use Rattle.std.proofs.lemmas.List.Sums.{fold_push}
use Rattle.std.proofs.lemmas.Bool.{cases_lt}
use Rattle.cred_event.specs.declared.content.Stage.{Stage}
use Rattle.cred_event.specs.declared.event.Event.{Event}
use Rattle.cred_event.specs.declared.entry.Entry.{Entry}
use Rattle.cred_model.specs.Script.{Script, Line}
use Rattle.cred_model.specs.Course as model
use Rattle.cred_model.specs.Course.{Course, Leads, start, event_in, event_at, leads}
use Rattle.cred_model.specs.Journal.{IsInOrder, IsSequence, answers_of, entry_of, next_event, next_in_order, replay}
use Rattle.cred_model.proofs.Courses.{after_line, makes_event}
use Rattle.cred_model.proofs.Journals.{IsInOrder-push}
use Rattle.cred_model.proofs.Lines.{answers_of-push_same, answers_of-push_other}
use Rattle.cred_script.specs.Lines.{line_at}
use Rattle.cred_course.specs.Cursor.{left_at}
use Rattle.cred_course.proofs.Courses.{line_at-place, slice_get-none}
use Rattle.cred_course.proofs.Due.{first_due_at, first_due_none}
use Rattle.cred_course.specs.Waiting.{waiting}
use Rattle.cred_course.proofs.Measure.{step_falls}
use Rattle.cred_commands.specs.Order.{BeginsSequence, LineHasEnded, IsPast, StandsAt}

-- ---- a course and its line

pub line_is : (script : Script) (journal : List Entry) (line : Line) (course : Course) (at : StandsAt script journal line course)
    → line_at script course.line ≡ Some line
line_is script journal line course at = ap (line_at script) at.number ∙ line_at-place script at.place ∙ at.here

pub of_line : (script : Script) (journal : List Entry) (line : Line) (course : Course) (at : StandsAt script journal line course) → Leads line.content course
of_line script journal line course at = record {
  answers = answers_of journal (at.place + 1);
  is = at.stands ∙ ap (λ n. leads n line.content (answers_of journal (at.place + 1))) (sym at.number);
}

-- its next event is that of its line
next_is : (script : Script) (journal : List Entry) (line : Line) (course : Course) (at : StandsAt script journal line course)
    → next_event journal (at.place + 1) line.content ≡ event_at line.content course
next_is script journal line course at = ap (event_at line.content) (sym at.stands)

-- ---- the end of a line

one_more : (P : ℕ → Type 0) (number : ℕ) → ((k : ℕ) → k < number → P k) → P number → (k : ℕ) → k < number + 1 → P k
one_more P number before here k lt = elim (cases_lt k number) [
  | inl below ↦ before k below
  | inr above ↦ let same : number ≡ k = omega arith in subst P same here
]

ended_here : (script : Script) (journal : List Entry) (line : Line) (course : Course) (at : StandsAt script journal line course)
    → course.stage ≡ None → LineHasEnded script journal at.place
ended_here script journal line course at over =
    subst (λ (o : Option Line). IfSome o (λ line. next_event journal (at.place + 1) line.content ≡ None)) (sym at.here)
    (next_is script journal line course at ∙ ap (option_and_then (event_in course.line line.content)) over)

pub line_past : (script : Script) (journal : List Entry) (line : Line) (course : Course) → StandsAt script journal line course
    → course.stage ≡ None → IsPast script journal course.line
line_past script journal line course at over =
    subst (IsPast script journal) (sym at.number) (record {
      ended = one_more (LineHasEnded script journal) at.place at.ended (ended_here script journal line course at over);
      later = λ k le. at.later k (omega arith);
    })

-- ---- its start

pub begins : (script : Script) (journal : List Entry) (past : ℕ) (line : Line) → IsPast script journal past
    → slice_get script.lines past ≡ Some line → StandsAt script journal line (start (past + 1) line.content)
begins script journal past line at here = record {
  place = past;
  number = refl;
  here = here;
  ended = at.ended;
  later = λ k lt. at.later k (omega arith);
  stands = sym (ap (leads (past + 1) line.content)
      (subst (λ (o : Option Line). IfSome o (λ l. answers_of journal (past + 1) ≡ [])) here (at.later past (omega arith))));
}

nothing_begun : (o : Option Line) (number : ℕ) → IfSome o (λ line. answers_of [] number ≡ [])
nothing_begun None number = tt
nothing_begun (Some line) number = refl

pub nothing_past : (script : Script) → IsPast script [] 0
nothing_past script = record {
  ended = λ k lt. absurd (omega (arith, lt));
  later = λ k le. nothing_begun (slice_get script.lines k) (k + 1);
}

-- ---- an entry

pub goes_on : (script : Script) (journal : List Entry) (line : Line) (course : Course) (entry : Entry) (at : StandsAt script journal line course)
    → entry.line ≡ course.line → StandsAt script (journal ++ entry ∷ []) line (model.after line.content course entry.answer)
goes_on script journal line course entry at same =
    let number : entry.line ≡ at.place + 1 = same ∙ at.number in
    record {
      place = at.place;
      number = after_line line.content course entry.answer ∙ at.number;
      here = at.here;
      ended = λ k lt.
          let other = answers_of-push_other journal entry (k + 1) (λ e. omega arith) in
          subst (λ answers. IfSome (slice_get script.lines k) (λ l. event_at l.content (leads (k + 1) l.content answers) ≡ None)) (sym other)
          (at.ended k lt);
      later = λ k lt.
          let other = answers_of-push_other journal entry (k + 1) (λ e. omega arith) in
          subst (λ answers. IfSome (slice_get script.lines k) (λ l. answers ≡ [])) (sym other) (at.later k lt);
      stands = ap (λ c. model.after line.content c entry.answer) at.stands
          ∙ sym (ap (leads (at.place + 1) line.content) (answers_of-push_same journal entry (at.place + 1) number)
          ∙ fold_push (model.after line.content) (start (at.place + 1) line.content) (answers_of journal (at.place + 1)) entry.answer);
    }

asked : (P : Line → Type 0) (o : Option Line) → IfSome o P → IfSome o (λ line. true ≡ true → P line)
asked P None p = tt
asked P (Some line) p = λ own. p

-- its event makes the next entry in order
pub next_here : (script : Script) (journal : List Entry) (line : Line) (course : Course) (event : Event) (at : StandsAt script journal line course)
    → event_at line.content course ≡ Some event
    → next_in_order script journal ≡ Some (entry_of script journal (record { line = course.line; event = event }))
next_here script journal line course event at due =
    ap (option_map (entry_of script journal))
    (first_due_at (λ line. true) journal 1 script.lines at.place line event
    (λ k lt. asked (λ (l : Line). next_event journal (k + 1) l.content ≡ None) (slice_get script.lines k) (at.ended k lt)) at.here refl
    (next_is script journal line course at ∙ due)
    ∙ ap (λ (n : ℕ). Some (record { line = n; event = event })) (sym at.number))

-- where all lines have ended none is left
pub all_past : (script : Script) (journal : List Entry) (past : ℕ) → IsPast script journal past → length script.lines ≤ past
    → next_in_order script journal ≡ None
all_past script journal past at all =
    ap (option_map (entry_of script journal))
    (first_due_none (λ line. true) journal 1 script.lines
    (λ k lt. asked (λ (l : Line). next_event journal (k + 1) l.content ≡ None) (slice_get script.lines k) (at.ended k (omega (arith, lt, all)))))

-- ---- each journal in order goes on to the end

-- the line's entries that are left
record RestOfLine (script : Script) (journal : List Entry) (past : ℕ) : Type 0 where
  more : List Entry
  order : IsInOrder script (journal ++ more)
  is : IsPast script (journal ++ more) past

-- the steps that may be left, at most
abbrev pub ahead : Script → List Entry → Course → ℕ
ahead script journal course = left_at script (Some course) + waiting (replay script journal)

rest_by : (script : Script) (journal : List Entry) (line : Line) (course : Course) (at : StandsAt script journal line course) → IsInOrder script journal
    → ((longer : List Entry) (next : Course) → StandsAt script longer line next → IsInOrder script longer
    → ahead script longer next < ahead script journal course
    → RestOfLine script longer next.line)
    → RestOfLine script journal course.line
rest_by script journal line course at order again = by course.stage refl
  where
    own : Leads line.content course
    own = of_line script journal line course at

    by_event : (stage : Stage) → course.stage ≡ Some stage → (o : Option Event) → event_at line.content course ≡ o → is_some o ≡ true
        → RestOfLine script journal course.line
    by_event stage is None due some = cc
    by_event stage is (Some event) due some =
        let entry : Entry = entry_of script journal (record { line = course.line; event = event }) in
        let next : Course = model.after line.content course entry.answer in
        let rest = again (journal ++ entry ∷ []) next (goes_on script journal line course entry at refl)
        (IsInOrder-push script journal entry order (next_here script journal line course event at due))
        (step_falls script journal course stage line event is (line_is script journal line course at) own due) in
        let longer : (journal ++ entry ∷ []) ++ rest.more ≡ journal ++ (entry ∷ rest.more) = append_assoc journal (entry ∷ []) rest.more in
        record {
          more = entry ∷ rest.more;
          order = subst (IsInOrder script) longer rest.order;
          is = subst (λ n. IsPast script (journal ++ (entry ∷ rest.more)) n) (after_line line.content course entry.answer)
              (subst (λ js. IsPast script js next.line) longer rest.is);
        }

    by : (o : Option Stage) → course.stage ≡ o → RestOfLine script journal course.line
    by None none = record {
      more = [];
      order = subst (IsInOrder script) (sym (append-nil journal)) order;
      is = subst (λ js. IsPast script js course.line) (sym (append-nil journal)) (line_past script journal line course at none);
    }
    by (Some stage) is =
        by_event stage is (event_at line.content course) refl (makes_event line.content course course.stage refl own ∙ ap is_some is)

rest_of_line : (fuel : ℕ) (script : Script) (journal : List Entry) (line : Line) (course : Course) → StandsAt script journal line course
    → IsInOrder script journal
    → ahead script journal course < fuel → RestOfLine script journal course.line
rest_of_line zero script journal line course at order lt = absurd (omega (arith, lt))
rest_of_line (suc fuel) script journal line course at order lt =
    rest_by script journal line course at order
    (λ longer next stands grown falls. rest_of_line fuel script longer line next stands grown (omega (arith, falls, lt)))

rest_after : (script : Script) (journal : List Entry) (past : ℕ) → IsPast script journal past → IsInOrder script journal
    → (o : Option Line) → slice_get script.lines past ≡ o
    → ((longer : List Entry) → IsPast script longer (past + 1) → IsInOrder script longer → BeginsSequence script longer)
    → BeginsSequence script journal
rest_after script journal past at order None none again = record {
  more = [];
  sequence = subst (IsSequence script) (sym (append-nil journal)) (record {
    in_order = order;
    ended = all_past script journal past at (slice_get-none script.lines past none);
  });
}
rest_after script journal past at order (Some line) here again =
    let course : Course = start (past + 1) line.content in
    let first = rest_of_line (suc (ahead script journal course)) script journal line course (begins script journal past line at here) order (omega arith) in
    let rest = again (journal ++ first.more) first.is first.order in
    record {
      more = first.more ++ rest.more;
      sequence = subst (IsSequence script) (append_assoc journal first.more rest.more) rest.sequence;
    }

rest_of_lines : (left : ℕ) (script : Script) (journal : List Entry) (past : ℕ) → IsPast script journal past → IsInOrder script journal
    → length script.lines ≤ past + left → BeginsSequence script journal
rest_of_lines zero script journal past at order all = record {
  more = [];
  sequence = subst (IsSequence script) (sym (append-nil journal)) (record {
    in_order = order;
    ended = all_past script journal past at (omega (arith, all));
  });
}
rest_of_lines (suc left) script journal past at order all =
    rest_after script journal past at order (slice_get script.lines past) refl
    (λ longer is grown. rest_of_lines left script longer (past + 1) is grown (omega (arith, all)))

-- Whatever lines have run whole and in order, the rest of the script can.
pub begins_sequence : (script : Script) (journal : List Entry) (past : ℕ) → IsPast script journal past → IsInOrder script journal
    → BeginsSequence script journal
begins_sequence script journal past at order =
    rest_of_lines (length script.lines) script journal past at order (omega arith)
