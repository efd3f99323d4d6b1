-- A step of a lane, and what it makes.
use Rattle.std.proofs.Common.{◌≡◌, ℕ, zero, suc, ◌+◌, ◌*◌, ◌<◌, ◌≤◌, List, [], ◌∷◌, ◌++◌, get_or, length, replicate, set, Option, Some, None, is_some, Bool, true}
use Rattle.std.proofs.Common.{false, MatchOption, refl, sym, ap, ◌∙◌, subst, inl, inr, arith}
use Rattle.std.specs.List.{count_by, flat_map, range_with_len, sum_by}
use Rattle.std.specs.Option.{IfSome, option_map, option_and_then}
use Rattle.std.proofs.lemmas.List.{length-replicate, length-set, length_push}
use Rattle.std.proofs.lemmas.List.Sums.{sum_by-cons, sum_by-set}
use Rattle.std.proofs.lemmas.Option.{get_or_from_slice_get, slice_get_within}
use Rattle.cred_ids.specs.Limits.{LAST_LANE, LINE_LIMIT}
use Rattle.cred_record.specs.Credential.{Credential}
use Rattle.cred_event.specs.declared.event.Event.{Event}
use Rattle.cred_event.specs.declared.entry.Entry.{Entry}
use Rattle.cred_model.specs.FileChanges.{FixesFiles}
use Rattle.cred_model.specs.Script.{Script, Line, SetupFirst}
use Rattle.cred_model.specs.Course as model
use Rattle.cred_model.specs.Course.{Course, Leads, event_at, start}
use Rattle.cred_model.specs.Journal.{SoFar, entry_of, next, replay}
use Rattle.cred_script.specs.Lines.{line_at}
use Rattle.cred_script.specs.Lanes.{lanes}
use Rattle.cred_course.specs.Cursor.{IsLaneCursor, IsOfLine, MovesOnTo, left_at}
use Rattle.cred_course.specs.LaneCursors.{AreCursors, AreOver, IsLeast, cursor_of, due_of}
use Rattle.cred_course.proofs.AllLanes.{cursor_at}
use Rattle.cred_course.proofs.Courses.{few_left, few_wait_at, line_is, of_line}
use Rattle.cred_course.proofs.Lanes.{SoFar-push, due_here, lane_goes_on, lane_makes_due, lane_of_course, lane_of_line}
use Rattle.cred_course.proofs.Least.{least_due, least_is_due, none_due}
use Rattle.cred_course.proofs.Turns.{due_is, lanes_go_on, next_none, next_some, stands_at}
use Rattle.cred_hold.specs.Tokens as token
use Rattle.cred_tables.specs.Kept.{SharedWords}
use Rattle.cred_tables.specs.Out.{needs_tokens}
use Rattle.cred_course.proofs.StagesLeft.{stage_is}
use Rattle.cred_book.specs.Book.{Recorded, out_of}
use Rattle.cred_book.specs.Counts.{AreEnded, Counts, HasEntered, IsSameOrNext, count_of, ended_of, lines_in}
use Rattle.cred_book.specs.Cursor.{MOST_STEPS, NoLineIsLeft, IsLeastLane, steps_left, BookStands, Makes}
use Rattle.cred_course.specs.Waiting.{waiting}
use Rattle.cred_book.specs.Cursor.{has_left}
use Rattle.cred_book.specs.Works.{AreNamedApart, IsOutOf, lane_tokens}
use Rattle.cred_book.specs.declared.step.Step.TheVariants as step
use Rattle.cred_book.specs.declared.step.Step.TheVariants.{More}
use Rattle.cred_book.proofs.Counts.{entered_other, entered_own, lines_few}
use Rattle.cred_book.proofs.Decided.{decided_other, decided_own}
use Rattle.cred_book.proofs.Left.{all_grow, all_have_ended, lane_in, one_left, others_stay, own_grows, set_up_stays}
use Rattle.cred_book.proofs.LentTokens.{lane_tokens_none}
use Rattle.cred_course.proofs.Measure.{step_falls}
use Rattle.cred_book.proofs.Works.{GoesOn, IsNowOut, after, grown, lent_stays, out_in, where_some, works_stay}

-- ---- a step

-- one event more of the lane was entered, which was so many works', and its cursor went on
pub record Moves (before after : Recorded) (lane works : ℕ) : Type 0 where
  pub script : after.script ≡ before.script
  pub stands : BookStands after
  pub entry : Entry
  pub next : next before.script before.journal lane ≡ Some entry
  pub entered : after.journal ≡ before.journal ++ entry ∷ []
  pub falls : steps_left after < steps_left before
  pub counts : HasEntered before after lane works

-- the sum over the cursors, where one moves on
sum_moved : (f : Option Course → ℕ) (cursors : List (Option Course)) (lane : ℕ) (course : Course) (to : Option Course)
    → cursor_of cursors lane ≡ Some course
    → sum_by f (set cursors lane to) + f (Some course) ≡ sum_by f cursors + f to
sum_moved f cursors lane course to is =
    let at = cursor_at cursors lane course is in
    ap (λ c. sum_by f (set cursors lane to) + f c) (sym (get_or_from_slice_get cursors lane (Some course) None at))
    ∙ sum_by-set f cursors lane to None (slice_get_within cursors lane (Some course) at)

-- the event that is due has an entry, and fewer steps are left after it
pub entry_falls : (script : Script) (journal : List Entry) (cursors : List (Option Course)) (lane : ℕ) (course : Course) (event : Event) (to : Option Course)
    → AreCursors script journal cursors → due_of cursors lane ≡ Some course
    → option_and_then (λ (line : Line). event_at line.content course) (line_at script course.line) ≡ Some event
    → let entry = entry_of script journal (record { line = course.line; event = event }) in
    IfSome (line_at script course.line) (λ line. MovesOnTo script lane (model.after line.content course entry.answer) to)
    → sum_by (left_at script) (set cursors lane to) + waiting (replay script (journal ++ entry ∷ []))
    < sum_by (left_at script) cursors + waiting (replay script journal)
entry_falls script journal cursors lane course event to at due has passes =
    let stands = stands_at script journal cursors lane course at due in
    let line = stands.0.line in
    let here = line_is script journal course stands.0 in
    let entry : Entry = entry_of script journal (record { line = course.line; event = event }) in
    let own : Leads line.content course
    = subst (λ (o : Option Line). IfSome o (λ l. Leads l.content course)) here (of_line script journal course stands.0) in
    let moved_on = subst (λ (o : Option Line). IfSome o (λ l. MovesOnTo script lane (model.after l.content course entry.answer) to)) here passes in
    let most : left_at script to ≤ left_at script (Some (model.after line.content course entry.answer)) = moved_on.falls in
    let stage = stage_is course stands.1 in
    let fell = step_falls script journal course stage.stage line event stage.is here own (due_here script journal course event stands.0 has) in
    let moved = sum_moved (left_at script) cursors lane course to (due_is cursors lane course due).1 in
    omega (arith, most, fell, moved)

-- so there are no more entries than there may be
few_more : (journal : List Entry) (entry : Entry) (before after : ℕ) → length journal + before ≤ MOST_STEPS → after < before
    → length (journal ++ entry ∷ []) + after ≤ MOST_STEPS
few_more journal entry before after most fell = omega (arith, most, fell, length_push journal entry)

same_or_next : (was is : ℕ) (b : Bool) → is ≡ was + count_of b → IsSameOrNext was is
same_or_next was is true more = inr more
same_or_next was is false same = inl (omega (arith, same))

-- the numbers after it
entry_counts : {book : Recorded} {lane : ℕ} {course : Course} {event : Event} {to : Option Course} (goes : GoesOn book lane course event to)
    (outs : List (Option ℕ)) (words : SharedWords) (places : List (Option Credential)) → IsNowOut book.outs outs lane None
    → IsLaneCursor book.script (grown book lane course event to) lane to
    → AreCursors book.script (grown book lane course event to) (set book.cursors lane to)
    → HasEntered book (after book lane course event to outs words places) lane (count_of (needs_tokens (replay book.script book.journal) event))
entry_counts {book = book} {lane = lane} {course = course} {event = event} {to = to} goes outs words places out own now =
    let entry : Entry = entry_of book.script book.journal (record { line = course.line; event = event }) in
    let at = stands_at book.script book.journal book.cursors lane course goes.stands.cursors goes.due in
    let of = lane_of_course book.script book.journal lane course at in
    record {
      left = one_left book.script book.journal lane course at;
      own = entered_own book.script book.journal entry lane of;
      own_decided = decided_own book.script book.journal entry lane of;
      own_ended = same_or_next _ _ (has_left to course.line)
          (own_grows book.script book.journal lane course entry to at refl own);
      entered = λ other differ. entered_other book.script book.journal entry lane other of differ;
      decided = λ other differ. decided_other book.script book.journal entry lane other of differ;
      ended = λ other differ. others_stay book.script book.journal lane other course entry at refl differ;
      set_up = set_up_stays book.script book.journal (book.journal ++ entry ∷ []) book.cursors lane course to goes.stands.cursors goes.due now;
      outs = record { own = out.own; others = out.others };
    }

-- the lane has a place among those whose works may be out
pub lane_has_out : (book : Recorded) (lane : ℕ) (course : Course) → BookStands book → due_of book.cursors lane ≡ Some course → lane < length book.outs
lane_has_out book lane course stands due =
    let within = lane_in book.script book.journal lane course (stands_at book.script book.journal book.cursors lane course stands.cursors due) in
    omega (arith, within, stands.outs)

pub moves : {book : Recorded} {lane : ℕ} {course : Course} {event : Event} {to : Option Course} (goes : GoesOn book lane course event to)
    (outs : List (Option ℕ)) (words : SharedWords) (places : List (Option Credential)) → IsNowOut book.outs outs lane None
    → ((test : token.Loan → Bool) → count_by test book.words.out ≡ count_by test (lane_tokens book lane) + count_by test words.out)
    → Moves book (after book lane course event to outs words places) lane (count_of (needs_tokens (replay book.script book.journal) event))
moves {book = book} {lane = lane} {course = course} {event = event} {to = to} goes outs words places out back =
    let script = book.script in
    let stands = goes.stands in
    let entry : Entry = entry_of script book.journal (record { line = course.line; event = event }) in
    let at = stands_at script book.journal book.cursors lane course stands.cursors goes.due in
    let comes = next_some script book.journal book.cursors lane course event stands.cursors goes.due goes.has in
    let now = lanes_go_on script book.journal book.cursors lane course entry to stands.cursors goes.due refl goes.passes in
    let own = lane_goes_on script book.journal lane course entry to at refl goes.passes in
    let within = lane_in script book.journal lane course at in
    let fell = entry_falls script book.journal book.cursors lane course event to stands.cursors goes.due goes.has goes.passes in
    record {
      script = refl;
      stands = record {
        so_far = SoFar-push script book.journal lane entry stands.so_far (lane_of_course script book.journal lane course at) comes;
        cursors = now;
        ended = all_grow script book.journal book.ended lane course entry to at refl own stands.ended (omega (arith, within, stands.places));
        places = length-set book.ended lane (get_or book.ended lane 0 + count_of (has_left to course.line)) ∙ stands.places;
        few = stands.few;
        most = few_more book.journal entry _ _ stands.most fell;
        setup = stands.setup;
        fixed = stands.fixed;
        named = stands.named;
        outs = out.long ∙ stands.outs;
        works = works_stay goes outs words places out;
        lent = lent_stays goes outs words places out (lane_has_out book lane course stands goes.due) back;
      };
      entry = entry;
      next = comes;
      entered = refl;
      falls = fell;
      counts = entry_counts goes outs words places out own now;
    }

none_out : (outs : List (Option ℕ)) (n lane : ℕ) → outs ≡ replicate n None → out_in outs lane ≡ None
none_out outs n lane is = ap (λ (os : List (Option ℕ)). out_in os lane) is ∙ by n lane
  where
    by : (n lane : ℕ) → out_in (replicate n None) lane ≡ None
    by zero lane = refl
    by (suc n) zero = refl
    by (suc n) (suc lane) = by n lane

-- where nothing has run no work is out
pub no_work : (book : Recorded) (n lane : ℕ) → book.outs ≡ replicate n None → out_of book lane ≡ None
no_work book n lane is = none_out book.outs n lane is

no_tokens : (book : Recorded) (lanes : List ℕ) → ((lane : ℕ) → out_of book lane ≡ None) → flat_map (λ lane. lane_tokens book lane) lanes ≡ []
no_tokens book [] none = refl
no_tokens book (lane ∷ lanes) none =
    ap (λ es. es ++ flat_map (λ lane. lane_tokens book lane) lanes) (lane_tokens_none book lane (none lane)) ∙ no_tokens book lanes none

-- what is so of a book of which nothing has run
pub record IsNew (book : Recorded) : Type 0 where
  pub journal : book.journal ≡ []
  pub cursors : AreCursors book.script [] book.cursors
  pub ended : AreEnded book.script [] book.ended
  pub places : length book.ended ≡ lanes book.script.lines + 1
  pub few : length book.script.lines ≤ LINE_LIMIT
  pub last : lanes book.script.lines ≤ LAST_LANE
  pub setup : SetupFirst book.script
  pub fixed : FixesFiles book.script
  pub named : AreNamedApart book.script.lines
  pub outs : book.outs ≡ replicate (lanes book.script.lines + 1) None
  pub lent : book.words.out ≡ []

-- ---- the first steps

-- no more are left of a lane than its lines may have
few_of_lane : (script : Script) (lane : ℕ) (cursor : Option Course) → length script.lines ≤ LINE_LIMIT → IsLaneCursor script [] lane cursor
    → left_at script cursor ≤ 3040000
few_of_lane script lane None few at = omega arith
few_of_lane script lane (Some course) few at =
    let first : course ≡ start (at.0.place + 1) at.0.line.content = at.0.stands in
    let number = at.0.number in
    let left : model.left course ≤ 86 = subst (λ c. model.left c ≤ 86) (sym first) (few_left at.0.line.content (at.0.place + 1)) in
    let wait = few_wait_at script course in
    omega (arith, few, number, left, wait)

-- nor of all of them, where none stands past these
few_of_lanes : (script : Script) (cursors : List (Option Course)) (n : ℕ)
    → ((lane : ℕ) → left_at script (cursor_of cursors lane) ≤ 3040000) → ((lane : ℕ) → n ≤ lane → cursor_of cursors lane ≡ None)
    → sum_by (left_at script) cursors ≤ 3040000 * n
few_of_lanes script [] n each none = omega arith
few_of_lanes script (cursor ∷ cursors) zero each none =
    let here : left_at script cursor ≡ 0 = ap (left_at script) (none 0 (omega arith)) in
    let rest = few_of_lanes script cursors zero (λ lane. each (suc lane)) (λ lane past. none (suc lane) (omega arith)) in
    omega (arith, here, rest, sum_by-cons (left_at script) cursor cursors)
few_of_lanes script (cursor ∷ cursors) (suc n) each none =
    let here : left_at script cursor ≤ 3040000 = each 0 in
    let rest = few_of_lanes script cursors n (λ lane. each (suc lane)) (λ lane past. none (suc lane) (omega (arith, past))) in
    omega (arith, here, rest, sum_by-cons (left_at script) cursor cursors)

-- no cursor stands past the last lane
none_past : (script : Script) (cursors : List (Option Course)) (lane : ℕ) → AreCursors script [] cursors → lanes script.lines < lane
    → cursor_of cursors lane ≡ None
none_past script cursors lane at past = by (cursor_of cursors lane) (at lane)
  where
    by : (o : Option Course) → IsLaneCursor script [] lane o → o ≡ None
    by None is = refl
    by (Some course) is = let within = lane_in script [] lane course is in absurd (omega (arith, within, past))

few_first : (script : Script) (cursors : List (Option Course)) → length script.lines ≤ LINE_LIMIT → lanes script.lines ≤ LAST_LANE
    → AreCursors script [] cursors → length {A = Entry} [] + (sum_by (left_at script) cursors + waiting (replay script [])) ≤ MOST_STEPS
few_first script cursors few last at =
    let all = few_of_lanes script cursors 17 (λ lane. few_of_lane script lane (cursor_of cursors lane) few (at lane))
    (λ lane past. none_past script cursors lane at (omega (arith, last, past))) in
    omega (arith, all)

pub nothing_run : (book : Recorded) → IsNew book → BookStands book
nothing_run book is =
    let none : (lane : ℕ) → out_of book lane ≡ None = λ lane. no_work book (lanes book.script.lines + 1) lane is.outs in
    record {
      so_far = subst (SoFar book.script) (sym is.journal) (λ k lt. absurd (omega (arith, lt)));
      cursors = subst (λ (j : List Entry). AreCursors book.script j book.cursors) (sym is.journal) is.cursors;
      ended = subst (λ (j : List Entry). AreEnded book.script j book.ended) (sym is.journal) is.ended;
      places = is.places;
      few = is.few;
      most = subst (λ (j : List Entry). length j + (sum_by (left_at book.script) book.cursors + waiting (replay book.script j)) ≤ MOST_STEPS) (sym is.journal)
          (few_first book.script book.cursors is.few is.last is.cursors);
      setup = is.setup;
      fixed = is.fixed;
      named = is.named;
      outs = ap length is.outs ∙ length-replicate (lanes book.script.lines + 1) None;
      works = λ lane. where_some (IsOutOf book lane) (out_of book lane) (λ line out. let both : Some line ≡ None = sym out ∙ none lane in absurd (cc));
      lent = λ test. ap (count_by test) (is.lent ∙ sym (no_tokens book (range_with_len 0 (length book.outs)) none));
    }

-- ---- where a lane stands

-- the course that was found due, in the book as it is seen
pub due_found : (inside book : Recorded) (lane : ℕ) (found is : Option Course) → inside ≡ book → found ≡ due_of inside.cursors lane → found ≡ is
    → due_of book.cursors lane ≡ is
due_found inside book lane found is view due same = ap (λ (b : Recorded). due_of b.cursors lane) (sym view) ∙ sym due ∙ same

-- the course that is due makes an event
pub due_makes : (book : Recorded) (lane : ℕ) (course : Course) → BookStands book → due_of book.cursors lane ≡ Some course
    → is_some (option_and_then (λ (line : Line). event_at line.content course) (line_at book.script course.line)) ≡ true
due_makes book lane course stands due =
    lane_makes_due book.script book.journal lane course (stands_at book.script book.journal book.cursors lane course stands.cursors due)

pub due_of_line : (book : Recorded) (lane : ℕ) (course : Course) → BookStands book → due_of book.cursors lane ≡ Some course
    → IsOfLine book.script course
due_of_line book lane course stands due =
    lane_of_line book.script book.journal lane course (stands_at book.script book.journal book.cursors lane course stands.cursors due)

pub due_goes_on : (book : Recorded) (lane : ℕ) (course : Course) → BookStands book → due_of book.cursors lane ≡ Some course
    → is_some course.stage ≡ true
due_goes_on book lane course stands due = (stands_at book.script book.journal book.cursors lane course stands.cursors due).1

-- the lane has a number, and another line may be counted
pub due_counts : (book : Recorded) (lane : ℕ) (course : Course) → BookStands book → due_of book.cursors lane ≡ Some course
    → (lane < length book.ended) × (get_or book.ended lane 0 < LINE_LIMIT)
due_counts book lane course stands due =
    let at = stands_at book.script book.journal book.cursors lane course stands.cursors due in
    let within = lane_in book.script book.journal lane course at in
    let fewer = one_left book.script book.journal lane course at in
    let most = lines_few lane book.script.lines in
    let is = stands.ended lane in
    (omega (arith, within, stands.places), omega (arith, fewer, most, is, stands.few))

-- one of its lines has not ended
pub due_left : (book : Recorded) (lane : ℕ) (course : Course) → BookStands book → due_of book.cursors lane ≡ Some course
    → ended_of book.script book.journal lane < lines_in book.script lane
due_left book lane course stands due =
    one_left book.script book.journal lane course (stands_at book.script book.journal book.cursors lane course stands.cursors due)

-- ---- what a step makes

-- an entry that waited for no decision
pub makes_more : (before after : Recorded) (lane : ℕ) (next : Option Entry) (entry : Entry) → next ≡ Some entry
    → needs_tokens (replay before.script before.journal) entry.event ≡ false → after.journal ≡ before.journal ++ entry ∷ []
    → after.outs ≡ before.outs → after.words ≡ before.words → Makes before after lane next More
makes_more before after lane next entry is free grown outs words = rw is (free, grown, outs, words)

pub makes_ended : (before after : Recorded) (lane : ℕ) (next : Option Entry) → next ≡ None → after ≡ before
    → Makes before after lane next step.Ended
makes_ended before after lane next is same = rw is same

pub none_made : (book : Recorded) (lane : ℕ) → BookStands book → due_of book.cursors lane ≡ None
    → Makes book book lane (next book.script book.journal lane) step.Ended
none_made book lane stands none =
    makes_ended book book lane (next book.script book.journal lane) (next_none book.script book.journal book.cursors lane stands.cursors none) refl

pub none_counted : (book : Recorded) (lane : ℕ) → BookStands book → due_of book.cursors lane ≡ None → Counts book book lane step.Ended
none_counted book lane stands none set_up =
    all_have_ended book.script book.journal book.cursors lane stands.cursors none set_up

-- ---- the lane that is the least

pub has_ended : (book : Recorded) → BookStands book → AreOver book.cursors → NoLineIsLeft book
has_ended book stands over =
    ap (option_map (entry_of book.script book.journal)) (none_due book.script book.journal book.cursors stands.cursors over)

pub least_lane : (book : Recorded) (lane : ℕ) → BookStands book → IsLeast book.cursors lane → IsLeastLane book lane
least_lane book lane stands is =
    by (option_and_then (λ (line : Line). event_at line.content is.course) (line_at book.script is.course.line)) refl (due_makes book lane is.course stands due)
  where
    due : due_of book.cursors lane ≡ Some is.course
    due = least_is_due book.script book.journal book.cursors lane stands.setup stands.cursors is

    by : (has : Option Event) → option_and_then (λ (line : Line). event_at line.content is.course) (line_at book.script is.course.line) ≡ has
        → is_some has ≡ true → IsLeastLane book lane
    by None at some = cc
    by (Some event) at some = record {
      entry = entry_of book.script book.journal (record { line = is.course.line; event = event });
      first = ap (option_map (entry_of book.script book.journal)) (least_due book.script book.journal book.cursors lane event stands.cursors is at);
      of = lane_of_course book.script book.journal lane is.course (stands_at book.script book.journal book.cursors lane is.course stands.cursors due);
      next = next_some book.script book.journal book.cursors lane is.course event stands.cursors due at;
    }

pub least_by : (book : Recorded) (found : Option ℕ) → BookStands book
    → MatchOption found (AreOver book.cursors) (IsLeast book.cursors) → MatchOption found (NoLineIsLeft book) (IsLeastLane book)
least_by book None stands over = has_ended book stands over
least_by book (Some lane) stands is = least_lane book lane stands is
