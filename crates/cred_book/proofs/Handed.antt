-- A lane's work goes out, and comes back decided.
use Rattle.std.proofs.Common.{◌≡◌, ◌≢◌, ℕ, ◌+◌, ◌<◌, Bool, true, false, List, [], ◌∷◌, ◌++◌, set, Option, Some, None, refl, sym, ap, ◌∙◌, subst, arith}
use Rattle.std.specs.List.{count_by}
use Rattle.std.specs.Option.{IfSome, option_and_then, option_map_or}
use Rattle.cred_event.specs.declared.content.Stage.{Stage}
use Rattle.cred_event.specs.declared.event.Event.{Event}
use Rattle.cred_event.specs.declared.event.Event.TheVariants.{Ask, Signal, Alter, OpenFile}
use Rattle.cred_event.specs.declared.event.Change.TheVariants.{Exec}
use Rattle.cred_event.specs.declared.entry.Entry as logged
use Rattle.cred_record.specs.Credential.{Credential}
use Rattle.cred_model.specs.Script.{Script, Line, chain_of}
use Rattle.cred_model.specs.State.{State, Numbered, Prepared, info_of, numbered, prepared_of}
use Rattle.cred_model.specs.Like.{IsLike}
use Rattle.cred_model.specs.Course as model
use Rattle.cred_model.specs.Course.{Course, event_at, event_in}
use Rattle.cred_model.specs.Journal.{entry_of, next, replay}
use Rattle.cred_model.specs.Named.{event_files}
use Rattle.cred_script.specs.Lines.{line_at}
use Rattle.cred_course.specs.Cursor.{MovesOnTo}
use Rattle.cred_course.specs.LaneCursors.{due_of}
use Rattle.cred_course.proofs.Turns.{next_some}
use Rattle.cred_sound.proofs.Sound.{sound_after}
use Rattle.cred_words.specs.Lists.{Has}
use Rattle.cred_hold.specs.Tokens.{Loan, loan}
use Rattle.cred_work.specs.Decisions.{AreOf, work_event as its_event}
use Rattle.cred_work.specs.declared.pending.Pending.{Pending}
use Rattle.cred_work.specs.declared.pending.Pending.TheVariants.{Altering}
use Rattle.cred_work.specs.Work.{Work}
use Rattle.cred_work.specs.DecidedWorks.{IsUndecided}
use Rattle.cred_tables.specs.Kept.{SharedWords}
use Rattle.cred_tables.specs.Out.{AreBack, AreOut, tokens_in, needs_tokens}
use Rattle.cred_tables.proofs.TokensOfLabels.{tokens_like}
use Rattle.cred_state.specs.TokensOut.{IsChain, IsNs, loans_of, needs_decision}
use Rattle.cred_book.specs.Book.{Recorded, answer_of, inodes_in, out_of, with_event}
use Rattle.cred_book.specs.Counts.{Counts, HasEntered, count_of}
use Rattle.cred_book.specs.Cursor.{Finishes, Makes, BookStands, steps_left, moved_on}
use Rattle.cred_book.specs.Works.{IsChainFor, IsEntered, IsOfLane, IsOutOf, MayMake, lane_tokens, with_work}
use Rattle.cred_book.specs.declared.step.Step.TheVariants as step
use Rattle.cred_book.proofs.LabelsDiffer.{IsNext}
use Rattle.cred_book.proofs.Cursors.{Moves, due_left, lane_has_out, makes_more, moves}
use Rattle.cred_book.proofs.Files.{files_stay}
use Rattle.cred_book.proofs.Finished.{all_taken, event_is, tokens_back}
use Rattle.cred_book.proofs.Joined.{count-append}
use Rattle.cred_book.proofs.LentTokens.{lane_tokens_are, lane_tokens_none, work_next, work_of}
use Rattle.cred_book.proofs.NextEvents.{MakesNext, event_of, next_course, next_is}
use Rattle.cred_book.proofs.Works.{GoesOn, IsNowOut, after, lends, lends_now, out_same, out_set}

-- ---- out

lent_chain : (script : Script) (s t : State) (like : IsLike s t) (ns : ℕ) (lent : Pending) → IsNs s (its_event lent) ns
    → loans_of lent ≡ tokens_in t (its_event lent) → IsChain script lent (chain_of script ns)
lent_chain script s t like ns (Altering base writer (Exec file) made) is tokens =
    by (prepared_of s base.label) is (tokens ∙ sym (tokens_like s t like (Alter base.label (Exec file))))
  where
    of_base : (p : Prepared) (o : Option Numbered) → IfSome o (λ (found : Numbered). ns ≡ found.cred.ns)
        → loan writer.label writer.slot None ∷ loan base.label base.slot (Some base.cred) ∷ []
        ≡ option_map_or (λ (found : Numbered). loan base.label p.slot None ∷ loan base.label found.slot (Some found.cred) ∷ []) o []
        → chain_of script ns ≡ chain_of script base.cred.ns
    of_base p None is tokens = cc
    of_base p (Some found) is tokens =
        let second : loan base.label base.slot (Some base.cred) ≡ loan base.label found.slot (Some found.cred) = cc in
        let creds : Some base.cred ≡ Some found.cred = ap (λ (e : Loan). e.held) second in
        let same : base.cred ≡ found.cred = cc in
        ap (chain_of script) (is ∙ ap (λ (c : Credential). c.ns) (sym same))

    by : (o : Option Prepared) → IfSome o (λ (p : Prepared). IfSome (numbered s.creds p.base) (λ (found : Numbered). ns ≡ found.cred.ns))
        → loan writer.label writer.slot None ∷ loan base.label base.slot (Some base.cred) ∷ []
        ≡ option_map_or (λ (p : Prepared). option_map_or (λ (found : Numbered). loan base.label p.slot None ∷ loan base.label found.slot (Some found.cred) ∷ [])
        (numbered s.creds p.base) []) o []
        → chain_of script ns ≡ chain_of script base.cred.ns
    by None is tokens = cc
    by (Some p) is tokens = of_base p (numbered s.creds p.base) is tokens
lent_chain script s t like ns lent is tokens = tt

-- the namespace that a state decides an event by has the root ids of what is lent for it
pub ns_chain : (script : Script) (s t : State) (like : IsLike s t) (event : Event) (ns : ℕ) → IsNs s event ns
    → (lent : Pending) → its_event lent ≡ event → loans_of lent ≡ tokens_in t event → IsChain script lent (chain_of script ns)
ns_chain script s t like event ns is lent named tokens =
    lent_chain script s t like ns lent (subst (λ e. IsNs s e ns) (sym named) is) (tokens ∙ ap (tokens_in t) (sym named))

pub some_each : {A : Type 0} (P Q : A → Type 0) (o : Option A) → ((x : A) → P x → Q x) → IfSome o P → IfSome o Q
some_each P Q None each has = tt
some_each P Q (Some x) each has = each x has

-- the event of a course is one that its line may make
pub may_make : (script : Script) (course : Course) (event : Event) → event_of script course ≡ Some event → MayMake script course.line event
may_make script course event has = by (line_at script course.line) has
  where
    of : (line : Line) (o : Option Stage) → option_and_then (event_in course.line line.content) o ≡ Some event
        → (stage : Stage) × (event_in course.line line.content stage ≡ Some event)
    of line None has = cc
    of line (Some stage) has = (stage, has)

    by : (o : Option Line) → option_and_then (λ (line : Line). event_at line.content course) o ≡ Some event
        → IfSome o (λ line. (stage : Stage) × (event_in course.line line.content stage ≡ Some event))
    by None has = tt
    by (Some line) has = of line course.stage has

-- an event of another kind never waits
pub never_waits : (s : State) (event : Event) → needs_decision event ≡ false → needs_tokens s event ≡ false
never_waits s (Ask label query) other = cc
never_waits s (OpenFile hold file want fd) other = cc
never_waits s (Signal from hold to target) other = cc
never_waits s (Alter label change) other = cc
never_waits s event other = refl

-- the work of the lane's next event, before it is decided
pub record IsDueWork (book : Recorded) (lane : ℕ) (course : Course) (work : Work) : Type 0 where
  pub due : due_of book.cursors lane ≡ Some course
  pub has : event_of book.script course ≡ Some (its_event work.lent)
  pub line : course.line ≡ work.line
  pub undecided : IsUndecided work
  pub waits : needs_tokens (replay book.script book.journal) (its_event work.lent) ≡ true
  pub own : AreOf book.words.id work.lent
  pub tokens : loans_of work.lent ≡ tokens_in (replay book.script book.journal) (its_event work.lent)
  pub file : work.file ≡ info_of (inodes_in book) (event_files (its_event work.lent))
  pub chain : IsChainFor book (its_event work.lent) work.chain

pub record HandsOut (before after : Recorded) (lane : ℕ) (work : Work) : Type 0 where
  pub stands : BookStands after
  pub made : Makes before after lane (next before.script before.journal lane) (step.Work work)
  pub counts : Counts before after lane (step.Work work)

makes_work : (before after : Recorded) (lane : ℕ) (comes : Option logged.Entry) (made : logged.Entry) (work : Work) → comes ≡ Some made
    → needs_tokens (replay before.script before.journal) made.event ≡ true → work.line ≡ made.line → its_event work.lent ≡ made.event → IsUndecided work
    → IsOfLane after lane work → after ≡ with_work before lane work → Makes before after lane comes (step.Work work)
makes_work before after lane comes made work is waits line event undecided lanes same = rw is (waits, line, event, undecided, lanes, same)

pub hands_out : (book : Recorded) (lane : ℕ) (course : Course) (work : Work) → BookStands book → out_of book lane ≡ None → IsDueWork book lane course work
    → HandsOut book (with_work book lane work) lane work
hands_out book lane course work stands home is =
    let within = lane_has_out book lane course stands is.due in
    let comes = next_some book.script book.journal book.cursors lane course (its_event work.lent) stands.cursors is.due is.has in
    let due = subst (λ n. IsNext book.script book.journal lane (record { line = n; event = (its_event work.lent) })) is.line
    (next_is book.script book.journal book.cursors lane course (its_event work.lent) stands.cursors is.due is.has) in
    let now = out_set book.outs lane (Some work.line) within in
    record {
      stands = lends book lane work.line (its_event work.lent) work.lent stands home due is.waits is.tokens within;
      made = makes_work book (with_work book lane work) lane (next book.script book.journal lane)
          (entry_of book.script book.journal (record { line = course.line; event = (its_event work.lent) })) work comes is.waits (sym is.line) refl is.undecided
          (record {
            of = record {
              own = is.own;
              made = subst (λ n. MayMake book.script n (its_event work.lent)) is.line (may_make book.script course (its_event work.lent) is.has);
              file = is.file;
              chain = is.chain work.lent refl is.tokens;
            };
            out = now.own;
          })
          refl;
      counts = (
        due_left book lane course stands is.due,
        refl,
        lends_now book lane work.line (its_event work.lent) work.lent stands home due is.waits is.tokens within,
      );
    }

-- ---- entered at once

-- the event that was made of a course, in the book as it is seen
pub made_event : (inside book : Recorded) (course : Course) (event : Event) (found : Option Event) → inside ≡ book → found ≡ event_of inside.script course
    → found ≡ Some event → event_of book.script course ≡ Some event
made_event inside book course event found view made some = ap (λ (b : Recorded). event_of b.script course) (sym view) ∙ sym made ∙ some

pub record EntersMore (before after : Recorded) (lane : ℕ) : Type 0 where
  pub script : after.script ≡ before.script
  pub words : after.words ≡ before.words
  pub stands : BookStands after
  pub made : Makes before after lane (next before.script before.journal lane) step.More
  pub falls : steps_left after < steps_left before
  pub counts : HasEntered before after lane 0
  pub files : lane ≢ 0 → inodes_in after ≡ inodes_in before

-- the book after an entry, where this stands in its slots
abbrev pub put_in : Recorded → ℕ → Event → List (Option Credential) → Recorded
put_in book line event places = record (with_event book line event) { places = places }

-- an event that waits for no decision
pub enters_more : {book : Recorded} {lane : ℕ} {course : Course} {event : Event} {to : Option Course} (goes : GoesOn book lane course event to)
    (places : List (Option Credential)) → out_of book lane ≡ None → needs_tokens (replay book.script book.journal) event ≡ false
    → EntersMore book (moved_on (put_in book course.line event places) lane course.line to) lane
enters_more {book = book} {lane = lane} {course = course} {event = event} {to = to} goes places home free =
    let none : (test : Loan → Bool) → count_by test book.words.out ≡ count_by test (lane_tokens book lane) + count_by test book.words.out
    = λ test. let own : count_by test (lane_tokens book lane) ≡ 0 = ap (count_by test) (lane_tokens_none book lane home) in omega (arith, own) in
    let m = moves goes book.outs book.words places (out_same book.outs lane None home) none in
    record {
      script = refl;
      words = refl;
      stands = m.stands;
      made = makes_more book (moved_on (put_in book course.line event places) lane course.line to) lane (next book.script book.journal lane)
          (entry_of book.script book.journal (record { line = course.line; event = event }))
          (next_some book.script book.journal book.cursors lane course event goes.stands.cursors goes.due goes.has) free refl refl refl;
      falls = m.falls;
      counts = subst (λ b. HasEntered book (moved_on (put_in book course.line event places) lane course.line to) lane (count_of b)) free m.counts;
      files = files_stay goes;
    }

-- ---- back

-- the lane's cursor stands on the work's line
pub work_course : (book : Recorded) (lane : ℕ) (work : Work) → BookStands book → IsOfLane book lane work
    → (out : IsOutOf book lane work.line) × MakesNext book.script book.cursors lane (record { line = work.line; event = out.event })
work_course book lane work stands is =
    let out = work_of book lane work.line stands is.out in (
      out,
      next_course book.script book.journal book.cursors lane (record { line = work.line; event = out.event }) stands.cursors
          (work_next book lane work.line out),
    )

pub course_is : (book : Recorded) (lane : ℕ) (work : Work) (course : Course) → BookStands book → IsOfLane book lane work
    → due_of book.cursors lane ≡ Some course
    → course.line ≡ work.line
course_is book lane work course stands is due =
    let at = (work_course book lane work stands is).1 in
    let both : Some at.course ≡ Some course = sym at.is ∙ due in
    let same : at.course ≡ course = cc in
    ap (λ (c : Course). c.line) (sym same) ∙ at.line

pub record ComesBack (before after : Recorded) (lane : ℕ) (work : Work) : Type 0 where
  pub script : after.script ≡ before.script
  pub cells : after.words.id ≡ before.words.id
  pub stands : BookStands after
  pub made : Finishes before after lane work (next before.script before.journal lane)
  pub falls : steps_left after < steps_left before
  pub counts : HasEntered before after lane 1
  pub files : lane ≢ 0 → inodes_in after ≡ inodes_in before

makes_back : (before after : Recorded) (lane : ℕ) (comes : Option logged.Entry) (made : logged.Entry) (work : Work) → comes ≡ Some made
    → made.line ≡ work.line → made.event ≡ (its_event work.lent) → after.journal ≡ before.journal ++ made ∷ []
    → after.outs ≡ set before.outs lane None → AreBack (loans_of work.lent) before.words after.words
    → Finishes before after lane work comes
makes_back before after lane comes made work is line event grown outs words =
    rw is (line, event, grown, record { outs = outs; words = words })

-- the book after the entry of the work
abbrev pub back_in : Recorded → ℕ → Event → SharedWords → List (Option Credential) → Recorded
back_in book line event words places = record (put_in book line event places) { words = words }

-- and after the work is no longer out
abbrev pub at_home : Recorded → ℕ → Recorded
at_home book lane = record book { outs = set book.outs lane None }

pub comes_back : (book entered : Recorded) (lane : ℕ) (course : Course) (to : Option Course) (work : Work) → BookStands book
    → AreOut (replay book.script book.journal) book.words.out → IsOfLane book lane work → due_of book.cursors lane ≡ Some course
    → IsEntered book entered work
    → IfSome (line_at book.script course.line)
    (λ line. MovesOnTo book.script lane (model.after line.content course (answer_of book course.line (its_event work.lent))) to)
    → ComesBack book (moved_on (at_home entered lane) lane course.line to) lane work
comes_back book entered lane course to work stands are is due back passes =
    subst (λ b. ComesBack book (moved_on (at_home b lane) lane course.line to) lane work) (sym entered_is) made
  where
    out : IsOutOf book lane work.line
    out = (work_course book lane work stands is).0

    at : MakesNext book.script book.cursors lane (record { line = work.line; event = out.event })
    at = (work_course book lane work stands is).1

    line : course.line ≡ work.line
    line = course_is book lane work course stands is due

    has_taken : (e : Loan) → Has (loans_of work.lent) e → Has book.words.out e
    has_taken = all_taken (loans_of work.lent) book.words.out entered.words.out back.taken

    event : (its_event work.lent) ≡ out.event
    event = event_is book lane work stands is out has_taken

    waits : needs_tokens (replay book.script book.journal) (its_event work.lent) ≡ true
    waits = ap (needs_tokens (replay book.script book.journal)) event ∙ out.waits

    goes : GoesOn book lane course (its_event work.lent) to
    goes =
        let same : at.course ≡ course = let both : Some at.course ≡ Some course = sym at.is ∙ due in cc in
        record {
          stands = stands;
          due = due;
          has = ap (event_of book.script) (sym same) ∙ at.event ∙ ap Some (sym event);
          passes = passes;
        }

    tokens : loans_of work.lent ≡ lane_tokens book lane
    tokens =
        tokens_back (replay book.script book.journal) (sound_after book.script book.journal) book.words.out are book.words.id work.lent
        waits is.of.own has_taken
        ∙ ap (tokens_in (replay book.script book.journal)) event
        ∙ sym (lane_tokens_are book lane work.line is.out out)

    returned : (test : Loan → Bool) → count_by test book.words.out ≡ count_by test (lane_tokens book lane) + count_by test entered.words.out
    returned test =
        back.words.out test ∙ count-append test (loans_of work.lent) entered.words.out
        ∙ ap (λ es. count_by test es + count_by test entered.words.out) tokens

    now : IsNowOut book.outs (set book.outs lane None) lane None
    now = out_set book.outs lane None (lane_has_out book lane course stands due)

    m : Moves book (after book lane course (its_event work.lent) to (set book.outs lane None) entered.words entered.places) lane
        (count_of (needs_tokens (replay book.script book.journal) (its_event work.lent)))
    m = moves goes (set book.outs lane None) entered.words entered.places now returned

    entered_is : entered ≡ back_in book course.line (its_event work.lent) entered.words entered.places
    entered_is = back.same ∙ ap (λ n. back_in book n (its_event work.lent) entered.words entered.places) (sym line)

    made : ComesBack book (moved_on (at_home (back_in book course.line (its_event work.lent) entered.words entered.places) lane) lane course.line to) lane work
    made = record {
      script = refl;
      cells = back.words.id;
      stands = m.stands;
      made =
          makes_back book (moved_on (at_home (back_in book course.line (its_event work.lent) entered.words entered.places) lane) lane course.line to) lane
          (next book.script book.journal lane)
          (entry_of book.script book.journal (record { line = course.line; event = (its_event work.lent) })) work
          (next_some book.script book.journal book.cursors lane course (its_event work.lent) stands.cursors due goes.has) line refl refl refl back.words;
      falls = m.falls;
      counts =
          subst
          (λ b. HasEntered book (moved_on (at_home (back_in book course.line (its_event work.lent) entered.words entered.places) lane) lane course.line to) lane
          (count_of b))
          waits m.counts;
      files = files_stay goes;
    }
