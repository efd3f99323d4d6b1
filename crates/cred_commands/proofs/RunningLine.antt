-- A line that runs, and whose journal isn't kept.
use Rattle.std.proofs.Common.{◌≡◌, ℕ, ◌+◌, ◌-◌, ◌*◌, ◌<◌, ◌≤◌, List, [], ◌∷◌, ◌++◌, length, slice_get, Option, Some, None, is_some, true, false, refl, sym, ap}
use Rattle.std.proofs.Common.{◌∙◌, subst, append_assoc, arith}
use Rattle.std.proofs.lemmas.List.{append-nil, length_push}
use Rattle.std.proofs.lemmas.Option.{slice_get_within}
use Rattle.cred_event.specs.declared.content.Content.{Content}
use Rattle.cred_event.specs.declared.event.Event.{Event}
use Rattle.cred_event.specs.declared.answer.Answer.{Answer}
use Rattle.cred_event.specs.declared.entry.Entry.{Entry}
use Rattle.cred_model.specs.Script.{Script, Line}
use Rattle.cred_model.specs.State.{State}
use Rattle.cred_model.specs.Step.{step}
use Rattle.cred_model.specs.Like.{IsLike, IsOutcomeLike}
use Rattle.cred_model.specs.Course as model
use Rattle.cred_model.specs.Course.{Course, Leads, start, event_at}
use Rattle.cred_model.specs.Journal.{IsInOrder, entry_of, replay}
use Rattle.cred_model.proofs.Journals.{replay-push, IsInOrder-push}
use Rattle.cred_model.proofs.Likes.{does_like}
use Rattle.cred_model.proofs.Courses.{after_line}
use Rattle.cred_sound.specs.Sound.{IsSound}
use Rattle.cred_sound.proofs.Sound.{like_sound, sound_after}
use Rattle.cred_course.specs.Cursor.{LINE_EVENTS, left_at}
use Rattle.cred_course.specs.Waiting.{waiting, waiting_in}
use Rattle.cred_course.proofs.Courses.{few_left, few_wait_at}
use Rattle.cred_course.proofs.StagesLeft.{stage_is}
use Rattle.cred_course.proofs.Measure.{step_falls}
use Rattle.cred_commands.specs.Order.{HasRun, IsAfter, IsPast, RunsOn, StandsAt, most_left}
use Rattle.cred_commands.proofs.Order.{begins, goes_on, line_is, line_past, next_here, of_line}

-- The state has come as far as the journal, in which this line has come as far as the course, and
-- those before it have run whole and in order.
pub record IsOn (script : Script) (journal : List Entry) (line : Line) (course : Course) (state : State) : Type 0 where
  pub order : IsInOrder script journal
  pub at : StandsAt script journal line course
  pub like : IsLike state (replay script journal)

-- Whatever the journal was before the line, it has come so far with these entries more.
pub record RunsLine (script : Script) (past : ℕ) (before now : State) (had has : List Entry) (content : Content) (course : Course) : Type 0 where
  pub made : List Entry
  pub has_is : has ≡ had ++ made
  pub few : length made + (left_at script (Some course) + waiting now) ≤ most_left script past before
  pub number : course.line ≡ past + 1
  pub line : Line
  pub own : line.content ≡ content
  pub on : (journal : List Entry) → IsAfter script journal past before → IsOn script (journal ++ made) line course now

-- so a line leaves no more to those after it than there may be
few_first : (script : Script) (past : ℕ) (line : Line) (content : Content) → slice_get script.lines past ≡ Some line
    → left_at script (Some (start (past + 1) content)) ≤ LINE_EVENTS * (length script.lines - past)
few_first script past line content here =
    let within = slice_get_within script.lines past line here in
    let left = few_left content (past + 1) in
    let wait = few_wait_at script (start (past + 1) content) in
    omega (arith, within, left, wait)

pub goes_first : (script : Script) (past : ℕ) (state : State) (entries : List Entry) (line : Line) (content : Content) (course : Course)
    → slice_get script.lines past ≡ Some line → line.content ≡ content → course ≡ start (past + 1) content
    → RunsLine script past state state entries entries content course
goes_first script past state entries line content course here own first =
    let is : start (past + 1) line.content ≡ course = ap (start (past + 1)) own ∙ sym first in
    let most = subst (λ c. left_at script (Some c) ≤ LINE_EVENTS * (length script.lines - past)) (sym first) (few_first script past line content here) in
    let few_all : length {A = Entry} [] + (left_at script (Some course) + waiting state) ≤ most_left script past state = omega (arith, most) in
    record {
      made = [];
      has_is = sym (append-nil entries);
      few = few_all;
      number = ap (λ (c : Course). c.line) first;
      line = line;
      own = own;
      on = λ journal after. subst (λ js. IsOn script js line course state) (sym (append-nil journal)) (record {
        order = after.order;
        at = subst (StandsAt script journal line) is (begins script journal past line after.is here);
        like = after.like;
      });
    }

-- what holds on the way, after some journal
pub on_sound : (script : Script) (journal : List Entry) (line : Line) (course : Course) (state : State) → IsOn script journal line course state
    → IsSound state
on_sound script journal line course state is = like_sound state (replay script journal) is.like (sound_after script journal)

pub goes_sound : (script : Script) (past : ℕ) (before now : State) (had has : List Entry) (content : Content) (course : Course)
    → HasRun script past before → RunsLine script past before now had has content course → IsSound now
goes_sound script past before now had has content course run goes =
    on_sound script (run.0 ++ goes.made) goes.line course now (goes.on run.0 run.1)

pub goes_leads : (script : Script) (past : ℕ) (before now : State) (had has : List Entry) (content : Content) (course : Course)
    → HasRun script past before → RunsLine script past before now had has content course → Leads content course
goes_leads script past before now had has content course run goes =
    subst (λ c. Leads c course) goes.own (of_line script (run.0 ++ goes.made) goes.line course (goes.on run.0 run.1).at)

-- the entry of an event of this line, with its answer
abbrev entry_with : ℕ → Event → Answer → Entry
entry_with line event answer = record { line = line; event = event; answer = answer }

-- what one event does
record OneMore (script : Script) (journal : List Entry) (line : Line) (course next : Course) (entry : Entry) (before after : State) : Type 0 where
  on : IsOn script (journal ++ entry ∷ []) line next after
  falls : left_at script (Some next) + waiting after < left_at script (Some course) + waiting before

one_more : (script : Script) (journal : List Entry) (line : Line) (course : Course) (event : Event) (number : ℕ) (answer : Answer) (before after : State)
    → IsOn script journal line course before → is_some course.stage ≡ true → event_at line.content course ≡ Some event → number ≡ course.line
    → IsOutcomeLike (step script before number event) answer after
    → OneMore script journal line course (model.after line.content course answer) (entry_with number event answer) before after
one_more script journal line course event number answer before after is going due same_line does =
    let entry : Entry = entry_with number event answer in
    let made = does_like script before (replay script journal) number event answer after is.like does in
    let comes : Entry = entry_of script journal (record { line = course.line; event = event }) in
    let same : comes ≡ entry
    = ap (λ n. entry_of script journal (record { line = n; event = event })) (sym same_line) ∙ ap (entry_with number event) made.answers in
    let stage = stage_is course going in
    let fell =
    step_falls script journal course stage.stage line event stage.is (line_is script journal line course is.at) (of_line script journal line course is.at)
    due in
    let falls = subst (λ (e : Entry). left_at script (Some (model.after line.content course e.answer)) + waiting (replay script (journal ++ e ∷ []))
    < left_at script (Some course) + waiting (replay script journal)) same fell in
    let like : IsLike after (replay script (journal ++ entry ∷ [])) = subst (IsLike after) (sym (replay-push script journal entry)) made.leads in
    let wait : waiting before ≡ waiting (replay script journal) = ap waiting_in is.like.broadcasts in
    let waits : waiting after ≡ waiting (replay script (journal ++ entry ∷ [])) = ap waiting_in like.broadcasts in
    record {
      on = record {
        order = IsInOrder-push script journal entry is.order (next_here script journal line course event is.at due ∙ ap Some same);
        at = goes_on script journal line course entry is.at same_line;
        like = like;
      };
      falls = omega (arith, falls, wait, waits);
    }

-- an event of the line, which is entered
pub record GoesOn (script : Script) (past : ℕ) (first before after : State) (had has : List Entry) (content : Content) (course next : Course) : Type 0 where
  pub goes : RunsLine script past first after had has content next
  pub falls : left_at script (Some next) + waiting after < left_at script (Some course) + waiting before

pub goes_by : (script : Script) (past : ℕ) (first before after : State) (had has longer : List Entry) (content : Content) (course next : Course)
    (event : Event) (number : ℕ) (answer : Answer)
    → HasRun script past first → RunsLine script past first before had has content course
    → is_some course.stage ≡ true → event_at content course ≡ Some event → number ≡ past + 1
    → IsOutcomeLike (step script before number event) answer after → next ≡ model.after content course answer
    → longer ≡ has ++ entry_with number event answer ∷ []
    → GoesOn script past first before after had longer content course next
goes_by script past first before after had has longer content course next event number answer run goes going due same does is grown =
    let line : Line = goes.line in
    let entry : Entry = entry_with number event answer in
    let own : event_at line.content course ≡ Some event = ap (λ c. event_at c course) goes.own ∙ due in
    let here : number ≡ course.line = same ∙ sym goes.number in
    let to : model.after line.content course answer ≡ next = ap (λ c. model.after c course answer) goes.own ∙ sym is in
    let each : (journal : List Entry) → IsAfter script journal past first
    → OneMore script (journal ++ goes.made) line course (model.after line.content course answer) entry before after
    = λ journal at. one_more script (journal ++ goes.made) line course event number answer before after (goes.on journal at) going own here does in
    let number_is : next.line ≡ past + 1
    = ap (λ (c : Course). c.line) is ∙ after_line content course answer ∙ goes.number in
    let falls : left_at script (Some next) + waiting after < left_at script (Some course) + waiting before
    = subst (λ c. left_at script (Some c) + waiting after < left_at script (Some course) + waiting before) to (each run.0 run.1).falls in
    let longer_by : length (goes.made ++ entry ∷ []) ≡ length goes.made + 1 = length_push goes.made entry in
    let had_few = goes.few in
    record {
      goes = record {
        made = goes.made ++ entry ∷ [];
        few = omega (arith, falls, longer_by, had_few);
        has_is = grown ∙ ap (λ js. js ++ entry ∷ []) goes.has_is ∙ append_assoc had goes.made (entry ∷ []);
        number = number_is;
        line = line;
        own = goes.own;
        on = λ journal at. subst (λ js. IsOn script js line next after) (append_assoc journal goes.made (entry ∷ []))
            (subst (λ c. IsOn script ((journal ++ goes.made) ++ entry ∷ []) line c after) to (each journal at).on);
      };
      falls = falls;
    }

none_of : {A : Type 0} (o : Option A) → is_some o ≡ false → o ≡ None
none_of None is = refl
none_of (Some x) is = cc

-- what is left when a line has ended
few_after : (script : Script) (past : ℕ) (before now : State) (made : ℕ) (course : Course) → course.line ≡ past + 1
    → made + (left_at script (Some course) + waiting now) ≤ most_left script past before
    → made + most_left script (past + 1) now ≤ most_left script past before
few_after script past before now made course number few =
    let behind : LINE_EVENTS * (length script.lines - course.line) ≡ LINE_EVENTS * (length script.lines - (past + 1))
    = ap (λ n. LINE_EVENTS * (length script.lines - n)) number in
    omega (arith, behind, few)

-- the line has ended
pub goes_out : (script : Script) (past : ℕ) (before now : State) (had has : List Entry) (content : Content) (course : Course)
    → RunsLine script past before now had has content course → is_some course.stage ≡ false → RunsOn script past before now had has
goes_out script past before now had has content course goes over = record {
  made = goes.made;
  has_is = goes.has_is;
  few = few_after script past before now (length goes.made) course goes.number goes.few;
  leads = λ journal after.
      let on = goes.on journal after in
      record {
        order = on.order;
        is =
            subst (IsPast script (journal ++ goes.made)) goes.number
            (line_past script (journal ++ goes.made) goes.line course on.at (none_of course.stage over));
        like = on.like;
      };
}
