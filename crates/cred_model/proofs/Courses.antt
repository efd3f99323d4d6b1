-- How a line goes from event to event.
use Rattle.std.proofs.Common.{◌≡◌, ℕ, ◌+◌, ◌<◌, List, [], ◌∷◌, ◌++◌, Some, None, Option, is_some, Bool, true, false, cond, nat_lt, refl, sym, ap, ◌∙◌, subst}
use Rattle.std.proofs.Common.{arith}
use Rattle.std.specs.Prelude.{fold, ⊤}
use Rattle.std.specs.Option.{IfSome, option_and_then}
use Rattle.std.proofs.lemmas.List.Sums.{fold_push}
use Rattle.std.proofs.lemmas.Bool.Decides.{nat_tests}
use Rattle.cred_ids.specs.Limits.{TRIES}
use Rattle.cred_event.specs.declared.content.Stage.{Stage}
use Rattle.cred_event.specs.declared.content.Stage.TheVariants.{First, Acting, Asking, Opening, Calling, TakingTarget, Signalling, Tracing, ReleasingTarget}
use Rattle.cred_event.specs.declared.content.Stage.TheVariants.{Preparing, Altering, Committing, Aborting, Overriding, TakingAccess, ReleasingAccess, Reverting}
use Rattle.cred_event.specs.declared.content.Stage.TheVariants.{Releasing, Retrying}
use Rattle.cred_event.specs.declared.answer.Answer.{Answer}
use Rattle.cred_event.specs.declared.answer.Answer.TheVariants.{Stale}
use Rattle.cred_event.specs.declared.content.Content.{Content}
use Rattle.cred_event.specs.declared.content.Content.TheVariants.{Nothing, One, Id, Question, Open, Fcap, Signal, Ptrace, Change, Access, OnFile}
use Rattle.cred_event.specs.Answers.{is_ok}
use Rattle.cred_model.specs.Course.{Course, start, event_in, event_at, either, some_wait, next_stage, is_stale, next_try, after, most, left, is_bounded}
use Rattle.cred_model.specs.Course.{leads, Leads}

-- ---- each event is followed by fewer

-- the stage is one of a line with this content
abbrev pub IsStageOf : Content → Stage → Type 0
IsStageOf content stage = (line : ℕ) → is_some (event_in line content stage) ≡ true

-- Where a line's events are bounded, fewer come after the next stage.
abbrev IsFewer : Bool → Stage → Stage → Type 0
IsFewer true next stage = most next < most stage
IsFewer false next stage = ⊤

-- a stage of such a line too, after which fewer events come
abbrev pub Falls : Content → Stage → Stage → Type 0
Falls content stage next = IsStageOf content next × IsFewer (is_bounded content) next stage

-- whatever the test says
branch : {A : Type 0} (P : A → Type 0) (test : Bool) (a b : A) → P a → P b → P (cond test a b)
branch P true a b one other = one
branch P false a b one other = other

-- the line ends where its answer doesn't pass the test
or_ends : (content : Content) (stage : Stage) (test : Bool) (next : Stage) → Falls content stage next
    → IfSome (cond test (Some next) None) (Falls content stage)
or_ends content stage test next falls =
    branch (λ o. IfSome o (Falls content stage)) test (Some next) None falls tt

-- a refusal leads to another stage
or_else : (content : Content) (stage : Stage) (answer : Answer) (next otherwise : Stage) → Falls content stage next → Falls content stage otherwise
    → IfSome (either answer next otherwise) (Falls content stage)
or_else content stage answer = branch (Falls content stage) (is_ok answer)

next_falls : (content : Content) (stage : Stage) (answer : Answer) → IsStageOf content stage
    → IfSome (next_stage content stage answer) (Falls content stage)
next_falls (One event) First answer is = tt
next_falls (Id task call) First answer is = or_ends (Id task call) First (some_wait answer) Acting ((λ line. refl), tt)
next_falls (Id task call) Acting answer is = or_ends (Id task call) Acting (some_wait answer) Acting ((λ line. refl), tt)
next_falls (Question task query) First answer is = or_ends (Question task query) First (is_ok answer) Asking ((λ line. refl), omega arith)
next_falls (Question task query) Asking answer is = ((λ line. refl), omega arith)
next_falls (Open task file want fd) First answer is = or_ends (Open task file want fd) First (is_ok answer) Opening ((λ line. refl), omega arith)
next_falls (Open task file want fd) Opening answer is = ((λ line. refl), omega arith)
next_falls (Fcap task fd wanted) First answer is = or_ends (Fcap task fd wanted) First (is_ok answer) Asking ((λ line. refl), omega arith)
next_falls (Fcap task fd wanted) Asking answer is = ((λ line. refl), omega arith)
next_falls (Signal task to) First answer is = or_ends (Signal task to) First (is_ok answer) TakingTarget ((λ line. refl), omega arith)
next_falls (Signal task to) TakingTarget answer is =
    or_else (Signal task to) TakingTarget answer Signalling Releasing ((λ line. refl), omega arith) ((λ line. refl), omega arith)
next_falls (Signal task to) Signalling answer is = ((λ line. refl), omega arith)
next_falls (Signal task to) ReleasingTarget answer is = ((λ line. refl), omega arith)
next_falls (Ptrace task to mode) First answer is = or_ends (Ptrace task to mode) First (is_ok answer) TakingTarget ((λ line. refl), omega arith)
next_falls (Ptrace task to mode) TakingTarget answer is =
    or_else (Ptrace task to mode) TakingTarget answer Tracing Releasing ((λ line. refl), omega arith) ((λ line. refl), omega arith)
next_falls (Ptrace task to mode) Tracing answer is = ((λ line. refl), omega arith)
next_falls (Ptrace task to mode) ReleasingTarget answer is = ((λ line. refl), omega arith)
next_falls (Change task change) First answer is = or_ends (Change task change) First (is_ok answer) Preparing ((λ line. refl), omega arith)
next_falls (Change task change) Preparing answer is =
    or_else (Change task change) Preparing answer Altering Releasing ((λ line. refl), omega arith) ((λ line. refl), omega arith)
next_falls (Change task change) Altering answer is =
    or_else (Change task change) Altering answer Committing Aborting ((λ line. refl), omega arith) ((λ line. refl), omega arith)
next_falls (Change task change) Committing answer is =
    or_else (Change task change) Committing answer Releasing Aborting ((λ line. refl), omega arith) ((λ line. refl), omega arith)
next_falls (Change task change) Aborting answer is = ((λ line. refl), omega arith)
next_falls (Change task change) Retrying answer is = ((λ line. refl), omega arith)
next_falls (Access task file want) First answer is = or_ends (Access task file want) First (is_ok answer) Preparing ((λ line. refl), omega arith)
next_falls (Access task file want) Preparing answer is =
    or_else (Access task file want) Preparing answer Altering Releasing ((λ line. refl), omega arith) ((λ line. refl), omega arith)
next_falls (Access task file want) Overriding answer is =
    or_else (Access task file want) Overriding answer TakingAccess Aborting ((λ line. refl), omega arith) ((λ line. refl), omega arith)
next_falls (Access task file want) TakingAccess answer is =
    or_else (Access task file want) TakingAccess answer Asking Reverting ((λ line. refl), omega arith) ((λ line. refl), omega arith)
next_falls (Access task file want) Altering answer is = ((λ line. refl), omega arith)
next_falls (Access task file want) Asking answer is = ((λ line. refl), omega arith)
next_falls (Access task file want) ReleasingAccess answer is = ((λ line. refl), omega arith)
next_falls (Access task file want) Reverting answer is = ((λ line. refl), omega arith)
next_falls (Access task file want) Aborting answer is = ((λ line. refl), omega arith)
next_falls (OnFile task call) First answer is = or_ends (OnFile task call) First (is_ok answer) Calling ((λ line. refl), omega arith)
next_falls (OnFile task call) Calling answer is = ((λ line. refl), omega arith)
next_falls content Releasing answer is = tt
next_falls content stage answer is = let no = is 0 in cc

-- ---- a course

-- its stage is one of a line with this content
abbrev pub Fits : Content → Course → Type 0
Fits content course = IfSome course.stage (IsStageOf content)

most_some : (stage : Stage) → 0 < most stage
most_some First = omega arith
most_some stage = omega arith

-- what the next stage of a line in its course is
pub record Follows (content : Content) (course next : Course) : Type 0 where
  pub fits : Fits content next
  pub falls : is_bounded content ≡ true → left next < left course
  pub same : next.line ≡ course.line

goes_on : (content : Content) (course : Course) (stage : Stage) (next : Option Stage) → course.stage ≡ Some stage
    → IfSome next (Falls content stage) → Follows content course (record course { stage = next })
goes_on content course stage None here after = record {
  fits = tt;
  falls = λ bounded. rw here (let some = most_some stage in omega arith);
  same = refl;
}
goes_on content course stage (Some to) here after = record {
  fits = after.0;
  falls = λ bounded. rw here (let less : most to < most stage = subst (λ b. IsFewer b to stage) bounded after.1 in omega arith);
  same = refl;
}

begins_again : (content : Content) (course : Course) → course.stage ≡ Some Committing → IsStageOf content Committing
    → Follows content course (next_try course)
begins_again (Change task change) course here is =
    elim (nat_lt course.tries TRIES) as
    (λ b. nat_lt course.tries TRIES ≡ b → Follows (Change task change) course
    (cond b (record course { stage = Some Retrying; tries = course.tries + 1 }) (record course { stage = Some Releasing }))) [
      | true ↦ λ test. record {
        fits = λ line. refl;
        falls = λ bounded. rw here (let few : course.tries < 8 = grind (arith, nat_tests) in omega arith);
        same = refl;
      }
      | false ↦ λ test. record { fits = λ line. refl; falls = λ bounded. rw here (omega arith); same = refl }
    ] refl
begins_again content course here is = let no = is 0 in cc

follows-by : (content : Content) (course : Course) (stage : Stage) (answer : Answer) → course.stage ≡ Some stage → IsStageOf content stage
    → Follows content course
    (cond (is_stale (Some stage) answer) (next_try course) (record course { stage = next_stage content stage answer }))
follows-by content course Committing (Stale base now) here is = begins_again content course here is
follows-by content course stage answer here is =
    goes_on content course stage (next_stage content stage answer) here (next_falls content stage answer is)

-- an answer leads no line to another
pub after_line : (content : Content) (course : Course) (answer : Answer) → (after content course answer).line ≡ course.line
after_line content course answer =
    elim (is_stale course.stage answer) as
    (λ b. (cond b (next_try course) (record course { stage = option_and_then (λ s. next_stage content s answer) course.stage })).line ≡ course.line) [
      | true ↦
          elim (nat_lt course.tries TRIES) as
          (λ b. (cond b (record course { stage = Some Retrying; tries = course.tries + 1 }) (record course { stage = Some Releasing })).line ≡ course.line) [
            | true ↦ refl
            | false ↦ refl
          ]
      | false ↦ refl
    ]

-- one more answer leads on
pub follows : (content : Content) (course : Course) (stage : Stage) (answer : Answer) → course.stage ≡ Some stage → Fits content course
    → Follows content course (after content course answer)
follows content course stage answer here fits =
    let is : IsStageOf content stage = subst (λ o. IfSome o (IsStageOf content)) here fits in
    subst
    (λ (o : Option Stage). Follows content course
    (cond (is_stale o answer) (next_try course) (record course { stage = option_and_then (λ s. next_stage content s answer) o })))
    (sym here)
    (follows-by content course stage answer here is)

ended_fits : (content : Content) (course : Course) (answer : Answer) → course.stage ≡ None → Fits content (after content course answer)
ended_fits content course answer here =
    subst
    (λ (o : Option Stage). Fits content
    (cond (is_stale o answer) (next_try course) (record course { stage = option_and_then (λ s. next_stage content s answer) o })))
    (sym here) tt

after_fits : (content : Content) (course : Course) (answer : Answer) (o : Option Stage) → course.stage ≡ o → Fits content course
    → Fits content (after content course answer)
after_fits content course answer None here fits = ended_fits content course answer here
after_fits content course answer (Some stage) here fits = (follows content course stage answer here fits).fits

start_fits : (line : ℕ) (content : Content) → Fits content (start line content)
start_fits line Nothing = tt
start_fits line content = λ line. refl

from_fits : (content : Content) (answers : List Answer) (course : Course) → Fits content course
    → Fits content (fold (after content) course answers)
from_fits content [] course fits = fits
from_fits content (answer ∷ answers) course fits =
    from_fits content answers (after content course answer) (after_fits content course answer course.stage refl fits)

-- wherever a line leads, its stage is one of its own
pub leads_fits : (content : Content) (course : Course) → Leads content course → Fits content course
leads_fits content course at = subst (Fits content) (sym at.is) (from_fits content at.answers (start course.line content) (start_fits course.line content))

-- a line that has a stage makes an event
pub makes_event : (content : Content) (course : Course) (o : Option Stage) → course.stage ≡ o → Leads content course
    → is_some (event_at content course) ≡ is_some course.stage
makes_event content course None here at = rw here refl
makes_event content course (Some stage) here at =
    let is : IsStageOf content stage = subst (λ o. IfSome o (IsStageOf content)) here (leads_fits content course at) in
    rw here (is course.line)

-- a course that has a stage is led on by an answer
pub record LedOn (content : Content) (course next : Course) : Type 0 where
  pub leads : Leads content next
  pub falls : is_bounded content ≡ true → left next < left course

pub leads_on : (content : Content) (course : Course) (answer : Answer) (o : Option Stage) → course.stage ≡ o → is_some course.stage ≡ true
    → Leads content course → LedOn content course (after content course answer)
leads_on content course answer None here going at = let none = ap is_some (sym here) ∙ going in cc
leads_on content course answer (Some stage) here going at =
    let on = follows content course stage answer here (leads_fits content course at) in
    record {
      leads = record {
        answers = at.answers ++ answer ∷ [];
        is = ap (λ c. after content c answer) at.is
            ∙ sym (fold_push (after content) (start course.line content) at.answers answer)
            ∙ ap (λ line. leads line content (at.answers ++ answer ∷ [])) (sym on.same);
      };
      falls = on.falls;
    }
