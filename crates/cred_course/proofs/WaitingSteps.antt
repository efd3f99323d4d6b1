-- How an event changes the number of tasks that wait.
use Rattle.std.proofs.Common.{◌≡◌, ℕ, ◌+◌, ◌<◌, ◌≤◌, ◌-◌, ◌==◌, not, Bool, true, List, length, slice_get, map, Option, Some, None, Result, Ok, Err, ok_or, refl}
use Rattle.std.proofs.Common.{sym, ap, ◌∙◌, subst, arith}
use Rattle.std.specs.List.{filter}
use Rattle.std.proofs.lemmas.List.{length-map}
use Rattle.std.proofs.lemmas.List.Sums.{count_by-le-length, length-filter}
use Rattle.cred_ids.specs.Limits.{TASKS}
use Rattle.cred_ids.specs.Tests.{◌>>=◌}
use Rattle.cred_record.specs.Credential.{Credential}
use Rattle.cred_rules.specs.SetId.{set_id}
use Rattle.cred_event.specs.declared.event.Change.{Change}
use Rattle.cred_event.specs.declared.event.Change.TheVariants.{Exec}
use Rattle.cred_event.specs.declared.event.Event.{Event}
use Rattle.cred_event.specs.declared.event.Event.TheVariants.{Begin, Act, Spawn}
use Rattle.cred_event.specs.declared.answer.Answer.{Answer}
use Rattle.cred_event.specs.declared.answer.Answer.TheVariants.{Acted, Aborted, NoBroadcast}
use Rattle.cred_event.specs.declared.answer.AbortCause.TheVariants as cause
use Rattle.cred_record.specs.declared.refusal.Denial.{Denial}
use Rattle.cred_model.specs.Script.{Script}
use Rattle.cred_model.specs.State.{State, Task, Broadcast, Numbered, numbered, task_of, broadcast_of}
use Rattle.cred_model.specs.Ends.{is_beside}
use Rattle.cred_model.specs.Broadcasts.{others_of, waits_no_more, dropped}
use Rattle.cred_model.specs.Change.{by_rule}
use Rattle.cred_model.specs.Course.{some_wait}
use Rattle.cred_model.specs.Dumpable.{differs, renewed}
use Rattle.cred_model.specs.Moves.{replaced}
use Rattle.cred_model.specs.CallEvents.{aborted, follow}
use Rattle.cred_model.specs.Step.{outcome, step}
use Rattle.cred_model.proofs.Rising.{length-in_order}
use Rattle.cred_sound.specs.Sound.{IsSound}
use Rattle.cred_sound.proofs.Tests.{in_slots}
use Rattle.cred_sound.proofs.Parts.{TasksChange, Cause, Creation, Death, begun, broadcasts_left, ByBegin, ByAct, ByRaw, ByCommit, BySpawn, ByFork, ByExit}
use Rattle.cred_sound.proofs.Parts.{ByAbort}
use Rattle.cred_sound.proofs.Parts.{SameTasks, SetsFlag, Creates, Shares, Renews, Overrides, Fewer}
use Rattle.cred_sound.proofs.Events.{changes}
use Rattle.cred_broadcasts.proofs.Conditions.{broadcasts_are, least_waits}
use Rattle.cred_course.specs.Waiting.{waiting, waiting_in}
use Rattle.cred_course.proofs.Waiting.{waiting-acted, waiting-begun, waiting-filter, waiting-joined, waiting-left}

-- how many more tasks may wait after an event
abbrev pub more_wait : Event → ℕ
more_wait (Begin task call) = TASKS
more_wait (Spawn task child) = 1
more_wait event = 0

-- ---- every event

-- so many more wait at most
abbrev Raises : State → Event → Answer × State → Type 0
Raises s event made = waiting made.1 ≤ waiting s + more_wait event

-- where no broadcast changes
no_more : (s : State) (event : Event) (made : Answer × State) → made.1.broadcasts ≡ s.broadcasts → Raises s event made
no_more s event made same =
    let now : waiting made.1 ≡ waiting s = ap waiting_in same in omega (arith, now)

-- where some tasks wait no longer, and none begins to
fewer_wait : (s : State) (event : Event) (made : Answer × State) (broadcasts : List Broadcast) → made.1.broadcasts ≡ broadcasts
    → waiting_in broadcasts ≤ waiting s → Raises s event made
fewer_wait s event made broadcasts is fewer =
    let now : waiting made.1 ≡ waiting_in broadcasts = ap waiting_in is in omega (arith, now, fewer)

drop_fewer : (process : ℕ) (broadcasts : List Broadcast) → waiting_in (dropped process broadcasts) ≤ waiting_in broadcasts
drop_fewer process broadcasts = waiting-filter (λ broadcast. not (broadcast.process == process)) broadcasts

others_few : (owner : Task) (tasks : List Task) → length (others_of owner tasks) ≤ length tasks
others_few owner tasks =
    let beside = filter (is_beside owner) tasks in
    let long = length-in_order (map (λ (t : Task). t.number) beside) ∙ length-map beside (λ (t : Task). t.number) in
    omega (arith, long, length-filter (is_beside owner) tasks, count_by-le-length (is_beside owner) tasks)

left_fewer : (change : Change) (owner : Task) (broadcasts : List Broadcast) → waiting_in (broadcasts_left change owner broadcasts) ≤ waiting_in broadcasts
left_fewer (Exec file) owner broadcasts = drop_fewer owner.process broadcasts
left_fewer change owner broadcasts = omega arith

renewed_waits : (s : State) (event : Event) (task : ℕ) (owner : Task) (ends : Task → Bool) (c : Credential) (made : Answer × State)
    → length s.tasks ≤ TASKS → Cause s event task owner ends c made → Raises s event made
renewed_waits s event task owner ends c made few (ByBegin call before number slot is has ruled new idle none broadcasts answer flags) =
    let broadcast = begun number owner call s.tasks in
    let now : waiting made.1 ≤ waiting s + length (others_of owner s.tasks)
    = subst (λ bs. waiting_in bs ≤ waiting s + length (others_of owner s.tasks)) (sym broadcasts) (waiting-begun s.broadcasts broadcast) in
    let most : more_wait event ≡ TASKS = ap more_wait is in
    omega (arith, now, most, few, others_few owner s.tasks)
renewed_waits s event task owner ends c made few (ByAct number slot broadcast before is opened first has ruled none broadcasts answer flags) =
    fewer_wait s event made (waits_no_more task s.broadcasts) broadcasts (waiting-left task s.broadcasts)
renewed_waits s event task owner ends c made few (ByRaw call before slot is has ruled idle none broadcasts answer flags) = no_more s event made broadcasts
renewed_waits s event task owner ends c made few (ByCommit label place slot count p last is first at own changed same cred ending broadcasts answer flags) =
    fewer_wait s event made (broadcasts_left last.change owner s.broadcasts) broadcasts (left_fewer last.change owner s.broadcasts)

created_waits : (s : State) (event : Event) (task child process : ℕ) (made : Answer × State) → IsSound s
    → Creation s event task child process made → Raises s event made
created_waits s event task child process made sound (BySpawn owner is found of broadcasts flags) =
    let now : waiting made.1 ≤ waiting s + 1
    = subst (λ bs. waiting_in bs ≤ waiting s + 1) (sym broadcasts) (waiting-joined task child s.broadcasts (broadcasts_are s sound).apart) in
    let most : more_wait event ≡ 1 = ap more_wait is in
    omega (arith, now, most)
created_waits s event task child process made sound (ByFork by is known unused broadcasts flags) = no_more s event made broadcasts

ended_waits : (s : State) (event : Event) (ends : Task → Bool) (made : Answer × State) → Death s event ends made → Raises s event made
ended_waits s event ends made (ByExit task gone is known ending idle broadcasts flags) =
    fewer_wait s event made (waits_no_more task s.broadcasts) broadcasts (waiting-left task s.broadcasts)
ended_waits s event ends made (ByAbort number task why broadcast is ending broadcasts answer flags) =
    fewer_wait s event made (dropped broadcast.process s.broadcasts) broadcasts (drop_fewer broadcast.process s.broadcasts)

change_waits : {script : Script} → (s : State) (event : Event) (made : Answer × State) → IsSound s → length s.tasks ≤ TASKS
    → TasksChange script s event made → Raises s event made
change_waits s event made sound few (SameTasks same broadcasts flags) = no_more s event made broadcasts
change_waits s event made sound few (SetsFlag task value owner flag is found known same broadcasts flags) = no_more s event made broadcasts
change_waits s event made sound few (Creates task process user group ns slot is tasks creds new idle broadcasts flags) = no_more s event made broadcasts
change_waits s event made sound few (Shares task child process parent tasks creds current new creation) =
    created_waits s event task child process made sound creation
change_waits s event made sound few (Renews task slot owner c ends tasks creds found cause) =
    renewed_waits s event task owner ends c made few cause
change_waits s event made sound few (Overrides task numbers tasks refer broadcasts flags) = no_more s event made broadcasts
change_waits s event made sound few (Fewer ends tasks creds death) = ended_waits s event ends made death

-- Only where an id call begins or a thread is created does anybody begin to wait.
pub step_waits : (script : Script) (s : State) (line : ℕ) (event : Event) → IsSound s → length s.tasks ≤ TASKS
    → waiting (step script s line event).1 ≤ waiting s + more_wait event
step_waits script s line event sound few =
    change_waits s event (step script s line event) sound few (changes script s line event).tasks

-- ---- the step of a task that waits

-- fewer wait where the answer says that some still do
abbrev Lowers : State → Answer × State → Type 0
Lowers s made = some_wait made.0 ≡ true → waiting made.1 < waiting s

act_tested : {A : Type 0} (s : State) (number : ℕ) (found : Option A) (f : A → Result (Answer × State) Answer)
    → ((x : A) → found ≡ Some x → Lowers s (outcome s (f x))) → Lowers s (outcome s (ok_or found (NoBroadcast number) >>= f))
act_tested s number None f each = λ waits. cc
act_tested s number (Some x) f each = each x refl

follow_lowers : (s : State) (number task : ℕ) (broadcast : Broadcast) (owner : Task) (old : Numbered) (made : Result Credential Denial)
    → broadcast_of s number ≡ Some broadcast → slice_get broadcast.waiting 0 ≡ Some task
    → Lowers s (follow s broadcast task owner old (by_rule made))
follow_lowers s number task broadcast owner old (Err refusal) opened first = λ waits. cc
follow_lowers s number task broadcast owner old (Ok new) opened first =
    in_slots (Lowers s) s (λ now. (Aborted task cause.Full, aborted broadcast now))
    (λ now slot. (
      Acted task (length now.creds) slot (length broadcast.waiting - 1),
      record (replaced now task old.number new slot) {
        broadcasts = waits_no_more task now.broadcasts;
        dumpable = renewed now.dumpable owner.process (differs old.cred new);
      },
    ))
    (λ left fewer waits. cc)
    (λ left slot fewer free waits. waiting-acted task number s.broadcasts broadcast opened (least_waits broadcast task first))

pub act_lowers : (script : Script) (s : State) (line number : ℕ) → some_wait (step script s line (Act number)).0 ≡ true
    → waiting (step script s line (Act number)).1 < waiting s
act_lowers script s line number =
    act_tested s number (broadcast_of s number) _
    (λ broadcast opened. act_tested s number (slice_get broadcast.waiting 0) _
    (λ task first. act_tested s number (task_of s task) _
    (λ owner found. act_tested s number (numbered s.creds owner.current) _
    (λ old at. follow_lowers s number task broadcast owner old (set_id old.cred broadcast.call) opened first))))
