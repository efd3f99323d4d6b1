-- No more tasks live than may: each event that creates one tests their number first.
use Rattle.std.proofs.Common.{◌≡◌, ℕ, ◌<◌, ◌≤◌, List, [], ◌∷◌, length, fold, nat_lt, Result, Ok, Err, Bool, true, false, cond, not, refl, sym, ap, ◌∙◌, subst}
use Rattle.std.proofs.Common.{arith}
use Rattle.std.specs.List.{find}
use Rattle.std.proofs.lemmas.Bool.Decides.{nat_tests}
use Rattle.std.proofs.lemmas.List.{length-map, length_push}
use Rattle.std.proofs.lemmas.List.Sums.{count_by-le-length, length-filter}
use Rattle.cred_ids.specs.Limits.{TASKS}
use Rattle.cred_ids.specs.Tests.{◌>>=◌}
use Rattle.cred_record.specs.Credential.{first_credential}
use Rattle.cred_event.specs.declared.event.Event.{Event}
use Rattle.cred_event.specs.declared.event.Event.TheVariants.{Init, Spawn, Fork}
use Rattle.cred_event.specs.declared.answer.Answer.{Answer}
use Rattle.cred_event.specs.declared.answer.Answer.TheVariants.{Sealed}
use Rattle.cred_event.specs.declared.entry.Entry.{Entry}
use Rattle.cred_model.specs.Script.{Script, root_of}
use Rattle.cred_model.specs.State.{State, Task, opening, numbered, task_of, broadcast_in, begun_by}
use Rattle.cred_model.specs.Dumpable.{flags_begun}
use Rattle.cred_model.specs.Ends.{is_thread_of, survivors}
use Rattle.cred_model.specs.Moves.{fewer_or, table_full, first_task, created, updated}
use Rattle.cred_model.specs.Moves.{overriding}
use Rattle.cred_model.specs.Step.{step}
use Rattle.cred_sound.specs.TaskCount.{TasksAreFew}
use Rattle.cred_sound.proofs.Tests.{IfAllowed, outcome_has, if_some, if_none, if_idle, if_own, in_slots}
use Rattle.cred_sound.proofs.Parts.{TasksChange, Creation, BySpawn, ByFork, SameTasks, SetsFlag, Creates, Shares, Renews, Overrides, Fewer}
use Rattle.cred_sound.proofs.Events.{changes}

abbrev AreFew : Answer × State → Type 0
AreFew made = length made.1.tasks ≤ TASKS

-- where there is room for one more
if_room : (Q : Answer × State → Type 0) (count limit : ℕ) (answer : Answer) (f : Unit {0} → Result (Answer × State) Answer)
    → (count < limit → IfAllowed Q (f tt)) → IfAllowed Q (fewer_or count limit answer >>= f)
if_room Q count limit answer f does =
    elim (nat_lt count limit) as (λ b. nat_lt count limit ≡ b → IfAllowed Q (cond b (Ok tt) (Err answer) >>= f)) [
      | true ↦ λ test. does (grind (arith, nat_tests))
      | false ↦ λ test. tt
    ] refl

-- ---- the events that create a task

init_few : (script : Script) (s : State) (line task process user group ns : ℕ) → length s.tasks ≤ TASKS
    → AreFew (step script s line (Init task process user group ns))
init_few script s line task process user group ns few =
    let first = first_task task process (length s.creds) in
    let c = first_credential user group ns (root_of script ns) in
    outcome_has AreFew s _ (λ answer. few)
    (if_idle AreFew (broadcast_in s process) _
    (λ idle. if_none AreFew (task_of s task) _ _
    (λ new. if_room AreFew (length s.tasks) TASKS _ _
    (λ room. in_slots AreFew s table_full
    (λ s slot. (Sealed (length s.creds) slot, record (created s (first_task task process (length s.creds)) c slot) { dumpable = flags_begun s process }))
    (λ left fewer. few)
    (λ left slot fewer free. omega (arith, length_push s.tasks first, room))))))

spawn_few : (script : Script) (s : State) (line task child : ℕ) → length s.tasks ≤ TASKS
    → AreFew (step script s line (Spawn task child))
spawn_few script s line task child few =
    outcome_has AreFew s _ (λ answer. few)
    (if_some AreFew (task_of s task) _ _
    (λ owner found. if_some AreFew (numbered s.creds owner.current) _ _
    (λ parent at. if_idle AreFew (begun_by s task) _
    (λ idle. if_none AreFew (task_of s child) _ _
    (λ new. if_own AreFew owner _
    (if_room AreFew (length s.tasks) TASKS _ _
    (λ room. omega (arith, length_push s.tasks (first_task child owner.process parent.number), room))))))))

fork_few : (script : Script) (s : State) (line task child process : ℕ) → length s.tasks ≤ TASKS
    → AreFew (step script s line (Fork task child process))
fork_few script s line task child process few =
    outcome_has AreFew s _ (λ answer. few)
    (if_some AreFew (task_of s task) _ _
    (λ owner found. if_some AreFew (numbered s.creds owner.current) _ _
    (λ parent at. if_idle AreFew (begun_by s task) _
    (λ idle. if_none AreFew (task_of s child) _ _
    (λ new. if_none AreFew (find (is_thread_of process) s.tasks) _ _
    (λ unused. if_own AreFew owner _
    (if_room AreFew (length s.tasks) TASKS _ _
    (λ room. omega (arith, length_push s.tasks (first_task child process parent.number), room)))))))))

-- ---- every event

fewer_live : (ends : Task → Bool) (tasks : List Task) → length (survivors ends tasks) ≤ length tasks
fewer_live ends tasks =
    let stays : Task → Bool = λ t. not (ends t) in
    omega (arith, length-filter stays tasks, count_by-le-length stays tasks)

created_few : (script : Script) (s : State) (line : ℕ) (event : Event) (task child process : ℕ) → length s.tasks ≤ TASKS
    → Creation s event task child process (step script s line event) → AreFew (step script s line event)
created_few script s line event task child process few (BySpawn owner is found of broadcasts flags) =
    subst (λ e. AreFew (step script s line e)) (sym is) (spawn_few script s line task child few)
created_few script s line event task child process few (ByFork by is known unused broadcasts flags) =
    subst (λ e. AreFew (step script s line e)) (sym is) (fork_few script s line task child process few)

kept_few : (script : Script) (s : State) (line : ℕ) (event : Event) → length s.tasks ≤ TASKS
    → TasksChange script s event (step script s line event) → AreFew (step script s line event)
kept_few script s line event few (SameTasks same broadcasts flags) =
    let long = ap (λ (ts : List Task). length ts) same in omega (arith, long, few)
kept_few script s line event few (SetsFlag task value owner flag is found known same broadcasts flags) =
    let long = ap (λ (ts : List Task). length ts) same in omega (arith, long, few)
kept_few script s line event few (Creates task process user group ns slot is tasks creds new idle broadcasts flags) =
    subst (λ e. AreFew (step script s line e)) (sym is) (init_few script s line task process user group ns few)
kept_few script s line event few (Shares task child process parent tasks creds current new creation) =
    created_few script s line event task child process few creation
kept_few script s line event few (Renews task slot owner c ends tasks creds found cause) =
    let long = ap (λ (ts : List Task). length ts) tasks ∙ length-map (survivors ends s.tasks) (updated task (length s.creds)) in
    omega (arith, long, fewer_live ends s.tasks, few)
kept_few script s line event few (Overrides task numbers tasks refer broadcasts flags) =
    let long = ap (λ (ts : List Task). length ts) tasks ∙ length-map s.tasks (overriding task numbers) in
    omega (arith, long, few)
kept_few script s line event few (Fewer ends tasks creds death) =
    let long = ap (λ (ts : List Task). length ts) tasks in
    omega (arith, long, fewer_live ends s.tasks, few)

pub step_few : (script : Script) (s : State) (line : ℕ) (event : Event) → length s.tasks ≤ TASKS
    → length (step script s line event).1.tasks ≤ TASKS
step_few script s line event few = kept_few script s line event few (changes script s line event).tasks

few_from : (script : Script) (journal : List Entry) (s : State) → length s.tasks ≤ TASKS
    → length (fold (λ (state : State) (entry : Entry). (step script state entry.line entry.event).1) s journal).tasks ≤ TASKS
few_from script [] s few = few
few_from script (entry ∷ journal) s few =
    few_from script journal (step script s entry.line entry.event).1 (step_few script s entry.line entry.event few)

pub few_after : TasksAreFew
few_after script journal = few_from script journal (opening script) (omega arith)
