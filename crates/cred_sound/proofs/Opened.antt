-- The broadcasts stay in order over each event.
use Rattle.std.proofs.Common.{◌≡◌, ◌≢◌, ◌==◌, ◌&&◌, not, ℕ, List, [], ◌∷◌, ◌++◌, length, map, Some, None, Bool, false, arith, refl, sym, ap, ◌∙◌, subst}
use Rattle.std.specs.List.{find}
use Rattle.std.proofs.lemmas.Bool.Decides.{nat_tests}
use Rattle.cred_record.specs.Credential.{Credential}
use Rattle.cred_event.specs.declared.event.Change.{Change}
use Rattle.cred_event.specs.declared.event.Change.TheVariants.{Exec}
use Rattle.cred_event.specs.declared.event.Event.{Event}
use Rattle.cred_event.specs.declared.answer.Answer.{Answer}
use Rattle.cred_model.specs.Script.{Script}
use Rattle.cred_model.specs.State.{State, Task, Broadcast, task_of}
use Rattle.cred_model.specs.Ends.{is_beside, survivors}
use Rattle.cred_model.specs.Moves.{first_task, overriding, updated, with_current}
use Rattle.cred_model.specs.LabelEvents.{ends_with}
use Rattle.cred_model.proofs.Numbers.{overriding_as, overriding_number, owner_number, updated_as, updated_number}
use Rattle.cred_sound.specs.Broadcasts.{IsThread}
use Rattle.cred_sound.specs.Sound.{IsSound}
use Rattle.cred_sound.proofs.Parts.{TasksChange, Cause, Creation, Death, broadcasts_left, ByBegin, ByAct, ByRaw, ByCommit, BySpawn, ByFork, ByExit, ByAbort}
use Rattle.cred_sound.proofs.Parts.{SameTasks, SetsFlag, Creates, Shares, Renews, Overrides, Fewer}
use Rattle.cred_sound.proofs.Threads.{AreOpen, is_thread, thread_among, thread_kept, thread_stays, open_with, open_begun, open_left, open_joined, open_dropped}
use Rattle.cred_sound.proofs.Unique.{none_has}

-- what a sound state says of its broadcasts
pub sound_open : (s : State) → IsSound s → AreOpen s.tasks s.broadcasts
sound_open s sound = record {
  apart = record { numbers = sound.broadcasts; processes = sound.processes };
  under_way = sound.under_way;
}

-- so it is with these tasks and broadcasts
settled : (tasks : List Task) (broadcasts : List Broadcast) (t : State) → t.tasks ≡ tasks → t.broadcasts ≡ broadcasts → AreOpen tasks broadcasts
    → AreOpen t.tasks t.broadcasts
settled tasks broadcasts t is are opened =
    subst (λ ts. AreOpen ts t.broadcasts) (sym is) (subst (AreOpen tasks) (sym are) opened)

-- ---- threads that stay where one has a new current credential

renewed_stays : (ends : Task → Bool) (tasks : List Task) (task n process number : ℕ)
    → ((t : Task) → t.number ≡ number → t.process ≡ process → ends t ≡ false)
    → IsThread tasks process number → IsThread (with_current (survivors ends tasks) task n) process number
renewed_stays ends tasks task n process number goes_on is =
    thread_kept (updated task n) (updated_number task n)
    (λ t. updated_as (λ r. r.process ≡ t.process) task n t refl refl) (survivors ends tasks) process number
    (thread_stays ends tasks process number goes_on is)

-- where none ends
all_stay : (ends : Task → Bool) (tasks : List Task) (task n : ℕ) → ends ≡ (λ t. false)
    → (process number : ℕ) → IsThread tasks process number → IsThread (with_current (survivors ends tasks) task n) process number
all_stay ends tasks task n none process number =
    renewed_stays ends tasks task n process number (λ t same of. ap (λ (f : Task → Bool). f t) none)

-- where the other threads of another process end
others_stay : (owner : Task) (ends : Task → Bool) (tasks : List Task) (task n : ℕ) → ends ≡ is_beside owner
    → (process number : ℕ) → process ≢ owner.process → IsThread tasks process number
    → IsThread (with_current (survivors ends tasks) task n) process number
others_stay owner ends tasks task n is process number other =
    renewed_stays ends tasks task n process number
    (λ t same of.
    let test : (t.process == owner.process) ≡ false = grind (arith, nat_tests) in
    ap (λ (f : Task → Bool). f t) is ∙ ap (λ b. b && not (t.number == owner.number)) test)

-- ---- each event

commit_open : (s : State) (owner : Task) (ends : Task → Bool) (task n : ℕ) (change : Change) → ends ≡ ends_with change owner
    → AreOpen s.tasks s.broadcasts
    → AreOpen (with_current (survivors ends s.tasks) task n) (broadcasts_left change owner s.broadcasts)
commit_open s owner ends task n (Exec file) is opened =
    open_dropped s.tasks (with_current (survivors ends s.tasks) task n) s.broadcasts owner.process
    (others_stay owner ends s.tasks task n is) opened
commit_open s owner ends task n change is opened =
    open_with s.tasks (with_current (survivors ends s.tasks) task n) s.broadcasts (all_stay ends s.tasks task n is) opened

renewed_open : (s : State) (event : Event) (task : ℕ) (owner : Task) (ends : Task → Bool) (made : Answer × State) (c : Credential)
    → Cause s event task owner ends c made → task_of s task ≡ Some owner → IsSound s
    → AreOpen (with_current (survivors ends s.tasks) task (length s.creds)) made.1.broadcasts
renewed_open s event task owner ends made c (ByBegin call before number slot is has ruled new idle none broadcasts answer flags) found sound =
    let now = with_current (survivors ends s.tasks) task (length s.creds) in
    let own : find (λ t. t.number == owner.number) s.tasks ≡ Some owner
    = ap (λ n. find (λ (t : Task). t.number == n) s.tasks) (owner_number s task owner found) ∙ found in
    subst (AreOpen now) (sym broadcasts)
    (open_with s.tasks now _ (all_stay ends s.tasks task (length s.creds) none)
    (open_begun s.tasks s.broadcasts owner number call sound.tasks own new idle (sound_open s sound)))
renewed_open s event task owner ends made c (ByAct number slot broadcast before is opened first has ruled none broadcasts answer flags) found sound =
    let now = with_current (survivors ends s.tasks) task (length s.creds) in
    let stays = all_stay ends s.tasks task (length s.creds) none in
    subst (AreOpen now) (sym broadcasts)
    (open_left s.tasks now s.broadcasts task (λ k d lt. stays _ _ (sound.under_way k d lt).caller)
    (λ process number other. stays process number) (sound_open s sound))
renewed_open s event task owner ends made c (ByRaw call before slot is has ruled idle none broadcasts answer flags) found sound =
    let now = with_current (survivors ends s.tasks) task (length s.creds) in
    subst (AreOpen now) (sym broadcasts) (open_with s.tasks now s.broadcasts (all_stay ends s.tasks task (length s.creds) none) (sound_open s sound))
renewed_open s event task owner ends made c
    (ByCommit label place slot count p last is first at own changed same cred ending broadcasts answer flags) found sound =
    let now = with_current (survivors ends s.tasks) task (length s.creds) in
    subst (AreOpen now) (sym broadcasts) (commit_open s owner ends task (length s.creds) last.change ending (sound_open s sound))

created_open : (s : State) (event : Event) (task child process n : ℕ) (made : Answer × State) → Creation s event task child process made
    → task_of s child ≡ None → IsSound s → AreOpen (s.tasks ++ first_task child process n ∷ []) made.1.broadcasts
created_open s event task child process n made (BySpawn owner is found of broadcasts flags) none sound =
    let new = first_task child process n in
    subst (AreOpen (s.tasks ++ new ∷ [])) (sym broadcasts)
    (open_joined s.tasks s.broadcasts task new none
    (is_thread s.tasks process task (record { task = owner; is = found; of = sym of })) (sound_open s sound))
created_open s event task child process n made (ByFork by is known unused broadcasts flags) none sound =
    let new = first_task child process n in
    subst (AreOpen (s.tasks ++ new ∷ [])) (sym broadcasts)
    (open_with s.tasks (s.tasks ++ new ∷ []) s.broadcasts (thread_among s.tasks (new ∷ [])) (sound_open s sound))

fewer_open : (s : State) (event : Event) (ends : Task → Bool) (made : Answer × State) → Death s event ends made → IsSound s
    → AreOpen (survivors ends s.tasks) made.1.broadcasts
fewer_open s event ends made (ByExit task gone is known ending idle broadcasts flags) sound =
    let now = survivors ends s.tasks in
    let stays : (process number : ℕ) → number ≢ task → IsThread s.tasks process number → IsThread now process number
    = λ process number other. thread_stays ends s.tasks process number
    (λ t same of.
    let test : (t.number == task) ≡ false = grind (arith, nat_tests) in ap (λ (f : Task → Bool). f t) ending ∙ test) in
    let callers = none_has (λ (c : Broadcast). c.caller) s.broadcasts task idle in
    subst (AreOpen now) (sym broadcasts)
    (open_left s.tasks now s.broadcasts task (λ k d lt. stays _ _ (callers k d lt) (sound.under_way k d lt).caller) stays (sound_open s sound))
fewer_open s event ends made (ByAbort number task cause broadcast is ending broadcasts answer flags) sound =
    let now = survivors ends s.tasks in
    subst (AreOpen now) (sym broadcasts)
    (open_dropped s.tasks now s.broadcasts broadcast.process
    (λ process number other. thread_stays ends s.tasks process number
    (λ t same of.
    let test : (t.process == broadcast.process) ≡ false = grind (arith, nat_tests) in ap (λ (f : Task → Bool). f t) ending ∙ test))
    (sound_open s sound))

pub broadcasts_open : {script : Script} → (s : State) (event : Event) (made : Answer × State) → TasksChange script s event made → IsSound s
    → AreOpen made.1.tasks made.1.broadcasts
broadcasts_open s event made (SameTasks same broadcasts flags) sound = settled s.tasks s.broadcasts made.1 same broadcasts (sound_open s sound)
broadcasts_open s event made (SetsFlag task value owner flag is found known same broadcasts flags) sound =
    settled s.tasks s.broadcasts made.1 same broadcasts (sound_open s sound)
broadcasts_open s event made (Creates task process user group ns slot is tasks creds new idle broadcasts flags) sound =
    let more = first_task task process (length s.creds) ∷ [] in
    settled (s.tasks ++ more) s.broadcasts made.1 tasks broadcasts
    (open_with s.tasks (s.tasks ++ more) s.broadcasts (thread_among s.tasks more) (sound_open s sound))
broadcasts_open s event made (Shares task child process parent tasks creds current new creation) sound =
    settled _ made.1.broadcasts made.1 tasks refl (created_open s event task child process parent.number made creation new sound)
broadcasts_open s event made (Renews task slot owner c ends tasks creds found cause) sound =
    settled _ made.1.broadcasts made.1 tasks refl (renewed_open s event task owner ends made c cause found sound)
broadcasts_open s event made (Overrides task numbers tasks refer broadcasts flags) sound =
    settled (map (overriding task numbers) s.tasks) s.broadcasts made.1 tasks broadcasts
    (open_with s.tasks (map (overriding task numbers) s.tasks) s.broadcasts
    (thread_kept (overriding task numbers) (overriding_number task numbers)
    (λ t. overriding_as (λ r. r.process ≡ t.process) task numbers t refl refl) s.tasks)
    (sound_open s sound))
broadcasts_open s event made (Fewer ends tasks creds death) sound =
    settled _ made.1.broadcasts made.1 tasks refl (fewer_open s event ends made death sound)
