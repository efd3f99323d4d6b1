-- How the permitted set of a task's credential may change.
use Rattle.std.proofs.Common.{◌≡◌, ◌==◌, ◌⊎◌, inl, inr, ℕ, ◌<◌, List, [], ◌∷◌, ◌++◌, length, Option, Some, None, Ok, Bool, true, false, cond, refl, sym, ap}
use Rattle.std.proofs.Common.{◌∙◌, subst, arith}
use Rattle.std.specs.List.{find}
use Rattle.std.specs.Option.{IfSome, option_map, option_and_then, option_or}
use Rattle.std.proofs.lemmas.List.Folds.{find-append}
use Rattle.std.proofs.lemmas.Bool.Decides.{nat_tests}
use Rattle.std.proofs.lemmas.Option.{slice_get_within}
use Rattle.cred_caps.specs.Caps.{empty, less}
use Rattle.cred_caps.proofs.SetLaws.{less-within}
use Rattle.cred_record.specs.Credential.{Credential, first_credential}
use Rattle.cred_record.specs.declared.id_call.IdCall.{IdCall}
use Rattle.cred_rules.specs.SetId.{set_id}
use Rattle.cred_setid.proofs.SetIdLaws as setid
use Rattle.cred_event.specs.declared.event.Event.{Event}
use Rattle.cred_event.specs.declared.event.Event.TheVariants.{Init}
use Rattle.cred_event.specs.declared.answer.Answer.{Answer}
use Rattle.cred_model.specs.Script.{Script, chain_of, root_of}
use Rattle.cred_model.specs.State.{State, SealedCred, Task, Numbered, numbered, task_of, current_of}
use Rattle.cred_model.specs.Change.{gain_told}
use Rattle.cred_model.specs.Ends.{survivors}
use Rattle.cred_model.specs.Moves.{updated, overriding, with_overrides, first_task}
use Rattle.cred_model.proofs.Lists.{All-at}
use Rattle.cred_model.proofs.Numbers.{current_is, at_owner, owner_number, numbered_stays, numbered_last, updated_task, overriding_task, sealed_cred_of}
use Rattle.cred_sound.specs.Sound.{IsSound}
use Rattle.cred_sound.proofs.Survivors.{find_survivor, find_no_survivor}
use Rattle.cred_sound.proofs.Parts.{sealed_cred, Cause, Creation, CredsChange, TasksChange, SameCreds, Seals, ByBegin, ByAct, ByRaw, ByCommit, BySpawn, ByFork}
use Rattle.cred_sound.proofs.Parts.{SameTasks, SetsFlag, Creates, Shares, Renews, Overrides, Fewer}
use Rattle.cred_sound.proofs.Events.{changes}
use Rattle.cred_laws.specs.Made.{IsChangedFrom, IsMade, AreMade}
use Rattle.cred_laws.specs.Permitted.{GainsBy, PermittedGains, IsCreatedWith, NewTasksAreCreated}
use Rattle.cred_laws.proofs.ChangeLaws.{change_gains}
use Rattle.cred_laws.proofs.OverrideLaws.{leaves_current}

-- a task's current credential, where these are the tasks and the credentials
abbrev current_in : List Task → List SealedCred → ℕ → Option Numbered
current_in tasks creds task = option_and_then (λ (t : Task). numbered creds t.current) (find (λ t. t.number == task) tasks)

-- ---- a task that lived

-- what a task has is what it had
same_one : (t : State) (task : ℕ) (before after : Numbered) → current_of t task ≡ Some before → current_of t task ≡ Some after → after ≡ before
same_one t task before after stays now = let both : Some before ≡ Some after = sym stays ∙ now in cc

-- with more credentials it has the one that it had
still_current : (s : State) (more : List SealedCred) (task : ℕ) (c : Numbered) → current_of s task ≡ Some c
    → current_in s.tasks (s.creds ++ more) task ≡ Some c
still_current s more task c is =
    let at = current_is s task c is in
    ap (option_and_then (λ (t : Task). numbered (s.creds ++ more) t.current)) at.is
    ∙ numbered_stays s.creds more at.owner.current c (at_owner s task c at is)

still_with : (s : State) (event : Event) (left : List ℕ) (t : State) (task : ℕ) (c : Numbered) → CredsChange s event left t
    → current_of s task ≡ Some c → current_in s.tasks t.creds task ≡ Some c
still_with s event left t task c (SameCreds same) is = ap (λ creds. current_in s.tasks creds task) same ∙ is
still_with s event left t task c (Seals new slot creds fits origin) is =
    ap (λ creds. current_in s.tasks creds task) creds ∙ still_current s _ task c is

-- and next to more tasks
still_before : (s : State) (more : List Task) (creds : List SealedCred) (task : ℕ) (c : Numbered)
    → current_in s.tasks creds task ≡ Some c → current_in (s.tasks ++ more) creds task ≡ Some c
still_before s more creds task c is =
    ap (option_and_then (λ (t : Task). numbered creds t.current)) (find-append (λ (t : Task). t.number == task) s.tasks more)
    ∙ elim (find (λ t. t.number == task) s.tasks) as
    (λ o. option_and_then (λ (t : Task). numbered creds t.current) o ≡ Some c
    → option_and_then (λ (t : Task). numbered creds t.current) (option_or o (find (λ t. t.number == task) more)) ≡ Some c) [
      | None ↦ λ none. cc
      | Some t ↦ λ some. some
    ] is

-- ---- a task that goes on, while others end

-- what is found, and what it leads to
found_then : {A B : Type 0} (f : A → Option B) (o : Option A) (y : B) → option_and_then f o ≡ Some y
    → (x : A) × (o ≡ Some x) × (f x ≡ Some y)
found_then f None y is = cc
found_then f (Some x) y is = (x, refl, is)

then_map : {A B C : Type 0} (f : B → Option C) (g : A → B) (o : Option A)
    → option_and_then f (option_map g o) ≡ option_and_then (λ x. f (g x)) o
then_map f g None = refl
then_map f g (Some x) = refl

-- ---- a task that acts with other credentials

acts_same : (tasks : List Task) (creds : List SealedCred) (acting : ℕ) (numbers : List ℕ) (task : ℕ)
    → current_in (with_overrides tasks acting numbers) creds task ≡ current_in tasks creds task
acts_same tasks creds acting numbers task =
    let current : Task → ℕ = λ t. t.current in
    sym (then_map (numbered creds) current (find (λ (t : Task). t.number == task) (with_overrides tasks acting numbers)))
    ∙ ap (option_and_then (numbered creds)) (leaves_current tasks acting numbers task)
    ∙ then_map (numbered creds) current (find (λ (t : Task). t.number == task) tasks)

-- ---- a task with a new credential

-- the credential under the number of a task's current one is that one
pub under_number : (s : State) (task : ℕ) (c : Numbered) → current_of s task ≡ Some c → numbered s.creds c.number ≡ Some c
under_number s task c is =
    let at = current_is s task c is in ap (numbered s.creds) at.number ∙ at_owner s task c at is

-- a call that sets ids permits nothing more
called_gains : (s : State) (task : ℕ) (old before : Numbered) (call : IdCall) (c : Credential) → current_of s task ≡ Some old
    → current_of s task ≡ Some before → set_id before.cred call ≡ Ok c → less c.perm old.cred.perm ≡ empty
called_gains s task old before call c current is ruled =
    let both : Some before ≡ Some old = sym is ∙ current in
    let same : before ≡ old = cc in
    ap (λ (n : Numbered). less c.perm n.cred.perm) (sym same)
    ∙ less-within c.perm before.cred.perm (setid.permitted_never_grows before.cred c call ruled)

caused_gains : (script : Script) (s : State) (event : Event) (task : ℕ) (owner : Task) (ends : Task → Bool) (old : Numbered) (c : Credential)
    (made : Answer × State) → AreMade script s → current_of s task ≡ Some old → owner.current ≡ old.number
    → Cause s event task owner ends c made → less c.perm old.cred.perm ≡ gain_told made.0
caused_gains script s event task owner ends old c made are current number
    (ByBegin call before line slot by is ruled unused idle none broadcasts answered flags) =
    called_gains s task old before call c current is ruled ∙ ap gain_told (sym answered)
caused_gains script s event task owner ends old c made are current number
    (ByAct line slot broadcast before by opened first is ruled none broadcasts answered flags) =
    called_gains s task old before broadcast.call c current is ruled ∙ ap gain_told (sym answered)
caused_gains script s event task owner ends old c made are current number (ByRaw call before slot by is ruled idle none broadcasts answered flags) =
    called_gains s task old before call c current is ruled ∙ ap gain_told (sym answered)
caused_gains script s event task owner ends old c made are current number
    (ByCommit label place slot count p last by first is own changed same cred ending broadcasts answered flags) =
    let one = All-at (IsMade script s.creds) s.prepared place p is are in
    let so = subst (λ o. IfSome o (IsChangedFrom script (numbered s.creds p.base))) changed one in
    let base : numbered s.creds p.base ≡ Some old = ap (numbered s.creds) (sym same ∙ number) ∙ under_number s task old current in
    let by = subst (λ found. IsChangedFrom script found last) base so in
    ap (λ (c : Credential). less c.perm old.cred.perm) cred
    ∙ change_gains by.0 (chain_of script old.cred.ns) old.cred last.change (record { answer = by.1; cred = last.cred; gains = last.gains }) (length s.creds)
    slot count by.2
    ∙ ap gain_told (sym answered)

-- The event gives the task this credential in the place of the old one.
pub record IsRenewed (s : State) (event : Event) (made : Answer × State) (task : ℕ) (before after : Numbered) : Type 0 where
  pub owner : Task
  pub ends : Task → Bool
  pub found : task_of s task ≡ Some owner
  pub old : before.number < length s.creds
  pub new : after.number ≡ length s.creds
  pub cause : Cause s event task owner ends after.cred made

-- A task that lives before and after an event has what it had, or a new credential.
abbrev pub Goes : State → Event → Answer × State → ℕ → Numbered → Numbered → Type 0
Goes s event made task before after = (after ≡ before) ⊎ IsRenewed s event made task before after

updated_goes : (s : State) (event : Event) (made : Answer × State) (acting task slot : ℕ) (owner : Task) (ends : Task → Bool) (before after : Numbered)
    (c : Credential) (t : Task) (b : Bool) → (t.number == acting) ≡ b → t.number ≡ task → task_of s acting ≡ Some owner
    → Cause s event acting owner ends c made → current_of s task ≡ Some before → numbered s.creds t.current ≡ Some before
    → numbered (s.creds ++ sealed_cred c slot ∷ []) (cond b (record t { current = length s.creds }) t).current ≡ Some after
    → Goes s event made task before after
updated_goes s event made acting task slot owner ends before after c t true test number acts cause is at now =
    let actor : acting ≡ task = grind (arith, nat_tests) in
    let last = numbered_last s.creds (sealed_cred c slot) in
    let news : Some (record { number = length s.creds; cred = c; slot = slot }) ≡ Some after = sym last ∙ now in
    let new : record { number = length s.creds; cred = c; slot = slot } ≡ after = cc in
    let here = current_is s task before is in
    let below = slice_get_within s.creds here.owner.current (sealed_cred_of before) here.sealed in
    inr (record {
      owner = owner;
      ends = ends;
      found = ap (task_of s) (sym actor) ∙ acts;
      old = let there = here.number in omega arith;
      new = sym (ap (λ (n : Numbered). n.number) new);
      cause = subst (λ c. Cause s event task owner ends c made) (ap (λ (n : Numbered). n.cred) new)
          (subst (λ task. Cause s event task owner ends c made) actor cause);
    })
updated_goes s event made acting task slot owner ends before after c t false test number acts cause is at now =
    let both : Some before ≡ Some after = sym (numbered_stays s.creds (sealed_cred c slot ∷ []) t.current before at) ∙ now in
    inl (cc)

-- the number of the acting task's old credential, as its owner has it and as it is found
pub owner_current : (s : State) (acting : ℕ) (owner : Task) (old : Numbered) → task_of s acting ≡ Some owner
    → current_of s acting ≡ Some old → owner.current ≡ old.number
owner_current s acting owner old found current =
    let at = current_is s acting old current in
    let both : Some at.owner ≡ Some owner = sym at.is ∙ found in
    let one : at.owner ≡ owner = cc in
    sym (at.number ∙ ap (λ (t : Task). t.current) one)

pub goes_by : (script : Script) (s : State) (event : Event) (left : List ℕ) (made : Answer × State) (task : ℕ) (before after : Numbered)
    → IsSound s → CredsChange s event left made.1 → TasksChange script s event made → current_of s task ≡ Some before
    → current_of made.1 task ≡ Some after → Goes s event made task before after
goes_by script s event left made task before after sound creds (SameTasks same broadcasts flags) is now =
    inl (same_one made.1 task before after
    (ap (λ tasks. current_in tasks made.1.creds task) same ∙ still_with s event left made.1 task before creds is) now)
goes_by script s event left made task before after sound creds (SetsFlag acting value owner flag on found known same broadcasts flags) is now =
    inl (same_one made.1 task before after
    (ap (λ tasks. current_in tasks made.1.creds task) same ∙ still_with s event left made.1 task before creds is) now)
goes_by script s event left made task before after sound creds (Creates new process user group ns slot by tasks sealed fresh idle broadcasts flags) is now =
    inl (same_one made.1 task before after
    (ap (λ tasks. current_in tasks made.1.creds task) tasks
    ∙ still_before s _ made.1.creds task before (still_with s event left made.1 task before creds is)) now)
goes_by script s event left made task before after sound creds (Shares parent child process shared tasks sealed current fresh creation) is now =
    inl (same_one made.1 task before after
    (ap (λ tasks. current_in tasks made.1.creds task) tasks
    ∙ still_before s _ made.1.creds task before (still_with s event left made.1 task before creds is)) now)
goes_by script s event left made task before after sound creds (Renews acting slot owner c ends tasks sealed found cause) is now =
    let creds_after = s.creds ++ sealed_cred c slot ∷ [] in
    let at = current_is s task before is in
    let rest = survivors ends s.tasks in
    let seen : option_and_then (λ (t : Task). numbered creds_after t.current)
    (option_map (updated acting (length s.creds)) (find (λ (t : Task). t.number == task) rest)) ≡ Some after
    = sym (ap (λ creds. current_in made.1.tasks creds task) sealed
    ∙ ap (λ ts. current_in ts creds_after task) tasks
    ∙ ap (option_and_then (λ (t : Task). numbered creds_after t.current)) (updated_task rest acting (length s.creds) task)) ∙ now in
    let alive = found_then (λ (t : Task). numbered creds_after (updated acting (length s.creds) t).current) (find (λ (t : Task). t.number == task) rest) after
    (sym (then_map (λ (t : Task). numbered creds_after t.current) (updated acting (length s.creds)) (find (λ (t : Task). t.number == task) rest)) ∙ seen) in
    let t : Task = alive.0 in
    let here : task_of s task ≡ Some t = find_survivor ends s.tasks task t sound.tasks alive.1 in
    let both : Some at.owner ≡ Some t = sym at.is ∙ here in
    let one : at.owner ≡ t = cc in
    updated_goes s event made acting task slot owner ends before after c t (t.number == acting) refl
    (owner_number s task t here) found cause is
    (ap (λ (t : Task). numbered s.creds t.current) (sym one) ∙ at_owner s task before at is)
    alive.2
goes_by script s event left made task before after sound creds (Overrides acting numbers tasks refer broadcasts flags) is now =
    inl (same_one made.1 task before after
    (ap (λ tasks. current_in tasks made.1.creds task) tasks
    ∙ acts_same s.tasks made.1.creds acting numbers task
    ∙ still_with s event left made.1 task before creds is) now)
goes_by script s event left made task before after sound creds (Fewer ends tasks sealed death) is now =
    let at = current_is s task before is in
    let rest = survivors ends s.tasks in
    let seen : option_and_then (λ (t : Task). numbered s.creds t.current) (find (λ (t : Task). t.number == task) rest) ≡ Some after
    = sym (ap (λ creds. current_in made.1.tasks creds task) sealed ∙ ap (λ ts. current_in ts s.creds task) tasks) ∙ now in
    let alive = found_then (λ (t : Task). numbered s.creds t.current) (find (λ (t : Task). t.number == task) rest) after seen in
    let t : Task = alive.0 in
    let here : task_of s task ≡ Some t = find_survivor ends s.tasks task t sound.tasks alive.1 in
    let both : Some at.owner ≡ Some t = sym at.is ∙ here in
    let one : at.owner ≡ t = cc in
    let stays : current_of s task ≡ Some after = ap (option_and_then (λ (t : Task). numbered s.creds t.current)) here ∙ alive.2 in
    inl (same_one s task before after is stays)

gains_by : (script : Script) (s : State) (event : Event) (made : Answer × State) (task : ℕ) (before after : Numbered) → AreMade script s
    → current_of s task ≡ Some before → Goes s event made task before after → GainsBy made.0 before after
gains_by script s event made task before after are is (inl same) =
    record { same = λ number. same; other = λ differ. absurd (differ (ap (λ (c : Numbered). c.number) same)) }
gains_by script s event made task before after are is (inr new) = record {
  same = λ number. absurd (let below = new.old in let last = new.new in omega (arith, number));
  other = λ differ.
      caused_gains script s event task new.owner new.ends before after.cred made are is (owner_current s task new.owner before new.found is) new.cause;
}

pub permitted_gains : PermittedGains
permitted_gains script s line event task before after sound are is now =
    let c = changes script s line event in
    gains_by script s event _ task before after are is (goes_by script s event c.left _ task before after sound c.creds c.tasks is now)

-- ---- a task that is created

nobody : (tasks : List Task) (creds : List SealedCred) (task : ℕ) (c : Numbered) → find (λ t. t.number == task) tasks ≡ None
    → current_in tasks creds task ≡ Some c → ⊥
nobody tasks creds task c none is =
    let empty : None ≡ Some c = sym (ap (option_and_then (λ (t : Task). numbered creds t.current)) none) ∙ is in cc

first_at : (script : Script) (s : State) (number process task user group ns slot : ℕ) (c : Numbered) (b : Bool) → (number == task) ≡ b
    → option_and_then (λ (t : Task). numbered (s.creds ++ sealed_cred (first_credential user group ns (root_of script ns)) slot ∷ []) t.current)
    (cond b (Some (first_task number process (length s.creds))) None) ≡ Some c
    → IsCreatedWith script s (Init number process user group ns) task c
first_at script s number process task user group ns slot c true test now =
    let same : number ≡ task = grind (arith, nat_tests) in
    let both = sym (numbered_last s.creds (sealed_cred (first_credential user group ns (root_of script ns)) slot)) ∙ now in
    let one : record { number = length s.creds; cred = first_credential user group ns (root_of script ns); slot = slot } ≡ c = cc in
    (same, ap (λ (n : Numbered). n.number) (sym one), ap (λ (n : Numbered). n.cred) (sym one))
first_at script s number process task user group ns slot c false test now = cc

child_at : (s : State) (parent child process task : ℕ) (shared c : Numbered) (b : Bool) → (child == task) ≡ b
    → current_of s parent ≡ Some shared
    → option_and_then (λ (t : Task). numbered s.creds t.current) (cond b (Some (first_task child process shared.number)) None) ≡ Some c
    → (child ≡ task) × (current_of s parent ≡ Some c)
child_at s parent child process task shared c true test current now =
    let same : child ≡ task = grind (arith, nat_tests) in
    let both : Some shared ≡ Some c = sym (under_number s parent shared current) ∙ now in
    let one : shared ≡ c = cc in
    (same, current ∙ ap Some one)
child_at s parent child process task shared c false test current now = cc

created_with : (script : Script) (s : State) (event : Event) (parent child process task : ℕ) (c : Numbered) (made : Answer × State)
    → Creation s event parent child process made → (child ≡ task) × (current_of s parent ≡ Some c) → IsCreatedWith script s event task c
created_with script s event parent child process task c made (BySpawn owner is found own broadcasts flags) with =
    subst (λ e. IsCreatedWith script s e task c) (sym is) with
created_with script s event parent child process task c made (ByFork by is known unused broadcasts flags) with =
    subst (λ e. IsCreatedWith script s e task c) (sym is) with

created_by : (script : Script) (s : State) (event : Event) (made : Answer × State) (task : ℕ) (after : Numbered) → TasksChange script s event made
    → task_of s task ≡ None → current_of made.1 task ≡ Some after → IsCreatedWith script s event task after
created_by script s event made task after (SameTasks same broadcasts flags) none now =
    absurd (nobody made.1.tasks made.1.creds task after (ap (find (λ (t : Task). t.number == task)) same ∙ none) now)
created_by script s event made task after (SetsFlag acting value owner flag on found known same broadcasts flags) none now =
    absurd (nobody made.1.tasks made.1.creds task after (ap (find (λ (t : Task). t.number == task)) same ∙ none) now)
created_by script s event made task after (Creates number process user group ns slot by tasks creds fresh idle broadcasts flags) none now =
    let first = first_task number process (length s.creds) in
    let owner = find-append (λ (t : Task). t.number == task) s.tasks (first ∷ [])
    ∙ ap (λ o. option_or o (find (λ (t : Task). t.number == task) (first ∷ []))) none in
    subst (λ e. IsCreatedWith script s e task after) (sym by)
    (first_at script s number process task user group ns slot after (number == task) refl
    (sym (ap (λ tasks. current_in tasks made.1.creds task) tasks
    ∙ ap (λ creds. current_in (s.tasks ++ first ∷ []) creds task) creds
    ∙ ap (option_and_then (λ (t : Task). numbered (s.creds ++ sealed_cred (first_credential user group ns (root_of script ns)) slot ∷ []) t.current))
    owner) ∙ now))
created_by script s event made task after (Shares parent child process shared tasks creds current fresh creation) none now =
    let first = first_task child process shared.number in
    let owner = find-append (λ (t : Task). t.number == task) s.tasks (first ∷ [])
    ∙ ap (λ o. option_or o (find (λ (t : Task). t.number == task) (first ∷ []))) none in
    created_with script s event parent child process task after made creation
    (child_at s parent child process task shared after (child == task) refl current
    (sym (ap (λ tasks. current_in tasks made.1.creds task) tasks
    ∙ ap (λ creds. current_in (s.tasks ++ first ∷ []) creds task) creds
    ∙ ap (option_and_then (λ (t : Task). numbered s.creds t.current)) owner) ∙ now))
created_by script s event made task after (Renews acting slot owner c ends tasks creds found cause) none now =
    absurd (nobody made.1.tasks made.1.creds task after
    (ap (find (λ (t : Task). t.number == task)) tasks ∙ updated_task (survivors ends s.tasks) acting (length s.creds) task
    ∙ ap (option_map (updated acting (length s.creds))) (find_no_survivor ends s.tasks task none)) now)
created_by script s event made task after (Overrides acting numbers tasks refer broadcasts flags) none now =
    absurd (nobody made.1.tasks made.1.creds task after
    (ap (find (λ (t : Task). t.number == task)) tasks ∙ overriding_task s.tasks acting numbers task
    ∙ ap (option_map (overriding acting numbers)) none) now)
created_by script s event made task after (Fewer ends tasks creds death) none now =
    absurd (nobody made.1.tasks made.1.creds task after
    (ap (find (λ (t : Task). t.number == task)) tasks ∙ find_no_survivor ends s.tasks task none) now)

pub new_tasks_are_created : NewTasksAreCreated
new_tasks_are_created script s line event task after =
    created_by script s event _ task after (changes script s line event).tasks
