-- What the events of tasks drop: nothing, unless there was a sweep.
use Rattle.std.proofs.Common.{◌≡◌, ◌==◌, ◌&&◌, ◌⊎◌, inl, inr, not, ℕ, List, [], ◌∷◌, ◌++◌, length, slice_get, find, drop, Some, Bool, true, false, cond, refl}
use Rattle.std.proofs.Common.{sym, ap, ◌∙◌, subst, arith}
use Rattle.std.specs.List.{All, Contains, count_by}
use Rattle.std.specs.Option.{option_map}
use Rattle.std.proofs.lemmas.Bool.Decides.{nat_tests}
use Rattle.std.proofs.lemmas.List.Elements.{All-cons, All-filter, All-head, All-tail}
use Rattle.cred_record.specs.Credential.{Credential}
use Rattle.cred_event.specs.declared.answer.Answer.{Answer}
use Rattle.cred_event.specs.declared.answer.Answer.TheVariants.{Done, Sealed, Stale}
use Rattle.cred_event.specs.declared.event.Change.{Change}
use Rattle.cred_event.specs.declared.event.Change.TheVariants.{Exec, SetFs, Adjust, Access}
use Rattle.cred_model.specs.Broadcasts.{dropped}
use Rattle.cred_model.specs.Dumpable.{flags_committed}
use Rattle.cred_model.specs.Ends.{ended, left_by, survivors}
use Rattle.cred_model.specs.Moves.{committed, created, first_task, given_up, with_override, overridden, overriding, replaced, updated, with_current}
use Rattle.cred_model.specs.Moves.{with_overrides}
use Rattle.cred_model.specs.Slots.{refs}
use Rattle.cred_model.specs.State.{State, Task, Broadcast, Prepared, Changed, Numbered, numbered, task_of}
use Rattle.cred_model.specs.LabelEvents.{broadcasts_after, commit_answer, ends_with, try_commit}
use Rattle.cred_model.proofs.Lists.{All-left, All-right}
use Rattle.cred_model.proofs.Referred.{EachRef, each_broadcasts, each_prepared, each_tasks}
use Rattle.cred_model.proofs.Numbers.{numbered_is, overriding_task, owner_number, updated_task}
use Rattle.cred_sound.specs.Sound.{IsSound}
use Rattle.cred_sound.proofs.Parts.{with_left}
use Rattle.cred_sound.proofs.References.{overrides_stand, own_refs, owner_stands}
use Rattle.cred_sound.proofs.Survivors.{find_goes_on}
use Rattle.cred_machine.specs.Kept.{may_have_swept}
use Rattle.cred_machine.proofs.Lasting.{IsOwn, currents_before, currents_ended, currents_stay, last_of, overridden_before, overrides_ended, overrides_stay}
use Rattle.cred_machine.proofs.Lasting.{owned, unremoved}
use Rattle.cred_machine.proofs.KeptByEvents.{IsLeft, Keeps, OneMore, NoneMore, all_stand, each_before, each_creds, gives_up_prepared, if_left, with_broadcasts}
use Rattle.cred_machine.proofs.KeptByEvents.{with_flags}

-- the tasks before there was one more
tasks_before : {P : ℕ → Type 0} {s : State} → EachRef P s → (tasks : List Task) (new : Task) → All (λ t. P t.current) (tasks ++ new ∷ [])
    → All (λ t. All P t.overrides) (tasks ++ new ∷ []) → EachRef P (record s { tasks = tasks })
tasks_before {P} each tasks new currents overrides =
    each_tasks each tasks (All-left (λ (t : Task). P t.current) tasks (new ∷ []) currents)
    (All-left (λ (t : Task). All P t.overrides) tasks (new ∷ []) overrides)

-- a first task is created
pub creates : (s : State) (left : List ℕ) (slot task process : ℕ) (c : Credential) → IsLeft s left
    → Keeps s (Sealed (length s.creds) slot, created (with_left s left) (first_task task process (length s.creds)) c slot)
creates s left slot task process c is =
    let first = first_task task process (length s.creds) in
    let t = created (with_left s left) first c slot in
    let H = Contains (refs t) in
    let own = own_refs t in
    record {
      left = left;
      each = each_creds (tasks_before own s.tasks first own.currents own.overrides) s.creds;
      swept = if_left s left is;
      creds = OneMore (record { cred = c; slot = slot }) refl (last_of (λ (t : Task). H t.current) s.tasks first own.currents);
    }

-- a task more that shares a credential
pub shares : (s : State) (answer : Answer) (new : Task) (broadcasts : List Broadcast)
    → Keeps s (answer, record s { tasks = s.tasks ++ new ∷ []; broadcasts = broadcasts })
shares s answer new broadcasts =
    let t = record s { tasks = s.tasks ++ new ∷ []; broadcasts = broadcasts } in
    let own = own_refs t in
    all_stand s t answer (each_broadcasts (tasks_before own s.tasks new own.currents own.overrides) s.broadcasts) refl

-- tasks end
pub ends_some : (s : State) (answer : Answer) (left : List ℕ) (ends : Task → Bool) (broadcasts : List Broadcast)
    → (left ≡ s.deferred) ⊎ ((after : ℕ) → may_have_swept (length s.deferred) answer after ≡ true)
    → Keeps s (answer, record (ended ends (with_left s left)) { broadcasts = broadcasts })
ends_some s answer left ends broadcasts is =
    let t = record (ended ends (with_left s left)) { broadcasts = broadcasts } in
    let H = Contains (refs t) in
    let own = own_refs t in
    let late = All-right H left (left_by ends s.tasks) own.deferred in
    record {
      left = left;
      each = each_broadcasts (each_tasks (each_before own left (left_by ends s.tasks) own.deferred) s.tasks
          (currents_ended H ends s.tasks own.currents late) (overrides_ended H ends s.tasks own.overrides late)) s.broadcasts;
      swept = at is;
      creds = NoneMore refl;
    }
  where
    at : (left ≡ s.deferred) ⊎ ((after : ℕ) → may_have_swept (length s.deferred) answer after ≡ true)
        → (left ≡ s.deferred) ⊎ (may_have_swept (length s.deferred) answer (length (left ++ left_by ends s.tasks)) ≡ true)
    at (inl same) = inl same
    at (inr each) = inr (each (length (left ++ left_by ends s.tasks)))

-- the task whose current credential is a new one refers to that
renewed : (s : State) (tasks : List Task) (task new : ℕ) (owner : Task) → s.tasks ≡ with_current tasks task new
    → find (λ t. t.number == task) tasks ≡ Some owner
    → owner.number ≡ task → Contains (refs s) new
renewed s tasks task new owner are found own =
    let there : task_of s task ≡ Some (updated task new owner)
    = ap (λ (ts : List Task). find (λ t. t.number == task) ts) are ∙ updated_task tasks task new task ∙ ap (option_map (updated task new)) found in
    subst (Contains (refs s))
    (elim (owner.number == task) as (λ b. b ≡ true → (cond b (record owner { current = new }) owner).current ≡ new) [
      | true ↦ λ is. refl
      | false ↦ λ is. cc
    ] (is_same owner.number task own))
    (owner_stands s task (updated task new owner) there)
  where
    is_same : (m n : ℕ) → m ≡ n → (m == n) ≡ true
    is_same m n is = grind (arith, nat_tests)

-- a task's credential is replaced
pub replaces : (s : State) (answer : Answer) (left : List ℕ) (task slot : ℕ) (owner : Task) (old : Numbered) (c : Credential) (broadcasts : List Broadcast)
    → IsSound s
    → task_of s task ≡ Some owner → numbered s.creds owner.current ≡ Some old
    → (left ≡ s.deferred) ⊎ (may_have_swept (length s.deferred) answer (length (left ++ old.number ∷ [])) ≡ true)
    → Keeps s (answer, record (replaced (with_left s left) task old.number c slot) { broadcasts = broadcasts })
replaces s answer left task slot owner old c broadcasts sound found at is =
    let t = record (replaced (with_left s left) task old.number c slot) { broadcasts = broadcasts } in
    let H = Contains (refs t) in
    let own = own_refs t in
    let new = length s.creds in
    let number = owner_number s task owner found in
    let gone = subst H (numbered_is s.creds owner.current old at).0 (last_of H left old.number own.deferred) in
    record {
      left = left;
      each = each_broadcasts (each_creds (each_tasks (each_before own left (old.number ∷ []) own.deferred) s.tasks
          (currents_before H task owner number new s.tasks (owned s.tasks task owner sound.tasks found) gone own.currents)
          (overrides_stay H task owner number new s.tasks own.overrides)) s.creds) s.broadcasts;
      swept = is;
      creds = OneMore (record { cred = c; slot = slot }) refl (renewed t s.tasks task new owner refl found number);
    }

-- ---- labels that are committed

-- who commits doesn't end with it
pub not_itself : (change : Change) (owner : Task) → ends_with change owner owner ≡ false
not_itself (Exec file) owner = by (owner.process == owner.process) (owner.number == owner.number) (same owner.number)
  where
    same : (n : ℕ) → (n == n) ≡ true
    same n = grind (arith, nat_tests)

    by : (a b : Bool) → b ≡ true → (a && not b) ≡ false
    by true true is = refl
    by true false is = cc
    by false b is = refl
not_itself (SetFs kind id) owner = refl
not_itself (Adjust call) owner = refl
not_itself Access owner = refl

pub commits : (s : State) (answer : Answer) (place : ℕ) (p : Prepared) (ends : Task → Bool) (owner : Task) (c : Credential) → IsSound s
    → slice_get s.prepared place ≡ Some p → task_of s p.task ≡ Some owner → ends owner ≡ false
    → Keeps s (answer, committed (ended ends s) place p owner.current c)
commits s answer place p ends owner c sound is found on =
    let t = committed (ended ends s) place p owner.current c in
    let H = Contains (refs t) in
    let own = own_refs t in
    let new = length s.creds in
    let rest = survivors ends s.tasks in
    let gone = left_by ends s.tasks in
    let number = owner_number s p.task owner found in
    let goes_on = find_goes_on ends s.tasks p.task owner found on in
    let apart = All-filter (λ t. not (ends t)) (IsOwn owner) s.tasks (owned s.tasks p.task owner sound.tasks found) in
    let late = All-left H (s.deferred ++ gone) (owner.current ∷ p.base ∷ []) own.deferred in
    let given = All-right H (s.deferred ++ gone) (owner.current ∷ p.base ∷ []) own.deferred in
    let old = All-head H owner.current (p.base ∷ []) given in
    let base = All-head H p.base [] (All-tail H owner.current (p.base ∷ []) given) in
    let left = All-right H s.deferred gone late in
    record {
      left = s.deferred;
      each = each_creds (each_prepared (each_tasks (each_before own s.deferred gone late) s.tasks
          (currents_ended H ends s.tasks (currents_before H p.task owner number new rest apart old own.currents) left)
          (overrides_ended H ends s.tasks (overrides_stay H p.task owner number new rest own.overrides) left)) s.prepared
          (unremoved (λ (q : Prepared). H q.base) s.prepared place p is base own.bases)) s.creds;
      swept = inl refl;
      creds = OneMore (record { cred = c; slot = p.slot }) refl (renewed t rest p.task new owner refl goes_on.0 number);
    }

commits_broadcasts : (s t : State) (answer : Answer) (change : Change) (owner : Task) → Keeps s (answer, t) → Keeps s (answer, broadcasts_after change owner t)
commits_broadcasts s t answer (Exec file) owner keeps = with_broadcasts s t answer (dropped owner.process t.broadcasts) keeps
commits_broadcasts s t answer (SetFs kind id) owner keeps = keeps
commits_broadcasts s t answer (Adjust call) owner keeps = keeps
commits_broadcasts s t answer Access owner keeps = keeps

pub tries_commit : (s : State) (place : ℕ) (p : Prepared) (owner : Task) (last : Changed) → IsSound s → slice_get s.prepared place ≡ Some p
    → task_of s p.task ≡ Some owner → Keeps s (try_commit s place p owner last)
tries_commit s place p owner last sound is found =
    let ends = ends_with last.change owner in
    let answer = commit_answer last (length s.creds) p.slot (count_by ends s.tasks) in
    let t = committed (ended ends s) place p owner.current last.cred in
    elim (owner.current == p.base) as
    (λ b. Keeps s
    (cond {A = Answer × State} b (answer, record (broadcasts_after last.change owner t) { dumpable = flags_committed s owner last })
    (Stale p.base owner.current, given_up s place p))) [
      | true ↦ with_flags s (broadcasts_after last.change owner t) answer (flags_committed s owner last)
          (commits_broadcasts s t answer last.change owner (commits s answer place p ends owner last.cred sound is found (not_itself last.change owner)))
      | false ↦ gives_up_prepared s (Stale p.base owner.current) place p is
    ]

-- ---- overrides

pub lends : (s : State) (answer : Answer) (task n : ℕ) (owner : Task) → IsSound s → task_of s task ≡ Some owner → Keeps s (answer, with_override s owner n)
lends s answer task n owner sound found =
    let t = with_override s owner n in
    let H = Contains (refs t) in
    let own = own_refs t in
    let numbers = n ∷ owner.overrides in
    all_stand s t answer
    (each_tasks own s.tasks (currents_stay H owner.number owner refl numbers s.tasks own.currents)
    (overridden_before H owner.number owner refl numbers s.tasks (owned s.tasks task owner sound.tasks found) (All-tail H n owner.overrides) own.overrides))
    refl

pub lends_prepared : (s : State) (answer : Answer) (place task : ℕ) (p : Prepared) (owner : Task) (c : Credential) → IsSound s
    → slice_get s.prepared place ≡ Some p → task_of s task ≡ Some owner → Keeps s (answer, overridden s place p owner c)
lends_prepared s answer place task p owner c sound is found =
    let t = overridden s place p owner c in
    let H = Contains (refs t) in
    let own = own_refs t in
    let numbers = length s.creds ∷ owner.overrides in
    let now = overriding owner.number numbers owner in
    let there : task_of t owner.number ≡ Some now
    = overriding_task s.tasks owner.number numbers owner.number
    ∙ ap (option_map (overriding owner.number numbers)) (subst (λ (n : ℕ). task_of s n ≡ Some owner) (sym (owner_number s task owner found)) found) in
    let acts : now.overrides ≡ numbers = acts_with owner.number numbers owner refl in
    record {
      left = s.deferred;
      each = each_creds (each_prepared (each_tasks (each_before own s.deferred (p.base ∷ []) own.deferred) s.tasks
          (currents_stay H owner.number owner refl numbers s.tasks own.currents)
          (overridden_before H owner.number owner refl numbers s.tasks (owned s.tasks task owner sound.tasks found)
          (All-tail H (length s.creds) owner.overrides) own.overrides)) s.prepared
          (unremoved (λ (q : Prepared). H q.base) s.prepared place p is (last_of H s.deferred p.base own.deferred) own.bases)) s.creds;
      swept = inl refl;
      creds = OneMore (record { cred = c; slot = p.slot }) refl
          (All-head H (length s.creds) owner.overrides (subst (All H) acts (overrides_stand t owner.number now there)));
    }
  where
    acts_with : (task : ℕ) (numbers : List ℕ) (t : Task) → t.number ≡ task → (overriding task numbers t).overrides ≡ numbers
    acts_with task numbers t own = let test : (t.number == task) ≡ true = grind (arith, nat_tests) in rw test refl

pub reverts : (s : State) (task newest : ℕ) (owner : Task) → IsSound s → task_of s task ≡ Some owner → slice_get owner.overrides 0 ≡ Some newest
    → Keeps s (Done, record s { tasks = with_overrides s.tasks task (drop 1 owner.overrides); deferred = s.deferred ++ newest ∷ [] })
reverts s task newest owner sound found is =
    let numbers = drop 1 owner.overrides in
    let t = record s { tasks = with_overrides s.tasks task numbers; deferred = s.deferred ++ newest ∷ [] } in
    let H = Contains (refs t) in
    let own = own_refs t in
    let number = owner_number s task owner found in
    all_stand s t Done
    (each_tasks (each_before own s.deferred (newest ∷ []) own.deferred) s.tasks (currents_stay H task owner number numbers s.tasks own.currents)
    (overridden_before H task owner number numbers s.tasks (owned s.tasks task owner sound.tasks found)
    (with_newest H owner.overrides newest is (last_of H s.deferred newest own.deferred)) own.overrides))
    refl
  where
    with_newest : (H : ℕ → Type 0) (numbers : List ℕ) (n : ℕ) → slice_get numbers 0 ≡ Some n → H n → All H (drop 1 numbers) → All H numbers
    with_newest H [] n is here rest = cc
    with_newest H (m ∷ numbers) n is here rest = let same : n ≡ m = cc in All-cons H m numbers (subst H same here) rest
