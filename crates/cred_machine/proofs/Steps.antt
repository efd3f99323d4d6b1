-- What is left of a state when a credential takes the place of a task's.
use Rattle.std.proofs.Common.{◌≡◌, ◌≢◌, ℕ, ◌+◌, ◌<◌, not, Bool, true, false, List, length, is_some, slice_get, Some, Ok, Option, refl, sym, ap, ◌∙◌, subst}
use Rattle.std.specs.List.{AllPairs}
use Rattle.std.specs.Option.{IfSome, option_map}
use Rattle.std.proofs.lemmas.Option.{slice_get_within}
use Rattle.cred_record.specs.Credential.{Credential}
use Rattle.cred_rules.specs.SetId.{set_id}
use Rattle.cred_event.specs.declared.answer.Answer.TheVariants.{Acted}
use Rattle.cred_model.specs.State.{State, Task, Broadcast, ProcessFlag, Numbered, numbered, task_of}
use Rattle.cred_model.specs.Broadcasts.{waits_no_more}
use Rattle.cred_model.specs.Dumpable.{differs, renewed}
use Rattle.cred_model.specs.Moves.{replaced, with_current}
use Rattle.cred_model.specs.Slots.{free, least_free}
use Rattle.cred_model.specs.CallEvents.{by_act}
use Rattle.cred_model.specs.Step.{outcome}
use Rattle.cred_sound.specs.Sound.{IsSound}
use Rattle.cred_plain.specs.Broadcasts.{AreWaitedFor}
use Rattle.cred_plain.specs.Tasks.{IsTaskAt}
use Rattle.cred_plain.proofs.Stands.{there}
use Rattle.cred_machine.specs.Room.{IsCurrentOf, sealed_for, swept_if}
use Rattle.cred_machine.proofs.Acts.{IsNext}
use Rattle.cred_machine.proofs.Follows.{steps}
use Rattle.cred_machine.proofs.Live.{number_is}
use Rattle.cred_machine.proofs.Threads.{are_broadcasts}

-- the credential that was found is the task's current one
pub current_of : (s : State) (task : ℕ) (owner : Task) (old : Numbered)
    → task_of s task ≡ Some owner → numbered s.creds owner.current ≡ Some old
    → IsCurrentOf s task old.number
current_of s task owner old lives has =
    ap (option_map (λ (t : Task). t.current)) lives
    ∙ ap (λ (n : ℕ). Some n) (sym (number_is s.creds owner.current old has))

-- a place where a task stands is one of the places
pub place_within : (tasks : List Task) (number place : ℕ) → IsTaskAt tasks number place
    → place < length tasks
place_within tasks number place stands =
    let t = there number (slice_get tasks place) stands in
    slice_get_within tasks place t.0 t.1

-- what is given to the task at a place is given to the task of its number
pub set_there : (tasks after : List Task) (task number place : ℕ) → IsTaskAt tasks task place
    → IfSome (slice_get tasks place) (λ t. after ≡ with_current tasks t.number number)
    → after ≡ with_current tasks task number
set_there tasks after task number place stands set =
    let t = there task (slice_get tasks place) stands in
    subst (λ (o : Option Task). IfSome o (λ u. after ≡ with_current tasks u.number number)) t.1 set
    ∙ ap (λ (n : ℕ). with_current tasks n number) t.2

module _ (s : State) (old : ℕ) (made : Credential) (slot : ℕ) where
  -- tasks and broadcasts stay as a credential is sealed
  pub tasks_stay : (sweep : Bool) (after : State)
      → after ≡ sealed_for (swept_if sweep s) old made slot → after.tasks ≡ s.tasks
  tasks_stay true after is = ap (λ (t : State). t.tasks) is
  tasks_stay false after is = ap (λ (t : State). t.tasks) is

  pub broadcasts_stay : (sweep : Bool) (after : State)
      → after ≡ sealed_for (swept_if sweep s) old made slot → after.broadcasts ≡ s.broadcasts
  broadcasts_stay true after is = ap (λ (t : State). t.broadcasts) is
  broadcasts_stay false after is = ap (λ (t : State). t.broadcasts) is

  -- and then the task is given it
  pub replaces : (sweep : Bool) (after : State) (task number : ℕ) (tasks : List Task)
      → after ≡ sealed_for (swept_if sweep s) old made slot → number ≡ length s.creds
      → tasks ≡ with_current after.tasks task number
      → record after { tasks = tasks } ≡ replaced (swept_if sweep s) task old made slot
  replaces sweep after task number tasks is counted given =
      ap (λ (ts : List Task). record after { tasks = ts }) given
      ∙ ap (λ (n : ℕ). record after { tasks = with_current after.tasks task n }) counted
      ∙ ap (λ (t : State). record t { tasks = with_current t.tasks task (length s.creds) }) is
      ∙ same sweep
    where
      same : (b : Bool)
          → record (sealed_for (swept_if b s) old made slot) {
            tasks = with_current (swept_if b s).tasks task (length s.creds);
          }
          ≡ replaced (swept_if b s) task old made slot
      same true = refl
      same false = refl

  -- what a sealed state keeps of a sound one
  module _ (sound : IsSound s) (sweep : Bool) (after : State)
      (is : after ≡ sealed_for (swept_if sweep s) old made slot) where
    pub stands_still : (task place : ℕ) → IsTaskAt s.tasks task place
        → IsTaskAt after.tasks task place
    stands_still task place stands =
        subst (λ (ts : List Task). IsTaskAt ts task place) (sym (tasks_stay sweep after is)) stands

    pub apart_still : AllPairs (λ a b. a.number ≢ b.number) after.tasks
    apart_still =
        subst (λ (ts : List Task). AllPairs (λ a b. a.number ≢ b.number) ts)
        (sym (tasks_stay sweep after is)) sound.tasks

    pub broadcasts_still : AreWaitedFor after.broadcasts
    broadcasts_still =
        subst (λ (cs : List Broadcast). AreWaitedFor cs) (sym (broadcasts_stay sweep after is))
        (are_broadcasts s sound)

-- a thread's step, with the credential at its task's place
module _ (s : State) (sound : IsSound s) (number task broadcast_at : ℕ) (broadcast : Broadcast)
    (owner : Task) (old : Numbered) (next : IsNext s number task broadcast_at broadcast owner old)
    (made : Credential) (rule : set_id old.cred broadcast.call ≡ Ok made) where
  pub steps_there : (after : State) (tasks : List Task) (broadcasts : List Broadcast)
      (flags : List ProcessFlag) (other sweep : Bool) (slot left given at : ℕ) → free s ≡ Some slot → sweep ≡ not (is_some (least_free s))
      → left + 1 ≡ length broadcast.waiting → given ≡ length s.creds → IsTaskAt s.tasks task at
      → after ≡ sealed_for (swept_if sweep s) old.number made slot
      → (AllPairs (λ a b. a.number ≢ b.number) after.tasks
      → IfSome (slice_get after.tasks at) (λ t. tasks ≡ with_current after.tasks t.number given))
      → broadcasts ≡ waits_no_more task after.broadcasts
      → other ≡ differs old.cred made → flags ≡ renewed after.dumpable owner.process other
      → outcome s (by_act s number)
      ≡ (Acted task given slot left, record after { tasks = tasks; broadcasts = broadcasts; dumpable = flags })
  steps_there after tasks broadcasts flags other sweep slot left given at is for many counted stands leads
      set cs ids fs =
      let n = old.number in
      let current : tasks ≡ with_current after.tasks task given
      = set_there after.tasks tasks task given at
      (stands_still s n made slot sound sweep after leads task at stands)
      (set (apart_still s n made slot sound sweep after leads)) in
      steps s number task broadcast_at broadcast owner old next made rule (record after { tasks = tasks })
      broadcasts flags other sweep slot left given is for many counted
      (replaces s n made slot sweep after task given tasks leads counted current) cs ids fs
