-- A task creates another, in its own process or in a new one.
use Rattle.std.proofs.Common.{◌≡◌, ℕ, true, false, nat_lt, List, [], ◌∷◌, ◌++◌, length, Option, None, Some, Ok, Err, is_some, refl, sym, ap, ◌∙◌}
use Rattle.std.specs.Option.{option_and_then, option_map_or}
use Rattle.cred_record.specs.Credential.{Credential}
use Rattle.cred_event.specs.declared.answer.Answer.TheVariants.{Busy, Exists, NoTask, Overridden, Sealed, TooMany}
use Rattle.cred_event.specs.declared.answer.Named.TheVariants as named
use Rattle.cred_event.specs.declared.answer.Counted.TheVariants as counted
use Rattle.cred_model.specs.State.{State, Task, Broadcast, Numbered, ProcessFlag, numbered, task_of, current_of, begun_by}
use Rattle.cred_model.specs.Broadcasts.{not_busy, joined}
use Rattle.cred_model.specs.Dumpable.{is_dumpable, with_process_flag}
use Rattle.cred_model.specs.Moves.{not_overridden, first_task}
use Rattle.cred_model.specs.TaskEvents.{by_fork, by_spawn}
use Rattle.cred_model.specs.Step.{outcome}
use Rattle.cred_model.proofs.Numbers.{numbered_is}
use Rattle.cred_procs.specs.Tasks.{forked, has_process, spawned}
use Rattle.cred_slots.specs.Table.{Table}
use Rattle.cred_tables.specs.Kept.{StateLists, state_of}
use Rattle.cred_tables.proofs.Owners.{own_none}
use Rattle.cred_state.proofs.Inits.{few_tasks}
use Rattle.cred_state.specs.Refusals.{by_creating, IsUnusedProcess, MayCreate}

-- ---- what refuses it

module _ (s : State) (task child : ℕ) where
  pub creating_none : (process : Option ℕ) → current_of s task ≡ None → outcome s (by_creating s task child process) ≡ (NoTask task, s)
  creating_none None none = own_none s task _ none
  creating_none (Some number) none = own_none s task _ none

  module _ (now : Numbered) (has : current_of s task ≡ Some now) (owner : Task) (lives : task_of s task ≡ Some owner) where
    pub own_current : numbered s.creds owner.current ≡ Some now
    own_current = sym (ap (option_and_then (λ (t : Task). numbered s.creds t.current)) lives) ∙ has

    pub creating_busy : (process : Option ℕ) (number : ℕ) → not_busy (begun_by s task) ≡ Err (Busy number)
        → outcome s (by_creating s task child process) ≡ (Busy number, s)
    creating_busy None number busy = rw (lives, own_current, busy) refl
    creating_busy (Some other) number busy = rw (lives, own_current, busy) refl

    module _ (idle : not_busy (begun_by s task) ≡ Ok tt) where
      pub creating_exists : (process : Option ℕ) → is_some (task_of s child) ≡ true
          → outcome s (by_creating s task child process) ≡ (Exists named.Task child, s)
      creating_exists None there = rw (lives, own_current, idle, there) refl
      creating_exists (Some number) there = rw (lives, own_current, idle, there) refl

      module _ (new : task_of s child ≡ None) where
        pub creating_used : (number : ℕ) → has_process s.tasks number ≡ true
            → outcome s (by_creating s task child (Some number)) ≡ (Exists named.Process number, s)
        creating_used number there = rw (lives, own_current, idle, new, there) refl

        pub creating_overridden : (process : Option ℕ) (depth : ℕ) → IsUnusedProcess s process → not_overridden owner ≡ Err (Overridden depth)
            → outcome s (by_creating s task child process) ≡ (Overridden depth, s)
        creating_overridden None depth unused over = rw (lives, own_current, idle, new, over) refl
        creating_overridden (Some number) depth unused over = rw (lives, own_current, idle, new, unused, over) refl

        pub creating_many : (process : Option ℕ) → IsUnusedProcess s process → not_overridden owner ≡ Ok tt → nat_lt (length s.tasks) 64 ≡ false
            → outcome s (by_creating s task child process) ≡ (TooMany counted.Tasks, s)
        creating_many None unused own many = rw (lives, own_current, idle, new, own, many) refl
        creating_many (Some number) unused own many = rw (lives, own_current, idle, new, unused, own, many) refl

-- ---- a task is created

module _ (parts : StateLists) (store : List (Option Credential)) (t : Table) {r later : Table} {m k : ℕ} (spared : r ≡ record t { spare = m })
    (made : later ≡ record r { held = later.held; spare = k }) (task child : ℕ) (now : Numbered) (may : MayCreate (state_of parts store t) task child now) where
  abbrev s : State
  s = state_of parts store t

  there : numbered s.creds may.owner.current ≡ Some now
  there = own_current s task child now may.has may.owner may.lives

  number : may.owner.current ≡ now.number
  number = sym (numbered_is s.creds may.owner.current now there).0

  same : (after : StateLists) → state_of after store t ≡ state_of after store later
  same after = sym (ap (state_of after store) made ∙ ap (state_of after store) spared)

  pub spawn_done : {tasks : List Task} {broadcasts : List Broadcast} → tasks ≡ spawned parts.tasks task child → broadcasts ≡ joined task child parts.broadcasts
      → outcome s (by_spawn s task child) ≡ (Sealed now.number now.slot, state_of (record parts { tasks = tasks; broadcasts = broadcasts }) store later)
  spawn_done {tasks = tasks} {broadcasts = broadcasts} grown joins =
      let process = may.owner.process in
      let with_new : ℕ → List Task = λ n. parts.tasks ++ first_task child process n ∷ [] in
      let is : tasks ≡ with_new now.number
      = grown ∙ ap (λ (o : Option Task). option_map_or (λ (u : Task). parts.tasks ++ first_task child u.process u.current ∷ []) o parts.tasks) may.lives
      ∙ ap with_new number in
      let does : outcome s (by_spawn s task child)
      ≡ (Sealed now.number now.slot, record s { tasks = with_new now.number; broadcasts = joined task child parts.broadcasts })
      = rw (may.lives, there, may.idle, may.new, may.own, few_tasks (length parts.tasks) may.few) refl in
      does
      ∙ (λ i. (Sealed now.number now.slot, state_of (record parts { tasks = sym is i; broadcasts = sym joins i }) store t))
      ∙ ap (λ (x : State). (Sealed now.number now.slot, x)) (same (record parts { tasks = tasks; broadcasts = broadcasts }))

  -- the flags of the processes, where the new one is dumpable as its creator's is
  abbrev forked_flags : ℕ → List ProcessFlag
  forked_flags process =
      with_process_flag parts.dumpable process (is_dumpable parts.dumpable may.owner.process)

  pub fork_done : (process : ℕ) → has_process parts.tasks process ≡ false → {tasks : List Task}
      {flags : List ProcessFlag} → tasks ≡ forked parts.tasks task child process
      → ((owner : Task) → task_of s task ≡ Some owner
      → flags ≡ with_process_flag parts.dumpable process (is_dumpable parts.dumpable owner.process))
      → outcome s (by_fork s task child process)
      ≡ (
        Sealed now.number now.slot,
        state_of (record parts { tasks = tasks; dumpable = flags }) store later,
      )
  fork_done process unused {tasks = tasks} {flags = flags} grown begins =
      let with_new : ℕ → List Task = λ n. parts.tasks ++ first_task child process n ∷ [] in
      let is : tasks ≡ with_new now.number
      = grown ∙ ap (λ (o : Option Task). option_map_or (λ (u : Task). parts.tasks ++ first_task child process u.current ∷ []) o parts.tasks) may.lives
      ∙ ap with_new number in
      let has : flags ≡ forked_flags process = begins may.owner may.lives in
      let does : outcome s (by_fork s task child process)
      ≡ (
        Sealed now.number now.slot,
        record s { tasks = with_new now.number; dumpable = forked_flags process },
      )
      = rw (may.lives, there, may.idle, may.new, unused, may.own, few_tasks (length parts.tasks) may.few) refl in
      does
      ∙ (λ i. (
        Sealed now.number now.slot,
        state_of (record parts { tasks = sym is i; dumpable = sym has i }) store t,
      ))
      ∙ ap (λ (x : State). (Sealed now.number now.slot, x))
      (same (record parts { tasks = tasks; dumpable = flags }))
