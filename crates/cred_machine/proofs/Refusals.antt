-- What the events answer where one of their tests refuses.
use Rattle.std.proofs.Common.{◌≡◌, ℕ, ◌==◌, ◌||◌, nat_lt, not, Bool, cond, find, is_some, length, true, false, Option, Some, None, Ok, Err, refl, sym, ap, ◌∙◌}
use Rattle.cred_ids.specs.Limits.{TASKS}
use Rattle.cred_event.specs.declared.answer.Answer.{Answer}
use Rattle.cred_event.specs.declared.answer.Answer.TheVariants.{Done, Eperm, Exists, NoHold, NoTask, TooMany}
use Rattle.cred_rules.specs.Access.{may_signal}
use Rattle.cred_event.specs.declared.answer.Counted.TheVariants as counted
use Rattle.cred_event.specs.declared.answer.Named.TheVariants as named
use Rattle.cred_model.specs.State.{State, Task, Numbered, begun_by, held_by, numbered, task_of}
use Rattle.cred_model.specs.Broadcasts.{not_busy}
use Rattle.cred_model.specs.Ends.{is_thread_of}
use Rattle.cred_model.specs.Moves.{not_overridden}
use Rattle.cred_model.specs.TaskEvents.{by_exit, by_fork, by_ptrace, by_signal, by_spawn}
use Rattle.cred_model.specs.LabelEvents.{by_prepare}
use Rattle.cred_model.specs.Step.{outcome}
use Rattle.cred_model.specs.Dumpable.{is_dumpable}
use Rattle.cred_rules.specs.Ptrace.{may_trace}
use Rattle.cred_model.specs.Script.{Script, reaches}
use Rattle.cred_record.specs.declared.mode.PtraceMode.{PtraceMode}

pub exit_busy : (s : State) (task : ℕ) (owner : Task) (answer : Answer) → task_of s task ≡ Some owner → not_busy (begun_by s task) ≡ Err answer
    → outcome s (by_exit s task) ≡ (answer, s)
exit_busy s task owner answer lives busy = rw (lives, busy) refl

-- there is no such task
module _ (s : State) (task child process : ℕ) where
  pub spawn_none : task_of s task ≡ None → outcome s (by_spawn s task child) ≡ (NoTask task, s)
  spawn_none none = rw none refl

  pub fork_none : task_of s task ≡ None → outcome s (by_fork s task child process) ≡ (NoTask task, s)
  fork_none none = rw none refl

  module _ (owner : Task) (lives : task_of s task ≡ Some owner) (none : numbered s.creds owner.current ≡ None) where
    pub spawn_unsealed : outcome s (by_spawn s task child) ≡ (NoTask task, s)
    spawn_unsealed = rw (lives, none) refl

    pub fork_unsealed : outcome s (by_fork s task child process) ≡ (NoTask task, s)
    fork_unsealed = rw (lives, none) refl

-- there are as many as there may be
pub is_full : (few full : Bool) → full ≡ not few → full ≡ true → few ≡ false
is_full true full is no_more = sym no_more ∙ is
is_full false full is no_more = refl

-- a task that would create another
module _ (s : State) (task child process : ℕ) (owner : Task) (parent : Numbered) (lives : task_of s task ≡ Some owner)
    (has : numbered s.creds owner.current ≡ Some parent) where
  pub spawn_busy : (answer : Answer) → not_busy (begun_by s task) ≡ Err answer → outcome s (by_spawn s task child) ≡ (answer, s)
  spawn_busy answer busy = rw (lives, has, busy) refl

  pub fork_busy : (answer : Answer) → not_busy (begun_by s task) ≡ Err answer → outcome s (by_fork s task child process) ≡ (answer, s)
  fork_busy answer busy = rw (lives, has, busy) refl

  module _ (idle : not_busy (begun_by s task) ≡ Ok tt) where
    pub spawn_exists : is_some (task_of s child) ≡ true → outcome s (by_spawn s task child) ≡ (Exists named.Task child, s)
    spawn_exists there = rw (lives, has, idle, there) refl

    pub fork_exists : is_some (task_of s child) ≡ true → outcome s (by_fork s task child process) ≡ (Exists named.Task child, s)
    fork_exists there = rw (lives, has, idle, there) refl

  module _ (idle : not_busy (begun_by s task) ≡ Ok tt) (new : task_of s child ≡ None) where
    pub spawn_overridden : (answer : Answer) → not_overridden owner ≡ Err answer → outcome s (by_spawn s task child) ≡ (answer, s)
    spawn_overridden answer own = rw (lives, has, idle, new, own) refl

    pub spawn_full : not_overridden owner ≡ Ok tt → nat_lt (length s.tasks) TASKS ≡ false → outcome s (by_spawn s task child) ≡ (TooMany counted.Tasks, s)
    spawn_full own many = rw (lives, has, idle, new, own, many) refl

    pub fork_full : find (is_thread_of process) s.tasks ≡ None → not_overridden owner ≡ Ok tt → nat_lt (length s.tasks) TASKS ≡ false
        → outcome s (by_fork s task child process) ≡ (TooMany counted.Tasks, s)
    fork_full unused own many = rw (lives, has, idle, new, unused, own, many) refl

    pub fork_used : is_some (find (is_thread_of process) s.tasks) ≡ true
        → outcome s (by_fork s task child process) ≡ (Exists named.Process process, s)
    fork_used used = rw (lives, has, idle, new, used) refl

    pub fork_overridden : (answer : Answer) → find (is_thread_of process) s.tasks ≡ None → not_overridden owner ≡ Err answer
        → outcome s (by_fork s task child process) ≡ (answer, s)
    fork_overridden answer unused own = rw (lives, has, idle, new, unused, own) refl

-- a task that would signal another
module _ (s : State) (from hold to target : ℕ) (sender receiver : Task) (sends : task_of s from ≡ Some sender) (receives : task_of s to ≡ Some receiver) where
  pub signal_own : held_by s hold ≡ None → outcome s (by_signal s from hold to target) ≡ (NoHold hold, s)
  signal_own none = rw (sends, receives, none) refl

  pub signal_other : (own : Numbered) → held_by s hold ≡ Some own → held_by s target ≡ None
      → outcome s (by_signal s from hold to target) ≡ (NoHold target, s)
  signal_other own has none = rw (sends, receives, has, none) refl

  module _ (own other : Numbered) (has : held_by s hold ≡ Some own) (there : held_by s target ≡ Some other) (may : Bool)
      (is : may ≡ may_signal own.cred other.cred (sender.process == receiver.process)) where
    pub signal_may : may ≡ true → outcome s (by_signal s from hold to target) ≡ (Done, s)
    signal_may so =
        let test : may_signal own.cred other.cred (sender.process == receiver.process) ≡ true = sym is ∙ so in rw (sends, receives, has, there, test) refl

    pub signal_may_not : may ≡ false → outcome s (by_signal s from hold to target) ≡ (Eperm, s)
    signal_may_not not_so =
        let test : may_signal own.cred other.cred (sender.process == receiver.process) ≡ false = sym is ∙ not_so in rw (sends, receives, has, there, test) refl

-- a task that would look into another
module _ (script : Script) (s : State) (from hold to target : ℕ) (mode : PtraceMode) (sender receiver : Task)
    (sends : task_of s from ≡ Some sender) (receives : task_of s to ≡ Some receiver) where
  pub trace_own : held_by s hold ≡ None → outcome s (by_ptrace script s from hold to target mode) ≡ (NoHold hold, s)
  trace_own none = rw (sends, receives, none) refl

  pub trace_other : (own : Numbered) → held_by s hold ≡ Some own → held_by s target ≡ None
      → outcome s (by_ptrace script s from hold to target mode) ≡ (NoHold target, s)
  trace_other own has none = rw (sends, receives, has, none) refl

  module _ (own other : Numbered) (has : held_by s hold ≡ Some own) (there : held_by s target ≡ Some other) where
    -- what is tested
    may : Bool
    may =
        may_trace own.cred other.cred (sender.process == receiver.process) (reaches script.namespaces own.cred.ns other.cred.ns)
        (is_dumpable s.dumpable receiver.process) mode

    tested : outcome s (by_ptrace script s from hold to target mode) ≡ cond may (Done, s) (Eperm, s)
    unfolding may
    tested =
        rw (sends, receives, has, there)
        (elim (may_trace own.cred other.cred (sender.process == receiver.process) (reaches script.namespaces own.cred.ns other.cred.ns)
        (is_dumpable s.dumpable receiver.process) mode) as (λ b. outcome s (cond b (Ok (Done, s)) (Err Eperm)) ≡ cond b (Done, s) (Eperm, s)) [
          | true ↦ refl
          | false ↦ refl
        ])

    pub traces : (reach dumpable so answer : Bool) → reach ≡ reaches script.namespaces own.cred.ns other.cred.ns
        → dumpable ≡ is_dumpable s.dumpable receiver.process
        → so ≡ may_trace own.cred other.cred (sender.process == receiver.process) reach dumpable mode → so ≡ answer
        → outcome s (by_ptrace script s from hold to target mode) ≡ cond answer (Done, s) (Eperm, s)
    unfolding may
    traces reach dumpable so answer r d is same =
        let all : may ≡ answer
        = ap (λ (b : Bool). may_trace own.cred other.cred (sender.process == receiver.process) b (is_dumpable s.dumpable receiver.process) mode) (sym r)
        ∙ ap (λ (b : Bool). may_trace own.cred other.cred (sender.process == receiver.process) reach b mode) (sym d)
        ∙ sym is ∙ same in
        tested ∙ ap (λ (b : Bool). cond b (Done, s) (Eperm, s)) all

-- what is there by a test
pub some_of : {X : Type 0} (found : Option X) → is_some found ≡ true → (x : X) × (found ≡ Some x)
some_of None is = cc
some_of (Some x) is = (x, refl)

pub neither : {X Y : Type 0} (found : Option X) (other : Option Y) (either : Bool) → either ≡ (is_some found || is_some other) → either ≡ false
    → (found ≡ None) × (other ≡ None)
neither None None either is none = (refl, refl)
neither None (Some y) either is none = cc
neither (Some x) other either is none = cc

pub prepare_busy : (s : State) (label task hold : ℕ) (answer : Answer) → is_some (task_of s task) ≡ true → not_busy (begun_by s task) ≡ Err answer
    → outcome s (by_prepare s label task hold) ≡ (answer, s)
prepare_busy s label task hold answer lives busy = let owner = some_of (task_of s task) lives in rw (owner.1, busy) refl
