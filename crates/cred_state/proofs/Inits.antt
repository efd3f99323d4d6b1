-- A first task is created.
use Rattle.std.proofs.Common.{◌≡◌, ℕ, ◌<◌, Bool, true, false, not, ◌==◌, nat_lt, List, [], ◌∷◌, ◌++◌, find, length, slice_set, count_by, Option, None, Some, Ok}
use Rattle.std.proofs.Common.{Err, is_some, refl, sym, ap, ◌∙◌, subst, arith}
use Rattle.std.proofs.lemmas.Bool.Decides.{nat_tests}
use Rattle.cred_ids.specs.Limits.{SLOTS}
use Rattle.cred_record.specs.Credential.{Credential, first_credential}
use Rattle.cred_event.specs.declared.answer.Answer.{Answer}
use Rattle.cred_event.specs.declared.answer.Answer.TheVariants.{Busy, Exists, Sealed, TableFull, TooMany}
use Rattle.cred_event.specs.declared.answer.Named.TheVariants as named
use Rattle.cred_event.specs.declared.answer.Counted.TheVariants as counted
use Rattle.cred_model.specs.State.{State, Task, Broadcast, ProcessFlag, broadcast_in, task_of}
use Rattle.cred_model.specs.Broadcasts.{not_busy}
use Rattle.cred_model.specs.Dumpable.{flags_begun}
use Rattle.cred_model.specs.Slots.{in_use}
use Rattle.cred_model.specs.Like.{IsOutcomeLike}
use Rattle.cred_model.specs.Moves.{in_slot, table_full, first_task, created}
use Rattle.cred_model.specs.TaskEvents.{by_init}
use Rattle.cred_model.specs.Step.{outcome}
use Rattle.cred_model.proofs.Likes.{does_same}
use Rattle.cred_slots.specs.Table.{Table, IsOnlyUser, IsSameBag}
use Rattle.cred_slots.specs.Table as table
use Rattle.cred_tables.specs.Kept.{StateLists, state_of, IsKept, Seals}
use Rattle.cred_tables.proofs.Filled.{filled_put, no_more_sealed}
use Rattle.cred_tables.proofs.Bags.{bag-more}
use Rattle.cred_tables.proofs.Sealing.{roomy, in_free, in_none, keeps_same, kept_more}
use Rattle.cred_state.proofs.Broadcasts.{kept_broadcasts}
use Rattle.cred_tables.proofs.InUse.{in_use-task}
use Rattle.cred_tables.proofs.Stored.{does_made, length-creds_in, stored_like}

-- ---- what the tests have found

pub few_by_test : (n : ℕ) (test : Bool) → test ≡ not (nat_lt n 64) → test ≡ false → n < 64
few_by_test n test is few = grind (arith, nat_tests)

-- the task was entered with the number that was sealed after that
pub started : (tasks after : List Task) (task process next number : ℕ) → after ≡ tasks ++ first_task task process next ∷ [] → next ≡ number
    → after ≡ tasks ++ first_task task process number ∷ []
started tasks after task process next number is same = is ∙ ap (λ (n : ℕ). tasks ++ first_task task process n ∷ []) same

init_does : (task process user group ns root : ℕ) → State → ℕ → Answer × State
init_does task process user group ns root s slot =
    let number = length s.creds in
    let first = first_credential user group ns root in (
      Sealed number slot,
      record (created s (first_task task process number) first slot) {
        dumpable = flags_begun s process;
      },
    )

pub few_tasks : (n : ℕ) → n < 64 → nat_lt n 64 ≡ true
few_tasks n few = grind (arith, nat_tests)

init_tests : (s : State) (task process user group ns root : ℕ) → not_busy (broadcast_in s process) ≡ Ok tt → find (λ t. t.number == task) s.tasks ≡ None
    → length s.tasks < 64
    → outcome s (by_init s task process user group ns root) ≡ in_slot s table_full (init_does task process user group ns root)
unfolding init_does
init_tests s task process user group ns root idle new few = rw (idle, new, few_tasks (length s.tasks) few) refl

-- ---- what refuses it

module _ (s : State) (task process user group ns root : ℕ) where
  pub init_busy : (number : ℕ) → not_busy (broadcast_in s process) ≡ Err (Busy number)
      → outcome s (by_init s task process user group ns root) ≡ (Busy number, s)
  init_busy number busy = rw busy refl

  module _ (idle : not_busy (broadcast_in s process) ≡ Ok tt) where
    pub init_exists : is_some (task_of s task) ≡ true → outcome s (by_init s task process user group ns root) ≡ (Exists named.Task task, s)
    init_exists there = rw (idle, there) refl

    pub init_many : task_of s task ≡ None → nat_lt (length s.tasks) 64 ≡ false
        → outcome s (by_init s task process user group ns root) ≡ (TooMany counted.Tasks, s)
    init_many new many = rw (idle, new, many) refl

pub many_by_test : (n : ℕ) (test : Bool) → test ≡ not (nat_lt n 64) → test ≡ true → nat_lt n 64 ≡ false
many_by_test n test is many = grind (arith, nat_tests)

-- ---- it is created

module _ {parts : StateLists} {store : List (Option Credential)} {t : Table} (is : IsKept parts store t) (after : Table) (task process : ℕ) where
  abbrev s : State
  s = state_of parts store t

  module _ {number slot : ℕ} (long : length store ≡ SLOTS) (seals : Seals t after number slot) (cred : Credential) where
    abbrev pub first : List Task
    first = parts.tasks ++ first_task task process number ∷ []

    pub init_kept : (flags : List ProcessFlag)
        → IsKept (record parts { tasks = first; dumpable = flags })
        (slice_set store slot (Some cred)) after
    init_kept flags = record {
      counted = record {
        counts = bag-more is.counted.counts seals.held (in_use-task s (first_task task process number) refl);
        keeps = keeps_same t after _ is.counted.keeps seals.kept;
      };
      filled = filled_put store slot cred (omega (arith, long, seals.in_table)) seals.sealed (no_more_sealed seals) is.filled;
    }

  module _ (idle : not_busy (broadcast_in s process) ≡ Ok tt) (new : find (λ u. u.number == task) parts.tasks ≡ None) (few : length parts.tasks < 64)
      (user group ns root : ℕ) where
    pub init_full : table.free_in t ≡ None → state_of parts store (table.swept_table_if_full t) ≡ state_of parts store after
        → IsOutcomeLike (outcome s (by_init s task process user group ns root)) TableFull (state_of parts store after)
    init_full none makes =
        does_same _ _ _ (init_tests s task process user group ns root idle new few ∙ in_none is (init_does task process user group ns root) after none makes)

    pub init_sealed : {number slot : ℕ} (long : length store ≡ SLOTS) (seals : Seals t after number slot)
        → IsOutcomeLike (outcome s (by_init s task process user group ns root)) (Sealed number slot)
        (state_of (record parts {
          tasks = parts.tasks ++ first_task task process number ∷ [];
          dumpable = flags_begun s process;
        }) (slice_set store slot (Some (first_credential user group ns root))) after)
    unfolding init_does
    init_sealed {number} {slot} long seals =
        let c = first_credential user group ns root in
        let count = length-creds_in store t.sealed ∙ sym seals.counted in
        let flags = flags_begun s process in
        let made : ℕ → State = λ n. record (created (roomy is) (first_task task process n) c slot) {
          dumpable = flags;
        } in
        does_made
        (init_tests s task process user group ns root idle new few ∙ in_free is (init_does task process user group ns root) slot seals.takes
        ∙ ap (λ (n : ℕ). (Sealed n slot, made n)) count)
        (stored_like store after t.sealed c slot (made number) (init_kept long seals c flags)
        seals.sealed (omega (arith, long, seals.in_table))
        (subst (λ (n : ℕ). IsOnlyUser after n slot) seals.counted seals.alone) refl seals.deferred refl)

-- ---- another task is created

-- What is kept stays so where a task shares its creator's current credential, whatever broadcasts
-- are open then.
pub kept_child : {parts : StateLists} {store : List (Option Credential)} {t r later : Table} {n m k : ℕ} → IsKept parts store t
    → (tasks : List Task) (child process : ℕ) (owner : Task) → tasks ≡ parts.tasks ++ first_task child process owner.current ∷ [] → n ≡ owner.current
    → r ≡ record t { spare = m } → IsSameBag later.held (n ∷ r.held) → later ≡ record r { held = later.held; spare = k }
    → 0 < count_by (λ i. i == n) t.held → (broadcasts : List Broadcast) → IsKept (record parts { tasks = tasks; broadcasts = broadcasts }) store later
kept_child {parts} {store} {t} {r} {later} {n} is tasks child process owner grown number spared adds made has broadcasts =
    let s : State = state_of parts store t in
    let new : Task = first_task child process owner.current in
    let bag : IsSameBag (in_use (record s { tasks = parts.tasks ++ new ∷ [] })) (n ∷ in_use s)
    = subst (λ (x : ℕ). IsSameBag (in_use (record s { tasks = parts.tasks ++ new ∷ [] })) (x ∷ in_use s)) (sym number) (in_use-task s new refl) in
    kept_broadcasts
    (subst (λ (ts : List Task). IsKept (record parts { tasks = ts }) store later) (sym grown) (kept_more is spared adds made bag refl has))
    broadcasts
