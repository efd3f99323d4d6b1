-- Tasks end, and what they referred to is given up.
use Rattle.std.proofs.Common.{◌≡◌, ℕ, ◌+◌, ◌<◌, ◌==◌, Bool, false, List, [], ◌∷◌, ◌++◌, append_assoc, count_by, drop, filter, find, flat_map, get_or, length}
use Rattle.std.proofs.Common.{map, take, Option, None, Some, Ok, refl, sym, ap, ◌∙◌, subst, arith}
use Rattle.std.specs.Option.{IfSome, option_map}
use Rattle.std.proofs.lemmas.List.{take_more, take-append-drop, length-map}
use Rattle.std.proofs.lemmas.List.Sums.{length-filter}
use Rattle.cred_record.specs.Credential.{Credential}
use Rattle.cred_event.specs.declared.answer.Answer.TheVariants.{Done}
use Rattle.cred_event.specs.declared.event.Change.{Change}
use Rattle.cred_model.specs.State.{State, Task, task_of, begun_by}
use Rattle.cred_model.specs.Broadcasts.{not_busy, waits_no_more}
use Rattle.cred_model.specs.Dumpable.{flags_left}
use Rattle.cred_model.specs.Slots.{in_use}
use Rattle.cred_model.specs.Ends.{numbers_of, is_task, survivors, left_by, ended}
use Rattle.cred_model.specs.TaskEvents.{by_exit}
use Rattle.cred_model.specs.LabelEvents.{ends_with}
use Rattle.cred_model.specs.Step.{outcome}
use Rattle.cred_model.proofs.Referred.{all_survive}
use Rattle.cred_slots.specs.Table.{Table, IsSameBag}
use Rattle.cred_slots.proofs.Counting.{count-cons, count-append}
use Rattle.cred_procs.specs.Tasks.{EndsTasks, those}
use Rattle.cred_tables.specs.Kept.{StateLists, AreHeld, state_of, IsKept}
use Rattle.cred_tables.proofs.Bags.{counts_itself}
use Rattle.cred_tables.proofs.Filled.{filled_same, no_more_dropped}
use Rattle.cred_tables.proofs.InUse.{in_use-ended}
use Rattle.cred_tables.proofs.Owners.{IsOwn, own_owner}
use Rattle.cred_tables.proofs.Sealing.{keeps_same, over_later}

-- References to these numbers are given up, and count until the next sweep.
pub record DropsAll (before after : Table) (numbers : List ℕ) : Type 0 where
  pub held : IsSameBag before.held (numbers ++ after.held)
  pub sealed : after.sealed ≡ before.sealed
  pub deferred : after.deferred ≡ before.deferred ++ numbers
  pub kept : after.kept ≡ before.kept

-- so it is where there was more room to spare before
pub drops_all : (t : Table) {r after : Table} {m : ℕ} {given numbers : List ℕ} → r ≡ record t { spare = m } → given ≡ numbers
    → IsSameBag r.held (given ++ after.held) → after ≡ record r { held = after.held; deferred = r.deferred ++ given } → DropsAll t after numbers
drops_all t {after = after} {given = given} is same held made =
    subst (DropsAll t after) same
    (record {
      held = subst (λ (x : Table). IsSameBag x.held (given ++ after.held)) is held;
      sealed = ap (λ (x : Table). x.sealed) made ∙ ap (λ (x : Table). x.sealed) is;
      deferred = ap (λ (x : Table). x.deferred) made ∙ ap (λ (x : Table). x.deferred ++ given) is;
      kept = ap (λ (x : Table). x.kept) made ∙ ap (λ (x : Table). x.kept) is;
    })

-- ---- numbers that are given up one after another

module _ (numbers held : List ℕ) (each : AreHeld numbers held) (left : List ℕ) (i d : ℕ) (within : i < length numbers)
    (is : IsSameBag held (take i numbers ++ left)) where
  abbrev next : ℕ
  next = get_or numbers i d

  -- the next one is still held
  pub still-held : 0 < count_by (λ m. m == next) left
  still-held =
      let test : ℕ → Bool = λ m. m == next in
      let all = is.counts test ∙ count-append test (take i numbers) left in
      let more = ap (λ (ns : List ℕ). count_by test ns) (take_more numbers i d within) ∙ count-append test (take i numbers) (next ∷ []) in
      let one = count-cons test next [] in
      let here = counts_itself next in
      let whole =
      ap (λ (ns : List ℕ). count_by test ns) (sym (take-append-drop (i + 1) numbers)) ∙ count-append test (take (i + 1) numbers) (drop (i + 1) numbers) in
      omega (arith, each next, all, more, one, here, whole)

  -- what is held once it is given up
  pub one-less : (after : List ℕ) → IsSameBag left (next ∷ after) → IsSameBag held (take (i + 1) numbers ++ after)
  one-less after less = record {
    counts = λ test.
        let all = is.counts test ∙ count-append test (take i numbers) left in
        let more = ap (λ (ns : List ℕ). count_by test ns) (take_more numbers i d within) ∙ count-append test (take i numbers) (next ∷ []) in
        let one = count-cons test next [] in
        let fewer = less.counts test ∙ count-cons test next after in
        let sum = count-append test (take (i + 1) numbers) after in
        omega (arith, all, more, one, fewer, sum);
  }

-- the table once one more is given up
pub table-more : (t between after : Table) (numbers : List ℕ) (i d : ℕ) → i < length numbers
    → between ≡ record t { held = between.held; deferred = t.deferred ++ take i numbers }
    → after ≡ record between { held = after.held; deferred = between.deferred ++ get_or numbers i d ∷ [] }
    → after ≡ record t { held = after.held; deferred = t.deferred ++ take (i + 1) numbers }
table-more t between after numbers i d within before made =
    made
    ∙ ap (λ (x : Table). record x { held = after.held; deferred = x.deferred ++ get_or numbers i d ∷ [] }) before
    ∙ ap (λ (ds : List ℕ). record t { held = after.held; deferred = ds })
    (append_assoc t.deferred (take i numbers) (get_or numbers i d ∷ []) ∙ ap (λ (ns : List ℕ). t.deferred ++ ns) (sym (take_more numbers i d within)))

-- ---- no task ends

none_pass : (ts : List Task) → filter (λ t. false) ts ≡ []
none_pass [] = refl
none_pass (t ∷ ts) = none_pass ts

pub none_ends : (ts : List Task) → EndsTasks (λ t. false) ts ts [] []
none_ends ts = record {
  ended = sym (ap (λ (us : List Task). map (λ t. t.number) us) (none_pass ts));
  few = omega arith;
  gave_up = sym (ap (λ (us : List Task). flat_map numbers_of us) (none_pass ts));
  left = sym (all_survive ts);
}

-- ---- the tasks that a commit ends

-- The task that commits this change has this number and this current credential, and those that end
-- with it have ended.
pub record EndsWith (change : Change) (tasks after : List Task) (t t' : Table) (task now : ℕ) (ended : List ℕ) : Type 0 where
  pub owner : Task
  pub lives : find (λ u. u.number == task) tasks ≡ Some owner
  pub current : owner.current ≡ now
  pub on : after ≡ survivors (ends_with change owner) tasks
  pub all : DropsAll t t' (left_by (ends_with change owner) tasks)
  pub many : length ended ≡ count_by (ends_with change owner) tasks

many_ended : (ends : Task → Bool) (tasks : List Task) (ended : List ℕ) → ended ≡ those ends tasks → length ended ≡ count_by ends tasks
many_ended ends tasks ended these =
    ap length these ∙ length-map (filter ends tasks) (λ (t : Task). t.number) ∙ length-filter ends tasks

pub ends_so : (change : Change) (tasks after : List Task) (t : Table) {r t' : Table} {m : ℕ} {ended numbers given : List ℕ} (task now : ℕ)
    → Some now ≡ option_map (λ t. t.current) (find (λ u. u.number == task) tasks)
    → IfSome (find (λ u. u.number == task) tasks) (λ owner. EndsTasks (ends_with change owner) tasks after ended numbers)
    → r ≡ record t { spare = m } → given ≡ numbers → IsSameBag r.held (given ++ t'.held)
    → t' ≡ record r { held = t'.held; deferred = r.deferred ++ given } → EndsWith change tasks after t t' task now ended
ends_so change tasks after t {r} {t'} {m} {ended} {numbers} {given} task now has ends spared same held made =
    by (find (λ u. u.number == task) tasks) refl has ends
  where
    by : (found : Option Task) → find (λ u. u.number == task) tasks ≡ found → Some now ≡ option_map (λ t. t.current) found
        → IfSome found (λ owner. EndsTasks (ends_with change owner) tasks after ended numbers) → EndsWith change tasks after t t' task now ended
    by None at is each = cc
    by (Some owner) at is each = record {
      owner = owner;
      lives = at;
      current = cc;
      on = each.left;
      all = drops_all t spared (same ∙ each.gave_up) held made;
      many = many_ended (ends_with change owner) tasks ended each.ended;
    }

-- ---- the state once tasks have ended

module _ {parts : StateLists} {store : List (Option Credential)} {t : Table} (is : IsKept parts store t)
    (ends : Task → Bool) where
  abbrev s : State
  s = state_of parts store t

  -- what those which end refer to is held
  pub left-held : (given held : List ℕ) → given ≡ left_by ends parts.tasks → held ≡ t.held → AreHeld given held
  left-held given held same is_held n =
      let all = (in_use-ended s ends).counts (λ m. m == n) ∙ count-append (λ m. m == n) (left_by ends parts.tasks) (in_use (ended ends s)) in
      let counted = is.counted.counts.counts (λ m. m == n) in
      rw (same, is_held) (omega (arith, all, counted))

  module _ (after : Table) (all : DropsAll t after (left_by ends parts.tasks)) where
    pub ended_kept : IsKept (record parts { tasks = survivors ends parts.tasks }) store after
    ended_kept = record {
      counted = record {
        counts = record {
          counts = λ test.
              let held = all.held.counts test ∙ count-append test (left_by ends parts.tasks) after.held in
              let before = (in_use-ended s ends).counts test ∙ count-append test (left_by ends parts.tasks) (in_use (ended ends s)) in
              omega (arith, held, before, is.counted.counts.counts test);
        };
        keeps = keeps_same t after _ is.counted.keeps all.kept;
      };
      filled = filled_same all.sealed (no_more_dropped t after (left_by ends parts.tasks) all.held all.deferred) is.filled;
    }

    pub ended_is : ended ends s ≡ state_of (record parts { tasks = survivors ends parts.tasks }) store after
    ended_is =
        over_later (record parts { tasks = survivors ends parts.tasks }) store t after all.sealed all.deferred

-- so it is with what the tasks refer to that a commit ends
pub ended-held : {parts : StateLists} {store : List (Option Credential)} {t : Table} (is : IsKept parts store t)
    (change : Change) (after : List Task) (ended numbers given held : List ℕ) {now : ℕ} (found : Option Task) → Some now ≡ option_map (λ t. t.current) found
    → IfSome found (λ owner. EndsTasks (ends_with change owner) parts.tasks after ended numbers) → given ≡ numbers → held ≡ t.held → AreHeld given held
ended-held is change after ended numbers given held None has ends same is_held = cc
ended-held is change after ended numbers given held (Some owner) has ends same is_held =
    left-held is (ends_with change owner) given held (same ∙ ends.gave_up) is_held

exit_tests : (s : State) (task : ℕ) (owner : Task) → task_of s task ≡ Some owner → not_busy (begun_by s task) ≡ Ok tt → IsOwn s task
    → outcome s (by_exit s task)
    ≡ (
      Done,
      record (ended (is_task task) s) {
        broadcasts = waits_no_more task s.broadcasts;
        dumpable = flags_left s owner;
      },
    )
exit_tests s task owner is idle own = rw (is, idle, own_owner s task owner is own) refl

-- what the task has left
abbrev pub exited : StateLists → List (Option Credential) → Table → ℕ → Task → StateLists
exited parts store t task owner = record parts {
  tasks = survivors (is_task task) parts.tasks;
  broadcasts = waits_no_more task parts.broadcasts;
  dumpable = flags_left (state_of parts store t) owner;
}

pub exit_done : {parts : StateLists} {store : List (Option Credential)} {t : Table}
    (is : IsKept parts store t) (task : ℕ) (after : Table) (all : DropsAll t after (left_by (is_task task) parts.tasks))
    (owner : Task) → find (is_task task) parts.tasks ≡ Some owner → not_busy (begun_by (state_of parts store t) task) ≡ Ok tt
    → IsOwn (state_of parts store t) task
    → outcome (state_of parts store t) (by_exit (state_of parts store t) task)
    ≡ (Done, state_of (exited parts store t task owner) store after)
exit_done {parts} {store} {t} is task after all owner lives idle own =
    let left = exited parts store t task owner in
    exit_tests (state_of parts store t) task owner lives idle own
    ∙ ap (λ (s : State). (Done, record s { broadcasts = left.broadcasts; dumpable = left.dumpable }))
    (ended_is is (is_task task) after all)
