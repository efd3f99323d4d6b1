-- The flags of the processes, where tasks are created and end.
use Rattle.std.proofs.Common.{◌≡◌, ℕ, Bool, false, cond, List, [], ◌∷◌, ◌++◌, find, is_some, Option, None, Some, Result, Ok, Err, OnOk, refl, sym, ap, ◌∙◌}
use Rattle.std.specs.Option.{IsSome, option_map, option_map_or}
use Rattle.cred_model.specs.State.{Task, ProcessFlag}
use Rattle.cred_model.specs.Dumpable.{flag_in, is_dumpable, renewed, with_process_flag, without_flag}
use Rattle.cred_model.specs.Ends.{is_beside, is_task, survivors}
use Rattle.cred_model.specs.Moves.{first_task}
use Rattle.cred_model.proofs.Numbers.{found_number}
use Rattle.cred_procs.specs.Tasks.{forked, has_process, task_in}
use Rattle.cred_sound.proofs.Flags.{lives_beside}
use Rattle.cred_tables.proofs.Owners.{owner_process}

-- what follows where there is a result
pub on_ok : {A E P Q : Type 0} (r : Result A E) → (P → Q) → OnOk r P → OnOk r Q
on_ok (Ok x) then p = then p
on_ok (Err e) then p = tt

-- what is seen of a task that is alive is there
pub seen_there : {X : Type 0} (f : Task → X) (found : Option Task) {seen : Option X} → IsSome found
    → seen ≡ option_map f found → IsSome seen
seen_there f None alive is = cc
seen_there f (Some t) alive is = rw is refl

-- a process without threads has no flag
pub no_flag : (flags : List ProcessFlag) (tasks : List Task) (process : ℕ)
    → is_some (flag_in flags process) ≡ has_process tasks process
    → has_process tasks process ≡ false → flag_in flags process ≡ None
no_flag flags tasks process own none = by (flag_in flags process) (own ∙ none)
  where
    by : (found : Option ProcessFlag) → is_some found ≡ false → found ≡ None
    by None is = refl
    by (Some flag) is = cc

-- the first thread of the process shares its creator's current credential
pub forks : (tasks after : List Task) (task child process number : ℕ) {seen : Option ℕ}
    → IsSome (task_in tasks task) → seen ≡ option_map (λ t. t.current) (task_in tasks task)
    → seen ≡ Some number → after ≡ tasks ++ first_task child process number ∷ []
    → after ≡ forked tasks task child process
forks tasks after task child process number alive is seen made =
    made ∙ by (task_in tasks task) alive (sym is ∙ seen)
  where
    by : (found : Option Task) → IsSome found → option_map (λ t. t.current) found ≡ Some number
        → tasks ++ first_task child process number ∷ []
        ≡ option_map_or (λ t. tasks ++ first_task child process t.current ∷ []) found tasks
    by None alive is = cc
    by (Some owner) alive is =
        let same : number ≡ owner.current = cc in
        ap (λ (n : ℕ). tasks ++ first_task child process n ∷ []) same

module _ (tasks : List Task) (task process : ℕ) {seen : Option ℕ}
    (is : seen ≡ option_map (λ t. t.process) (task_in tasks task)) (there : seen ≡ Some process)
    (owner : Task) (lives : task_in tasks task ≡ Some owner) where
  own : process ≡ owner.process
  own = owner_process tasks task process owner lives there is

  -- it is dumpable where its creator's process is
  pub forked_flag : (flags after : List ProcessFlag) (child : ℕ) (dumpable : Bool)
      → dumpable ≡ is_dumpable flags process → after ≡ with_process_flag flags child dumpable
      → after ≡ with_process_flag flags child (is_dumpable flags owner.process)
  forked_flag flags after child dumpable flag made =
      made
      ∙ ap (with_process_flag flags child) (flag ∙ ap (is_dumpable flags) own)

  pub renewed_flag : (flags after : List ProcessFlag) (other : Bool)
      → after ≡ renewed flags process other → after ≡ renewed flags owner.process other
  renewed_flag flags after other made = made ∙ ap (λ (p : ℕ). renewed flags p other) own

  -- it has ended where no other thread is left
  pub left_flags : (left : List Task) (flags after : List ProcessFlag) (other : Bool)
      → left ≡ survivors (is_task task) tasks → other ≡ has_process left process
      → after ≡ cond other flags (without_flag flags process)
      → after
      ≡ cond (is_some (find (is_beside owner) tasks)) flags (without_flag flags owner.process)
  left_flags left flags after other gone has made =
      let beside : other ≡ is_some (find (is_beside owner) tasks)
      = has ∙ ap (λ (ts : List Task). has_process ts process) gone
      ∙ ap (has_process (survivors (is_task task) tasks)) own
      ∙ lives_beside tasks owner task (found_number tasks task owner lives) in
      made
      ∙ ap (λ (b : Bool). cond b flags (without_flag flags process)) beside
      ∙ ap (λ (p : ℕ). cond (is_some (find (is_beside owner) tasks)) flags (without_flag flags p))
      own
