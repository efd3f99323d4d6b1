use Rattle.std.proofs.Common.{◌≡◌, ℕ, ◌<◌, ◌∙◌, List, [], ◌∷◌, ◌++◌, length, sym, ap, subst, map, nat_eq, None, arith}
use Rattle.std.specs.List.{IsDistinct}
use Rattle.std.specs.Map.{lookup}
use Rattle.std.proofs.lemmas.List.{map-append}
use Rattle.cred_ids.specs.Limits.{TASKS}
use Rattle.indexmap.specs.IndexMap.{IndexMap, insert_entry}
use Rattle.indexmap.proofs.CallerLemmas.{insert_entry-new}
use Rattle.cred_model.specs.State.{Task}
use Rattle.cred_model.specs.Moves.{first_task}
use Rattle.cred_procs.specs.declared.thread.Thread.{Thread}
use Rattle.cred_procs.specs.Kept.{task_as, tasks_of, AreGrouped}
use Rattle.cred_procs.specs.Tasks.{task_in}
use Rattle.cred_procs.proofs.Entries.{absent-tasks_of, numbers-tasks_of}
use Rattle.cred_procs.proofs.Ends.{kept_added}
use Rattle.cred_procs.proofs.procs.Procs.start.Goals as goal

-- the new entry goes last
added : {S : Type 0} (task : ℕ) (thread : Thread) (es : List (ℕ × Thread)) (room : IndexMap ℕ Thread S) (after : List (ℕ × Thread))
    → task_in (tasks_of es) task ≡ None → room.entries ≡ es → after ≡ insert_entry nat_eq room.entries task thread
    → tasks_of after ≡ tasks_of es ++ task_as task thread ∷ []
added task thread es room after new same is =
    let none : lookup (nat_eq task) room.entries ≡ None
    = ap (λ (fs : List (ℕ × Thread)). lookup (nat_eq task) fs) same ∙ absent-tasks_of task es new in
    ap tasks_of (is ∙ insert_entry-new nat_eq room task thread none ∙ ap (λ (fs : List (ℕ × Thread)). fs ++ (task, thread) ∷ []) same)
    ∙ map-append (λ (e : ℕ × Thread). task_as e.0 e.1) es ((task, thread) ∷ [])

-- a task that overrides nothing
first : (task process number : ℕ) (overrides : List ℕ) → overrides ≡ []
    → task_as task (record { process = process; current = number; overrides = overrides }) ≡ first_task task process number
first task process number overrides none = ap (λ (os : List ℕ). record { number = task; process = process; current = number; overrides = os }) none

pub invariant_of-self-2 : goal.invariant_of-self-2
invariant_of-self-2 c =
    let es = c.self.inside.tasks.entries in
    let after = c.insert.new.self.entries in
    let t = first_task c.args.task c.args.process c.args.number in
    let thread : Thread = record { process = c.args.process; current = c.args.number; overrides = c.new.result } in
    let new = rw (← c.self.view_is) at c.requires.new in
    let room : length (tasks_of es) < TASKS = rw (← c.self.view_is) at c.requires.room in
    let is : tasks_of after ≡ tasks_of es ++ t ∷ []
    = added c.args.task thread es c.reserve.new.self after new c.reserve.ensures.entries c.in_ok-insert.ensures.entries
    ∙ ap (λ (u : Task). tasks_of es ++ u ∷ []) (first c.args.task c.args.process c.args.number c.new.result c.new.ensures) in
    let apart : IsDistinct nat_eq (map (λ t. t.number) (tasks_of es ++ t ∷ []))
    = subst (IsDistinct nat_eq) (sym (numbers-tasks_of after) ∙ ap (λ (ts : List Task). map (λ t. t.number) ts) is) c.insert.ensures.unique in
    subst (λ (ts : List Task). AreGrouped ts c.add.new.self) (sym is)
    (kept_added t (tasks_of es) c.self.inside.processes c.add.new.self c.self.invariant room (omega arith) apart c.in_ok-add.ensures.ok)

pub returns-clause-ok : goal.returns-clause-ok
returns-clause-ok c =
    let es = c.self.inside.tasks.entries in
    let thread : Thread = record { process = c.args.process; current = c.args.number; overrides = c.new.result } in
    let new = rw (← c.self.view_is) at c.requires.new in
    rw (← c.self.view_is)
    (added c.args.task thread es c.reserve.new.self c.insert.new.self.entries new c.reserve.ensures.entries c.in_ok-insert.ensures.entries
    ∙ ap (λ (u : Task). tasks_of es ++ u ∷ []) (first c.args.task c.args.process c.args.number c.new.result c.new.ensures))
