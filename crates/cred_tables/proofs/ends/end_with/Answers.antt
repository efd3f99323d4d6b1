use Rattle.std.proofs.Common.{◌≡◌, ℕ, List, [], IfOk, Option, None, Some, refl, sym, subst}
use Rattle.std.specs.Option.{IfSome}
use Rattle.cred_event.specs.declared.event.Change.{Change}
use Rattle.cred_event.specs.declared.event.Change.TheVariants.{Exec}
use Rattle.cred_model.specs.State.{Task}
use Rattle.cred_model.specs.LabelEvents.{ends_with}
use Rattle.cred_procs.specs.Tasks.{EndsTasks, task_in}
use Rattle.cred_tables.proofs.Ending.{none_ends}
use Rattle.cred_tables.proofs.ends.end_with.Goals as goal

pub returns-in-Exec-clause-ended : goal.returns-in-Exec-clause-ended
returns-in-Exec-clause-ended c =
    subst (λ (change : Change). IfOk c.dethread.result (λ ended. IfSome (task_in c.args.tasks.now c.args.task)
    (λ owner. EndsTasks (ends_with change owner) c.args.tasks.now c.dethread.new.self ended.tasks ended.numbers)))
    (sym c.in-Exec.is) c.dethread.ensures.ended

-- No other change ends a task.
others_end_none : (change : Change) (tasks : List Task) (found : Option Task) → ((file : ℕ) → change ≡ Exec file → ⊥)
    → IfSome found (λ owner. EndsTasks (ends_with change owner) tasks tasks [] [])
others_end_none change tasks None other = tt
others_end_none change tasks (Some owner) other = by change other
  where
    by : (change : Change) → ((file : ℕ) → change ≡ Exec file → ⊥) → EndsTasks (ends_with change owner) tasks tasks [] []
    by (Exec file) other = absurd (other file refl)
    by change other = none_ends tasks

pub returns-in_default : goal.returns-in_default
returns-in_default c =
    rw (c.from_vec.ensures, c.new.ensures.items, c.from_vec-in_default.ensures, c.new-in_default.ensures.items)
    (record { ended = others_end_none c.args.change c.args.tasks.now (task_in c.args.tasks.now c.args.task) c.in_default.not-Exec; err = tt })
