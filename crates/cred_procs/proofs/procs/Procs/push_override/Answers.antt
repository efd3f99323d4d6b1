use Rattle.std.proofs.Common.{◌≡◌, ℕ, ◌∙◌, Bool, true, false, cond, List, ◌∷◌, length, nat_lt, sym, ap, subst, nat_eq, Some, arith}
use Rattle.std.specs.List.{IsDistinct}
use Rattle.std.specs.Map.{keys_of, lookup, set_value}
use Rattle.std.specs.Option.{option_copied_mut}
use Rattle.std.proofs.lemmas.Bool.{ltb-true}
use Rattle.cred_ids.specs.Limits.{DEPTH}
use Rattle.cred_procs.specs.declared.processes.Processes.{Processes}
use Rattle.cred_procs.specs.declared.thread.Thread.{Thread}
use Rattle.cred_procs.specs.Kept.{tasks_of, AreGrouped}
use Rattle.cred_model.specs.Moves.{with_overrides}
use Rattle.cred_procs.proofs.Writes.{is_there, overrides_is, written_overrides, kept_overrides, unwritten}
use Rattle.cred_procs.proofs.procs.Procs.push_override.Goals as goal

pub unwrap-thread-requires : goal.unwrap-thread-requires
unwrap-thread-requires c =
    is_there c.args.task c.self.inside.tasks.entries c.get_mut.result c.get_mut.ensures.value (rw (← c.self.view_is) at c.requires)

-- what is left, whether or not there was room for the number
module _ (task number : ℕ) (v : Thread) (es after : List (ℕ × Thread)) (found : lookup (nat_eq task) es ≡ Some v) (unique : IsDistinct nat_eq (keys_of es))
    (stack : List ℕ) (is : after ≡ set_value (nat_eq task) es (record v { overrides = stack })) where
  pushed : (room : Bool) → stack ≡ cond room (number ∷ v.overrides) v.overrides
      → tasks_of after ≡ cond room (with_overrides (tasks_of es) task (number ∷ v.overrides)) (tasks_of es)
  pushed true to = written_overrides task v es after found unique stack (number ∷ v.overrides) to is
  pushed false to = ap tasks_of (unwritten task v es after found stack to is)

  kept : (room : Bool) → room ≡ nat_lt (length v.overrides) DEPTH → stack ≡ cond room (number ∷ v.overrides) v.overrides
      → (processes : Processes) → AreGrouped (tasks_of es) processes → AreGrouped (tasks_of after) processes
  kept true room to =
      let below = ltb-true (length v.overrides) DEPTH (sym room) in
      kept_overrides task v es after found unique stack (number ∷ v.overrides) to is (omega (arith, below))
  kept false room to =
      λ processes before. subst (λ (now : List (ℕ × Thread)). AreGrouped (tasks_of now) processes) (sym (unwritten task v es after found stack to is)) before

pub invariant_of-self : goal.invariant_of-self
invariant_of-self c =
    let v = c.unwrap-thread.result.now in
    let found : lookup (nat_eq c.args.task) c.self.inside.tasks.entries ≡ Some v
    = sym c.get_mut.ensures.value ∙ ap option_copied_mut c.unwrap-thread.ensures in
    kept c.args.task c.args.number v c.self.inside.tasks.entries _ found c.get_mut.ensures.unique c.push.new.self (c.get_mut.follows.holds _).0
    c.push.result c.push.ensures.pushed c.push.ensures.stack c.self.inside.processes c.self.invariant

pub returns-clause-pushed : goal.returns-clause-pushed
returns-clause-pushed c =
    let found : lookup (nat_eq c.args.task) c.self.inside.tasks.entries ≡ Some c.unwrap-thread.result.now
    = sym c.get_mut.ensures.value ∙ ap option_copied_mut c.unwrap-thread.ensures in
    rw (← c.self.view_is, overrides_is c.args.task c.unwrap-thread.result.now c.self.inside.tasks.entries found) c.push.ensures.pushed

pub returns-clause-tasks : goal.returns-clause-tasks
returns-clause-tasks c =
    let v = c.unwrap-thread.result.now in
    let found : lookup (nat_eq c.args.task) c.self.inside.tasks.entries ≡ Some v
    = sym c.get_mut.ensures.value ∙ ap option_copied_mut c.unwrap-thread.ensures in
    rw (← c.self.view_is, overrides_is c.args.task v c.self.inside.tasks.entries found)
    (pushed c.args.task c.args.number v c.self.inside.tasks.entries _ found c.get_mut.ensures.unique c.push.new.self (c.get_mut.follows.holds _).0
    c.push.result c.push.ensures.stack)
