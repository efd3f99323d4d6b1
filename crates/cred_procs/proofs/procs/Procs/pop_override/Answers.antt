use Rattle.std.proofs.Common.{◌≡◌, ℕ, ◌≤◌, ◌∙◌, List, [], ◌∷◌, drop, length, slice_get, sym, ap, refl, nat_eq, Option, None, Some, arith, length-drop}
use Rattle.std.specs.Map.{lookup}
use Rattle.std.specs.Option.{IfNone, option_copied_mut}
use Rattle.cred_ids.specs.Limits.{DEPTH}
use Rattle.cred_procs.specs.Kept.{tasks_of}
use Rattle.cred_procs.proofs.Writes.{is_there, is_shallow, overrides_is, written_overrides, kept_overrides, unwritten}
use Rattle.cred_procs.proofs.procs.Procs.pop_override.Goals as goal

pub unwrap-thread-requires : goal.unwrap-thread-requires
unwrap-thread-requires c =
    is_there c.args.task c.self.inside.tasks.entries c.get_mut.result c.get_mut.ensures.value (rw (← c.self.view_is) at c.requires)

fewer : (overrides : List ℕ) → length overrides ≤ DEPTH → length (drop 1 overrides) ≤ DEPTH
fewer overrides low = omega (arith, length-drop 1 overrides)

pub invariant_of-self : goal.invariant_of-self
invariant_of-self c =
    let v = c.unwrap-thread.result.now in
    let es = c.self.inside.tasks.entries in
    let found : lookup (nat_eq c.args.task) es ≡ Some v = sym c.get_mut.ensures.value ∙ ap option_copied_mut c.unwrap-thread.ensures in
    kept_overrides c.args.task v es _ found c.get_mut.ensures.unique c.pop.new.self (drop 1 v.overrides) c.pop.ensures.stack (c.get_mut.follows.holds _).0
    (fewer v.overrides (is_shallow c.args.task v es found c.self.invariant.sound.shallow)) c.self.inside.processes c.self.invariant

pub returns-clause-number : goal.returns-clause-number
returns-clause-number c =
    let found : lookup (nat_eq c.args.task) c.self.inside.tasks.entries ≡ Some c.unwrap-thread.result.now
    = sym c.get_mut.ensures.value ∙ ap option_copied_mut c.unwrap-thread.ensures in
    rw (← c.self.view_is, overrides_is c.args.task c.unwrap-thread.result.now c.self.inside.tasks.entries found) c.pop.ensures.number

pub returns-clause-tasks : goal.returns-clause-tasks
returns-clause-tasks c =
    let v = c.unwrap-thread.result.now in
    let es = c.self.inside.tasks.entries in
    let found : lookup (nat_eq c.args.task) es ≡ Some v = sym c.get_mut.ensures.value ∙ ap option_copied_mut c.unwrap-thread.ensures in
    rw (← c.self.view_is, overrides_is c.args.task v es found)
    (written_overrides c.args.task v es _ found c.get_mut.ensures.unique c.pop.new.self (drop 1 v.overrides) c.pop.ensures.stack (c.get_mut.follows.holds _).0)

-- where there is no newest, none is taken off
all_left : (found : Option ℕ) (overrides : List ℕ) → found ≡ slice_get overrides 0 → IfNone found (drop 1 overrides ≡ overrides)
all_left None [] is = refl
all_left None (n ∷ ns) is = cc
all_left (Some n) overrides is = tt

if_none : {P Q : Type 0} (found : Option ℕ) → (P → Q) → IfNone found P → IfNone found Q
if_none None then is = then is
if_none (Some n) then is = is

pub returns-clause-none : goal.returns-clause-none
returns-clause-none c =
    let v = c.unwrap-thread.result.now in
    let es = c.self.inside.tasks.entries in
    let found : lookup (nat_eq c.args.task) es ≡ Some v = sym c.get_mut.ensures.value ∙ ap option_copied_mut c.unwrap-thread.ensures in
    rw (← c.self.view_is)
    (if_none c.pop.result
    (λ same. ap tasks_of (unwritten c.args.task v es _ found c.pop.new.self (c.pop.ensures.stack ∙ same) (c.get_mut.follows.holds _).0))
    (all_left c.pop.result v.overrides c.pop.ensures.number))
