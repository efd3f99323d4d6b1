use Rattle.std.proofs.Common.{nat_eq, refl, subst}
use Rattle.std.specs.List.{IsDistinct}
use Rattle.cred_procs.proofs.Entries.{numbers-tasks_of}
use Rattle.cred_procs.proofs.Places.{current_written, current_kept}
use Rattle.cred_procs.proofs.procs.Procs.set_current_at.Goals as goal

pub invariant_of-self : goal.invariant_of-self
invariant_of-self c =
    let es = c.self.inside.tasks.entries in
    current_kept es _ c.args.place c.index_mut.result.now c.args.number
    (subst (IsDistinct nat_eq) (numbers-tasks_of es) c.self.invariant.sound.apart) c.index_mut.ensures.value refl c.self.inside.processes c.self.invariant

pub returns : goal.returns
returns c =
    let es = c.self.inside.tasks.entries in
    rw (← c.self.view_is)
    (current_written es _ c.args.place c.index_mut.result.now c.args.number
    (subst (IsDistinct nat_eq) (numbers-tasks_of es) c.self.invariant.sound.apart) c.index_mut.ensures.value refl)
