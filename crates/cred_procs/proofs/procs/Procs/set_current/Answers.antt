use Rattle.std.proofs.Common.{◌≡◌, ℕ, Option, slice_get, subst}
use Rattle.std.specs.Option.{IfSome}
use Rattle.cred_procs.specs.Tasks.{task_in}
use Rattle.cred_procs.proofs.Places.{set_there}
use Rattle.cred_procs.proofs.procs.Procs.set_current.Goals as goal

pub returns-clause-tasks : goal.returns-clause-tasks
returns-clause-tasks c =
    let there : slice_get c.args.self.now c.unwrap-place.result ≡ task_in c.args.self.now c.args.task
    = subst (λ (place : Option ℕ). IfSome place (λ place. slice_get c.args.self.now place ≡ task_in c.args.self.now c.args.task)) c.unwrap-place.ensures
    c.place_of.ensures.place in
    set_there c.args.self.now _ c.args.task c.args.number c.unwrap-place.result there c.requires c.set_current_at.ensures
