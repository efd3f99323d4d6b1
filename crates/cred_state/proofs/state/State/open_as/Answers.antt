use Rattle.std.proofs.Common.{ℕ, subst}
use Rattle.cred_tables.specs.Kept.{IsInUse}
use Rattle.cred_state.proofs.Standing.{held-in_use}
use Rattle.cred_state.proofs.state.State.open_as.Goals as goal

pub open_by-requires-clause-used : goal.open_by-requires-clause-used
open_by-requires-clause-used c =
    let s = c.args.self.now.state in
    let may = c.in-Ok.ensures in
    subst (λ (n : ℕ). IsInUse s n) may.number (held-in_use s c.args.label may.held may.is)
