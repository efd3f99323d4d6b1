use Rattle.std.proofs.Common.{subst}
use Rattle.cred_model.specs.Script.{Script}
use Rattle.cred_model.specs.Journal.{IsLegal}
use Rattle.cred_kernel.proofs.locked.Locked.has_ended.Goals as goal

pub returns : goal.returns
returns g c over =
    rw (← c.self.view_is)
    (subst (λ (s : Script). IsLegal s c.self.inside.book.journal) c.self.invariant.script_is (c.has_ended.ensures over))
