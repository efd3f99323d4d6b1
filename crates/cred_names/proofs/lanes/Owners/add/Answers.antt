use Rattle.std.proofs.Common.{◌∙◌, nat_eq, subst, sym}
use Rattle.indexmap.proofs.CallerLemmas.{insert_entry-new}
use Rattle.cred_names.specs.Owners.{KeepsOwners}
use Rattle.cred_names.proofs.OwnedNumbers.{keeps_added}
use Rattle.cred_names.proofs.lanes.Owners.add.Goals as goal

pub returns-clause-ok : goal.returns-clause-ok
returns-clause-ok c =
    let new = rw (← c.self.view_is) at c.requires in
    rw (← c.self.view_is) (c.in_ok-insert.ensures.entries ∙ insert_entry-new nat_eq c.self.inside.by_number c.args.number c.args.lane new)

pub returns-clause-keeps : goal.returns-clause-keeps
returns-clause-keeps c =
    subst (KeepsOwners c.args.self.now) (sym (returns-clause-ok c)) (keeps_added c.args.self.now c.args.number c.args.lane)
