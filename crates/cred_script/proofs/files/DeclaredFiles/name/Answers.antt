use Rattle.std.proofs.Common.{sym}
use Rattle.cred_script.proofs.FileMap.{own_place}
use Rattle.cred_script.proofs.files.DeclaredFiles.name.Goals as goal

pub returns-clause-own : goal.returns-clause-own
returns-clause-own c =
    rw (← c.self.view_is, c.deref.ensures)
    (own_place c.self.inside.by_name.entries c.args.place (c.in_ok-name.name.now, c.in_ok-name.field-0-1.now) c.self.invariant.apart
    (sym c.in_ok-name.ensures.entry))
