use Rattle.cred_script.proofs.FileMap.{added}
use Rattle.cred_script.proofs.files.DeclaredFiles.add.Goals as goal

pub returns-clause-ok : goal.returns-clause-ok
returns-clause-ok c =
    let new = rw (← c.self.view_is, ← c.file.view_is) at c.requires.new in
    rw (← c.self.view_is, ← c.file.view_is)
    (added c.file.inside.name c.file.inside.info c.self.inside.by_name.entries c.insert.new.self.entries new c.in_ok-insert.ensures.entries)
