use Rattle.std.proofs.Common.{◌<◌, ◌∙◌, is_some, length}
use Rattle.cred_ids.specs.Limits.{OPEN_FILES}
use Rattle.indexmap.proofs.CallerLemmas.{insert_entry-new}
use Rattle.cred_files.specs.declared.file_description.FileDescription.{FileDescription}
use Rattle.cred_files.specs.Open.{open_files}
use Rattle.cred_files.proofs.Kept.{is_new, opened, still_open}
use Rattle.cred_files.proofs.files.Files.add.Goals as goal

pub invariant_of-self-2 : goal.invariant_of-self-2
invariant_of-self-2 c =
    let es = c.self.inside.files.entries in
    let room : length (open_files es) < OPEN_FILES = rw (← c.self.view_is) at c.requires.room in
    still_open es c.insert.new.self.entries (is_some c.in_ok-insert.field-0) room c.insert.ensures.unique c.in_ok-insert.ensures.len

pub returns-clause-ok : goal.returns-clause-ok
returns-clause-ok c =
    let es = c.self.inside.files.entries in
    let file : FileDescription = record { opener = c.args.opener; file = c.args.file } in
    let new = rw (← c.self.view_is) at c.requires.new in
    let is = c.in_ok-insert.ensures.entries ∙ insert_entry-new _ c.self.inside.files c.args.fd file (is_new c.args.fd es new) in
    rw (← c.self.view_is) (opened c.args.fd file es c.insert.new.self.entries is)
