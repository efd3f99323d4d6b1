use Rattle.std.proofs.Common.{sym, ap, ◌∙◌}
use Rattle.std.specs.Option.{option_copied}
use Rattle.std.proofs.lemmas.Option.{slice_get_within}
use Rattle.cred_model.specs.FileChanges.{changed_by}
use Rattle.cred_plain.specs.Creds.{seen_numbered}
use Rattle.cred_plain.proofs.Places.{none_is}
use Rattle.cred_machine.proofs.Seen.{seen_state}
use Rattle.cred_machine.proofs.Written.{file_unheld, file_none, file_written, file_refused}
use Rattle.cred_machine.proofs.state.State.change_file.Goals as goal

pub returns-in_default-clause-ok : goal.returns-in_default-clause-ok
returns-in_default-clause-ok c =
    let s = seen_state c.self.inside in
    rw (← c.self.view_is)
    (file_unheld s c.args.hold c.args.file (changed_by c.args.event.now)
    (rw (← c.self.view_is) at (none_is seen_numbered c.held.result _ c.held.ensures c.in_default.is)))

pub returns-in_default-file-clause-ok : goal.returns-in_default-file-clause-ok
returns-in_default-file-clause-ok c =
    let s = seen_state c.self.inside in
    rw (← c.self.view_is)
    (file_none s c.args.hold c.args.file (changed_by c.args.event.now) (seen_numbered c.in-Some.held)
    (rw (← c.self.view_is) at (sym c.in-Some.ensures)) (sym c.file.ensures ∙ ap option_copied c.in_default-file.is))

pub returns-in-Ok-clause-ok : goal.returns-in-Ok-clause-ok
returns-in-Ok-clause-ok c =
    let s = seen_state c.self.inside in
    rw (← c.self.view_is)
    (file_written s c.args.hold c.args.file (changed_by c.args.event.now) (seen_numbered c.in-Some.held)
    (rw (← c.self.view_is) at (sym c.in-Some.ensures)) c.in-Some-file.old.now (sym c.in-Some-file.ensures) c.in-Ok.new _
    c.in-Ok.ensures c.replace.ensures)

pub returns-in-Err-clause-ok : goal.returns-in-Err-clause-ok
returns-in-Err-clause-ok c =
    let s = seen_state c.self.inside in
    rw (← c.self.view_is)
    (file_refused s c.args.hold c.args.file (changed_by c.args.event.now) (seen_numbered c.in-Some.held)
    (rw (← c.self.view_is) at (sym c.in-Some.ensures)) c.in-Some-file.old.now (sym c.in-Some-file.ensures) c.refusal_answer.result c.in-Err.refusal
    c.in-Err.ensures c.refusal_answer.ensures.answer)

pub replace-requires : goal.replace-requires
replace-requires c =
    let s = seen_state c.self.inside in
    slice_get_within s.inodes c.args.file c.in-Some-file.old.now (sym c.in-Some-file.ensures)
