use Rattle.std.proofs.Common.{Some, sym, ap, ◌∙◌}
use Rattle.std.specs.Option.{option_copied}
use Rattle.cred_record.specs.File.{File}
use Rattle.cred_plain.specs.Creds.{seen_numbered}
use Rattle.cred_plain.proofs.Places.{none_is}
use Rattle.cred_machine.proofs.Seen.{seen_state}
use Rattle.cred_machine.proofs.Written.{stat_unheld, stat_none, stands}
use Rattle.cred_machine.proofs.state.State.stat.Goals as goal

pub returns-in_default : goal.returns-in_default
returns-in_default c =
    stat_unheld c.args.self.now c.args.hold c.args.file (none_is seen_numbered c.held.result _ c.held.ensures c.in_default.is)

pub returns-in-Some-file : goal.returns-in-Some-file
returns-in-Some-file c =
    let s = seen_state c.self.inside in
    let i = c.info.inside in
    let file : File = record { kind = i.kind; owner = i.owner; group = i.group; mode = i.mode; nosuid = i.nosuid; attr = i.attr } in
    rw (← c.self.view_is)
    (stands s c.args.hold c.args.file (seen_numbered c.in-Some.field-0) (rw (← c.self.view_is) at (sym c.in-Some.ensures))
    file c.is_some.result (sym c.in-Some-file.ensures ∙ ap Some (sym c.info.view_is)) c.is_some.ensures)

pub returns-in-None : goal.returns-in-None
returns-in-None c =
    let s = seen_state c.self.inside in
    rw (← c.self.view_is)
    (stat_none s c.args.hold c.args.file (seen_numbered c.in-Some.field-0) (rw (← c.self.view_is) at (sym c.in-Some.ensures))
    (sym c.file.ensures ∙ ap option_copied c.in-None.is))
