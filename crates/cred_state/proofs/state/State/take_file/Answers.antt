use Rattle.std.proofs.Common.{refl, sym}
use Rattle.cred_model.specs.LabelEvents.{by_take_file}
use Rattle.cred_tables.specs.Kept.{seen_in}
use Rattle.cred_state.proofs.Holding.{takes_hold}
use Rattle.cred_state.proofs.Standing.{opener-in_use}
use Rattle.cred_state.proofs.state.State.take_file.Goals as goal

pub take_hold-requires : goal.take_hold-requires
take_hold-requires c = opener-in_use c.args.self.now.state c.args.fd _ (sym c.in-Some.ensures)

pub returns-clause-ok : goal.returns-clause-ok
returns-clause-ok c =
    let s = c.args.self.now.state in
    takes_hold s c.take_hold.new.self.state (by_take_file s c.args.label c.args.fd) c.args.label (seen_in s.creds c.in-Some.field-0)
    (rw (← c.in-Some.ensures) refl)
    c.take_hold.result c.take_hold.ensures.ok
