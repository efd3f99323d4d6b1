use Rattle.cred_audit.specs.declared.run.Run.{Run}
use Rattle.cred_audit.proofs.Runs.{nothing_run}
use Rattle.cred_audit.proofs.run.Run.new.Goals as goal

pub returns : goal.returns
returns c =
    let run : Run = record { state = c.in_ok-state.state; cursors = c.in_ok-cursors.cursors } in
    nothing_run c.args.script.now run c.new.ensures.lines c.in_ok-state.ensures c.in_ok-cursors.ensures.cursors
