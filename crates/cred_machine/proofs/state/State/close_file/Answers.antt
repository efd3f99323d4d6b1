use Rattle.std.proofs.Common.{◌==◌, ap}
use Rattle.cred_model.specs.State.{OpenFile}
use Rattle.cred_machine.proofs.Closing.{closed}
use Rattle.cred_machine.proofs.Seen.{placed, seen_state}
use Rattle.cred_machine.proofs.state.State.close_file.Goals as goal

pub returns-clause-ok : goal.returns-clause-ok
returns-clause-ok c =
    let s = seen_state c.self.inside in
    let it = c.index.result.now in
    let at = placed (λ (x : OpenFile). x.fd == c.args.fd) s.files _ c.in-Some.place it c.deref.ensures.value c.in-Some.ensures c.index.ensures in
    rw (← c.self.view_is)
    (closed s c.args.fd c.in-Some.place c.behind-self.inside.opener it _ _ at.0 at.1 (ap (λ (x : OpenFile). x.opener) c.behind-self.view_is)
    c.remove.ensures.items c.in_ok-push.ensures.items)
