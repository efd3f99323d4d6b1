use Rattle.std.proofs.Common.{rules, Result, IfOk, subst}
use Rattle.cred_event.specs.declared.answer.Answer.{Answer}
use Rattle.cred_model.specs.Like.{Gives}
use Rattle.cred_model.specs.State.{State}
use Rattle.cred_machine.proofs.Written.{done_so}
use Rattle.cred_machine.proofs.state.State.make.Goals as goal

pub returns-in-Sweep-clause-ok : goal.returns-in-Sweep-clause-ok
returns-in-Sweep-clause-ok c = search rules

pub returns-in-Chown-clause-ok : goal.returns-in-Chown-clause-ok
returns-in-Chown-clause-ok c =
    let s = c.args.self.now in
    subst (λ (made : Result (Answer × State) Answer). IfOk c.change_file.result (λ answer. Gives s made answer c.change_file.new.self))
    (done_so c.args.script.now s c.args.line c.args.event.now c.in-Chown.hold c.in-Chown.file c.in-Chown.is) c.change_file.ensures.ok
