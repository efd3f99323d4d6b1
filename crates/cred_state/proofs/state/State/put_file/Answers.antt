use Rattle.cred_state.proofs.Seen.{seen_state}
use Rattle.cred_state.proofs.FileCalls.{by_value, file_changed, file_refused, kept_inodes}
use Rattle.cred_state.proofs.state.State.put_file.Goals as goal

pub replace-requires : goal.replace-requires
replace-requires c = rw (← c.self.view_is) at c.requires.there

pub invariant_of-self : goal.invariant_of-self
invariant_of-self c = (kept_inodes c.self.invariant.0 c.replace.new.self, c.self.invariant.1)

pub returns-in-Ok-clause-ok : goal.returns-in-Ok-clause-ok
returns-in-Ok-clause-ok c = λ hold rule cred file held there by.
    let t = c.self.inside in
    let s = seen_state t in
    let holds = rw (← c.self.view_is) at held in
    let stands = rw (← c.self.view_is) at there in
    let made = rw c.in-Ok.is at by in
    rw (← c.self.view_is, c.replace.ensures)
    (file_changed s hold c.args.place rule cred file holds stands c.in-Ok.file (by_value c.in-Ok.file (rule cred file) made))

pub returns-in-Err-clause-ok : goal.returns-in-Err-clause-ok
returns-in-Err-clause-ok c = λ hold rule cred file held there by.
    file_refused c.args.self.now.state hold c.args.place rule cred file held there c.refusal_answer.result c.in-Err.refusal (rw c.in-Err.is at by)
    c.refusal_answer.ensures.answer
