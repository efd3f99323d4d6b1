use Rattle.cred_model.specs.State.{Task, task_of}
use Rattle.std.proofs.Common.{rules}
use Rattle.cred_state.proofs.Acts.{makes_so}
use Rattle.cred_state.proofs.Traces.{ids_differ}
use Rattle.cred_state.proofs.Reading.{is_found}
use Rattle.cred_state.proofs.Standing.{current-in_use}
use Rattle.cred_state.proofs.state.State.act_anew.Goals as goal

pub read_head-before-requires-clause-found : goal.read_head-before-requires-clause-found
read_head-before-requires-clause-found c =
    let s = c.args.self.now.state in
    is_found s.creds (λ (t : Task). t.current) (task_of s c.args.next.task) _ c.requires.next.has

pub read_head-before-requires-clause-used : goal.read_head-before-requires-clause-used
read_head-before-requires-clause-used c = current-in_use c.args.self.now.state c.args.next.task _ c.requires.next.has

pub read_parts-parts-requires-clause-found : goal.read_parts-parts-requires-clause-found
read_parts-parts-requires-clause-found c =
    let s = c.args.self.now.state in
    rw c.read_head-before.ensures.same (is_found s.creds (λ (t : Task). t.current) (task_of s c.args.next.task) _ c.requires.next.has)

pub read_parts-parts-requires-clause-used : goal.read_parts-parts-requires-clause-used
read_parts-parts-requires-clause-used c =
    rw c.read_head-before.ensures.same (current-in_use c.args.self.now.state c.args.next.task _ c.requires.next.has)

pub act_with-requires-clause-made : goal.act_with-requires-clause-made
act_with-requires-clause-made c = search (rules, makes_so, ids_differ)
