use Rattle.std.proofs.Common.{sym}
use Rattle.cred_model.specs.State.{Task, task_of}
use Rattle.cred_tables.specs.Kept.{cred_under}
use Rattle.cred_state.proofs.Begins.{begin_refused}
use Rattle.cred_state.proofs.Reading.{is_found}
use Rattle.cred_state.proofs.Standing.{current-in_use}
use Rattle.cred_state.proofs.Traces.{ids_differ}
use Rattle.cred_state.proofs.state.State.begin.Goals as goal

pub read_parts-parts-requires-clause-found : goal.read_parts-parts-requires-clause-found
read_parts-parts-requires-clause-found c =
    let s = c.args.self.now.state in
    is_found s.creds (λ (t : Task). t.current) (task_of s c.args.task) _ c.in-Ok.ensures.has

pub read_parts-parts-requires-clause-used : goal.read_parts-parts-requires-clause-used
read_parts-parts-requires-clause-used c = current-in_use c.args.self.now.state c.args.task _ c.in-Ok.ensures.has

pub begin_with-requires-clause-ids_changed : goal.begin_with-requires-clause-ids_changed
begin_with-requires-clause-ids_changed c =
    rw c.read_parts-parts.ensures.same
    (ids_differ _ _ c.apply_parts.new.own _ _ c.differs_by-ids_changed.ensures c.read_parts-parts.ensures.parts.0)

pub returns-in-Err-apply_parts-clause-ok : goal.returns-in-Err-apply_parts-clause-ok
returns-in-Err-apply_parts-clause-ok c =
    let s = c.args.self.now.state in
    let becomes = c.in-Err-apply_parts.ensures.made (cred_under s.creds c.in-Ok.now.number) (sym c.read_parts-parts.ensures.parts.0) in
    rw c.read_parts-parts.ensures.same
    (begin_refused s c.args.line c.args.task c.args.call.now _ c.in-Ok.ensures c.refusal_answer.result c.in-Err-apply_parts.refusal c.read_parts-parts.result
    c.apply_parts.new.own becomes c.refusal_answer.ensures.answer)
