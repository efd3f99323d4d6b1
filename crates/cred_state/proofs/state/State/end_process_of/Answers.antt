use Rattle.std.proofs.Common.{ap, ◌∙◌}
use Rattle.cred_model.specs.Ends.{is_thread_of}
use Rattle.cred_slots.specs.Table.{Table}
use Rattle.cred_procs.specs.Tasks.{task_in}
use Rattle.cred_state.proofs.Acts.{abort_held, ends_all, process_kept, process_ended}
use Rattle.cred_tables.proofs.Ending.{left-held}
use Rattle.cred_tables.proofs.Owners.{process_there, for_owner}
use Rattle.cred_state.proofs.state.State.end_process_of.Goals as goal

pub unwrap-process-requires : goal.unwrap-process-requires
unwrap-process-requires c =
    let alive = rw (← c.self.view_is) at c.requires in
    process_there (task_in c.self.inside.tasks c.args.task) alive c.process_of.ensures

pub drop_all-requires : goal.drop_all-requires
drop_all-requires c =
    let t = c.self.inside in
    left-held c.self.invariant.0 (is_thread_of c.unwrap-process.result) c.items.result.now c.sweep_at.new.slots.held
    (c.items.ensures ∙ c.in_ok-ended.ensures.ended.gave_up) (ap (λ (x : Table). x.held) c.sweep_at.ensures ∙ abort_held c.args.cause t.slots)

pub invariant_of-self-2 : goal.invariant_of-self-2
invariant_of-self-2 c =
    let t = c.self.inside in
    let gone = c.in_ok-ended.ensures.ended in
    let all = ends_all c.args.cause t.slots c.sweep_at.ensures (c.items.ensures ∙ gone.gave_up) c.drop_all.ensures.held c.drop_all.ensures.table in
    rw (gone.left, c.drop_in.ensures, c.remove.ensures)
    (process_kept c.self.invariant.0 c.args.cause c.unwrap-process.result c.drop_all.new.slots all, c.self.invariant.1)

pub returns-clause-state : goal.returns-clause-state
returns-clause-state c =
    let t = c.self.inside in
    let gone = c.in_ok-ended.ensures.ended in
    let all = ends_all c.args.cause t.slots c.sweep_at.ensures (c.items.ensures ∙ gone.gave_up) c.drop_all.ensures.held c.drop_all.ensures.table in
    rw (← c.self.view_is, gone.left, c.drop_in.ensures, c.remove.ensures)
    (for_owner (task_in t.tasks c.args.task) (c.process_of.ensures) c.unwrap-process.ensures
    (λ broadcast of. process_ended c.self.invariant.0 c.args.cause c.unwrap-process.result c.drop_all.new.slots all broadcast of))
