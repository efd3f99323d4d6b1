use Rattle.std.proofs.Common.{◌≢◌, length, Option, sym, ap, ◌∙◌, subst, arith}
use Rattle.std.specs.List.{All, AllPairs}
use Rattle.std.specs.Option.{IfSome}
use Rattle.cred_model.specs.State.{Task}
use Rattle.cred_model.specs.Ends.{is_beside}
use Rattle.cred_model.proofs.Places.{if_some}
use Rattle.cred_model.proofs.Rising.{length-in_order}
use Rattle.cred_model.specs.Broadcasts.{WaitsNowhere}
use Rattle.cred_broadcasts.specs.Broadcasts.{broadcast_within}
use Rattle.cred_procs.specs.Tasks.{task_in, those}
use Rattle.cred_tables.specs.Begin.{HasBegun, broadcast_begun}
use Rattle.cred_tables.proofs.Begun.{begun_broadcasts, few_those}
use Rattle.cred_tables.proofs.Owners.{has_process, owner_process}
use Rattle.cred_tables.proofs.broadcasts.begin_in.Goals as goal

pub unwrap-process-requires : goal.unwrap-process-requires
unwrap-process-requires c = has_process c.requires.owner c.requires.lives c.process_of.ensures

pub others-requires : goal.others-requires
others-requires c = sym c.process_of.ensures ∙ c.unwrap-process.ensures

pub begin-requires-clause-new : goal.begin-requires-clause-new
begin-requires-clause-new c = c.requires.new

pub begin-requires-clause-one : goal.begin-requires-clause-one
begin-requires-clause-one c =
    let process =
    owner_process c.args.tasks.now c.args.task c.unwrap-process.result c.requires.owner c.requires.lives c.unwrap-process.ensures c.process_of.ensures in
    ap (broadcast_within c.args.broadcasts.now) process ∙ c.requires.idle

pub begin-requires-clause-once : goal.begin-requires-clause-once
begin-requires-clause-once c =
    let these = c.items.ensures ∙ if_some _ (task_in c.args.tasks.now c.args.task) c.requires.owner c.requires.lives c.in_ok-others.ensures.others in
    subst (AllPairs (λ a b. a ≢ b)) (sym these) c.requires.once

pub begin-requires-clause-only_here : goal.begin-requires-clause-only_here
begin-requires-clause-only_here c =
    let these = c.items.ensures ∙ if_some _ (task_in c.args.tasks.now c.args.task) c.requires.owner c.requires.lives c.in_ok-others.ensures.others in
    subst (All (WaitsNowhere c.args.broadcasts.now)) (sym these) c.requires.nowhere

pub returns-clause-ok : goal.returns-clause-ok
returns-clause-ok c =
    let tasks = c.args.tasks.now in
    let owner = c.requires.owner in
    let process = owner_process tasks c.args.task c.unwrap-process.result owner c.requires.lives c.unwrap-process.ensures c.process_of.ensures in
    let these = if_some _ (task_in tasks c.args.task) owner c.requires.lives c.in_ok-others.ensures.others in
    let Begun : Task → Type 0 =
    λ o. HasBegun c.args.broadcasts.now c.begin.new.self (broadcast_begun c.args.line c.args.task c.args.call.now o tasks) (length c.items-2.result.now) in
    subst (λ (found : Option Task). IfSome found Begun) (sym c.requires.lives)
    (record {
      broadcasts =
          begun_broadcasts c.args.broadcasts.now c.begin.new.self tasks c.args.line c.args.task owner c.args.call.now process (c.items.ensures ∙ these)
          c.in_ok-begin.ensures.ok;
      waiting = ap length (c.items-2.ensures ∙ these) ∙ sym (length-in_order (those (is_beside owner) tasks));
    })

pub overflow_cast-result : goal.overflow_cast-result
overflow_cast-result c =
    let these = if_some _ (task_in c.args.tasks.now c.args.task) c.requires.owner c.requires.lives c.in_ok-others.ensures.others in
    let same = ap length (c.items-2.ensures ∙ these) in
    let few = few_those (is_beside c.requires.owner) c.args.tasks.now c.in_ok-others.ensures.tasks.few in
    omega (arith, same, few)
