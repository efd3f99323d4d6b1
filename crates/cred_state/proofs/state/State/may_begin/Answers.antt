use Rattle.std.proofs.Common.{ℕ, Some, sym, ap, ◌∙◌}
use Rattle.cred_model.specs.Broadcasts.{not_busy}
use Rattle.cred_model.proofs.Numbers.{current_is}
use Rattle.cred_broadcasts.specs.Broadcasts.{broadcast_under, broadcast_within}
use Rattle.cred_state.proofs.Seen.{seen_state}
use Rattle.cred_state.proofs.Begins.{begin_without, begin_busy, begin_exists, begin_overridden}
use Rattle.cred_state.proofs.Broadcasts.{busy_by, none_open, some_open}
use Rattle.cred_tables.proofs.Owners.{has_process, own_owner, over_owner, owner_process}
use Rattle.cred_model.proofs.Places.{none_by_test}
use Rattle.cred_state.proofs.state.State.may_begin.Goals as goal

pub returns-in_default : goal.returns-in_default
returns-in_default c = λ call. begin_without c.args.self.now.state c.args.line c.args.task call (sym c.in_default.ensures)

pub unwrap-process-requires : goal.unwrap-process-requires
unwrap-process-requires c =
    let t = c.self.inside in
    let s = seen_state t in
    let has = rw (← c.self.view_is) at c.in-Some.ensures in
    let u = current_is s c.args.task _ (sym has) in
    has_process u.owner u.is c.process_of.ensures

pub returns-in-Some-open_in : goal.returns-in-Some-open_in
returns-in-Some-open_in c = λ call.
    let t = c.self.inside in
    let s = seen_state t in
    let has = rw (← c.self.view_is) at c.in-Some.ensures in
    let u = current_is s c.args.task _ (sym has) in
    let process = owner_process t.tasks c.args.task c.unwrap-process.result u.owner u.is c.unwrap-process.ensures c.process_of.ensures in
    let busy = busy_by (broadcast_within t.broadcasts c.unwrap-process.result) (Some c.in-Some-open_in.broadcast) c.in-Some-open_in.ensures.number in
    rw (← c.self.view_is)
    (begin_busy s c.args.line c.args.task call _ (sym has) u.owner u.is c.in-Some-open_in.broadcast
    (ap (λ (p : ℕ). not_busy (broadcast_within t.broadcasts p)) (sym process) ∙ busy))

pub returns-then-is_some : goal.returns-then-is_some
returns-then-is_some c = λ call.
    let t = c.self.inside in
    let s = seen_state t in
    let has = rw (← c.self.view_is) at c.in-Some.ensures in
    let u = current_is s c.args.task _ (sym has) in
    let process = owner_process t.tasks c.args.task c.unwrap-process.result u.owner u.is c.unwrap-process.ensures c.process_of.ensures in
    let idle = ap (broadcast_within t.broadcasts) (sym process)
    ∙ none_open _ (broadcast_within t.broadcasts c.unwrap-process.result) c.in_default-open_in.ensures.number in
    let there = some_open _ (broadcast_under t.broadcasts c.args.line) c.caller_of.ensures (sym c.is_some.ensures ∙ c.if-is_some.true) in
    rw (← c.self.view_is) (begin_exists s c.args.line c.args.task call _ (sym has) u.owner u.is idle there)

pub returns-in-Some-overridden : goal.returns-in-Some-overridden
returns-in-Some-overridden c = λ call.
    let t = c.self.inside in
    let s = seen_state t in
    let has = rw (← c.self.view_is) at c.in-Some.ensures in
    let u = current_is s c.args.task _ (sym has) in
    let process = owner_process t.tasks c.args.task c.unwrap-process.result u.owner u.is c.unwrap-process.ensures c.process_of.ensures in
    let idle = ap (broadcast_within t.broadcasts) (sym process)
    ∙ none_open _ (broadcast_within t.broadcasts c.unwrap-process.result) c.in_default-open_in.ensures.number in
    let new =
    none_open _ (broadcast_under t.broadcasts c.args.line)
    (sym (none_by_test c.caller_of.result c.is_some.result c.is_some.ensures c.if-is_some.false) ∙ c.caller_of.ensures) in
    let over = rw (← c.self.view_is) at c.in-Some-overridden.ensures in
    rw (← c.self.view_is)
    (begin_overridden s c.args.line c.args.task call _ (sym has) u.owner u.is idle new c.in-Some-overridden.depth
    (over_owner s c.args.task c.in-Some-overridden.depth u.owner u.is over))

pub returns : goal.returns
returns c =
    let t = c.self.inside in
    let s = seen_state t in
    let has = rw (← c.self.view_is) at c.in-Some.ensures in
    let u = current_is s c.args.task _ (sym has) in
    let process = owner_process t.tasks c.args.task c.unwrap-process.result u.owner u.is c.unwrap-process.ensures c.process_of.ensures in
    let idle = ap (broadcast_within t.broadcasts) (sym process)
    ∙ none_open _ (broadcast_within t.broadcasts c.unwrap-process.result) c.in_default-open_in.ensures.number in
    let new =
    none_open _ (broadcast_under t.broadcasts c.args.line)
    (sym (none_by_test c.caller_of.result c.is_some.result c.is_some.ensures c.if-is_some.false) ∙ c.caller_of.ensures) in
    let own = rw (← c.self.view_is) at c.in_default-overridden.ensures in
    rw (← c.self.view_is)
    (record {
      owner = u.owner;
      lives = u.is;
      has = sym has;
      idle = idle;
      new = new;
      own = own_owner s c.args.task u.owner u.is own;
    })
