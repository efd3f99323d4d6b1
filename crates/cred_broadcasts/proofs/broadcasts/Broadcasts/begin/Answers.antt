use Rattle.std.proofs.Common.{◌∙◌, ℕ, Bool, true, false, cond, List, [], ◌∷◌, ◌++◌, sym, ap, subst, append-nil}
use Rattle.cred_ids.specs.Ordered.{in_order}
use Rattle.cred_record.specs.declared.id_call.IdCall.{IdCall}
use Rattle.cred_model.specs.State.{Broadcast}
use Rattle.cred_model.proofs.Rising.{All-in_order, rising-in_order}
use Rattle.cred_broadcasts.specs.Broadcasts.{AreBroadcasts}
use Rattle.cred_broadcasts.proofs.Kept.{are_begun}
use Rattle.cred_model.proofs.Waiting.{open_in_order}
use Rattle.cred_model.specs.Broadcasts.{WaitsNowhere}
use Rattle.cred_broadcasts.proofs.broadcasts.Broadcasts.begin.Goals as goal

abbrev broadcast_with : (number process caller : ℕ) → IdCall → List ℕ → Broadcast
broadcast_with number process caller call waiting = record {
  number = number;
  process = process;
  caller = caller;
  call = call;
  waiting = waiting;
}

pub returns-then-is_empty-clause-ok : goal.returns-then-is_empty-clause-ok
returns-then-is_empty-clause-ok c =
    let broadcasts = c.args.self.now in
    let broadcast = broadcast_with c.args.number c.args.process c.args.caller c.args.call.now (in_order c.args.waiting.now) in
    sym (ap (λ (b : Bool). broadcasts ++ cond b (broadcast ∷ []) []) (open_in_order c.args.waiting.now true (sym c.is_empty.ensures ∙ c.if-is_empty.true))
    ∙ append-nil broadcasts)

pub invariant_of-self-2 : goal.invariant_of-self-2
invariant_of-self-2 c =
    let broadcasts = c.self.inside.broadcasts.items in
    let tasks = c.args.waiting.now in
    let broadcast = broadcast_with c.args.number c.args.process c.args.caller in
    let here = rw (← c.self.view_is) at c.requires.only_here in
    subst AreBroadcasts
    (sym (c.in_ok-push.ensures.items ∙ ap (λ (ws : List ℕ). broadcasts ++ broadcast c.in_ok-call.call ws ∷ []) c.in_ok-waiting.ensures
    ∙ ap (λ (call : IdCall). broadcasts ++ broadcast call (in_order tasks) ∷ []) c.in_ok-call.ensures.equal))
    (are_begun broadcasts (broadcast c.args.call.now (in_order tasks)) (rw (← c.self.view_is) at c.requires.new) (rw (← c.self.view_is) at c.requires.one)
    (All-in_order (WaitsNowhere broadcasts) tasks here) (rising-in_order tasks c.requires.once)
    (open_in_order tasks false (sym c.is_empty.ensures ∙ c.if-is_empty.false)) c.self.invariant)

pub returns-clause-ok : goal.returns-clause-ok
returns-clause-ok c =
    let broadcasts = c.self.inside.broadcasts.items in
    let tasks = c.args.waiting.now in
    let broadcast = broadcast_with c.args.number c.args.process c.args.caller in
    rw (← c.self.view_is)
    (c.in_ok-push.ensures.items
    ∙ ap (λ (ws : List ℕ). broadcasts ++ broadcast c.in_ok-call.call ws ∷ []) c.in_ok-waiting.ensures
    ∙ ap (λ (call : IdCall). broadcasts ++ broadcast call (in_order tasks) ∷ []) c.in_ok-call.ensures.equal
    ∙ sym (ap (λ (b : Bool). broadcasts ++ cond b (broadcast c.args.call.now (in_order tasks) ∷ []) [])
    (open_in_order tasks false (sym c.is_empty.ensures ∙ c.if-is_empty.false))))

-- nothing is kept of another broadcast's steps
pub invariant_of-push : goal.invariant_of-push
invariant_of-push c = tt
