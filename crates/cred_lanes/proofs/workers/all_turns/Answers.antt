use Rattle.std.proofs.Common.{◌≡◌, ◌∷◌, ◌++◌, [], length, ap, ◌∙◌, arith}
use Rattle.std.proofs.Common.{append_assoc, length-append, Ok}
use Rattle.std.specs.Vec.Iter.{into_iter_items}
use Rattle.cred_lanes.proofs.Ends.{stopped_more}
use Rattle.cred_lanes.proofs.workers.all_turns.Goals as goal

pub loop-turn-preserved : goal.loop-turn-preserved
loop-turn-preserved g c =
    let at = c.loop-turn in
    let x = c.in-Some.turn in
    let t = c.in_ok-turn.field-0 in
    let rest = into_iter_items c.next.new.self in
    let steps : into_iter_items at.turn-iterator ≡ x ∷ rest = c.in-Some.ensures.steps.0 in
    let left : at.yielded ++ x ∷ rest ≡ into_iter_items c.into_iter-turn-iterator.result =
    rw (← steps) at.invariant.left in
    let gives : into_iter_items c.into_iter-turn-iterator.result ≡ c.args.stopped.items =
    c.into_iter-turn-iterator.ensures.into_iter_gives.0 in
    let is : x ≡ Ok t = c.in_ok-turn.was in
    record {
      left = append_assoc at.yielded (x ∷ []) _ ∙ left;
      count = omega (
        arith,
        ap length {y = at.turns.items ++ t ∷ []} c.in_ok-push.ensures.items,
        length-append at.turns.items (t ∷ []),
        length-append at.yielded (x ∷ []),
        at.invariant.count,
      );
      home = rw c.in_ok-push.ensures.items
          (stopped_more c.args.stopped.items at.yielded rest x t at.turns.items
          c.requires.each (left ∙ gives) is at.invariant.count at.invariant.home);
    }
