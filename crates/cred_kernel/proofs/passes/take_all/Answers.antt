use Rattle.std.proofs.Common.{◌≡◌, ◌∷◌, ◌++◌, [], ◌+◌, length, ap, ◌∙◌, append_assoc}
use Rattle.std.specs.Vec.Iter.{into_iter_items}
use Rattle.cred_turn.specs.Rows.{home_row, lent_row, row_of, with_row}
use Rattle.cred_turn.specs.Seen.{Rolled}
use Rattle.cred_kernel.proofs.Taking.{lane_is, took_one}
use Rattle.cred_kernel.proofs.passes.take_all.Goals as goal

pub loop-turn-preserved : goal.loop-turn-preserved
loop-turn-preserved g c =
    let at = c.loop-turn in
    let t = c.in-Some.turn in
    let steps : into_iter_items at.turn-iterator ≡ t ∷ into_iter_items c.next.new.self = c.in-Some.ensures.steps.0 in
    let left : at.yielded ++ t ∷ into_iter_items c.next.new.self ≡ into_iter_items c.into_iter-turn-iterator.result = rw (← steps) at.invariant.left in
    let gives : into_iter_items c.into_iter-turn-iterator.result ≡ c.turns.inside.turns.items = c.into_iter-turn-iterator.ensures.into_iter_gives.0 in
    let view : c.turns.inside.turns.items ≡ c.args.turns = c.turns.view_is in
    let all : into_iter_items c.into_iter-turn-iterator.result ≡ c.args.turns = gives ∙ view in
    let lane : t.lane ≡ length at.yielded + 1 =
    lane_is g.K.Name.script c.args.turns at.yielded (into_iter_items c.next.new.self) t c.requires.all (left ∙ all) in
    let was : row_of at.roll.rows t.lane ≡ lent_row t.numbers = rw c.into_pass.ensures at c.take.ensures.was in
    let now : c.take.new.self ≡ record { id = at.roll.id; rows = with_row at.roll.rows t.lane (home_row t.numbers) } =
    rw c.into_pass.ensures at c.take.ensures.roll in
    record {
      can = tt;
      ends = tt;
      id = ap (λ (r : Rolled). r.id) now ∙ at.invariant.id;
      left = append_assoc at.yielded (t ∷ []) _ ∙ left;
      took = rw now (took_one c.args.roll.now.rows at.roll.rows at.yielded t (home_row t.numbers) at.invariant.took lane was);
    }
