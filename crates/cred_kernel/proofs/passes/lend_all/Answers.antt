use Rattle.std.proofs.Common.{◌≡◌, ℕ, ◌+◌, ◌<◌, length, ◌∙◌, rules, arith}
use Rattle.cred_turn.specs.declared.numbers.LaneNumbers.{LaneNumbers}
use Rattle.cred_turn.specs.Rows.{lent_row}
use Rattle.cred_kernel.specs.Locks.{numbers_in}
use Rattle.cred_kernel.proofs.FirstLoans.{home_after, lent_more, turns_more}
use Rattle.cred_kernel.proofs.passes.lend_all.Goals as goal

pub lanes-preserved : goal.lanes-preserved
lanes-preserved g c =
    let at = c.lanes in
    let book = c.args.book.now in
    let n = at.place in
    let its : ℕ → LaneNumbers = λ k. numbers_in book (k + 1) in
    let first = c.requires.ready.first in
    let some : 0 < n + 1 = omega arith in
    let entered = first.entered (n + 1) some in
    let decided = first.decided (n + 1) some in
    let out = first.outs (n + 1) some in
    let is : c.lend-pass.result.numbers ≡ its n = search rules in
    let within : n < length at.roll.rows = omega arith in
    record {
      id = search rules;
      end = at.invariant.end;
      len = search rules;
      lent = rw c.lend-pass.ensures.roll (lent_more (λ k. lent_row (its k)) at.roll.rows n _ (search rules) within at.invariant.lent);
      home = λ k past lt. rw c.lend-pass.ensures.roll (home_after at.roll.rows n k _ past ∙ at.invariant.home k (omega (arith, past)) lt);
      count = search rules;
      turns = rw c.in_ok-push.ensures.items
          (turns_more (λ k. record { lane = k + 1; numbers = its k }) at.turns.items n c.new_turn.result (search rules) at.invariant.count at.invariant.turns);
    }
