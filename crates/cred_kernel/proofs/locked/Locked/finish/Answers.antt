use Rattle.std.proofs.Common.{◌≡◌, ◌≢◌, ◌<◌, ◌^◌, ℕ, length, sym, ap, ◌∙◌, subst, arith}
use Rattle.cred_turn.specs.declared.numbers.LaneNumbers.{LaneNumbers}
use Rattle.cred_turn.specs.Seen.{pass}
use Rattle.cred_book.specs.Book.{Recorded}
use Rattle.cred_book.specs.declared.step.Unfinished.{Unfinished}
use Rattle.cred_kernel.specs.Advances.{after_finish}
use Rattle.cred_kernel.specs.Locks.{numbers_in}
use Rattle.cred_kernel.proofs.LaterLoans.{locked_after}
use Rattle.cred_kernel.proofs.Returned.{decided_few, entered_few, its_numbers, is_back}
use Rattle.cred_kernel.proofs.Stepping.{err_same, moved_back, IsMoved}
use Rattle.cred_kernel.proofs.locked.Locked.finish.Goals as goal

pub after_finish-turn-inside-requires-clause-entered : goal.after_finish-turn-inside-requires-clause-entered
after_finish-turn-inside-requires-clause-entered g c =
    let book : Recorded = c.self.inside.book in
    let lane = c.turn.inside.lane in
    let back : c.in-Some.pass ≡ pass g.K.Name.roll lane c.turn.inside.numbers
    = is_back c.take.result c.in-Some.pass _ c.in-Some.is (c.take.ensures.value ∙ c.turn.invariant.pass_is) in
    let was = its_numbers book c.self.inside.roll.rows g.K.Name.roll lane c.turn.inside.numbers c.in-Some.pass c.self.invariant.lent back
    c.take-2.ensures.lane c.take-2.ensures.was in
    let few = entered_few book lane c.turn.inside.numbers was in
    omega (arith, few, c.self.invariant.stands.most)

pub after_finish-turn-inside-requires-clause-decided : goal.after_finish-turn-inside-requires-clause-decided
after_finish-turn-inside-requires-clause-decided g c =
    let book : Recorded = c.self.inside.book in
    let lane = c.turn.inside.lane in
    let back : c.in-Some.pass ≡ pass g.K.Name.roll lane c.turn.inside.numbers
    = is_back c.take.result c.in-Some.pass _ c.in-Some.is (c.take.ensures.value ∙ c.turn.invariant.pass_is) in
    let was = its_numbers book c.self.inside.roll.rows g.K.Name.roll lane c.turn.inside.numbers c.in-Some.pass c.self.invariant.lent back
    c.take-2.ensures.lane c.take-2.ensures.was in
    let few = decided_few book lane c.turn.inside.numbers was in
    omega (arith, few, c.self.invariant.stands.most)

pub invariant_of-self : goal.invariant_of-self
invariant_of-self g c =
    let book : Recorded = c.self.inside.book in
    let after : Recorded = c.finish-step.new.self in
    let lane = c.turn.inside.lane in
    let numbers : LaneNumbers = c.turn.inside.numbers in
    let now : LaneNumbers = c.after_finish-turn-inside.result in
    let step = c.finish-step.result in
    let back : c.in-Some.pass ≡ pass g.K.Name.roll lane numbers
    = is_back c.take.result c.in-Some.pass _ c.in-Some.is (c.take.ensures.value ∙ c.turn.invariant.pass_is) in
    let was : numbers ≡ numbers_in book lane
    = its_numbers book c.self.inside.roll.rows g.K.Name.roll lane numbers c.in-Some.pass c.self.invariant.lent back
    c.take-2.ensures.lane c.take-2.ensures.was in
    let same = err_same (λ (u : Unfinished). u.work ≡ c.args.work) book after step c.finish-step.ensures.err in
    let moved : IsMoved book after lane now
    = subst (λ (n : LaneNumbers). IsMoved book after lane n)
    (sym (c.after_finish-turn-inside.ensures ∙ ap (λ (e : ℕ). after_finish numbers e step) c.ended.ensures))
    (moved_back book after lane numbers step was c.finish-step.ensures.counts same) in
    let not_setup : lane ≢ 0 = λ zero. omega (arith, zero, c.turn.invariant.is_lane.0) in
    locked_after g.K.Name.script g.K.Name.roll g.K.Name.cells g.K.Name.inodes book after c.self.inside.roll c.take-2.new.self c.lend.new.self c.in-Some.pass lane
    numbers now
    c.self.invariant moved c.finish-step.ensures.script c.finish-step.ensures.cells (c.finish-step.ensures.files not_setup) c.finish-step.ensures.stands back
    c.take-2.ensures.lane c.take-2.ensures.roll c.lend.ensures.roll
