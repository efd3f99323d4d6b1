use Rattle.std.proofs.Common.{◌≡◌, ◌≢◌, ◌<◌, ◌^◌, ℕ, length, sym, ap, ◌∙◌, subst, arith}
use Rattle.std.specs.Prelude.{IfOk}
use Rattle.cred_model.specs.Script.{Script}
use Rattle.cred_model.specs.Journal.{next}
use Rattle.cred_turn.specs.declared.numbers.LaneNumbers.{LaneNumbers}
use Rattle.cred_turn.specs.Seen.{pass}
use Rattle.cred_book.specs.Book.{Recorded}
use Rattle.cred_kernel.specs.Advances.{Advanced, after_step}
use Rattle.cred_kernel.specs.Locks.{numbers_in}
use Rattle.cred_kernel.specs.Turns.{SeenTurn}
use Rattle.cred_kernel.proofs.LaterLoans.{locked_after}
use Rattle.cred_kernel.proofs.Returned.{entered_few, its_numbers, is_back}
use Rattle.cred_kernel.proofs.Stepping.{advanced, moved, seen, IsMoved}
use Rattle.cred_kernel.proofs.locked.Locked.step.Goals as goal

pub after_step-turn-inside-requires : goal.after_step-turn-inside-requires
after_step-turn-inside-requires g c =
    let book : Recorded = c.self.inside.book in
    let lane = c.turn.inside.lane in
    let back : c.in-Some.pass ≡ pass g.K.Name.roll lane c.turn.inside.numbers
    = is_back c.take.result c.in-Some.pass _ c.in-Some.is (c.take.ensures.value ∙ c.turn.invariant.pass_is) in
    let was = its_numbers book c.self.inside.roll.rows g.K.Name.roll lane c.turn.inside.numbers c.in-Some.pass c.self.invariant.lent back
    c.take-2.ensures.lane c.take-2.ensures.was in
    let few = entered_few book lane c.turn.inside.numbers was in
    omega (arith, few, c.self.invariant.stands.most)

pub invariant_of-self : goal.invariant_of-self
invariant_of-self g c =
    let book : Recorded = c.self.inside.book in
    let after : Recorded = c.next-step.new.self in
    let lane = c.turn.inside.lane in
    let numbers : LaneNumbers = c.turn.inside.numbers in
    let now : LaneNumbers = c.after_step-turn-inside.result in
    let step = c.next-step.result in
    let back : c.in-Some.pass ≡ pass g.K.Name.roll lane numbers
    = is_back c.take.result c.in-Some.pass _ c.in-Some.is (c.take.ensures.value ∙ c.turn.invariant.pass_is) in
    let was : numbers ≡ numbers_in book lane
    = its_numbers book c.self.inside.roll.rows g.K.Name.roll lane numbers c.in-Some.pass c.self.invariant.lent back
    c.take-2.ensures.lane c.take-2.ensures.was in
    let home = ap (λ (t : SeenTurn). t.numbers.out) c.turn.view_is ∙ c.requires.out in
    let its : IsMoved book after lane now
    = subst (λ (n : LaneNumbers). IsMoved book after lane n)
    (sym (c.after_step-turn-inside.ensures ∙ ap (λ (e : ℕ). after_step numbers e step) c.ended.ensures))
    (moved book after lane numbers (next book.script book.journal lane) step was home c.next-step.ensures.script
    c.next-step.ensures.made c.next-step.ensures.counts c.next-step.ensures.err) in
    let not_setup : lane ≢ 0 = λ zero. omega (arith, zero, c.turn.invariant.is_lane.0) in
    locked_after g.K.Name.script g.K.Name.roll g.K.Name.cells g.K.Name.inodes book after c.self.inside.roll c.take-2.new.self c.lend.new.self c.in-Some.pass lane
    numbers now
    c.self.invariant its c.next-step.ensures.script c.next-step.ensures.cells (c.next-step.ensures.files not_setup) c.next-step.ensures.stands back
    c.take-2.ensures.lane c.take-2.ensures.roll c.lend.ensures.roll

pub returns-clause-step : goal.returns-clause-step
returns-clause-step g c =
    let book : Recorded = c.self.inside.book in
    let after : Recorded = c.next-step.new.self in
    let lane = c.turn.inside.lane in
    let numbers : LaneNumbers = c.turn.inside.numbers in
    let now : LaneNumbers = c.after_step-turn-inside.result in
    let step = c.next-step.result in
    let script = g.K.Name.script in
    let cells = g.K.Name.cells in
    let inodes = g.K.Name.inodes in
    let back : c.in-Some.pass ≡ pass g.K.Name.roll lane numbers
    = is_back c.take.result c.in-Some.pass _ c.in-Some.is (c.take.ensures.value ∙ c.turn.invariant.pass_is) in
    let was : numbers ≡ numbers_in book lane
    = its_numbers book c.self.inside.roll.rows g.K.Name.roll lane numbers c.in-Some.pass c.self.invariant.lent back
    c.take-2.ensures.lane c.take-2.ensures.was in
    let home = ap (λ (t : SeenTurn). t.numbers.out) c.turn.view_is ∙ c.requires.out in
    let own = c.next-step.ensures.cells ∙ c.self.invariant.cells_are in
    let not_setup : lane ≢ 0 = λ zero. omega (arith, zero, c.turn.invariant.is_lane.0) in
    let files = c.next-step.ensures.files not_setup ∙ c.self.invariant.inodes_are in
    let made = advanced inodes cells book after lane numbers (next book.script book.journal lane) step was home c.next-step.ensures.script own files
    c.self.invariant.set_up c.next-step.ensures.made c.next-step.ensures.counts c.next-step.ensures.err in
    subst (λ (t : SeenTurn). IfOk step (Advanced script inodes cells t (seen lane now))) c.turn.view_is
    (subst (λ (s : Script). IfOk step (Advanced s inodes cells (seen lane numbers) (seen lane now))) c.self.invariant.script_is
    (subst (λ (n : LaneNumbers). IfOk step (Advanced book.script inodes cells (seen lane numbers) (seen lane n)))
    (sym (c.after_step-turn-inside.ensures ∙ ap (λ (e : ℕ). after_step numbers e step) c.ended.ensures)) made))
