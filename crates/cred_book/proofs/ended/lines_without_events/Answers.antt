use Rattle.std.proofs.Common.{◌≡◌, ◌+◌, set, is_none, Some, sym, ap, ◌∙◌, subst, arith}
use Rattle.std.proofs.lemmas.Grind.{common_steps, get_or_default_zero}
use Rattle.cred_model.specs.Script.{Line}
use Rattle.cred_model.specs.Course.{start}
use Rattle.cred_script.specs.Lines.{line_at}
use Rattle.cred_book.proofs.Before.{HasSmall, IsCounted, counted_all, counted_few, counted_on, counted_one, counted_place, counted_small}
use Rattle.cred_book.proofs.Before.{counted_within}
use Rattle.cred_book.proofs.ended.lines_without_events.Goals.{then-ended, else-ended}
use Rattle.cred_book.proofs.ended.lines_without_events.Goals as goal

pub index_mut-requires : goal.index_mut-requires
index_mut-requires c =
    let line : Line = record { lane = c.in-Some.lane; content = c.in-Some.content.now } in
    let at : line_at c.args.script.now c.lines.number ≡ Some line = sym c.in-Some.ensures.found in
    let within = counted_place c.args.script.now c.lines.ended.items c.lines.number line c.lines.invariant at in
    grind (arith, common_steps, within)

pub overflow_add-index_mut : goal.overflow_add-index_mut
overflow_add-index_mut c =
    let line : Line = record { lane = c.in-Some.lane; content = c.in-Some.content.now } in
    let at : line_at c.args.script.now c.lines.number ≡ Some line = sym c.in-Some.ensures.found in
    let within = counted_place c.args.script.now c.lines.ended.items c.lines.number line c.lines.invariant at in
    let few = counted_few c.args.script.now c.lines.ended.items c.lines.number c.in-Some.lane c.lines.invariant c.lanes.ensures.lines in
    let found = c.index_mut.ensures.value ∙ get_or_default_zero c.lines.ended.items c.in-Some.lane c.index_mut.result.now within in
    omega (arith, few, found)

pub lines-smaller : goal.lines-smaller
lines-smaller c =
    let line : Line = record { lane = c.in-Some.lane; content = c.in-Some.content.now } in
    let at : line_at c.args.script.now c.lines.number ≡ Some line = sym c.in-Some.ensures.found in
    counted_within c.args.script.now c.lines.number line c.lines.invariant.first at

pub lines-preserved : goal.lines-preserved
lines-preserved c =
    let line : Line = record { lane = c.in-Some.lane; content = c.in-Some.content.now } in
    let at : line_at c.args.script.now c.lines.number ≡ Some line = sym c.in-Some.ensures.found in
    let within = counted_place c.args.script.now c.lines.ended.items c.lines.number line c.lines.invariant at in
    let small : HasSmall line = c.in-Some.ensures.sound.labels in
    let stage : c.ended.result ≡ is_none (start c.lines.number line.content).stage =
    c.ended.ensures ∙ ap (λ course. is_none course.stage) c.start.ensures.value in
    elim c.if-ended.branch [
      | then-ended w ↦
          let one = counted_one c.args.script.now c.lines.ended.items c.lines.number line c.lines.invariant at small (sym stage ∙ w.if-ended.true) within in
          let found = w.index_mut.ensures.value ∙ get_or_default_zero c.lines.ended.items c.in-Some.lane w.index_mut.result.now within in
          rw w.ended-is
          (subst (λ n. IsCounted c.args.script.now (set c.lines.ended.items c.in-Some.lane (n + 1)) (c.lines.number + 1)) (sym found) one)
      | else-ended w ↦
          let on = counted_on c.args.script.now c.lines.ended.items c.lines.number line c.lines.invariant at small (sym stage ∙ w.if-ended.false) in
          rw w.ended-is on
    ]

pub returns-clause-ended : goal.returns-clause-ended
returns-clause-ended c =
    counted_all c.args.script.now c.lines.ended.items c.lines.number c.lines.invariant (sym c.in_default.ensures.found)

pub returns-clause-named : goal.returns-clause-named
returns-clause-named c = record {
  apart = c.lanes.ensures.apart;
  small = counted_small c.args.script.now c.lines.ended.items c.lines.number c.lines.invariant (sym c.in_default.ensures.found);
}
