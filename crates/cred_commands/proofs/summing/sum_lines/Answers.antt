use Rattle.std.proofs.Common.{◌∙◌, ◌≤◌, length, arith}
use Rattle.cred_ids.specs.Limits.{LINE_LIMIT}
use Rattle.cred_commands.proofs.Told.{told_all, told_has_run, told_more, told_room}
use Rattle.cred_commands.proofs.summing.sum_lines.Goals as goal

pub run_line-requires-clause-run : goal.run_line-requires-clause-run
run_line-requires-clause-run c = told_has_run c.args.script.now c.lines.past c.lines.state.state c.lines.summary c.lines.invariant.told

pub add-requires : goal.add-requires
add-requires c =
    let runs = rw c.lines.invariant.empty at c.in_ok-run_line.ensures.runs in
    let lines : length c.args.script.now.lines ≤ LINE_LIMIT = omega (arith, c.lines-in-lines.ensures.few, c.lines-in-lines.ensures.count) in
    rw c.deref.ensures.value
    (told_room c.args.script.now c.lines.past c.lines.state.state c.run_line.new.state.state c.lines.summary c.run_line.new.entries.items lines
    c.lines.invariant.told runs)

pub lines-preserved : goal.lines-preserved
lines-preserved c =
    let runs = rw c.lines.invariant.empty at c.in_ok-run_line.ensures.runs in
    record {
      within = omega (arith, c.lines-test.true, c.lines-in-lines.ensures.count);
      empty = c.clear.ensures.items;
      words = c.run_line.ensures.words ∙ c.lines.invariant.words;
      told = rw (c.add.ensures, c.deref.ensures.value)
          (told_more c.args.script.now c.lines.past c.lines.state.state c.run_line.new.state.state c.lines.summary c.run_line.new.entries.items
          c.lines.invariant.told runs);
    }

pub returns : goal.returns
returns c =
    told_all c.args.script.now c.lines.past c.lines.state.state c.lines.summary c.lines.invariant.told
    (omega (arith, c.lines-test.false, c.lines-in-lines.ensures.count))
