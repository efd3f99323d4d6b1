use Rattle.std.proofs.Common.{◌+◌, ◌∙◌, arith}
use Rattle.std.proofs.lemmas.Result.{err_from_is_err_and, on_err_weaker, on_ok_weaker}
use Rattle.cred_commands.proofs.Kept.{kept_begins, kept_fewer, kept_more, kept_stops, kept_whole, none_begins}
use Rattle.cred_commands.proofs.ordered.write_lines.Goals as goal

pub returns-in_default-clause-err : goal.returns-in_default-clause-err
returns-in_default-clause-err g c = none_begins c.args.script.now (g.K.Sink.written c.args.sink.now)

pub returns-in_default-write_line-clause-err : goal.returns-in_default-write_line-clause-err
returns-in_default-write_line-clause-err g c =
    kept_stops c.args.script.now c.lines.past c.lines.state.state c.lines.out _ _ c.lines.invariant.kept

pub lines-preserved : goal.lines-preserved
lines-preserved g c =
    let more = kept_more c.args.script.now c.lines.past c.lines.state.state c.write_line.new.state.state c.lines.out c.write_line.new.out _ _
    c.lines.invariant.kept c.in-Ok-write_line.ensures.runs in
    record {
      within = omega (arith, c.lines-test.true, c.lines-in-lines.ensures.count);
      faults = c.in_ok-write_some.ensures.cause.stayed (λ failed. cc) ∙ c.lines.invariant.faults;
      words = c.write_line.ensures.words ∙ c.lines.invariant.words;
      kept = kept_fewer c.args.script.now (c.lines.past + 1) c.write_line.new.state.state c.write_line.new.out c.write_some.new.out _ _ _
          more c.in_ok-write_some.ensures.ok;
    }

pub returns-in_err-write_some-clause-err : goal.returns-in_err-write_some-clause-err
returns-in_err-write_some-clause-err g c =
    let more = kept_more c.args.script.now c.lines.past c.lines.state.state c.write_line.new.state.state c.lines.out c.write_line.new.out _ _
    c.lines.invariant.kept c.in-Ok-write_line.ensures.runs in
    let p = err_from_is_err_and c.from_residual.result c.from_residual.ensures.1 in
    rw p.1 (kept_begins c.args.script.now (c.lines.past + 1) c.write_line.new.state.state c.write_line.new.out _ _ _ more c.in_err-write_some.ensures.err)

pub returns-in_err-write_some-clause-cause : goal.returns-in_err-write_some-clause-cause
returns-in_err-write_some-clause-cause g c =
    let p = err_from_is_err_and c.from_residual.result c.from_residual.ensures.1 in
    rw (p.1, p.2) (rw c.lines.invariant.faults at c.in_err-write_some.ensures.cause)

pub returns-clause-ok : goal.returns-clause-ok
returns-clause-ok g c =
    on_ok_weaker c.write_last.result (λ wrote. kept_whole c.args.script.now c.lines.past c.lines.state.state c.lines.out _ _ _ c.lines.invariant.kept
    (omega (arith, c.lines-test.false, c.lines-in-lines.ensures.count)) wrote) c.write_last.ensures.ok

pub returns-clause-err : goal.returns-clause-err
returns-clause-err g c =
    on_err_weaker c.write_last.result
    (λ prefix. kept_begins c.args.script.now c.lines.past c.lines.state.state c.lines.out _ _ _ c.lines.invariant.kept
    prefix) c.write_last.ensures.err

pub returns-clause-cause : goal.returns-clause-cause
returns-clause-cause g c = rw c.lines.invariant.faults at c.write_last.ensures.cause
