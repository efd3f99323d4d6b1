use Rattle.std.proofs.Common.{List, sym, ◌∙◌, subst, arith}
use Rattle.std.specs.Io.KnownBytes.{Appends}
use Rattle.std.proofs.lemmas.Result.{err_from_is_err_and, on_err_weaker, on_ok_weaker}
use Rattle.cred_event.specs.declared.entry.Entry.{Entry}
use Rattle.cred_report.specs.Text.{text}
use Rattle.cred_kernel.specs.Locks.{Contents}
use Rattle.cred_runs.proofs.Parts.{all_written, begun, stopped, written_more}
use Rattle.cred_runs.proofs.report.write_parts.Goals as goal

pub returns-in_default-clause-err : goal.returns-in_default-clause-err
returns-in_default-clause-err g c = stopped g.N.Name.script c.parts.rest.earlier _ _ c.goes_on.ensures.earlier c.parts.invariant.written

pub returns-in_default-clause-cause : goal.returns-in_default-clause-cause
returns-in_default-clause-cause g c = record {
  stayed = λ other. c.parts.invariant.faults;
  rose = λ failed. cc;
  later = omega (arith, c.parts.invariant.faults);
}

pub returns-then-has_ended-clause-ok : goal.returns-then-has_ended-clause-ok
returns-then-has_ended-clause-ok g c =
    let rest : Contents = c.in-Ok.ran.0 in
    let before : Appends (g.K.Sink.written c.args.sink.now) (g.K.Sink.written c.parts.sink) (text g.N.Name.script rest.earlier)
    = subst (λ (es : List Entry). Appends (g.K.Sink.written c.args.sink.now) (g.K.Sink.written c.parts.sink) (text g.N.Name.script es))
    (sym c.in-Ok.ensures.earlier) c.parts.invariant.written in
    let legal = c.has_ended.ensures c.if-has_ended.true in
    on_ok_weaker c.write_last.result
    (λ wrote. all_written g.N.Name.script rest.journal rest.earlier c.close-last.result.entries.items _ _ _ c.close-last.ensures.entries legal before
    (rw (c.deref.ensures.value, c.close-last.ensures.script) at wrote)) c.write_last.ensures.ok

pub returns-then-has_ended-clause-err : goal.returns-then-has_ended-clause-err
returns-then-has_ended-clause-err g c =
    let rest : Contents = c.in-Ok.ran.0 in
    let before : Appends (g.K.Sink.written c.args.sink.now) (g.K.Sink.written c.parts.sink) (text g.N.Name.script rest.earlier)
    = subst (λ (es : List Entry). Appends (g.K.Sink.written c.args.sink.now) (g.K.Sink.written c.parts.sink) (text g.N.Name.script es))
    (sym c.in-Ok.ensures.earlier) c.parts.invariant.written in
    on_err_weaker c.write_last.result
    (λ prefix. begun g.N.Name.script rest.journal rest.earlier c.close-last.result.entries.items _ _ _ c.close-last.ensures.entries
    c.goes_on-in-parts.ensures.journal before
    (rw (c.deref.ensures.value, c.close-last.ensures.script) at prefix)) c.write_last.ensures.err

pub returns-in_err-write_entries-clause-err : goal.returns-in_err-write_entries-clause-err
returns-in_err-write_entries-clause-err g c =
    let rest : Contents = c.in-Ok.ran.0 in
    let before : Appends (g.K.Sink.written c.args.sink.now) (g.K.Sink.written c.parts.sink) (text g.N.Name.script rest.earlier)
    = subst (λ (es : List Entry). Appends (g.K.Sink.written c.args.sink.now) (g.K.Sink.written c.parts.sink) (text g.N.Name.script es))
    (sym c.in-Ok.ensures.earlier) c.parts.invariant.written in
    let p = err_from_is_err_and c.from_residual.result c.from_residual.ensures.1 in
    rw p.1 (begun g.N.Name.script rest.journal rest.earlier c.entries.result.now _ _ _ c.entries.ensures c.goes_on-in-parts.ensures.journal before
    (rw c.script.ensures at c.in_err-write_entries.ensures.err))

pub returns-in_err-write_entries-clause-cause : goal.returns-in_err-write_entries-clause-cause
returns-in_err-write_entries-clause-cause g c =
    let p = err_from_is_err_and c.from_residual.result c.from_residual.ensures.1 in
    rw (p.1, p.2) (rw c.parts.invariant.faults at c.in_err-write_entries.ensures.cause)

pub parts-preserved : goal.parts-preserved
parts-preserved g c =
    let rest : Contents = c.in-Ok.ran.0 in
    let before : Appends (g.K.Sink.written c.args.sink.now) (g.K.Sink.written c.parts.sink) (text g.N.Name.script rest.earlier)
    = subst (λ (es : List Entry). Appends (g.K.Sink.written c.args.sink.now) (g.K.Sink.written c.parts.sink) (text g.N.Name.script es))
    (sym c.in-Ok.ensures.earlier) c.parts.invariant.written in
    record {
      all = c.in-Ok.ensures.all;
      home = c.in-Ok.ensures.home;
      faults = c.in_ok-write_entries.ensures.cause.stayed (λ failed. cc) ∙ c.parts.invariant.faults;
      written = rw c.begin_part.ensures
          (written_more g.N.Name.script rest.journal rest.earlier c.entries.result.now _ _ _ c.entries.ensures before
          (rw c.script.ensures at c.in_ok-write_entries.ensures.ok));
    }
