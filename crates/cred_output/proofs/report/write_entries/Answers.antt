use Rattle.std.proofs.Common.{◌≤◌, ◌++◌, List, ℕ, slice_range, ap, ◌∙◌, arith}
use Rattle.std.proofs.lemmas.List.{append-nil}
use Rattle.std.proofs.lemmas.Result.{err_from_is_err_and}
use Rattle.cred_io.proofs.Known.{appends_more}
use Rattle.cred_report.specs.Text.{text}
use Rattle.cred_report.proofs.Journals.{text_more}
use Rattle.cred_output.proofs.Prefixes.{prefix_at, prefix_before}
use Rattle.cred_output.proofs.report.write_entries.Goals as goal

pub returns-in_default-clause-err : goal.returns-in_default-clause-err
returns-in_default-clause-err g c =
    prefix_before _ _ c.args.script.now c.args.entries.now c.loop-at.at c.loop-at.invariant.written

pub returns-in_err-write_all-clause-err : goal.returns-in_err-write_all-clause-err
returns-in_err-write_all-clause-err g c =
    let script = c.args.script.now in
    let journal = c.args.entries.now in
    let more = text script (slice_range journal c.loop-at.at c.end_of-end.result) in
    let piece = c.items.ensures ∙ c.in-Ok.ensures ∙ ap (λ (bs : List ℕ). more ++ bs) c.clear.ensures.text ∙ append-nil more in
    let onward : c.loop-at.at ≤ c.end_of-end.result = omega (arith, c.end_of-end.ensures.more) in
    let p = err_from_is_err_and c.from_residual.result c.from_residual.ensures.1 in
    rw p.1
    (prefix_at _ _ _ script journal c.loop-at.at c.end_of-end.result onward c.loop-at.invariant.written (rw piece at c.in_err-write_all.ensures.err))

pub loop-at-preserved : goal.loop-at-preserved
loop-at-preserved g c =
    let script = c.args.script.now in
    let journal = c.args.entries.now in
    let more = text script (slice_range journal c.loop-at.at c.end_of-end.result) in
    let piece = c.items.ensures ∙ c.in-Ok.ensures ∙ ap (λ (bs : List ℕ). more ++ bs) c.clear.ensures.text ∙ append-nil more in
    let onward : c.loop-at.at ≤ c.end_of-end.result = omega (arith, c.end_of-end.ensures.more) in
    record {
      within = c.end_of-end.ensures.within;
      faults = c.in_ok-write_all.ensures.cause.stayed (λ failed. cc) ∙ c.loop-at.invariant.faults;
      written = rw (text_more script journal c.loop-at.at c.end_of-end.result onward c.loop-at.invariant.within)
          (appends_more _ _ _ _ _ c.loop-at.invariant.written (rw piece at c.in_ok-write_all.ensures.ok));
    }
