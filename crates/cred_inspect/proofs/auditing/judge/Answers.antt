use Rattle.std.proofs.Common.{arith, subst}
use Rattle.cred_audit.specs.Report.{IsVerdict}
use Rattle.cred_audit.specs.declared.verdict.Verdict.TheVariants.{Legal}
use Rattle.cred_fits.proofs.EntriesFit.{one_fitting_list}
use Rattle.cred_inspect.specs.Auditing.{IsOneReport}
use Rattle.cred_inspect.proofs.auditing.judge.Goals as goal

pub returns-in_ok-from_str-in-Legal : goal.returns-in_ok-from_str-in-Legal
returns-in_ok-from_str-in-Legal c =
    let read = c.in-Ok.ensures.given in
    let verdict : IsVerdict c.in-Ok.script c.args.report.now Legal =
    subst (IsVerdict c.in-Ok.script c.args.report.now) c.in-Legal.is c.in_ok-verdict-in-Ok.ensures in
    let one : IsOneReport c.in-Ok.script c.args.report.now = record {
      report = verdict.report;
      only = one_fitting_list c.args.script.now c.in-Ok.script verdict.report.journal read (omega (arith, c.in-Ok.ensures.lines)) verdict.report.legal.so_far;
    } in
    rw (c.of.ensures.status, c.of.ensures.text)
    (c.in-Ok.script, read, one, c.in_ok-from_str-in-Legal.ensures.ok)

pub returns-in_ok-format-in-NotLegal : goal.returns-in_ok-format-in-NotLegal
returns-in_ok-format-in-NotLegal c =
    let read = c.in-Ok.ensures.given in
    let verdict = c.in_ok-verdict-in-Ok.ensures in
    rw (c.of-in-NotLegal.ensures.status, c.of-in-NotLegal.ensures.text) (
      c.in-Ok.script,
      c.in-NotLegal.entry,
      read,
      subst (IsVerdict c.in-Ok.script c.args.report.now) c.in-NotLegal.is verdict,
      c.in_ok-format-in-NotLegal.ensures.ok,
    )
