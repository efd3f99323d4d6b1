use Rattle.std.proofs.Common.{◌∙◌, sym, ap, arith}
use Rattle.cred_files.specs.Open.{open_files}
use Rattle.cred_files.proofs.Kept.{are_open, closed, not_open, length-files_of}
use Rattle.cred_files.proofs.files.Files.remove.Goals as goal

pub invariant_of-self-2 : goal.invariant_of-self-2
invariant_of-self-2 c =
    let es = c.self.inside.files.entries in
    are_open c.shift_remove.new.self.entries c.shift_remove.ensures.unique
    (omega (arith, c.shift_remove.ensures.len, c.self.invariant.few, length-files_of es))

pub returns : goal.returns
returns c =
    rw (← c.self.view_is)
    (closed c.args.fd c.in_ok-shift_remove.field-0 c.self.inside.files.entries c.shift_remove.new.self.entries
    (sym c.shift_remove.ensures.value ∙ c.in_ok-shift_remove.was) c.shift_remove.ensures.entries)

pub returns-in_err-shift_remove : goal.returns-in_err-shift_remove
returns-in_err-shift_remove c =
    let es = c.self.inside.files.entries in
    let none = sym c.shift_remove.ensures.value ∙ c.in_err-shift_remove.was in
    rw (c.from_residual.ensures, ← c.self.view_is)
    (not_open c.args.fd es none, ap open_files c.in_err-shift_remove.ensures.unchanged)
