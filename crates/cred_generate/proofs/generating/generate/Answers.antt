use Rattle.std.proofs.Common.{List, ℕ, length, ap, ◌∙◌, arith}
use Rattle.cred_spelling.specs.Lines.{lines_of}
use Rattle.cred_generate.proofs.Accepted.{line_count, never_bad}
use Rattle.cred_generate.proofs.generating.generate.Goals as goal

pub read-requires : goal.read-requires
read-requires c =
    let is = c.as_slice.ensures.value ∙ c.in_ok-text.ensures in
    let count = ap (λ (bytes : List ℕ). length (lines_of bytes)) is ∙ line_count c.args.n in
    let few = c.requires.1 in
    omega arith

pub unreachable-requires : goal.unreachable-requires
unreachable-requires c =
    let given = rw c.in-Err-Bad.field-0-is at c.in-Err-Bad.ensures.given in
    never_bad c.args.n c.as_slice.result.now (c.in-Err-Bad.field-0-0, c.in-Err-Bad.field-0-1) (c.as_slice.ensures.value ∙ c.in_ok-text.ensures) given
