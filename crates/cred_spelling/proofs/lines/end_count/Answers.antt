use Rattle.std.proofs.Common.{ap, ◌∙◌, length, length-append, arith}
use Rattle.cred_spelling.specs.Lines.{line_ends}
use Rattle.cred_spelling.proofs.LineCount.{ends-append}
use Rattle.cred_spelling.proofs.lines.end_count.Goals as goal

pub loop-rest-preserved : goal.loop-rest-preserved
loop-rest-preserved c =
    let parts = c.split_at.ensures.by_index.0 in
    let long = ap length parts ∙ length-append c.split_at.result.0.now c.split_at.result.1.now in
    let all = ap line_ends parts ∙ ends-append c.split_at.result.0.now c.split_at.result.1.now in
    let count = c.few_ends.ensures.count in
    let few = c.few_ends.ensures.few in
    let from = c.from-count.ensures in
    let invariant = c.loop-rest.invariant in
    let before = invariant.few in
    let still = invariant.all in
    record { few = omega arith; all = omega arith }
