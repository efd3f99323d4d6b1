use Rattle.std.proofs.Common.{◌∙◌, ap, length, arith}
use Rattle.std.proofs.lemmas.Grind.{div_ceil_times}
use Rattle.cred_record.specs.Credential.{Credential}
use Rattle.cred_packed.proofs.writing.words_of_groups.Goals as goal

pub returns-clause-value : goal.returns-clause-value
returns-clause-value c =
    let count = c.len.ensures.value ∙ ap (λ (d : Credential). length d.groups) c.cred.view_is in
    let half = div_ceil_times c.len.result 2 (omega arith) in
    let is = c.div_ceil.ensures in
    (omega arith, omega arith)

pub returns-clause-within : goal.returns-clause-within
returns-clause-within c =
    let few = c.len.ensures.limit in
    let half = div_ceil_times c.len.result 2 (omega arith) in
    let is = c.div_ceil.ensures in
    omega arith
