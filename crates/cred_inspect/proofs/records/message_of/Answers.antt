use Rattle.std.proofs.Common.{ap, ◌∙◌}
use Rattle.cred_inspect.specs.Records.{IsRecord, record_refusal}
use Rattle.cred_inspect.proofs.records.message_of.Goals as goal

pub returns-in_ok-refusal_text-in-Err : goal.returns-in_ok-refusal_text-in-Err
returns-in_ok-refusal_text-in-Err c =
    let none : ¬ IsRecord c.args.bytes.now = λ found. let no = c.in-Err.ensures.each_value found.0 found.1 in cc in
    rw (c.of.ensures.status, c.of.ensures.text) (none, c.in_ok-refusal_text-in-Err.ensures ∙ ap record_refusal c.in-Err.ensures.refusal)
