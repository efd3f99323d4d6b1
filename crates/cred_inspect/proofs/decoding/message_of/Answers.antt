use Rattle.std.proofs.Common.{ap, ◌∙◌}
use Rattle.cred_output.specs.Texts.{refusal_text}
use Rattle.cred_inspect.specs.Decoding.{IsAttribute}
use Rattle.cred_inspect.proofs.decoding.message_of.Goals as goal

pub returns-in_ok-refusal_text-in-Err : goal.returns-in_ok-refusal_text-in-Err
returns-in_ok-refusal_text-in-Err c =
    let none : ¬ IsAttribute c.args.bytes.now = λ found. let no = c.in-Err.ensures.each_value found.0 found.1 in cc in
    rw (c.of.ensures.status, c.of.ensures.text) (none, c.in_ok-refusal_text-in-Err.ensures ∙ ap refusal_text c.in-Err.ensures.refusal)
