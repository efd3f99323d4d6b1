use Rattle.cred_inspect.specs.Encoding.{IsCapText}
use Rattle.cred_inspect.proofs.Refused.{no_text}
use Rattle.cred_inspect.proofs.encoding.message_of.Goals as goal

pub returns-in_ok-refusal_text-in-Err : goal.returns-in_ok-refusal_text-in-Err
returns-in_ok-refusal_text-in-Err c =
    let none : ¬ IsCapText c.args.text.now = no_text c.args.text.now c.in-Err.refusal c.in-Err.ensures.each_value in
    rw (c.of.ensures.status, c.of.ensures.text) (none, (c.in-Err.refusal, c.in-Err.ensures.refusal, c.in_ok-refusal_text-in-Err.ensures))
