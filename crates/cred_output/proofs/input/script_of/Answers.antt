use Rattle.std.proofs.Common.{arith}
use Rattle.std.proofs.lemmas.Result.{IfOk-weaker}
use Rattle.cred_output.specs.Ends.{IsWithinLimits}
use Rattle.cred_output.proofs.Runs.{ran_refused, refusal_whole}
use Rattle.cred_output.proofs.input.script_of.Goals as goal

pub returns-in-Ok-clause-script : goal.returns-in-Ok-clause-script
returns-in-Ok-clause-script g c = record {
  within = record { bytes = c.requires.within; lines = omega arith };
  few = omega (arith, c.in-Ok.ensures.lines);
  read = c.in-Ok.ensures.given;
  setup = c.in-Ok.ensures.setup;
}

pub write_message-requires : goal.write_message-requires
write_message-requires g c = IfOk-weaker c.bad_line.result _ _ (λ s is. refusal_whole c.in-Err.refusal s.status s.text.items is) c.bad_line.ensures

pub returns-in-Err-clause-refused : goal.returns-in-Err-clause-refused
returns-in-Err-clause-refused g c =
    let within : IsWithinLimits c.args.bytes.now = record { bytes = c.requires.within; lines = omega arith } in
    ran_refused c.args.bytes.now c.in-Err.refusal c.bad_line.result c.write_message.result _ _ _ within c.in-Err.ensures.given
    c.bad_line.ensures c.write_message.ensures.told
