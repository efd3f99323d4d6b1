use Rattle.std.proofs.Common.{arith, rules, ◌∙◌}
use Rattle.std.proofs.lemmas.List.{take_rest}
use Rattle.cred_io.proofs.Known.{appends_step}
use Rattle.cred_io.proofs.sink.write_all.Goals as goal

pub loop-at-preserved : goal.loop-at-preserved
loop-at-preserved g c = record {
  within = grind (arith, c.in_ok-at.ensures.bound, take_rest c.args.piece.now c.loop-at.at);
  faults = c.in_ok-at.ensures.cause.stayed (λ failed. cc) ∙ c.loop-at.invariant.faults;
  written = appends_step _ _ _ c.args.piece.now c.loop-at.at c.in_ok-at.field-0 c.loop-at.invariant.written c.in_ok-at.ensures.bytes;
}

pub returns-clause-cause : goal.returns-clause-cause
returns-clause-cause g c = search rules
