use Rattle.std.proofs.Common.{◌∙◌, ap, length, arith}
use Rattle.cred_grammar.proofs.Steps.{at_ok, longer, read_one}
use Rattle.cred_grammar.proofs.script.read_lines.Goals as goal

pub loop-rest-preserved : goal.loop-rest-preserved
loop-rest-preserved c = record {
  counted =
      let more = longer _ _ _ (at_ok _ _ _ c.in_ok-add_numbered.ensures) in
      let line = ap length c.in_ok-text.ensures.line in
      omega arith;
  given = read_one _ _ _ _ _ c.in_ok-add_numbered.ensures c.in_ok-text.ensures.line ∙ c.loop-rest.invariant.given;
}
