use Rattle.std.proofs.Common.{◌≡◌, ◌≢◌, ◌<◌, ◌^◌, Ok, ap, subst, rules, tests, arith}
use Rattle.std.proofs.lemmas.Grind.{common_steps}
use Rattle.cred_rules.specs.Attribute.{IsVersioned, SpellsSet, high_in, is_version, word_at}
use Rattle.cred_filecap.proofs.AttributeLaws.{no_bytes_spell_two}
use Rattle.cred_filecap.proofs.SetLemmas.{one-word}
use Rattle.cred_filecap.proofs.reading.decode.Goals as goal

pub invariant_of-result : goal.invariant_of-result
invariant_of-result c = record {
  known = search (rules, tests);
  initial = λ other. search (rules, tests);
  low_perm =
      λ one. one-word _ _ (subst (λ v. SpellsSet (word_at c.args.bytes.now 4) (high_in v (word_at c.args.bytes.now 12)) c.set_at.result) one c.set_at.ensures);
  low_inh =
      λ one. one-word _ _
      (subst (λ v. SpellsSet (word_at c.args.bytes.now 8) (high_in v (word_at c.args.bytes.now 16)) c.set_at-2.result) one c.set_at-2.ensures);
}

pub returns-clause-value : goal.returns-clause-value
returns-clause-value c = grind (arith, common_steps)

pub returns-clause-each_value : goal.returns-clause-each_value
returns-clause-each_value c = λ a spells. ap Ok (no_bytes_spell_two c.args.bytes.now _ a (returns-clause-value c) spells)
