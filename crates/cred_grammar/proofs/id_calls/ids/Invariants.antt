use Rattle.std.proofs.Common.{◌≡◌, drop}
use Rattle.cred_grammar.specs.IdCalls as spec
use Rattle.cred_spelling.specs.Read.{nows}
use Rattle.cred_grammar.proofs.IdLists.{with_ids}
use Rattle.cred_grammar.proofs.id_calls.ids.Given as goal

abbrev pub invariant-loop-text : goal.invariant-loop-text
invariant-loop-text l = with_ids l.ids.items (spec.ids (nows (drop l.text-index l.words))) ≡ spec.ids (nows l.words)
