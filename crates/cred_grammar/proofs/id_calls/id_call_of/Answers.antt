use Rattle.std.proofs.Common.{rules}
use Rattle.cred_grammar.specs.IdCalls.{id_call_of}
use Rattle.cred_grammar.proofs.id_calls.id_call_of.Goals as goal

pub returns-in_ok-real-in-SetReuid : goal.returns-in_ok-real-in-SetReuid
unfolding id_call_of
returns-in_ok-real-in-SetReuid c = search rules
