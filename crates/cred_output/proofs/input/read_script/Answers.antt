use Rattle.std.proofs.Common.{ap}
use Rattle.std.proofs.lemmas.Result.{IfOk-weaker, MatchResult-weaker}
use Rattle.cred_output.specs.Scripts.{NoJournal}
use Rattle.cred_output.proofs.Runs.{leaves_report}
use Rattle.cred_output.proofs.input.read_script.Goals as goal

pub returns-clause-script : goal.returns-clause-script
returns-clause-script g c =
    IfOk-weaker c.script_of.result _ _ (λ script is. record { input = c.in_ok-bytes.bytes; read = c.in_ok-bytes.ensures.whole; is = is })
    (rw c.items.ensures at c.script_of.ensures.script)

pub returns-clause-refused : goal.returns-clause-refused
returns-clause-refused g c =
    MatchResult-weaker c.script_of.result (rw c.items.ensures at c.script_of.ensures.refused) (λ script is. is)
    (λ status runs. leaves_report NoJournal _ _ _ _ c.in_ok-bytes.bytes status _ (λ same. ap g.K.Sink.written same) c.in_ok-bytes.ensures.whole runs)
