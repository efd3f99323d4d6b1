use Rattle.std.proofs.Common.{◌≡◌, ap, ◌∙◌}
use Rattle.std.proofs.lemmas.Result.{IfOk-weaker}
use Rattle.cred_record.specs.Words.{credential_in}
use Rattle.cred_hold.proofs.tokens.read.Goals as goal

pub returns-clause-value : goal.returns-clause-value
returns-clause-value c =
    IfOk-weaker c.read_whole.result (λ cred. cred ≡ credential_in c.hold.inside.inner.token.words) _
    (λ cred is. is ∙ ap (λ h. h.cred) c.hold.view_is)
    c.read_whole.ensures.cred
