use Rattle.std.proofs.Common.{sym, ap, ◌∙◌}
use Rattle.cred_record.specs.Words.{flags_word}
use Rattle.cred_setid.specs.Parts.{changed}
use Rattle.cred_hold.proofs.Changed.{flags-changed}
use Rattle.cred_hold.proofs.like.flags_like.Goals as goal

pub returns-in-Some : goal.returns-in-Some
returns-in-Some c d own is flags =
    c.flags_with.ensures ∙
    flags-changed d own _ c.len.result c.args.flags is flags c.len.ensures.value ∙
    ap (λ o. flags_word (changed d own o)) (sym c.in-Some.is)
