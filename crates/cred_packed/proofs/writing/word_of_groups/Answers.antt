use Rattle.std.proofs.Common.{◌+◌, ◌*◌, slice_index, ap, sym, ◌∙◌}
use Rattle.cred_record.specs.Credential.{Credential}
use Rattle.cred_record.specs.Words.{pair}
use Rattle.cred_record.proofs.WordLemmas.{at_group}
use Rattle.cred_packed.proofs.writing.word_of_groups.Goals as goal

pub returns : goal.returns
returns c =
    let n = c.args.i in
    c.group_word.ensures ∙
    ap (λ (d : Credential). pair (slice_index d.groups (2 * n)) (slice_index d.groups (2 * n + 1))) c.cred.view_is ∙
    sym (at_group c.args.cred.now n c.requires)
