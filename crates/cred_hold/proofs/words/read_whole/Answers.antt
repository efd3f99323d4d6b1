use Rattle.std.proofs.Common.{List, ℕ, slice_index, sym, ap, ◌∙◌, subst, arith}
use Rattle.cred_record.specs.declared.layout.TheConstants.{FLAGS, GROUPS}
use Rattle.cred_record.specs.Words.{are_words, credential_in, group_count, IsCredential}
use Rattle.cred_record.proofs.HalfWords.{head-is, joined}
use Rattle.cred_words.proofs.Opens.{width_is}
use Rattle.cred_hold.proofs.Slots.{part-at}
use Rattle.cred_hold.proofs.Whole.{length-known}
use Rattle.cred_hold.proofs.words.read_whole.Goals as goal

pub gather-first-requires : goal.gather-first-requires
gather-first-requires c =
    let w = width_is in
    (omega arith, (c.requires.own, (c.requires.slot, (length-known _ c.requires.known ∙ sym width_is, omega arith))))

pub groups_of-requires-clause-known : goal.groups_of-requires-clause-known
groups_of-requires-clause-known c = ap (λ h. are_words h.token.words) c.gather-first.ensures.same ∙ c.requires.known

pub groups_of-requires-clause-count : goal.groups_of-requires-clause-count
groups_of-requires-clause-count c =
    let ws = c.args.hold.now.token.words in
    c.group_count-count.ensures ∙
    ap group_count (part-at ws c.gather-first.result GROUPS 0 FLAGS c.gather-first.ensures.words (omega arith)) ∙
    sym (ap (λ h. group_count (slice_index h.token.words FLAGS)) c.gather-first.ensures.same)

pub head_from_valid-requires : goal.head_from_valid-requires
head_from_valid-requires c =
    subst (λ (ws : List ℕ). IsCredential (credential_in ws)) (sym c.gather-first.ensures.words) (head-is c.args.hold.now.token.words c.requires.known)

pub returns-clause-cred : goal.returns-clause-cred
returns-clause-cred c =
    let groups = c.in_ok-groups.ensures.groups ∙ ap (λ h. (credential_in h.token.words).groups) c.gather-first.ensures.same in
    c.head_from_valid.ensures ∙ joined c.args.hold.now.token.words _ _ c.gather-first.ensures.words groups
