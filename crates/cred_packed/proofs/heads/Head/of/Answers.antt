use Rattle.std.proofs.Common.{ℕ, List, length, ap, ◌∙◌, sym, subst}
use Rattle.cred_record.specs.Words.{credential_in, IsCredential}
use Rattle.cred_record.proofs.HalfWords.{head-is}
use Rattle.cred_packed.proofs.NoGroups.{groups-none, head-count, head-whole, head-words}
use Rattle.cred_packed.proofs.heads.Head.of.Goals as goal

pub invariant_of-result : goal.invariant_of-result
invariant_of-result c =
    let none = sym c.group_count.ensures ∙ c.if-group_count-eq0.true in (
      subst (λ (ws : List ℕ). IsCredential (credential_in ws)) (sym c.requires.2) (head-is c.requires.0 c.requires.1),
      groups-none c.args.words none,
      head-words c.requires.0 c.args.words c.requires.1 c.requires.2 none,
    )

pub returns-then-group_count-eq0 : goal.returns-then-group_count-eq0
returns-then-group_count-eq0 c ws are is = head-whole ws c.args.words are is (sym c.group_count.ensures ∙ c.if-group_count-eq0.true)

pub returns-else-group_count-eq0 : goal.returns-else-group_count-eq0
returns-else-group_count-eq0 c ws are is bare =
    c.if-group_count-eq0.false (c.group_count.ensures ∙ head-count ws c.args.words are is ∙ ap length bare)
