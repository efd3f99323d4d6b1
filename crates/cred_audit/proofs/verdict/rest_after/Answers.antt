use Rattle.std.proofs.Common.{◌≡◌, ◌≢◌, ◌∙◌, ◌++◌, ℕ, List, ap, subst}
use Rattle.std.specs.Option.{MatchOption}
use Rattle.std.proofs.lemmas.List.{append-nil}
use Rattle.std.proofs.lemmas.Slice.Eq.{strip_prefix_is}
use Rattle.std.proofs.lemmas.Bool.Decides.{Decides-eqb}
use Rattle.cred_report.specs.Text.{entry_text}
use Rattle.cred_audit.proofs.verdict.rest_after.Goals as goal

pub returns : goal.returns
returns c =
    let own = entry_text c.args.script.now c.args.entry.now in
    let text : c.items.result.now ≡ own
    = c.items.ensures ∙ c.in_ok-prepend.ensures ∙ ap (λ bs. own ++ bs) c.clear.ensures.text ∙ append-nil own in
    subst (λ p. MatchOption c.strip_prefix.result ((rest : List ℕ) → c.args.bytes.now ≢ p ++ rest) (λ x. c.args.bytes.now ≡ p ++ x.now)) text
    (strip_prefix_is Decides-eqb c.args.bytes.now c.items.result.now c.strip_prefix.result c.strip_prefix.ensures.cases)
