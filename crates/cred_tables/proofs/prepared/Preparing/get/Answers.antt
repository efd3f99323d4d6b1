use Rattle.std.proofs.Common.{◌≡◌, ℕ, ◌∙◌, sym, ap, refl, Option, None, Some, Bor}
use Rattle.std.specs.Option.{option_map, option_copied}
use Rattle.cred_tables.specs.declared.prepared.Preparation.{Preparation}
use Rattle.cred_tables.specs.Prepared.{prepared_as}
use Rattle.cred_tables.proofs.ByLabel.{find-prepared}
use Rattle.cred_tables.proofs.prepared.Preparing.get.Goals as goal

read : (label : ℕ) (found : Option (Bor Preparation)) → option_map (λ p. prepared_as label p.now) found ≡ option_map (prepared_as label) (option_copied found)
read label None = refl
read label (Some p) = refl

pub returns : goal.returns
returns c =
    rw (← c.self.view_is)
    (read c.args.label c.get.result ∙ ap (option_map (prepared_as c.args.label)) c.get.ensures ∙ sym (find-prepared c.args.label c.self.inside.entries))
