use Rattle.std.proofs.Common.{Option, ap, ◌∙◌}
use Rattle.std.specs.Option.{option_map_or}
use Rattle.cred_plain.specs.Creds.{StoredCred}
use Rattle.cred_plain.proofs.creds.credential.Goals as goal

pub returns-in-Some : goal.returns-in-Some
returns-in-Some c =
    ap (λ (s : StoredCred). s.cred) c.found.view_is
    ∙ ap (λ (o : Option StoredCred). option_map_or (λ (s : StoredCred). s.cred) o c.args.forgotten.now) c.in-Some.ensures

pub returns-in-None : goal.returns-in-None
returns-in-None c = ap (λ (o : Option StoredCred). option_map_or (λ (s : StoredCred). s.cred) o c.args.forgotten.now) c.in-None.ensures
