use Rattle.std.proofs.Common.{◌≡◌, true, map, string_bytes, ◌∙◌, sym}
use Rattle.std.specs.List.{list_all}
use Rattle.cred_args.specs.Positionals.{is_plain}
use Rattle.cred_args.proofs.Parsed.{as_found, as_refused}
use Rattle.cred_args.proofs.parsing.parse.Goals as goal

pub returns-in-Ok-clause-value : goal.returns-in-Ok-clause-value
returns-in-Ok-clause-value c =
    let plain : list_all is_plain (map string_bytes c.args.words.now) ≡ true = sym c.are_plain.ensures ∙ c.if-not-are_plain.false in
    c.positionals_of.ensures ∙ as_found (map string_bytes c.args.words.now) c.in-Ok.matches plain c.in-Ok.ensures

pub returns-clause-value : goal.returns-clause-value
returns-clause-value c =
    let plain : list_all is_plain (map string_bytes c.args.words.now) ≡ true = sym c.are_plain.ensures ∙ c.if-not-are_plain.false in
    as_refused (map string_bytes c.args.words.now) c.in-Err.e plain c.in-Err.ensures (λ memory. c.in_default.not-OutOfMemory (c.kind.ensures ∙ memory))
