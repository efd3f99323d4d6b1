use Rattle.std.proofs.Common.{◌≡◌, ◌∙◌, List, ℕ, subst, sym}
use Rattle.cred_spelling.specs.Spellings.{cap_named}
use Rattle.cred_spelling.proofs.CapNames.{named, unnamed, no_text}
use Rattle.cred_spelling.proofs.spellings.cap_named.Goals as goal

pub returns-in_err-cap_of_name-in-Ok : goal.returns-in_err-cap_of_name-in-Ok
returns-in_err-cap_of_name-in-Ok c =
    c.from_residual.ensures
    ∙ sym (subst (λ (word : List ℕ). cap_named word ≡ _) c.in-Ok.ensures.cases.0 (unnamed c.in-Ok.name.now (c.in_err-cap_of_name-in-Ok.ensures.none cc)))

pub returns-in_ok-cap_of_name-in-Ok : goal.returns-in_ok-cap_of_name-in-Ok
returns-in_ok-cap_of_name-in-Ok c =
    sym (named c.args.word.now c.number.result (rw c.number.ensures.value (rw (sym c.in-Ok.ensures.cases.0) c.in_ok-cap_of_name-in-Ok.ensures.cap)))

pub returns-in-Err : goal.returns-in-Err
returns-in-Err c = sym (no_text c.args.word.now c.in-Err.ensures.cases.0)
