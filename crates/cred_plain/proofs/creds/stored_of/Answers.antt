use Rattle.std.proofs.Common.{Some, sym, ap, ◌∙◌}
use Rattle.cred_plain.specs.Creds.{StoredCred}
use Rattle.cred_plain.proofs.Rising.{none-past, found-there, none-there}
use Rattle.cred_plain.proofs.creds.stored_of.Goals.{in_default-via-in-Some+else-found-number, in_default-via-in_default}
use Rattle.cred_plain.proofs.creds.stored_of.Goals as goal

pub returns-in-Some : goal.returns-in-Some
returns-in-Some c =
    let stored = c.args.stored.now in
    let at = c.in-Some.ensures.lookup.3 in
    let found = c.in-Some.found.now in
    let number = ap (λ (s : StoredCred). s.number) (sym (at.1 found)) ∙ sym (ap (λ (s : StoredCred). s.number) c.found.view_is) ∙ c.if-found-number.true in
    ap Some (at.1 found) ∙ sym (found-there stored c.args.number c.place_from.result c.requires c.place_from.ensures found at.0 number)

pub returns-in_default : goal.returns-in_default
returns-in_default c =
    let stored = c.args.stored.now in
    elim c.in_default.branch [
      | in_default-via-in-Some+else-found-number w ↦
          let at = w.in-Some.ensures.lookup.3 in
          let found = w.in-Some.found.now in
          let other = w.if-found-number.false in
          sym (none-there stored c.args.number c.place_from.result c.requires c.place_from.ensures found at.0 (λ same.
          other (ap (λ (s : StoredCred). s.number) (w.found.view_is ∙ at.1 found) ∙ same)))
      | in_default-via-in_default w ↦ sym (none-past stored c.args.number c.place_from.result c.requires c.place_from.ensures w.in_default.ensures.lookup.3)
    ]
