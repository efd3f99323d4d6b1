use Rattle.std.proofs.Common.{◌≡◌, nat_eq, sym, ap, ◌∙◌}
use Rattle.std.specs.Map.{lookup, remove_entry}
use Rattle.std.specs.Option.{option_map}
use Rattle.cred_tables.specs.Labelled.{with_newest}
use Rattle.cred_tables.specs.declared.labelled.Labelled.TheInside.{Inside}
use Rattle.cred_tables.proofs.NewestApart.{IsOther, lookup-own, lookup-other, remove-own, remove-other, other-some, other-none}
use Rattle.cred_tables.proofs.labelled.Labelled.remove.Given.{Over}
use Rattle.cred_tables.proofs.labelled.Labelled.remove.Goals as goal
use Rattle.cred_tables.proofs.labelled.Labelled.remove.Goals.{in_default-via-in-Some+else-own-label, in_default-via-in_default}

pub returns-in_ok-value-in-Some-clause-value : goal.returns-in_ok-value-in-Some-clause-value
returns-in_ok-value-in-Some-clause-value g c =
    let taken = sym c.in-Some.is ∙ sym c.take.ensures.value ∙ c.in_ok-value-in-Some.was in
    rw (← c.self.view_is)
    (sym
    (lookup-own c.args.label c.self.inside.older.entries c.self.inside.newest c.in-Some.own c.in-Some.field-0-1 c.in-Some.is c.if-own-label.true
    c.self.invariant
    ∙ ap (option_map (λ e. e.1)) taken))

pub returns-in_ok-value-in-Some-clause-left : goal.returns-in_ok-value-in-Some-clause-left
returns-in_ok-value-in-Some-clause-left g c =
    rw (← c.self.view_is, c.take.ensures.after)
    (sym
    (remove-own c.args.label c.self.inside.older.entries c.self.inside.newest c.in-Some.own c.in-Some.field-0-1 c.in-Some.is c.if-own-label.true
    c.self.invariant))

module _ (g : Over) (c : goal.After-shift_remove g) where
  same : c.in_default.self-inside ≡ c.self.inside
  same = elim c.in_default.branch [
    | in_default-via-in-Some+else-own-label w ↦ w.self-inside-is
    | in_default-via-in_default w ↦ w.self-inside-is
  ]

  apart : IsOther c.args.label c.self.inside.older.entries c.self.inside.newest
  apart = elim c.in_default.branch [
    | in_default-via-in-Some+else-own-label w ↦ other-some c.args.label c.self.inside.older.entries c.self.inside.newest _ _ w.in-Some.is w.if-own-label.false
    | in_default-via-in_default w ↦ other-none c.args.label c.self.inside.older.entries c.self.inside.newest w.in_default.is
  ]

pub returns-in_default-2-clause-value : goal.returns-in_default-2-clause-value
returns-in_default-2-clause-value g c =
    rw (← c.self.view_is)
    (c.shift_remove.ensures.value
    ∙ ap (λ (i : Inside _). lookup (nat_eq c.args.label) i.older.entries) (same g c)
    ∙ sym (lookup-other c.args.label c.self.inside.older.entries c.self.inside.newest (apart g c)))

pub returns-in_default-2-clause-left : goal.returns-in_default-2-clause-left
returns-in_default-2-clause-left g c =
    rw (← c.self.view_is)
    (ap (λ es. with_newest es c.in_default.self-inside.newest) c.shift_remove.ensures.entries
    ∙ ap (λ (i : Inside _). with_newest (remove_entry (nat_eq c.args.label) i.older.entries) i.newest) (same g c)
    ∙ sym (remove-other c.args.label c.self.inside.older.entries c.self.inside.newest (apart g c)))
