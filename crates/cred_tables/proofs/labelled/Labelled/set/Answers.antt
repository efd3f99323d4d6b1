use Rattle.std.proofs.Common.{◌≡◌, nat_eq, sym, ap, ◌∙◌}
use Rattle.std.specs.Map.{lookup, set_value}
use Rattle.cred_tables.specs.Labelled.{with_newest}
use Rattle.cred_tables.specs.declared.labelled.Labelled.TheInside.{Inside}
use Rattle.cred_tables.proofs.NewestApart.{IsOther, distinct, set-own, set-other, set-none, other-some, other-none}
use Rattle.cred_tables.proofs.labelled.Labelled.set.Goals as goal
use Rattle.cred_tables.proofs.labelled.Labelled.set.Goals.{in_default-via-in-Some+else-own-label, in_default-via-in_default}

pub returns-in-Some-clause-value : goal.returns-in-Some-clause-value
returns-in-Some-clause-value g c =
    rw (← c.self.view_is)
    (sym (set-own c.args.label c.self.inside.older.entries c.self.inside.newest c.in-Some.own _ c.in-Some.is c.if-own-label.true c.self.invariant c.args.value))

pub returns-in-Some-clause-once : goal.returns-in-Some-clause-once
returns-in-Some-clause-once g c = rw (← c.self.view_is) (distinct c.self.inside.older.entries c.self.inside.newest c.self.invariant)

pub returns-in-Some-get_mut-clause-value : goal.returns-in-Some-get_mut-clause-value
returns-in-Some-get_mut-clause-value g c =
    let older = c.self.inside.older.entries in
    let newest = c.self.inside.newest in
    let same : c.in_default.self-inside ≡ c.self.inside = elim c.in_default.branch [
      | in_default-via-in-Some+else-own-label w ↦
          w.self-inside-is ∙ ap (λ entry. record { older = c.self.inside.older; newest = entry }) (sym w.in-Some.is)
      | in_default-via-in_default w ↦ w.self-inside-is
    ] in
    let apart : IsOther c.args.label older newest = elim c.in_default.branch [
      | in_default-via-in-Some+else-own-label w ↦ other-some c.args.label older newest _ _ w.in-Some.is w.if-own-label.false
      | in_default-via-in_default w ↦ other-none c.args.label older newest w.in_default.is
    ] in
    rw (← c.self.view_is)
    (ap (λ es. with_newest es c.in_default.self-inside.newest) (c.get_mut.follows.holds c.args.value).0
    ∙ ap (λ (i : Inside _). with_newest (set_value (nat_eq c.args.label) i.older.entries c.args.value) i.newest) same
    ∙ sym (set-other c.args.label older newest apart c.args.value))

pub returns-in-Some-get_mut-clause-once : goal.returns-in-Some-get_mut-clause-once
returns-in-Some-get_mut-clause-once g c = rw (← c.self.view_is) (distinct c.self.inside.older.entries c.self.inside.newest c.self.invariant)

pub returns-in_default-get_mut-clause-value : goal.returns-in_default-get_mut-clause-value
returns-in_default-get_mut-clause-value g c =
    let older = c.self.inside.older.entries in
    let newest = c.self.inside.newest in
    let same : c.in_default.self-inside ≡ c.self.inside = elim c.in_default.branch [
      | in_default-via-in-Some+else-own-label w ↦
          w.self-inside-is ∙ ap (λ entry. record { older = c.self.inside.older; newest = entry }) (sym w.in-Some.is)
      | in_default-via-in_default w ↦ w.self-inside-is
    ] in
    let apart : IsOther c.args.label older newest = elim c.in_default.branch [
      | in_default-via-in-Some+else-own-label w ↦ other-some c.args.label older newest _ _ w.in-Some.is w.if-own-label.false
      | in_default-via-in_default w ↦ other-none c.args.label older newest w.in_default.is
    ] in
    let none = ap (λ (i : Inside _). lookup (nat_eq c.args.label) i.older.entries) (sym same) ∙ sym c.in_default-get_mut.ensures.value in
    rw (c.get_mut.follows.holds-at-none, ← c.self.view_is)
    (ap (λ (i : Inside _). with_newest i.older.entries i.newest) same
    ∙ ap (λ es. with_newest es newest) (sym (set-none (nat_eq c.args.label) older c.args.value none))
    ∙ sym (set-other c.args.label older newest apart c.args.value))

pub returns-in_default-get_mut-clause-once : goal.returns-in_default-get_mut-clause-once
returns-in_default-get_mut-clause-once g c = rw (← c.self.view_is) (distinct c.self.inside.older.entries c.self.inside.newest c.self.invariant)
