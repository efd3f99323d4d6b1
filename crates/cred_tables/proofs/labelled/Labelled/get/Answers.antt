use Rattle.std.proofs.Common.{sym, ◌∙◌}
use Rattle.cred_tables.proofs.NewestApart.{IsOther, lookup-own, lookup-other, other-some, other-none}
use Rattle.cred_tables.proofs.labelled.Labelled.get.Goals as goal
use Rattle.cred_tables.proofs.labelled.Labelled.get.Goals.{in_default-via-in-Some+else-own-label, in_default-via-in_default}

pub returns-in-Some : goal.returns-in-Some
returns-in-Some g c =
    rw (← c.self.view_is)
    (sym
    (lookup-own c.args.label c.self.inside.older.entries c.self.inside.newest c.in-Some.own c.in-Some.value c.in-Some.is c.if-own-label.true c.self.invariant))

pub returns-in_default-2 : goal.returns-in_default-2
returns-in_default-2 g c =
    let older = c.self.inside.older.entries in
    let other : IsOther c.args.label older c.self.inside.newest = elim c.in_default.branch [
      | in_default-via-in-Some+else-own-label w ↦ other-some c.args.label older c.self.inside.newest _ _ w.in-Some.is w.if-own-label.false
      | in_default-via-in_default w ↦ other-none c.args.label older c.self.inside.newest w.in_default.is
    ] in
    rw (← c.self.view_is) (c.get.ensures.value ∙ sym (lookup-other c.args.label older c.self.inside.newest other))
