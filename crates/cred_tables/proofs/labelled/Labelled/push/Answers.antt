use Rattle.std.proofs.Common.{◌≡◌, ℕ, List, [], ◌∷◌, ◌++◌, Some, nat_eq, sym, ap, subst, ◌∙◌}
use Rattle.std.specs.List.{IsDistinct}
use Rattle.std.specs.Map.{keys_of, lookup}
use Rattle.std.proofs.lemmas.List.{append-nil}
use Rattle.indexmap.proofs.CallerLemmas.{insert_entry-new}
use Rattle.indexmap.specs.IndexMap.{insert_entry}
use Rattle.cred_tables.specs.Labelled.{with_newest}
use Rattle.cred_tables.specs.declared.labelled.Labelled.TheInside.{Inside}
use Rattle.cred_tables.proofs.NewestApart.{distinct, newest_new}
use Rattle.cred_tables.proofs.labelled.Labelled.push.Given.{Over}
use Rattle.cred_tables.proofs.labelled.Labelled.push.Goals as goal
use Rattle.cred_tables.proofs.labelled.Labelled.push.Goals.{then-is_some+in_ok-reserve, else-is_some, in-Some+in_ok-insert+in-Some-1}
use Rattle.cred_tables.proofs.labelled.Labelled.push.Goals.{in-Some+in_ok-insert+in-None-1, in_default}

module _ (g : Over) (c : goal.Joined-self g) where
  -- room is made, and nothing else
  same_older : c.if-is_some.self-inside.older.entries ≡ c.self.inside.older.entries
  same_older = elim c.if-is_some.branch [
    | then-is_some+in_ok-reserve w ↦ ap (λ (i : Inside _). i.older.entries) w.self-inside-is ∙ w.in_ok-reserve.ensures.entries
    | else-is_some w ↦ ap (λ (i : Inside _). i.older.entries) w.self-inside-is
  ]

  same_newest : c.if-is_some.self-inside.newest ≡ c.self.inside.newest
  same_newest = elim c.if-is_some.branch [
    | then-is_some+in_ok-reserve w ↦ ap (λ (i : Inside _). i.newest) w.self-inside-is
    | else-is_some w ↦ ap (λ (i : Inside _). i.newest) w.self-inside-is
  ]

  -- the newest so far goes last in the map
  entered : (own : ℕ) (v : g.row.T.Denot) (after : List (ℕ × g.row.T.Denot)) → c.take.result ≡ Some (own, v)
      → after ≡ insert_entry nat_eq c.if-is_some.self-inside.older.entries own v → after ≡ c.args.self.now
  entered own v after is made =
      let older = c.self.inside.older.entries in
      let taken = sym same_newest ∙ sym c.take.ensures.value ∙ is in
      let none = ap (lookup (nat_eq own)) same_older ∙ newest_new older c.self.inside.newest own v taken c.self.invariant in
      made ∙ insert_entry-new nat_eq c.if-is_some.self-inside.older own v none
      ∙ ap (λ es. es ++ (own, v) ∷ []) same_older ∙ ap (with_newest older) (sym taken) ∙ c.self.view_is

  -- all that were there are in the map
  all_moved : c.match-take.self-inside.older.entries ≡ c.args.self.now
  all_moved = elim c.match-take.branch [
    | in-Some+in_ok-insert+in-Some-1 w ↦
        ap (λ (i : Inside _). i.older.entries) w.self-inside-is ∙ entered w.in-Some.own w.in-Some.older _ w.in-Some.is w.in_ok-insert.ensures.entries
    | in-Some+in_ok-insert+in-None-1 w ↦
        ap (λ (i : Inside _). i.older.entries) w.self-inside-is ∙ entered w.in-Some.own w.in-Some.older _ w.in-Some.is w.in_ok-insert.ensures.entries
    | in_default w ↦
        let older = c.self.inside.older.entries in
        let none = sym same_newest ∙ sym c.take.ensures.value ∙ w.in_default.is in
        ap (λ (i : Inside _). i.older.entries) w.self-inside-is ∙ same_older ∙ sym (append-nil older) ∙ ap (with_newest older) (sym none) ∙ c.self.view_is
  ]

pub invariant_of-self-2 : goal.invariant_of-self-2
invariant_of-self-2 g c =
    let once = distinct c.self.inside.older.entries c.self.inside.newest c.self.invariant in (
      subst (λ es. IsDistinct nat_eq (keys_of es)) (c.self.view_is ∙ sym (all_moved g c)) once,
      ap (lookup (nat_eq c.args.label)) (all_moved g c) ∙ c.requires,
    )

pub returns-clause-ok : goal.returns-clause-ok
returns-clause-ok g c = ap (λ es. es ++ (c.args.label, c.args.value) ∷ []) (all_moved g c)
