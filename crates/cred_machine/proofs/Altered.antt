-- What the change of a prepared label leads to, or how it is refused.
use Rattle.std.proofs.Common.{◌≡◌, ℕ, List, Option, Some, Result, Ok, Err, refl, sym, ap, ◌∙◌}
use Rattle.cred_record.specs.File.{File}
use Rattle.cred_event.specs.declared.answer.Answer.{Answer}
use Rattle.cred_event.specs.declared.event.Change.{Change}
use Rattle.cred_model.specs.Change.{Made, by_change}
use Rattle.cred_model.specs.Moves.{altered, with_change}
use Rattle.cred_model.specs.Named.{change_files}
use Rattle.cred_model.specs.Script.{Script, chain_of}
use Rattle.cred_model.specs.State.{State, Changed, Numbered, Prepared, info_of, numbered, prepared_of}
use Rattle.cred_model.specs.LabelEvents.{by_alter}
use Rattle.cred_model.specs.Step.{outcome}

-- a label, its base, and what is seen of the file and of the namespaces
module _ (script : Script) (s : State) (label : ℕ) (change : Change) (p : Prepared) (base : Numbered) (there : prepared_of s label ≡ Some p)
    (has : numbered s.creds p.base ≡ Some base) (file : Option File) (chain : List ℕ) (is : file ≡ info_of s.inodes (change_files change))
    (ids : chain ≡ chain_of script base.cred.ns) where
  same_rule : by_change (info_of s.inodes (change_files change)) (chain_of script base.cred.ns) base.cred change ≡ by_change file chain base.cred change
  same_rule =
      ap (λ (f : Option File). by_change f (chain_of script base.cred.ns) base.cred change) (sym is)
      ∙ ap (λ (c : List ℕ). by_change file c base.cred change) (sym ids)

  pub alter_refused : (made : Result Made Answer) (answer : Answer) → made ≡ by_change file chain base.cred change → made ≡ Err answer
      → outcome s (by_alter script s label change) ≡ (answer, s)
  alter_refused made answer rule refuses =
      let gives : by_change (info_of s.inodes (change_files change)) (chain_of script base.cred.ns) base.cred change ≡ Err answer
      = same_rule ∙ sym rule ∙ refuses in
      rw (there, has, gives) refl

  pub alter_leads : (made : Result Made Answer) (m : Made) (to : Changed) (prepared : List Prepared) → made ≡ by_change file chain base.cred change
      → made ≡ Ok m
      → to ≡ record { change = change; cred = m.cred; gains = m.gains } → prepared ≡ with_change s.prepared label to
      → outcome s (by_alter script s label change) ≡ (m.answer, record s { prepared = prepared })
  alter_leads made m to prepared rule allows is_to now =
      let gives : by_change (info_of s.inodes (change_files change)) (chain_of script base.cred.ns) base.cred change ≡ Ok m
      = same_rule ∙ sym rule ∙ allows in
      let first : outcome s (by_alter script s label change)
      ≡ (m.answer, altered s label (record { change = change; cred = m.cred; gains = m.gains }))
      = rw (there, has, gives) refl in
      first
      ∙ ap (λ (c : Changed). (m.answer, altered s label c)) (sym is_to)
      ∙ ap (λ (ps : List Prepared). (m.answer, record s { prepared = ps })) (sym now)
