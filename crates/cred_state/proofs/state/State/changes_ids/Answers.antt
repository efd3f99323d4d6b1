use Rattle.std.proofs.Common.{◌≡◌, Option, Some, None, sym, ap, ◌∙◌}
use Rattle.std.specs.Option.{option_map}
use Rattle.cred_ids.specs.declared.id.Ids4.{Ids4}
use Rattle.cred_model.specs.State.{Changed, Task, task_of}
use Rattle.cred_setid.specs.declared.parts.IdParts.{IdParts}
use Rattle.cred_tables.specs.Kept.{seen_in}
use Rattle.cred_tables.specs.Prepared.{changed_of}
use Rattle.cred_state.proofs.Reading.{is_found}
use Rattle.cred_state.proofs.Standing.{current-in_use}
use Rattle.cred_state.proofs.Traces.{differs_current, differs_none, ids_are}
use Rattle.cred_state.proofs.state.State.changes_ids.Goals as goal

pub read_parts-old-requires-clause-found : goal.read_parts-old-requires-clause-found
read_parts-old-requires-clause-found c =
    let s = c.args.self.now.state in
    is_found s.creds (λ (t : Task). t.current) (task_of s c.args.task) _
    (sym c.in-Some-current.ensures)

pub read_parts-old-requires-clause-used : goal.read_parts-old-requires-clause-used
read_parts-old-requires-clause-used c =
    current-in_use c.args.self.now.state c.args.task _ (sym c.in-Some-current.ensures)

pub returns-in_default-clause-ids_changed : goal.returns-in_default-clause-ids_changed
returns-in_default-clause-ids_changed c = λ last is.
    let none : ◌≡◌ {A = Option (Ids4 × Ids4)} None (Some (last.cred.uid, last.cred.gid))
    = c.in_default.ensures
    ∙ ap (option_map {U = Ids4 × Ids4} (λ (x : Changed). (x.cred.uid, x.cred.gid))) is in
    cc

pub returns-in_default-current-clause-ids_changed : goal.returns-in_default-current-clause-ids_changed
returns-in_default-current-clause-ids_changed c = λ last is.
    differs_none c.args.self.now.state c.args.task last (sym c.in_default-current.ensures)

pub returns-clause-ids_changed : goal.returns-clause-ids_changed
returns-clause-ids_changed c = λ last is.
    let s = c.args.self.now.state in
    let now = seen_in s.creds c.in-Some-current.now in
    let ids = ids_are last (changed_of s.prepared c.args.label) _ _ c.in-Some.ensures is in
    let parts = c.read_parts-old.ensures.parts.0 in
    differs_current s c.args.task last now c.differs_by.result (sym c.in-Some-current.ensures)
    (c.differs_by.ensures now.cred last.cred (sym (ap (λ (p : IdParts). p.uid) parts))
    (sym (ap (λ (p : IdParts). p.gid) parts)) ids.0 ids.1)
