use Rattle.cred_plain.specs.declared.references.References.{References}
use Rattle.cred_machine.proofs.Forgetting.{forgets, keeps_referred}
use Rattle.cred_machine.proofs.Seen.{seen_state}
use Rattle.cred_machine.proofs.state.State.forget.Goals as goal

pub returns-clause-like : goal.returns-clause-like
returns-clause-like c =
    let r : References = record {
      tasks = c.items.result;
      files = c.deref.result;
      holds = c.deref-2.result;
      prepared = c.deref-3.result;
      deferred = c.deref-4.result;
    } in
    rw (← c.self.view_is)
    (forgets _ c.forget.new.self.list r
    (record {
      tasks = c.items.ensures;
      files = c.deref.ensures.value;
      holds = c.deref-2.ensures.value;
      prepared = c.deref-3.ensures.value;
      deferred = c.deref-4.ensures.value;
    })
    c.forget.ensures.slots c.forget.ensures.kept)

pub returns-clause-kept : goal.returns-clause-kept
returns-clause-kept c =
    let r : References = record {
      tasks = c.items.result;
      files = c.deref.result;
      holds = c.deref-2.result;
      prepared = c.deref-3.result;
      deferred = c.deref-4.result;
    } in
    keeps_referred (seen_state c.self.inside) c.forget.new.self.list r
    (record {
      tasks = c.items.ensures;
      files = c.deref.ensures.value;
      holds = c.deref-2.ensures.value;
      prepared = c.deref-3.ensures.value;
      deferred = c.deref-4.ensures.value;
    })
    c.forget.ensures.gone
