use Rattle.cred_state.proofs.state.State.read_seen.Goals as goal

pub returns-clause-seen : goal.returns-clause-seen
returns-clause-seen c =
    let parts = c.read_parts-parts.ensures.parts.0 in
    let ns = rw c.read_parts-parts.ensures.same at c.read_ns-ns.ensures.ns in
    λ i. record {
      uid = (parts i).uid;
      gid = (parts i).gid;
      perm = (parts i).perm;
      eff = (parts i).eff;
      ns = ns i;
    }
