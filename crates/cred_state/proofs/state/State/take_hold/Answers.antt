use Rattle.std.proofs.Common.{refl, rules}
use Rattle.cred_tables.proofs.Bags.{bag-at}
use Rattle.cred_tables.proofs.InUse.{in_use-hold}
use Rattle.cred_tables.proofs.Sealing.{kept_more, referred_to}
use Rattle.cred_state.proofs.Seen.{seen_state}
use Rattle.cred_state.proofs.Reserved.{kept_spare}
use Rattle.cred_state.proofs.state.State.take_hold.Goals as goal

pub add-requires-clause-referred : goal.add-requires-clause-referred
add-requires-clause-referred c =
    let used = rw (← c.self.view_is) at c.requires in
    referred_to c.self.inside.slots c.reserve.new.self _ _ c.in_ok-reserve.ensures.ok (bag-at c.args.number c.self.invariant.0.counted.counts used)

pub invariant_of-self : goal.invariant_of-self
invariant_of-self c = rw c.in_err-reserve.ensures.err c.self.invariant

pub invariant_of-self-in_err-take : goal.invariant_of-self-in_err-take
invariant_of-self-in_err-take c = rw c.in_err-take.ensures.err (kept_spare c.self.invariant.0 c.in_ok-reserve.ensures.ok, c.self.invariant.1)

pub invariant_of-self-2 : goal.invariant_of-self-2
invariant_of-self-2 c =
    let t = c.self.inside in
    let s = seen_state t in
    let used = rw (← c.self.view_is) at c.requires in
    rw c.in_ok-take.ensures.ok (
      kept_more c.self.invariant.0 c.in_ok-reserve.ensures.ok c.add.ensures.held c.add.ensures.table (in_use-hold s _) refl
          (bag-at c.args.number c.self.invariant.0.counted.counts used),
      c.self.invariant.1,
    )

pub returns-clause-ok : goal.returns-clause-ok
returns-clause-ok c = search rules
