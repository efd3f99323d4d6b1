use Rattle.std.proofs.Common.{refl}
use Rattle.cred_tables.proofs.Bags.{bag-at}
use Rattle.cred_tables.proofs.InUse.{in_use-file}
use Rattle.cred_tables.proofs.Sealing.{kept_more}
use Rattle.cred_state.proofs.Seen.{seen_state}
use Rattle.cred_state.proofs.state.State.open_by.Goals as goal

pub invariant_of-self-2 : goal.invariant_of-self-2
invariant_of-self-2 c =
    let t = c.self.inside in
    let s = seen_state t in
    let used = rw (← c.self.view_is) at c.requires.used in
    rw c.in_ok-add.ensures.ok (
      kept_more c.self.invariant.0 c.in_ok-reserve.ensures.ok c.add-2.ensures.held c.add-2.ensures.table (in_use-file s _) refl
          (bag-at c.args.opener c.self.invariant.0.counted.counts used),
      c.self.invariant.1,
    )
