use Rattle.std.proofs.Common.{◌==◌, ◌/◌, ◌^◌, slice_index}
use Rattle.std.proofs.lemmas.Option.{same_Some}
use Rattle.cred_record.specs.Words.{credential_in}
use Rattle.cred_record.specs.declared.layout.TheConstants.{FLAGS}
use Rattle.cred_record.proofs.WordLemmas.{head-facts, none-is, last_bit}
use Rattle.cred_packed.proofs.reading.cred_in.Goals as goal

pub returns-in_err-ids_in-clause-none : goal.returns-in_err-ids_in-clause-none
returns-in_err-ids_in-clause-none c = none-is _ c.args.head.now (λ is. c.in_err-ids_in.ensures (head-facts c.args.head.now is).uid)

pub returns-in_err-ids_in-2-clause-none : goal.returns-in_err-ids_in-2-clause-none
returns-in_err-ids_in-2-clause-none c = none-is _ c.args.head.now (λ is. c.in_err-ids_in-2.ensures (head-facts c.args.head.now is).gid)

pub returns-in_err-namespace_in-clause-none : goal.returns-in_err-namespace_in-clause-none
returns-in_err-namespace_in-clause-none c = none-is _ c.args.head.now (λ is. c.in_err-namespace_in.ensures (head-facts c.args.head.now is).ns)

pub returns-in_err-root_in-clause-none : goal.returns-in_err-root_in-clause-none
returns-in_err-root_in-clause-none c = none-is _ c.args.head.now (λ is. c.in_err-root_in.ensures (head-facts c.args.head.now is).root)

pub returns-clause-some : goal.returns-clause-some
unfolding credential_in
returns-clause-some c k =
    let sets = c.in_ok-sets.ensures.some in
    record {
      uid = c.in_ok-ids_in.ensures.1 k;
      gid = c.in_ok-ids_in-2.ensures.1 k;
      groups = c.groups.view_is k;
      perm = sets.perm_is k;
      inh = sets.inh_is k;
      eff = sets.eff_is k;
      bound = sets.bound_is k;
      amb = sets.amb_is k;
      bits = same_Some _ _ c.in_ok-bits_in.ensures k;
      nnp = (last_bit (slice_index c.args.head.now FLAGS / 2 ^ 8) k == 1);
      ns = c.in_ok-namespace_in.ensures.1 k;
      root = c.in_ok-root_in.ensures.1 k;
    }
