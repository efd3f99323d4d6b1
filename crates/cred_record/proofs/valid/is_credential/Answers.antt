use Rattle.std.proofs.Common.{arith, subst}
use Rattle.cred_record.specs.Words.{IsCredential}
use Rattle.cred_record.proofs.WordLemmas.{credential-test, ids-are, all-groups}
use Rattle.cred_record.proofs.valid.is_credential.Goals as goal

pub returns : goal.returns
returns c =
    let i = c.cred.inside in
    subst IsCredential c.cred.view_is (credential-test _ record {
      uid = ids-are i.uid c.are_ids.ensures;
      gid = ids-are i.gid c.are_ids-2.ensures;
      groups = all-groups i.groups c.are_groups.ensures;
      sets = record {
        perm = omega (arith, c.bits.ensures.value, c.bits.ensures.caps);
        inh = omega (arith, c.bits-2.ensures.value, c.bits-2.ensures.caps);
        eff = omega (arith, c.bits-3.ensures.value, c.bits-3.ensures.caps);
        bound = omega (arith, c.bits-4.ensures.value, c.bits-4.ensures.caps);
        amb = omega (arith, c.bits-5.ensures.value, c.bits-5.ensures.caps);
        valid = c.cred.invariant;
      };
      bits = omega (arith, c.number.ensures.value, c.number.ensures.small);
      ns = omega (arith, c.from.ensures, c.from.type_inv);
      root = omega (arith, c.number-2.ensures.value, c.number-2.ensures.id);
    })
