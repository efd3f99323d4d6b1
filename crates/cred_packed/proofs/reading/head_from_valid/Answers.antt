use Rattle.std.proofs.Common.{◌==◌, ◌/◌, ◌^◌, slice_index, sym, ◌∙◌, arith}
use Rattle.cred_caps.specs.Caps.{meet}
use Rattle.cred_record.specs.Words.{credential_in}
use Rattle.cred_record.specs.declared.layout.TheConstants.{FLAGS, NAMESPACE}
use Rattle.cred_record.proofs.WordLemmas.{head-facts, last_bit}
use Rattle.cred_packed.proofs.reading.head_from_valid.Goals as goal

pub ids_from_valid_words-requires : goal.ids_from_valid_words-requires
ids_from_valid_words-requires c = (head-facts c.args.head.now c.requires).uid

pub ids_from_valid_words-requires-2 : goal.ids_from_valid_words-requires-2
ids_from_valid_words-requires-2 c = (head-facts c.args.head.now c.requires).gid

pub from_valid-requires : goal.from_valid-requires
from_valid-requires c = (head-facts c.args.head.now c.requires).perm

pub from_valid-requires-2 : goal.from_valid-requires-2
from_valid-requires-2 c = (head-facts c.args.head.now c.requires).inh

pub from_valid-requires-3 : goal.from_valid-requires-3
from_valid-requires-3 c = (head-facts c.args.head.now c.requires).eff

pub from_valid-requires-4 : goal.from_valid-requires-4
from_valid-requires-4 c = (head-facts c.args.head.now c.requires).bound

pub from_valid-requires-5 : goal.from_valid-requires-5
from_valid-requires-5 c = (head-facts c.args.head.now c.requires).amb

pub overflow_cast-result : goal.overflow_cast-result
overflow_cast-result c = let fact = (head-facts c.args.head.now c.requires).ns in omega arith

pub overflow_cast-head : goal.overflow_cast-head
overflow_cast-head c = let fact = (head-facts c.args.head.now c.requires).root in omega arith

pub from_valid-requires-6 : goal.from_valid-requires-6
from_valid-requires-6 c = (head-facts c.args.head.now c.requires).root

pub invariant_of-result : goal.invariant_of-result
invariant_of-result c =
    let valid = (head-facts c.args.head.now c.requires).valid in
    let perm = c.from_valid.ensures in
    let inh = c.from_valid-2.ensures in
    let eff = c.from_valid-3.ensures in
    let amb = c.from_valid-5.ensures in
    record {
      effective = (λ k. meet (eff k) (perm k)) ∙ valid.effective ∙ sym eff;
      ambient = (λ k. meet (amb k) (perm k)) ∙ valid.ambient ∙ sym amb;
      inheritable = (λ k. meet (amb k) (inh k)) ∙ valid.inheritable ∙ sym amb;
    }

pub returns : goal.returns
unfolding credential_in
returns c k = record {
  uid = c.ids_from_valid_words.ensures k;
  gid = c.ids_from_valid_words-2.ensures k;
  groups = c.args.groups;
  perm = c.from_valid.ensures k;
  inh = c.from_valid-2.ensures k;
  eff = c.from_valid-3.ensures k;
  bound = c.from_valid-4.ensures k;
  amb = c.from_valid-5.ensures k;
  bits = c.secure_bits.ensures k;
  nnp = (last_bit (slice_index c.args.head.now FLAGS / 2 ^ 8) k == 1);
  ns = slice_index c.args.head.now NAMESPACE;
  root = c.from_valid-6.ensures k;
}
