-- The credential of a task (credentials(7), capabilities(7)).
use Rattle.std.specs.Prelude.{ℕ, List, [], Bool, false, ◌==◌, if◌then◌else◌}
use Rattle.cred_ids.specs.declared.id.Ids4.{Ids4}
use Rattle.cred_ids.specs.Ids4.{all_four}
use Rattle.cred_caps.specs.Caps.{Caps, empty, full, has, IsWithin}

-- user ids and group ids, the sorted supplementary groups, the permitted, inheritable, effective,
-- bounding and ambient sets, the securebits, no_new_privs, the number of the user namespace, and
-- root's user id there
pub record Credential : Type 0 where
  pub uid : Ids4
  pub gid : Ids4
  pub groups : List ℕ
  pub perm : Caps
  pub inh : Caps
  pub eff : Caps
  pub bound : Caps
  pub amb : Caps
  pub bits : ℕ
  pub nnp : Bool
  pub ns : ℕ
  pub root : ℕ

-- no capability is effective that is not permitted, and none ambient that is not permitted and
-- inheritable (capabilities(7), "Thread capability sets")
pub record AreValidSets (perm inh eff amb : Caps) : Type 0 where
  pub effective : IsWithin eff perm
  pub ambient : IsWithin amb perm
  pub inheritable : IsWithin amb inh

-- the user id is root's, from and to which a change moves capabilities: root of the user namespace
-- that the task is in, and of no other (user_namespaces(7), "Capabilities")
abbrev pub is_root : Credential → ℕ → Bool
is_root c user = user == c.root

-- the task has capability n, as a check of its rights asks: it is in the effective set
-- (capabilities(7), "Thread capability sets")
abbrev pub capable : Credential → ℕ → Bool
capable c n = has c.eff n

-- what a first task has in a namespace where root has this user id: root's permitted and effective
-- sets are full, any other user's are empty, and the bounding set is full
abbrev pub first_credential : (user group ns root : ℕ) → Credential
first_credential user group ns root = record {
  uid = all_four user;
  gid = all_four group;
  groups = [];
  perm = if user == root then full else empty;
  inh = empty;
  eff = if user == root then full else empty;
  bound = full;
  amb = empty;
  bits = 0;
  nnp = false;
  ns = ns;
  root = root;
}
