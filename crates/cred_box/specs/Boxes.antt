-- Bounds of what a task may have that no call leads out of (capabilities(7), credentials(7)).
use Rattle.std.specs.Prelude.{◌≡◌, ◌==◌, ℕ, Bool, true, false, List, Some, Ok, if◌then◌else◌}
use Rattle.std.specs.List.{list_any}
use Rattle.cred_ids.specs.declared.arg.Arg.{Arg}
use Rattle.cred_ids.specs.declared.id.Kind.{Kind}
use Rattle.cred_caps.specs.declared.secure.Flag.TheVariants.{NoRoot}
use Rattle.cred_caps.specs.Caps.{Caps, has, union, meet, IsWithin}
use Rattle.cred_caps.specs.Numbers.{SETUID, SETPCAP}
use Rattle.cred_caps.specs.Secure.{is_set, is_locked}
use Rattle.cred_record.specs.declared.adj_call.AdjCall.{AdjCall}
use Rattle.cred_record.specs.declared.id_call.IdCall.{IdCall}
use Rattle.cred_record.specs.Credential.{Credential, AreValidSets}
use Rattle.cred_record.specs.File.{File}
use Rattle.cred_rules.specs.Adjust.{adjust}
use Rattle.cred_rules.specs.Attribute.{Attribute}
use Rattle.cred_rules.specs.Exec.{attribute_in, exec, Executed}
use Rattle.cred_rules.specs.Modes.{SET_USER, has_any}
use Rattle.cred_rules.specs.SetFs.{set_fs}
use Rattle.cred_rules.specs.SetId.{set_id}

-- the id is in the list
abbrev pub is_in : List ℕ → ℕ → Bool
is_in ids id = list_any (λ n. n == id) ids

-- What a credential of this user namespace, whose root has this id, may have at most: these ids as
-- the real, the effective and the saved user id, and these as the filesystem user id; these sets;
-- where `nnp` holds it has no_new_privs, and where `rooted` doesn't hold SECBIT_NOROOT is set, so
-- that an execve gives root nothing.
pub record Box : Type 0 where
  pub ns : ℕ
  pub root : ℕ
  pub users : List ℕ
  pub fs : List ℕ
  pub perm : Caps
  pub inh : Caps
  pub bound : Caps
  pub nnp : Bool
  pub rooted : Bool

-- The credential has no more than the box. Groups are not bounded, nor is the effective or the
-- ambient set: they are within the permitted one.
pub record IsIn (box : Box) (c : Credential) : Type 0 where
  pub ns : c.ns ≡ box.ns
  pub root : c.root ≡ box.root
  pub real : is_in box.users c.uid.real ≡ true
  pub effective : is_in box.users c.uid.effective ≡ true
  pub saved : is_in box.users c.uid.saved ≡ true
  pub fs : is_in box.fs c.uid.fs ≡ true
  pub perm : IsWithin c.perm box.perm
  pub inh : IsWithin c.inh box.inh
  pub bound : IsWithin c.bound box.bound
  pub nnp : box.nnp ≡ true → c.nnp ≡ true
  pub noroot : box.rooted ≡ false → is_set c.bits NoRoot ≡ true
  -- the flag can't be unset: by whoever may set securebits it is locked
  pub locked : box.rooted ≡ false → has box.perm SETPCAP ≡ true → is_locked c.bits NoRoot ≡ true

-- No call but an execve leads out of the box: nobody in it has CAP_SETUID; each user id may become
-- the filesystem one; the inheritable set has what capset(2) may give it; and where an execve may
-- make root, the permitted set has all that this gives.
pub record IsTight (box : Box) : Type 0 where
  pub no_setuid : has box.perm SETUID ≡ false
  pub fs_has : (user : ℕ) → is_in box.users user ≡ true → is_in box.fs user ≡ true
  pub capset_gives : IsWithin
      (if has box.perm SETPCAP then box.bound else meet box.bound box.perm) box.inh
  pub root_gives : box.nnp ≡ false → box.rooted ≡ true → is_in box.users box.root ≡ true
      → IsWithin (union box.bound box.inh) box.perm

-- Nor does an execve of this file, in a namespace with this chain of root ids: where its set-id
-- bits and its attribute count, its owner is one of the users if it is set-user-ID, and its
-- attribute permits no more than the box.
pub record LeavesIn (box : Box) (chain : List ℕ) (f : File) : Type 0 where
  pub owner : box.nnp ≡ false → f.nosuid ≡ false → has_any f.mode SET_USER ≡ true
      → is_in box.users f.owner ≡ true
  pub sets : box.nnp ≡ false → f.nosuid ≡ false → (a : Attribute)
      → attribute_in chain f.attr ≡ Ok (Some a)
      → IsWithin (union (meet a.perm box.bound) (meet a.inh box.inh)) box.perm

-- ---- what no rule leads out of

-- an id call (setuid(2), setresuid(2), ..)
abbrev pub IdCallsLeaveIn : Type 0
IdCallsLeaveIn =
    (box : Box) (c d : Credential) (call : IdCall) → IsTight box → IsIn box c
    → AreValidSets c.perm c.inh c.eff c.amb → set_id c call ≡ Ok d → IsIn box d

-- setfsuid(2) and setfsgid(2), which are never refused
abbrev pub FsCallsLeaveIn : Type 0
FsCallsLeaveIn =
    (box : Box) (c : Credential) (kind : Kind) (a : Arg) → IsTight box → IsIn box c
    → AreValidSets c.perm c.inh c.eff c.amb → IsIn box (set_fs c kind a)

-- capset(2) and the calls of prctl(2)
abbrev pub AdjustsLeaveIn : Type 0
AdjustsLeaveIn =
    (box : Box) (c d : Credential) (call : AdjCall) → IsTight box → IsIn box c
    → AreValidSets c.perm c.inh c.eff c.amb → adjust c call ≡ Ok d → IsIn box d

-- execve(2) of a file that leaves in the box
abbrev pub ExecvesLeaveIn : Type 0
ExecvesLeaveIn =
    (box : Box) (c : Credential) (f : File) (chain : List ℕ) (e : Executed)
    → IsTight box → IsIn box c → AreValidSets c.perm c.inh c.eff c.amb
    → LeavesIn box chain f → exec c f chain ≡ Ok e → IsIn box e.cred
