-- What execve(2) makes of the credential of a task, and what that gains (execve(2), inode(7);
-- capabilities(7), "Transformation of capabilities during execve()"). Root is that of the task's
-- user namespace, and `a` the capability attribute of the file, where the file has one that counts.
use Rattle.std.specs.Prelude.{ℕ, Bool, true, false, List, ◌&&◌, ◌||◌, not, Option, Some, None}
use Rattle.std.specs.Prelude.{Result, Ok, Err, if◌then◌else◌}
use Rattle.std.specs.Option.{is_some}
use Rattle.cred_ids.specs.declared.id.Ids4.{Ids4}
use Rattle.cred_caps.specs.declared.secure.Flag.TheVariants.{NoRoot, KeepCaps}
use Rattle.cred_caps.specs.Caps.{Caps, empty, full, union, meet, less, is_within}
use Rattle.cred_caps.specs.Secure.{is_set, with_secure_flag}
use Rattle.cred_record.specs.declared.gains.Gains.{Gains}
use Rattle.cred_record.specs.declared.want.Want.{Want}
use Rattle.cred_record.specs.Credential.{Credential, is_root}
use Rattle.cred_record.specs.File.{File}
use Rattle.cred_rules.specs.Access.{is_directory, may}
use Rattle.cred_rules.specs.Attribute.{Attribute, attribute_of, counts}
use Rattle.cred_rules.specs.Modes.{SET_USER, SET_GROUP, GROUP_EXECUTE, has_any}

-- the credential after an execve, and what its permitted set gained, by where that came from
pub record Executed : Type 0 where
  pub cred : Credential
  pub gains : Gains

-- why an execve is refused, in the order of the tests: EACCES for what is no file that the task may
-- execute, EINVAL for an attribute whose bytes spell nothing, and EPERM for a file that would not
-- give all that it promises
pub data NoExec : Type 0 where
  MayNotExecute : NoExec
  SpellsNothing : NoExec
  GivesTooLittle : NoExec

-- ---- the file

-- to execute, and nothing else
abbrev pub TO_EXECUTE : Want
TO_EXECUTE = record { r = false; w = false; x = true }

-- the file is a regular one, and the task may execute it (execve(2), EACCES)
abbrev pub may_execute : Credential → File → Bool
may_execute c f = not (is_directory f.kind) && may c f TO_EXECUTE

-- the set-id bits and the attribute of the file have effect: under no_new_privs, and where the file
-- system is mounted nosuid, they are ignored (execve(2))
abbrev pub has_effect : Credential → File → Bool
has_effect c f = not c.nnp && not f.nosuid

-- the set-user-ID bit is in force
abbrev pub sets_user : Credential → File → Bool
sets_user c f = has_effect c f && has_any f.mode SET_USER

-- the set-group-ID bit is in force: without the execute bit of the group it stands for mandatory
-- locking (inode(7))
abbrev pub sets_group : Credential → File → Bool
sets_group c f =
    has_effect c f && has_any f.mode SET_GROUP && has_any f.mode GROUP_EXECUTE

-- an attribute, if it counts for a task whose user namespace and its ancestors have these root ids
abbrev pub if_counts : List ℕ → Attribute → Option Attribute
if_counts chain a = if counts a chain then Some a else None

-- what bytes spell, if it counts; or that they spell nothing
abbrev pub read_by : List ℕ → Option Attribute → Result (Option Attribute) NoExec
read_by chain (Some a) = Ok (if_counts chain a)
read_by chain None = Err SpellsNothing

-- the attribute in these bytes, if there are any
abbrev pub attribute_in : List ℕ → Option (List ℕ) → Result (Option Attribute) NoExec
attribute_in chain (Some bytes) = read_by chain (attribute_of bytes)
attribute_in chain None = Ok None

-- the attribute that counts for the task, if the file has one. One that has no effect is not read,
-- whatever its bytes are
unfoldable pub attribute_for : Credential → File → List ℕ → Result (Option Attribute) NoExec
attribute_for c f chain = if has_effect c f then attribute_in chain f.attr else Ok None

-- ---- the ids

-- the effective user id becomes the owner of the file, if its set-user-ID bit is in force
-- (execve(2))
abbrev pub user_after : Credential → File → ℕ
user_after c f = if sets_user c f then f.owner else c.uid.effective

-- the effective group id becomes the group of the file, if its set-group-ID bit is in force
-- (execve(2))
abbrev pub group_after : Credential → File → ℕ
group_after c f = if sets_group c f then f.group else c.gid.effective

-- then the effective id is copied to the saved id (execve(2)) and to the filesystem id
-- (security/commoncap.c of Linux). The real id stays
abbrev pub ids_after : Ids4 → ℕ → Ids4
ids_after ids effective = record {
  real = ids.real;
  effective = effective;
  saved = effective;
  fs = effective;
}

-- ---- the sets of the file

-- F(permitted), F(inheritable) and F(effective): the permitted and inheritable sets of the file,
-- and its effective flag
pub record FileSets : Type 0 where
  pub perm : Caps
  pub inh : Caps
  pub effective : Bool

-- they are those of the attribute. Without one they are empty, and the flag is unset
abbrev pub sets_of : Option Attribute → FileSets
sets_of (Some a) = record { perm = a.perm; inh = a.inh; effective = a.effective }
sets_of None = record { perm = empty; inh = empty; effective = false }

-- (P(inheritable) & F(inheritable)) | (F(permitted) & P(bounding)): what the file makes permitted
abbrev pub given_by : Credential → FileSets → Caps
given_by c s = union (meet c.inh s.inh) (meet s.perm c.bound)

-- a file with the effective flag has to give all of its permitted set (capabilities(7), "Safety
-- checking for capability-dumb binaries"). The test is of the file's own sets, also for root
-- (security/commoncap.c of Linux)
abbrev pub gives_all : Credential → Option Attribute → Bool
gives_all c a = not (sets_of a).effective || is_within (sets_of a).perm (given_by c (sets_of a))

-- ---- the rule for root (capabilities(7), "Capabilities and execution of programs by root")

-- the exception: the file has an attribute, the real user id is not root, and the effective one is
-- ("Set-user-ID-root programs that have file capabilities"). It asks for the ids alone, whether or
-- not the set-user-ID bit made the effective one
abbrev pub honors_file : Credential → File → Option Attribute → Bool
honors_file c f a = is_some a && not (is_root c c.uid.real) && is_root c (user_after c f)

-- the rule applies: the real or the new effective user id is root, NOROOT is unset ("The securebits
-- flags"), and this is not the exception
abbrev pub is_by_root : Credential → File → Option Attribute → Bool
is_by_root c f a =
    not (is_set c.bits NoRoot) &&
    (is_root c c.uid.real || is_root c (user_after c f)) &&
    not (honors_file c f a)

-- the sets of the file as the call takes them: by the rule both are full, and the flag is set if
-- the new effective user id is root
abbrev pub sets_taken : Credential → File → Option Attribute → FileSets
sets_taken c f a =
    if is_by_root c f a then record {
      perm = full;
      inh = full;
      effective = (sets_of a).effective || is_root c (user_after c f);
    }
    else sets_of a

-- ---- the sets of the task

-- the file is privileged: it has an attribute, also one with empty sets, or a set-id bit that is in
-- force
abbrev pub is_privileged : Credential → File → Option Attribute → Bool
is_privileged c f a = is_some a || sets_user c f || sets_group c f

-- P'(ambient) = (file is privileged) ? 0 : P(ambient)
abbrev pub amb_after : Credential → File → Option Attribute → Caps
amb_after c f a = if is_privileged c f a then empty else c.amb

-- what no_new_privs leaves of a permitted set: execve grants nothing that the task could not do
-- before (prctl(2), PR_SET_NO_NEW_PRIVS)
abbrev pub limited : Credential → Caps → Caps
limited c s = if c.nnp then meet s c.perm else s

-- P'(permitted) = (P(inheritable) & F(inheritable)) | (F(permitted) & P(bounding)) | P'(ambient)
abbrev pub perm_after : Credential → File → Option Attribute → Caps
perm_after c f a = limited c (union (given_by c (sets_taken c f a)) (amb_after c f a))

-- P'(effective) = F(effective) ? P'(permitted) : P'(ambient)
abbrev pub eff_after : Credential → File → Option Attribute → Caps
eff_after c f a = if (sets_taken c f a).effective then perm_after c f a else amb_after c f a

-- the credential after the call. KEEP_CAPS is cleared, and every other securebit stays ("The
-- securebits flags"). P'(inheritable) = P(inheritable), P'(bounding) = P(bounding), and all else
-- stays
unfoldable pub after_exec : Credential → File → Option Attribute → Credential
after_exec c f a =
    record c {
      uid = ids_after c.uid (user_after c f);
      gid = ids_after c.gid (group_after c f);
      perm = perm_after c f a;
      eff = eff_after c f a;
      amb = amb_after c f a;
      bits = with_secure_flag c.bits KeepCaps false;
    }

-- ---- what is gained

-- what is permitted that was not
abbrev pub gained : Credential → File → Option Attribute → Caps
gained c f a = less (perm_after c f a) c.perm

-- what F(permitted) & P(bounding) gave of it
abbrev pub gained_by_file : Credential → File → Option Attribute → Caps
gained_by_file c f a = meet (gained c f a) (meet (sets_of a).perm c.bound)

-- where the rule for root applies, all of it comes by that. Else it comes from the permitted set of
-- the file, and the rest of it from the inheritable set
unfoldable pub gains_of : Credential → File → Option Attribute → Gains
gains_of c f a =
    if is_by_root c f a then record {
      file = empty;
      inherit = empty;
      root = gained c f a;
    }
    else record {
      file = gained_by_file c f a;
      inherit = less (gained c f a) (gained_by_file c f a);
      root = empty;
    }

-- ---- the call

-- what the file makes of the task, once its attribute is read; or why it is refused
abbrev pub executed : Credential → File → Option Attribute → Result Executed NoExec
executed c f a =
    if gives_all c a then Ok (record { cred = after_exec c f a; gains = gains_of c f a })
    else Err GivesTooLittle

-- the same; or, where the attribute can't be read, that refusal
abbrev pub executed_by
    : Credential → File → Result (Option Attribute) NoExec → Result Executed NoExec
executed_by c f (Ok a) = executed c f a
executed_by c f (Err e) = Err e

-- the credential of a task after the execve of a file, and what that gains; or why it is refused.
-- `chain` has the root ids of the task's user namespace and of its ancestors
unfoldable pub exec : Credential → File → List ℕ → Result Executed NoExec
exec c f chain =
    if may_execute c f then executed_by c f (attribute_for c f chain)
    else Err MayNotExecute
