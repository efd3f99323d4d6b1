-- What a task may do to a file and to another task (path_resolution(7), access(2), kill(2),
-- capabilities(7)), and the credential that access(2) asks by.
use Rattle.std.specs.Prelude.{ℕ, ◌+◌, Bool, true, false, ◌==◌, ◌&&◌, ◌||◌, not, if◌then◌else◌}
use Rattle.std.specs.List.{list_any}
use Rattle.cred_ids.specs.declared.id.Ids4.{Ids4}
use Rattle.cred_caps.specs.declared.secure.Flag.TheVariants.{NoSetuidFixup}
use Rattle.cred_caps.specs.Caps.{Caps, empty}
use Rattle.cred_caps.specs.Numbers.{DAC_OVERRIDE, DAC_READ_SEARCH, KILL}
use Rattle.cred_caps.specs.Secure.{is_set}
use Rattle.cred_record.specs.declared.file.FileKind.{FileKind}
use Rattle.cred_record.specs.declared.file.FileKind.TheVariants.{Regular, Directory}
use Rattle.cred_record.specs.declared.want.Want.{Want}
use Rattle.cred_record.specs.Credential.{Credential, capable, is_root}
use Rattle.cred_record.specs.File.{File}
use Rattle.cred_rules.specs.Bits.{has_bit}

-- the place of the execute bit of a class in a mode: the owner's, the group's and the others'. The
-- class's write bit is the next, its read bit the one after (inode(7), "The file type and mode")
abbrev pub OWNER : ℕ
OWNER = 6

abbrev pub GROUP : ℕ
GROUP = 3

abbrev pub OTHERS : ℕ
OTHERS = 0

-- what a mode permits the class that has its execute bit at this place
abbrev pub permits : ℕ → ℕ → Want
permits mode place = record {
  r = has_bit mode (place + 2);
  w = has_bit mode (place + 1);
  x = has_bit mode place;
}

-- the task is in the group: it is the filesystem group or a supplementary one
abbrev pub in_group : Credential → ℕ → Bool
in_group c group = (c.gid.fs == group) || list_any (λ g. g == group) c.groups

-- the class whose bits decide, by its place: the owner's for the owner, whatever groups it is in;
-- else the group's for a member of the group; else the others' (path_resolution(7), "Permissions")
abbrev pub class_of : Credential → File → ℕ
class_of c f =
    if c.uid.fs == f.owner then OWNER
    else if in_group c f.group then GROUP
    else OTHERS

-- all that is asked for is permitted
abbrev pub is_asked_within : Want → Want → Bool
is_asked_within asked permitted =
    (not asked.r || permitted.r) && (not asked.w || permitted.w) && (not asked.x || permitted.x)

-- the bits of the one class permit all that is asked for
abbrev pub bits_permit : Credential → File → Want → Bool
bits_permit c f asked = is_asked_within asked (permits f.mode (class_of c f))

abbrev pub is_directory : FileKind → Bool
is_directory Directory = true
is_directory Regular = false

-- one of the three execute bits is set
abbrev pub has_execute_bit : ℕ → Bool
has_execute_bit mode = has_bit mode OWNER || has_bit mode GROUP || has_bit mode OTHERS

-- CAP_DAC_OVERRIDE bypasses the bits, but not for the execution of a file that nobody may execute
-- (path_resolution(7), "Bypassing permission checks: superuser and capabilities"; for directories,
-- which may always be searched, Linux's fs/namei.c)
abbrev pub override_passes : File → Want → Bool
override_passes f asked = is_directory f.kind || not asked.x || has_execute_bit f.mode

-- reading alone is asked for
abbrev pub is_read : Want → Bool
is_read asked = asked.r && not asked.w && not asked.x

-- CAP_DAC_READ_SEARCH bypasses them for the reading of any file, and for the reading and searching
-- of directories (capabilities(7))
abbrev pub read_search_passes : File → Want → Bool
read_search_passes f asked = is_read asked || is_directory f.kind && not asked.w

-- the task may do to the file all that it asks for: the bits permit all of it, or one of two
-- capabilities bypasses them for all of it (path_resolution(7)). What each of the three permits
-- isn't added up (Linux's fs/namei.c)
abbrev pub may : Credential → File → Want → Bool
may c f asked =
    bits_permit c f asked ||
    capable c DAC_OVERRIDE && override_passes f asked ||
    capable c DAC_READ_SEARCH && read_search_passes f asked

-- user id n owns a task with these user ids: it is the real or the saved one (kill(2))
abbrev pub owns_task : ℕ → Ids4 → Bool
owns_task n target = (target.real == n) || (target.saved == n)

-- a task may send a signal to any other with CAP_KILL, and without it where its real or its
-- effective user id owns the target (kill(2)); within one process (`same`) it always may (Linux's
-- kernel/signal.c, check_kill_permission)
abbrev pub may_signal : Credential → Credential → Bool → Bool
may_signal from to same =
    same ||
    capable from KILL ||
    owns_task from.uid.real to.uid ||
    owns_task from.uid.effective to.uid

-- the effective set that access(2) asks by: the permitted set for root, and no capability for any
-- other, by the real user id (access(2)); with NO_SETUID_FIXUP the task's own (Linux's fs/open.c)
abbrev pub access_effective : Credential → Caps
access_effective c =
    if is_set c.bits NoSetuidFixup then c.eff
    else if is_root c c.uid.real then c.perm
    else empty

-- the credential that access(2) asks by: files are reached by the real ids
unfoldable pub access_credential : Credential → Credential
access_credential c =
    record c {
      uid = record c.uid { fs = c.uid.real };
      gid = record c.gid { fs = c.gid.real };
      eff = access_effective c;
    }
