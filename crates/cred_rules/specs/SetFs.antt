-- The calls that set the filesystem ids (setfsuid(2), setfsgid(2); for the sets capabilities(7),
-- "Effect of user ID changes on capabilities").
use Rattle.std.specs.Prelude.{ℕ, Bool, List, [], ◌∷◌, ◌==◌, ◌&&◌, ◌||◌, not, if◌then◌else◌}
use Rattle.std.specs.List.{list_any}
use Rattle.cred_ids.specs.declared.id.Ids4.{Ids4}
use Rattle.cred_ids.specs.declared.id.Kind.{Kind}
use Rattle.cred_ids.specs.declared.id.Kind.TheVariants.{User, Group}
use Rattle.cred_ids.specs.declared.arg.Arg.{Arg}
use Rattle.cred_ids.specs.declared.arg.Arg.TheVariants.{Keep, Set}
use Rattle.cred_caps.specs.declared.secure.Flag.TheVariants.{NoSetuidFixup}
use Rattle.cred_caps.specs.Caps.{Caps, union, meet, less, caps_of}
use Rattle.cred_caps.specs.Numbers.{CHOWN, DAC_OVERRIDE, DAC_READ_SEARCH, FOWNER, FSETID, SETGID}
use Rattle.cred_caps.specs.Numbers.{SETUID, LINUX_IMMUTABLE, MKNOD, MAC_OVERRIDE}
use Rattle.cred_caps.specs.Secure.{is_set}
use Rattle.cred_record.specs.Credential.{Credential, capable, is_root}

-- the eight capabilities that act on files, as capabilities(7) lists them there
abbrev pub FILE_CAPS : Caps
FILE_CAPS =
    caps_of
    (CHOWN ∷
    DAC_OVERRIDE ∷
    DAC_READ_SEARCH ∷
    FOWNER ∷
    FSETID ∷
    LINUX_IMMUTABLE ∷
    MKNOD ∷
    MAC_OVERRIDE ∷
    [])

-- the ids that a caller without the capability may make its filesystem id
abbrev pub own_ids : Ids4 → List ℕ
own_ids ids = ids.real ∷ ids.effective ∷ ids.saved ∷ ids.fs ∷ []

-- the filesystem id after the call, where `able` says whether the caller has the capability: the id
-- that is given, where the caller may have it, else the old one
abbrev pub fs_after : Bool → Ids4 → Arg → ℕ
fs_after able ids Keep = ids.fs
fs_after able ids (Set n) = if able || list_any (λ id. id == n) (own_ids ids) then n else ids.fs

-- the effective set after the filesystem user id went from old to new: leaving root takes the eight
-- out of it, and becoming root adds those of the eight that are permitted
abbrev pub fs_effective : Credential → ℕ → ℕ → Caps
fs_effective c old new =
    if is_root c old && not (is_root c new) then less c.eff FILE_CAPS
    else if not (is_root c old) && is_root c new then union c.eff (meet FILE_CAPS c.perm)
    else c.eff

-- the credential with this filesystem user id: NO_SETUID_FIXUP leaves the effective set alone
abbrev pub with_fs_user : Credential → ℕ → Credential
with_fs_user c n =
    record c {
      uid = record c.uid { fs = n };
      eff = if is_set c.bits NoSetuidFixup then c.eff else fs_effective c c.uid.fs n;
    }

-- the credential after setfsuid(2) or setfsgid(2), which are never refused
abbrev pub set_fs : Credential → Kind → Arg → Credential
set_fs c User a = with_fs_user c (fs_after (capable c SETUID) c.uid a)
set_fs c Group a = record c { gid = record c.gid { fs = fs_after (capable c SETGID) c.gid a } }

-- what they answer: the filesystem id before the call
abbrev pub old_fs : Credential → Kind → ℕ
old_fs c User = c.uid.fs
old_fs c Group = c.gid.fs
