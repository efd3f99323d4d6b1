-- What a change of the user ids does to the capability sets (capabilities(7), "Effect of user ID
-- changes on capabilities" and "The securebits flags"). Root is that of the task's user namespace.
use Rattle.std.specs.Prelude.{Bool, ◌&&◌, ◌||◌, not, if◌then◌else◌}
use Rattle.cred_ids.specs.declared.id.Ids4.{Ids4}
use Rattle.cred_caps.specs.declared.secure.Flag.TheVariants.{NoSetuidFixup, KeepCaps}
use Rattle.cred_caps.specs.Caps.{empty}
use Rattle.cred_caps.specs.Secure.{is_set}
use Rattle.cred_record.specs.Credential.{Credential, is_root}

-- the real, the effective or the saved id is root
abbrev pub has_root : Credential → Ids4 → Bool
has_root c ids = is_root c ids.real || is_root c ids.effective || is_root c ids.saved

-- one of the old three was root, and none of the new three is
abbrev pub loses_root : Credential → Ids4 → Bool
loses_root c new = has_root c c.uid && not (has_root c new)

-- the effective id was root and no longer is
abbrev pub leaves_root : Credential → Ids4 → Bool
leaves_root c new = is_root c c.uid.effective && not (is_root c new.effective)

-- the effective id was not root and now is
abbrev pub enters_root : Credential → Ids4 → Bool
enters_root c new = not (is_root c c.uid.effective) && is_root c new.effective

-- the permitted set is cleared: the task loses root, and KEEP_CAPS is unset
abbrev pub clears_permitted : Credential → Ids4 → Bool
clears_permitted c new = loses_root c new && not (is_set c.bits KeepCaps)

-- these user ids, and the sets as Linux fixes them: losing root clears the permitted and the
-- effective set unless KEEP_CAPS is set, and the ambient set in any case; an effective id that
-- leaves root clears the effective set, and one that becomes root makes it the permitted set
abbrev pub fixed : Credential → Ids4 → Credential
fixed c new =
    let perm = if clears_permitted c new then empty else c.perm in
    record c {
      uid = new;
      perm = perm;
      amb = if loses_root c new then empty else c.amb;
      eff =
          if clears_permitted c new || leaves_root c new then empty
          else if enters_root c new then perm
          else c.eff;
    }

-- the credential after a call that sets user ids: NO_SETUID_FIXUP leaves the sets alone
unfoldable pub with_user_ids : Credential → Ids4 → Credential
with_user_ids c new = if is_set c.bits NoSetuidFixup then record c { uid = new } else fixed c new
