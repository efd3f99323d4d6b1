-- What changes a file: chown(2), chmod(2), and setxattr(2) and removexattr(2) of its capability
-- attribute. Each says what becomes of the file, or why the call is refused: the tests stand in the
-- order in which they are made.
use Rattle.std.specs.Prelude.{ℕ, Bool, true, false, ◌==◌, ◌&&◌, ◌||◌, not, List, Option, Some, None}
use Rattle.std.specs.Prelude.{Result, Ok, Err, if◌then◌else◌, is_some}
use Rattle.cred_caps.specs.Numbers.{CHOWN, FOWNER, FSETID, SETFCAP}
use Rattle.cred_ids.specs.declared.arg.Arg.{Arg}
use Rattle.cred_ids.specs.declared.arg.Arg.TheVariants.{Keep, Set}
use Rattle.cred_record.specs.declared.file.FileKind.{FileKind}
use Rattle.cred_record.specs.declared.file.FileKind.TheVariants.{Regular, Directory}
use Rattle.cred_record.specs.declared.refusal.Denial.{Denial}
use Rattle.cred_record.specs.declared.refusal.Denial.TheVariants.{Perm, Invalid}
use Rattle.cred_record.specs.Credential.{Credential, capable}
use Rattle.cred_record.specs.File.{File}
use Rattle.cred_rules.specs.Access.{in_group}
use Rattle.cred_rules.specs.SetId.{is_given}
use Rattle.cred_rules.specs.Attribute.{attribute_of}
use Rattle.cred_rules.specs.Modes.{SET_USER, SET_GROUP, GROUP_EXECUTE, EXECUTE, has_any}
use Rattle.cred_rules.specs.Modes.{without_bits}

-- ---- chown(2)

-- "If the owner or group is specified as -1, then that ID is not changed."
abbrev pub chosen : ℕ → Arg → ℕ
chosen old Keep = old
chosen old (Set id) = id

-- an owner or a group is given
abbrev pub gives_one : Arg → Arg → Bool
gives_one owner group = is_given owner || is_given group

-- the task is the file's owner
abbrev pub owns_file : Credential → File → Bool
owns_file c f = f.owner == c.uid.fs

-- the owner stays as it is
abbrev pub keeps_owner : File → Arg → Bool
keeps_owner f owner = chosen f.owner owner == f.owner

-- the group stays as it is, or is one that the task is in
abbrev pub takes_group : Credential → File → Arg → Bool
takes_group c f Keep = true
takes_group c f (Set id) = (id == f.group) || in_group c id

-- "The owner of a file may change the group of the file to any group of which that owner is a
-- member."
abbrev pub may_as_owner : Credential → File → Arg → Arg → Bool
may_as_owner c f owner group = owns_file c f && keeps_owner f owner && takes_group c f group

-- "Only a privileged process (Linux: one with the CAP_CHOWN capability) may change the owner of a
-- file." A call that gives neither changes nothing, and needs no privilege.
abbrev pub may_chown : Credential → File → Arg → Arg → Bool
may_chown c f owner group =
    capable c CHOWN ||
    not (gives_one owner group) ||
    may_as_owner c f owner group

abbrev pub is_regular : FileKind → Bool
is_regular Regular = true
is_regular Directory = false

-- the set-id bits and the attribute go: "When the owner or group of an executable file is changed
-- by an unprivileged user, the S_ISUID and S_ISGID mode bits are cleared. [..] since Linux 2.2.13,
-- root is treated like other users." "When the owner or group of an executable file is changed (by
-- any user), all capability sets for the file are cleared."
abbrev pub strips : File → Arg → Arg → Bool
strips f owner group = gives_one owner group && is_regular f.kind && has_any f.mode EXECUTE

-- "In case of a non-group-executable file (i.e., one for which the S_IXGRP bit is not set) the
-- S_ISGID bit indicates mandatory locking, and is not cleared by a chown()."
abbrev pub stripped : ℕ → ℕ
stripped mode =
    if has_any mode GROUP_EXECUTE then without_bits (without_bits mode SET_USER) SET_GROUP
    else without_bits mode SET_USER

-- the file with the owner and the group that are given
unfoldable pub chowned : File → Arg → Arg → File
chowned f owner group = record f {
  owner = chosen f.owner owner;
  group = chosen f.group group;
  mode = if strips f owner group then stripped f.mode else f.mode;
  attr = if strips f owner group then None else f.attr;
}

-- the file after the call, or EPERM
abbrev pub chown : Credential → File → Arg → Arg → Result File Denial
chown c f owner group =
    if may_chown c f owner group then Ok (chowned f owner group) else Err Perm

-- ---- chmod(2)

-- "The effective UID of the calling process must match the owner of the file, or the process must
-- be privileged (Linux: it must have the CAP_FOWNER capability)." On Linux it is the filesystem
-- user id.
abbrev pub may_chmod : Credential → File → Bool
may_chmod c f = owns_file c f || capable c FOWNER

-- "If the calling process is not privileged (Linux: does not have the CAP_FSETID capability), and
-- the group of the file does not match the effective group ID of the process or one of its
-- supplementary group IDs, the S_ISGID bit will be turned off, but this will not cause an error to
-- be returned." On Linux it is the filesystem group id.
abbrev pub given_mode : Credential → File → ℕ → ℕ
given_mode c f mode =
    if capable c FSETID || in_group c f.group then mode else without_bits mode SET_GROUP

-- the file after the call, or EPERM
unfoldable pub chmod : Credential → File → ℕ → Result File Denial
chmod c f mode =
    if may_chmod c f then Ok (record f { mode = given_mode c f mode }) else Err Perm

-- ---- setxattr(2) of `security.capability`, and removexattr(2)

-- the bytes are an attribute, or there are none
abbrev pub is_attr : Option (List ℕ) → Bool
is_attr None = true
is_attr (Some bytes) = is_some (attribute_of bytes)

-- "Writing to this extended attribute requires the CAP_SETFCAP capability." (capabilities(7), "File
-- capabilities") So does its removal, where no bytes are given.
unfoldable pub set_attr : Credential → File → Option (List ℕ) → Result File Denial
set_attr c f attr =
    if not (capable c SETFCAP) then Err Perm
    else if not (is_attr attr) then Err Invalid
    else Ok (record f { attr = attr })
