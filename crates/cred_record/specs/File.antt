-- A file, as permission checks and execve see it (inode(7)).
use Rattle.std.specs.Prelude.{ℕ, ◌≤◌, List, Bool, Option}
use Rattle.cred_record.specs.declared.file.FileKind.{FileKind}

-- the greatest mode, octal 7777
abbrev pub LAST_MODE : ℕ
LAST_MODE = 4095

-- n has no bit above the set-user-ID bit
abbrev pub IsMode : ℕ → Type 0
IsMode n = n ≤ LAST_MODE

-- a file's kind, owner, group and mode, whether its mount is nosuid, and the bytes of its
-- capability attribute
pub record File : Type 0 where
  pub kind : FileKind
  pub owner : ℕ
  pub group : ℕ
  pub mode : ℕ
  pub nosuid : Bool
  pub attr : Option (List ℕ)
