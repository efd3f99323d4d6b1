-- The bits of a mode that an execve tests, and that a change of a file tests or clears (inode(7),
-- "The file type and mode").
use Rattle.std.specs.Prelude.{ℕ, ◌-◌, ◌==◌, Bool, not, bit_and}
use Rattle.cred_record.specs.File.{LAST_MODE}

-- the set-user-ID bit, octal 4000
abbrev pub SET_USER : ℕ
SET_USER = 2048

-- the set-group-ID bit, octal 2000
abbrev pub SET_GROUP : ℕ
SET_GROUP = 1024

-- the execute bit of the group, octal 0010
abbrev pub GROUP_EXECUTE : ℕ
GROUP_EXECUTE = 8

-- the three execute bits, octal 0111
abbrev pub EXECUTE : ℕ
EXECUTE = 73

-- one of these bits is set
abbrev pub has_any : ℕ → ℕ → Bool
has_any mode bits = not (bit_and mode bits == 0)

-- the mode with these bits unset, and every other as it was
abbrev pub without_bits : ℕ → ℕ → ℕ
without_bits mode bits = bit_and mode (LAST_MODE - bits)
