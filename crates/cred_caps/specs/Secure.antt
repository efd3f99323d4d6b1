-- The securebits of a task: four flags, and the lock of each (capabilities(7), linux/securebits.h).
use Rattle.std.specs.Prelude.{ℕ, ◌+◌, ◌-◌, ◌^◌, ◌==◌, Bool, true, false}
use Rattle.std.specs.Int.RustNames.{bit_and, bit_or}
use Rattle.std.specs.Int.{bit_at}
use Rattle.cred_caps.specs.declared.secure.Flag.{Flag}
use Rattle.cred_caps.specs.declared.secure.Flag.TheVariants.{NoRoot, NoSetuidFixup, KeepCaps}
use Rattle.cred_caps.specs.declared.secure.Flag.TheVariants.{NoAmbientRaise}

-- the greatest number of them: every flag and every lock is set
abbrev pub LAST_BITS : ℕ
LAST_BITS = 255

-- the bit of a flag
abbrev pub flag_place : Flag → ℕ
flag_place NoRoot = 0
flag_place NoSetuidFixup = 2
flag_place KeepCaps = 4
flag_place NoAmbientRaise = 6

-- the flag is set
abbrev pub is_set : ℕ → Flag → Bool
is_set bits f = bit_at bits (flag_place f) == 1

-- its lock, the bit after it, is set
abbrev pub is_locked : ℕ → Flag → Bool
is_locked bits f = bit_at bits (flag_place f + 1) == 1

-- the securebits with the flag set or unset, and every other bit as it was
abbrev pub with_secure_flag : ℕ → Flag → Bool → ℕ
with_secure_flag bits f true = bit_or bits (2 ^ flag_place f)
with_secure_flag bits f false = bit_and bits (LAST_BITS - 2 ^ flag_place f)
