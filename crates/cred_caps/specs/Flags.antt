-- Why numbers may stand for securebits flags and locks: setting a flag sets that flag and nothing
-- else.
use Rattle.std.specs.Prelude.{◌≡◌, ◌≢◌, ◌<◌, ℕ, Bool}
use Rattle.std.specs.Int.{bit_at}
use Rattle.cred_caps.specs.declared.secure.Flag.{Flag}
use Rattle.cred_caps.specs.Secure.{flag_place, is_set, is_locked, with_secure_flag}

-- the new bits have the flag as asked, and every other of the eight bits, also each lock, as it was
pub record SetsFlag (old new : ℕ) (f : Flag) (on : Bool) : Type 0 where
  pub itself : is_set new f ≡ on
  pub others : (n : ℕ) → n < 8 → n ≢ flag_place f → bit_at new n ≡ bit_at old n
  pub locks : (g : Flag) → is_locked new g ≡ is_locked old g

pub record AreFlags : Type 0 where
  pub set_one : (bits : ℕ) (f : Flag) (on : Bool) → SetsFlag bits (with_secure_flag bits f on) f on
