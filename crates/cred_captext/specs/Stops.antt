-- Where a reader stops.
use Rattle.std.specs.Prelude.{◌≡◌, ℕ, ◌<◌, ◌≤◌, List, Some, None, take, length, slice_index}
use Rattle.cred_captext.specs.declared.bytes.Reader.{Reader}
use Rattle.cred_captext.specs.Machine.{first_reader, run, after_byte, sets_at_end}

-- `k` bytes were read, and no text goes on with the next one, or there is none and no text ends
-- here
pub record StopsAt (bytes : List ℕ) (k : ℕ) : Type 0 where
  pub reader : Reader
  pub read : run first_reader (take k bytes) ≡ Some reader
  pub within : k ≤ length bytes
  pub next : k < length bytes → after_byte reader (slice_index bytes k) ≡ None
  pub last : k ≡ length bytes → sets_at_end reader ≡ None
