-- The words of an attribute: as `byteorder` reads them, and as it writes them.
use Rattle.std.proofs.Common.{◌≡◌, ℕ, ◌+◌, ◌*◌, ◌^◌, ◌<◌, ◌≤◌, List, [], slice_index, take, drop, sym, add-zero, ◌∙◌, arith}
use Rattle.std.specs.Int.{byte_at}
use Rattle.std.proofs.lemmas.List.{get_or-drop}
use Rattle.byteorder.specs.Endian.{little_number}
use Rattle.byteorder.specs.Numbers.{little_from-take, little_number-reads_back}
use Rattle.cred_rules.specs.Attribute.{word_at}

-- four bytes, each worth 256 times the one before, in one sum or in the steps of a reader
in_steps : (a b c d : ℕ) → a + 256 * (b + 256 * (c + 256 * (d + 256 * 0))) ≡ a + 256 * b + 256 ^ 2 * c + 256 ^ 3 * d
in_steps a b c d = omega arith

-- the number that is read at a place is the word there
word_at-drop : (bytes : List ℕ) (i : ℕ) → little_number 4 (drop i bytes) ≡ word_at bytes i
unfolding word_at
word_at-drop bytes i =
    rw (get_or-drop i bytes 0 0, get_or-drop i bytes 1 0, get_or-drop i bytes 2 0, get_or-drop i bytes 3 0, add-zero i)
    (in_steps (slice_index bytes i) _ _ _)

-- so it is in the rest of the bytes from that place on
pub word_at-read : (bytes : List ℕ) (i m : ℕ) → 4 ≤ m → little_number 4 (take m (drop i bytes)) ≡ word_at bytes i
word_at-read bytes i m room = little_from-take 0 4 m (drop i bytes) room ∙ word_at-drop bytes i

-- a word is the sum of its bytes
pub word-bytes : (x : ℕ) → x < 2 ^ 32 → byte_at 0 x + 256 * byte_at 1 x + 256 ^ 2 * byte_at 2 x + 256 ^ 3 * byte_at 3 x ≡ x
word-bytes x small = sym (in_steps (byte_at 0 x) (byte_at 1 x) (byte_at 2 x) (byte_at 3 x)) ∙ little_number-reads_back 4 x [] small
