-- The words of a line, one after another.
use Rattle.std.specs.Prelude.{◌≡◌, ℕ, Bool, false, ◌&&◌, nat_le, List, [], ◌∷◌, ⊤}

-- a byte of a word: printable, and no space
abbrev pub is_word_byte : ℕ → Bool
is_word_byte byte = nat_le 33 byte && nat_le byte 126

-- the word, where it has a byte
abbrev pub some_word : List ℕ → List (List ℕ)
some_word [] = []
some_word (byte ∷ bytes) = (byte ∷ bytes) ∷ []

-- a word ends there
abbrev pub Stops : List ℕ → Type 0
Stops [] = ⊤
Stops (byte ∷ bytes) = is_word_byte byte ≡ false
