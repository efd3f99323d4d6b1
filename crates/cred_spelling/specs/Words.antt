-- The words of a line, how many of them there are, and what they spell. How many there are is asked
-- before what they spell.
use Rattle.std.specs.Prelude.{ℕ, not, ◌==◌, Bool, List, [], ◌∷◌, filter, length, get_or, Result, Ok}
use Rattle.std.specs.Prelude.{Err, ok_or, if◌then◌else◌}
use Rattle.std.specs.declared.option.Option.{Option}
use Rattle.std.specs.List.{slice_split}
use Rattle.cred_ids.specs.Tests.{◌>>=◌}
use Rattle.cred_spelling.specs.declared.reason.Reason.{Reason}
use Rattle.cred_spelling.specs.declared.reason.Reason.TheVariants.{Word, Count}
use Rattle.cred_spelling.specs.Spellings.{is_name}

-- A line is split into words at runs of spaces.
abbrev pub line_words : List ℕ → List (List ℕ)
line_words line = filter (λ word. not (length word == 0)) (slice_split (λ byte. byte == 32) line)

-- A line whose first word begins with `#` is a comment.
abbrev pub is_comment : List ℕ → Bool
is_comment word = get_or word 0 0 == 35

-- what a word spells
abbrev pub word_of : {A : Type 0} → (List ℕ → Option A) → List ℕ → Result A Reason
word_of spelled word = ok_or (spelled word) Word

-- the name of a file
abbrev pub name_of : List ℕ → Result (List ℕ) Reason
name_of word = if is_name word then Ok word else Err Word

-- there are no words
abbrev pub no_words : List (List ℕ) → Result (Unit {0}) Reason
no_words [] = Ok tt
no_words words = Err Count

-- a value, where no words follow
abbrev pub bare : {A : Type 0} → List (List ℕ) → A → Result A Reason
bare words value = no_words words >>= λ end. Ok value

-- one word
abbrev pub one_of : {A : Type 0} → (List ℕ → Option A) → List (List ℕ) → Result A Reason
one_of spelled (a ∷ []) = word_of spelled a
one_of spelled words = Err Count

-- two words
unfoldable pub two_of : {A B : Type 0} → (List ℕ → Option A) → (List ℕ → Option B)
    → List (List ℕ) → Result (A × B) Reason
two_of first second (a ∷ b ∷ []) = do
  x ← word_of first a
  y ← word_of second b
  Ok (x, y)
two_of first second words = Err Count

-- three words
unfoldable pub three_of : {A B C : Type 0} → (List ℕ → Option A) → (List ℕ → Option B)
    → (List ℕ → Option C) → List (List ℕ) → Result (A × B × C) Reason
three_of first second third (a ∷ b ∷ c ∷ []) = do
  x ← word_of first a
  y ← word_of second b
  z ← word_of third c
  Ok (x, y, z)
three_of first second third words = Err Count

-- five words: two, and three more
unfoldable pub five_of : {A B C D E : Type 0} → (List ℕ → Option A) → (List ℕ → Option B)
    → (List ℕ → Option C) → (List ℕ → Option D) → (List ℕ → Option E) → List (List ℕ)
    → Result (A × B × C × D × E) Reason
five_of first second third fourth fifth (a ∷ b ∷ c ∷ d ∷ e ∷ []) = do
  two ← two_of first second (a ∷ b ∷ [])
  three ← three_of third fourth fifth (c ∷ d ∷ e ∷ [])
  Ok (two.0, two.1, three.0, three.1, three.2)
five_of first second third fourth fifth words = Err Count
