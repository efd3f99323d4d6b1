-- What a command leaves that has its input in a word of the command line: one of two texts, by
-- whether the word is what the command takes.
use Rattle.std.specs.Prelude.{◌≡◌, ◌⊎◌, ℕ, List, ⊤}
use Rattle.std.specs.declared.option.Option.{Option}
use Rattle.std.specs.Io.KnownBytes.{Appends}
use Rattle.cred_io.specs.Ends.{AppendsPrefix}
use Rattle.cred_output.specs.declared.status.Status.{Status}
use Rattle.cred_output.specs.declared.status.Status.TheVariants as status

-- What is said of the word, with this status: Done with a text of the first kind, Bad with one of
-- the second.
abbrev pub SaysEither : (List ℕ → Type 0) → (List ℕ → Type 0) → Status → List ℕ → Type 0
SaysEither Good Bad status.Done text = Good text
SaysEither Good Bad status.Bad text = Bad text
SaysEither Good Bad other text = ⊥

-- a text of this kind was written
abbrev pub WritesText : (List ℕ → Type 0) → Option (List ℕ) → Option (List ℕ) → Type 0
WritesText Kind before after = (text : List ℕ) × Kind text × Appends before after text

-- a prefix of a text of one of the two kinds was written
abbrev pub WritesPart :
    (List ℕ → Type 0) → (List ℕ → Type 0) → Option (List ℕ) → Option (List ℕ) → Type 0
WritesPart Good Bad before after =
    (text : List ℕ) × (Good text ⊎ Bad text) × AppendsPrefix before after text

-- The statuses that a word may have: which of Done and Bad it is, the word alone decides, by which
-- of the two kinds has a text, and nothing but a fault or running out of memory takes their place.
abbrev pub SuitsOperand : (List ℕ → Type 0) → (List ℕ → Type 0) → Status → Type 0
SuitsOperand Good Bad status.Done = (text : List ℕ) × Good text
SuitsOperand Good Bad status.Bad = (text : List ℕ) × Bad text
SuitsOperand Good Bad status.WriteFault = ⊤
SuitsOperand Good Bad status.Memory = ⊤
SuitsOperand Good Bad other = ⊥

-- What such a command leaves.
pub record LeavesEither
    (Good Bad : List ℕ → Type 0) (answer : Status) (written now : Option (List ℕ))
    : Type 0 where
  pub done : answer ≡ status.Done → WritesText Good written now
  pub bad : answer ≡ status.Bad → WritesText Bad written now
  pub suits : SuitsOperand Good Bad answer
  pub prefix : (now ≡ written) ⊎ WritesPart Good Bad written now
