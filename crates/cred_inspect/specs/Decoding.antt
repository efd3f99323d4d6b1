-- What is written of the bytes of a file's capability attribute.
use Rattle.std.specs.Prelude.{◌≡◌, ℕ, List}
use Rattle.std.specs.declared.option.Option.{Option}
use Rattle.cred_rules.specs.Attribute.{Attribute, Spells, fault}
use Rattle.cred_output.specs.declared.status.Status.{Status}
use Rattle.cred_output.specs.Texts.{attr_text, fault_text}
use Rattle.cred_inspect.specs.Operands.{LeavesEither, SaysEither}

-- the bytes spell an attribute
abbrev pub IsAttribute : List ℕ → Type 0
IsAttribute bytes = (a : Attribute) × Spells bytes a

-- the bytes spell an attribute, and this is its text
abbrev pub IsAttributeText : List ℕ → List ℕ → Type 0
IsAttributeText bytes text = (a : Attribute) × Spells bytes a × (text ≡ attr_text a)

-- they spell none, and this says why
abbrev pub IsFaultText : List ℕ → List ℕ → Type 0
IsFaultText bytes text = ¬ IsAttribute bytes × (text ≡ fault_text (fault bytes))

-- what is said of the bytes, with this status
abbrev pub SaysBytes : List ℕ → Status → List ℕ → Type 0
SaysBytes bytes answer text =
    SaysEither (IsAttributeText bytes) (IsFaultText bytes) answer text

-- What `decode` leaves: the bytes decide whether it is Done or Bad, and its text.
abbrev pub LeavesAttribute : List ℕ → Status → Option (List ℕ) → Option (List ℕ) → Type 0
LeavesAttribute bytes answer written now =
    LeavesEither (IsAttributeText bytes) (IsFaultText bytes) answer written now
