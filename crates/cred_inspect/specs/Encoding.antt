-- What is written of the text of a file's capabilities.
use Rattle.std.specs.Prelude.{◌≡◌, ◌<◌, ℕ, List, ◌++◌, codes, decimal, All}
use Rattle.std.specs.declared.option.Option.{Option}
use Rattle.hex.specs.Hex.{encode_lower}
use Rattle.cred_rules.specs.Attribute.{Attribute, Spells, IsCanonical}
use Rattle.cred_captext.specs.Reading.{TextSays, IsRefused}
use Rattle.cred_captext.specs.declared.refusal.TextRefusal.{TextRefusal}
use Rattle.cred_captext.specs.declared.refusal.TextRefusal.TheVariants.{Bad, Mixed}
use Rattle.cred_output.specs.declared.status.Status.{Status}
use Rattle.cred_inspect.specs.Operands.{LeavesEither, SaysEither}

-- the text says something of a file
abbrev pub IsCapText : List ℕ → Type 0
IsCapText text = (a : Attribute) × TextSays text a

-- the bytes are those that setxattr(2) takes for this attribute: every bit that spells nothing is
-- zero, and each number is a byte
pub record AreBytesOf (a : Attribute) (bytes : List ℕ) : Type 0 where
  pub spelled : Spells bytes a
  pub canonical : IsCanonical bytes
  pub each : All (λ byte. byte < 256) bytes

-- the line of the bytes of an attribute, in hexadecimal digits
abbrev pub IsLineOf : Attribute → List ℕ → Type 0
IsLineOf a line =
    (bytes : List ℕ) × AreBytesOf a bytes × (line ≡ encode_lower bytes ++ codes "\n")

-- the text says an attribute of a file, and this is the line of its bytes
abbrev pub IsDigitsOf : List ℕ → List ℕ → Type 0
IsDigitsOf text line = (a : Attribute) × TextSays text a × IsLineOf a line

-- to bytes that are no text of a file's capabilities, for this reason
abbrev pub text_refusal : TextRefusal → List ℕ
text_refusal (Bad k) = codes "bad text " ++ decimal k ++ codes "\n"
text_refusal Mixed = codes "bad flags\n"

-- the text says nothing of a file, and this line says why
abbrev pub IsTextFault : List ℕ → List ℕ → Type 0
IsTextFault text line =
    ¬ IsCapText text × ((e : TextRefusal) × IsRefused text e × (line ≡ text_refusal e))

-- what is said of the text, with this status
abbrev pub SaysText : List ℕ → Status → List ℕ → Type 0
SaysText text answer line = SaysEither (IsDigitsOf text) (IsTextFault text) answer line

-- What `encode` leaves: the text decides whether it is Done or Bad, and its line.
abbrev pub LeavesText : List ℕ → Status → Option (List ℕ) → Option (List ℕ) → Type 0
LeavesText text answer written now =
    LeavesEither (IsDigitsOf text) (IsTextFault text) answer written now
