-- How a text is read: byte by byte, with what was read so far kept as a place in the grammar. What
-- a text says is defined by `Meaning` and `Reading`, without this; the calls are proved to give
-- that.
use Rattle.std.specs.Prelude.{ℕ, ◌==◌, List, [], ◌∷◌, ◌++◌, Some, None, if◌then◌else◌}
use Rattle.std.specs.declared.option.Option.{Option}
use Rattle.std.specs.Option.{option_map, option_and_then, option_or}
use Rattle.cred_caps.specs.Caps.{Caps, empty, full, with}
use Rattle.cred_captext.specs.declared.action.Operator.{Operator}
use Rattle.cred_captext.specs.declared.action.Operator.TheVariants.{Reset, Raise, Lower}
use Rattle.cred_captext.specs.declared.action.Letter.{Letter}
use Rattle.cred_captext.specs.declared.action.Letter.TheVariants as letter
use Rattle.cred_captext.specs.declared.sets.Sets.{Sets}
use Rattle.cred_captext.specs.declared.bytes.TextPlace.{TextPlace}
use Rattle.cred_captext.specs.declared.bytes.TextPlace.TheVariants.{Start, A, Al, All, Name}
use Rattle.cred_captext.specs.declared.bytes.TextPlace.TheVariants.{Sign, Letters}
use Rattle.cred_captext.specs.declared.bytes.Reader.{Reader}
use Rattle.cred_captext.specs.Names.{cap_of_lowercase_name, begins_name}
use Rattle.cred_captext.specs.Meaning.{none, after_operator, after_letter}

-- ---- one byte

-- the set that a letter names
abbrev pub letter_of : ℕ → Option Letter
letter_of byte =
    if byte == 101 then Some letter.Effective
    else if byte == 105 then Some letter.Inheritable
    else if byte == 112 then Some letter.Permitted
    else None

-- the operator that a byte is
abbrev pub operator_of : ℕ → Option Operator
operator_of byte =
    if byte == 61 then Some Reset
    else if byte == 43 then Some Raise
    else if byte == 45 then Some Lower
    else None

-- ---- steps

-- a reader of these parts
abbrev pub reader : Sets → Caps → TextPlace → Reader
reader s list place = record { sets = s; list = list; place = place }

-- after an operator: `=` needs no letter
abbrev pub place_after : Operator → TextPlace
place_after Reset = Letters Reset
place_after Raise = Sign Raise
place_after Lower = Sign Lower

-- an operator, for this list
abbrev pub operated : Sets → Caps → ℕ → Option Reader
operated s list byte =
    option_map (λ operator. reader (after_operator list operator s) list (place_after operator))
    (operator_of byte)

-- a letter, after this operator
abbrev pub lettered : Sets → Caps → Operator → ℕ → Option Reader
lettered s list operator byte =
    option_map (λ letter. reader (after_letter list operator s letter) list (Letters operator))
    (letter_of byte)

-- a byte more of the word `all`
abbrev pub word : Sets → TextPlace → ℕ → Option Reader
word s place byte = if byte == 108 then Some (reader s full place) else None

-- after a name
abbrev pub separated : Sets → Caps → ℕ → Option Reader
separated s list byte =
    if byte == 44 then Some (reader s list (Name [])) else operated s list byte

-- one more byte of a name
abbrev pub longer_name : Sets → Caps → List ℕ → Option Reader
longer_name s list word = if begins_name word then Some (reader s list (Name word)) else None

-- one more byte, after this word of a name: where the word is a whole name a comma or an operator,
-- else the name goes on
abbrev pub within_name : Sets → Caps → List ℕ → ℕ → Option ℕ → Option Reader
within_name s list word byte (Some n) = separated s (with list n) byte
within_name s list word byte None = longer_name s list (word ++ byte ∷ [])

-- the operator of another action, or a letter more of this one
abbrev pub letter_or_operator : Sets → Caps → Operator → ℕ → Option Reader
letter_or_operator s list operator byte =
    option_or (operated s list byte) (lettered s list operator byte)

-- one more byte, at this place
abbrev pub step_at : Sets → Caps → TextPlace → ℕ → Option Reader
step_at s list Start byte =
    if byte == 97 then Some (reader s full A)
    else if byte == 61 then operated s full byte
    else longer_name s empty (byte ∷ [])
step_at s list A byte = word s Al byte
step_at s list Al byte = word s All byte
step_at s list All byte = operated s full byte
step_at s list (Name word) byte = within_name s list word byte (cap_of_lowercase_name word)
step_at s list (Sign operator) byte = lettered s list operator byte
step_at s list (Letters operator) byte =
    if byte == 32 then Some (reader s empty Start)
    else letter_or_operator s list operator byte

-- after one more byte
abbrev pub after_byte : Reader → ℕ → Option Reader
after_byte r byte = step_at r.sets r.list r.place byte

-- after more bytes
abbrev pub run : Reader → List ℕ → Option Reader
run r [] = Some r
run r (byte ∷ bytes) = option_and_then (λ next. run next bytes) (after_byte r byte)

-- before the first byte
abbrev pub first_reader : Reader
first_reader = reader none empty Start

-- the sets, where a text may end
abbrev pub sets_at : Sets → TextPlace → Option Sets
sets_at s (Letters operator) = Some s
sets_at s Start = None
sets_at s A = None
sets_at s Al = None
sets_at s All = None
sets_at s (Name word) = None
sets_at s (Sign operator) = None

-- the sets that were read, where a text may end
abbrev pub sets_at_end : Reader → Option Sets
sets_at_end r = sets_at r.sets r.place

-- the sets that a text says
abbrev pub sets_said : Reader → List ℕ → Option Sets
sets_said r bytes = option_and_then sets_at_end (run r bytes)
