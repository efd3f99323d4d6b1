-- What a word spells.
use Rattle.std.specs.Prelude.{ℕ, ◌^◌, ◌+◌, ◌-◌, ◌*◌, Bool, true, false, ◌&&◌, ◌||◌, ◌==◌, nat_le}
use Rattle.std.specs.Prelude.{nat_lt, List, [], ◌∷◌, length, take, drop, position, slice_index}
use Rattle.std.specs.Prelude.{codes, Some, None, if◌then◌else◌}
use Rattle.std.specs.declared.option.Option.{Option}
use Rattle.std.specs.Option.{option_map, option_and_then, option_or}
use Rattle.std.specs.List.{list_all}
use Rattle.std.specs.Result.{result_ok}
use Rattle.std.specs.Char.{is_digit}
use Rattle.std.specs.Str.{bytes_eq, all_ascii_digits}
use Rattle.std.specs.Str.Parse.{digits_value}
use Rattle.hex.specs.Hex.{decode_of}
use Rattle.cred_caps.specs.Names.{cap_names}
use Rattle.cred_ids.specs.Id.{NO_ID}
use Rattle.cred_ids.specs.Limits.{LAST_LANE, LAST_NAMESPACE, LAST_NUMBER, LINE_LIMIT}
use Rattle.cred_ids.specs.declared.arg.Arg.{Arg}
use Rattle.cred_ids.specs.declared.arg.Arg.TheVariants.{Keep, Set}
use Rattle.cred_record.specs.declared.file.FileKind.{FileKind}
use Rattle.cred_record.specs.declared.file.FileKind.TheVariants.{Regular, Directory}
use Rattle.cred_record.specs.declared.want.Want.{Want}
use Rattle.cred_spelling.specs.Table.{named}

-- `0`, or a digit from 1 to 9 and further digits
abbrev pub is_numeral : List ℕ → Bool
is_numeral [] = false
is_numeral (digit ∷ digits) =
    if digit == 48 then length digits == 0 else all_ascii_digits (digit ∷ digits)

-- the number that decimal digits write
abbrev pub decimal_of : List ℕ → Option ℕ
decimal_of word = if all_ascii_digits word then Some (digits_value 10 word) else None

-- a number, at most 4294967295
abbrev pub number_of : List ℕ → Option ℕ
number_of word =
    if is_numeral word && nat_lt (digits_value 10 word) (2 ^ 32)
    then Some (digits_value 10 word)
    else None

-- a number, at most 18446744073709551615
abbrev pub long_of : List ℕ → Option ℕ
long_of word =
    if is_numeral word && nat_lt (digits_value 10 word) (2 ^ 64)
    then Some (digits_value 10 word)
    else None

-- an id: one number is none
abbrev pub id_of : List ℕ → Option ℕ
id_of word =
    option_and_then (λ number. if number == NO_ID then None else Some number) (number_of word)

-- `-1` keeps the old id.
abbrev pub arg_of : List ℕ → Option Arg
arg_of word = if bytes_eq word (codes "-1") then Some Keep else option_map Set (id_of word)

-- the number of the capability that has this name, with its prefix `CAP_`
abbrev pub cap_named : List ℕ → Option ℕ
cap_named word = position (bytes_eq word) cap_names

-- A capability is a number, whatever its size, or a name.
abbrev pub cap_of : List ℕ → Option ℕ
cap_of word = option_or (number_of word) (cap_named word)

-- the number that hexadecimal digits write, of either case
abbrev pub hexadecimal_number : List ℕ → Option ℕ
hexadecimal_number word =
    if list_all (λ byte. is_digit byte 16) word then Some (digits_value 16 word) else None

-- the set of these bits, if none is above 40
abbrev pub set_with : ℕ → Option ℕ
set_with bits = if nat_lt bits (2 ^ 41) then Some bits else None

-- A set of capabilities is 1 to 16 hexadecimal digits, with no bit above 40.
abbrev pub set_of : List ℕ → Option ℕ
set_of word =
    if nat_le 1 (length word) && nat_le (length word) 16
    then option_and_then set_with (hexadecimal_number word)
    else None

-- the digits, without `0x` before them
abbrev pub without_0x : List ℕ → List ℕ
without_0x word = if bytes_eq (take 2 word) (codes "0x") then drop 2 word else word

-- Bytes are 2 to 128 hexadecimal digits of either case, an even number, with or without `0x` before
-- them.
abbrev pub bytes_of : List ℕ → Option (List ℕ)
bytes_of word =
    let digits = without_0x word in
    if nat_le 2 (length digits) && nat_le (length digits) 128
    then result_ok (decode_of digits)
    else None

-- the number, if it is from the least to the most
abbrev pub within : (least most number : ℕ) → Option ℕ
within least most number = if nat_le least number && nat_le number most then Some number else None

-- a word that is such a number
abbrev pub number_within : ℕ → ℕ → List ℕ → Option ℕ
number_within least most word = option_and_then (within least most) (number_of word)

-- a letter, and a number from the least to the most
abbrev pub letter_number : (letter least most : ℕ) → List ℕ → Option ℕ
letter_number letter least most [] = None
letter_number letter least most (first ∷ digits) =
    if first == letter then number_within least most digits else None

-- the letter that a text is
abbrev pub letter : List ℕ → ℕ
letter text = slice_index text 0

-- a task, as `t1`
abbrev pub spelled_task : List ℕ → Option ℕ
spelled_task word = letter_number (letter (codes "t")) 1 LAST_NUMBER word

-- a process, as `p1`
abbrev pub spelled_process : List ℕ → Option ℕ
spelled_process word = letter_number (letter (codes "p")) 1 LAST_NUMBER word

-- a label, as `h1`
abbrev pub spelled_label : List ℕ → Option ℕ
spelled_label word = letter_number (letter (codes "h")) 1 LAST_NUMBER word

-- the descriptor of an open file, as `f1`
abbrev pub descriptor_of : List ℕ → Option ℕ
descriptor_of word = letter_number (letter (codes "f")) 1 LAST_NUMBER word

-- a namespace, as `n0`
abbrev pub namespace_of : List ℕ → Option ℕ
namespace_of word = letter_number (letter (codes "n")) 0 LAST_NAMESPACE word

-- the number of a namespace that is declared: 0 is the initial one, which is there
abbrev pub new_namespace_of : List ℕ → Option ℕ
new_namespace_of word = number_within 1 LAST_NAMESPACE word

-- the number of a namespace's parent
abbrev pub parent_of : List ℕ → Option ℕ
parent_of word = number_within 0 LAST_NAMESPACE word

-- the number of a line
abbrev pub line_number_of : List ℕ → Option ℕ
line_number_of word = number_within 1 LINE_LIMIT word

-- the number of a lane
abbrev pub lane_number_of : List ℕ → Option ℕ
lane_number_of word = number_within 1 LAST_LANE word

-- a letter of either case
abbrev pub is_letter : ℕ → Bool
is_letter byte = nat_le 65 byte && nat_le byte 90 || nat_le 97 byte && nat_le byte 122

-- a letter, a digit, `_`, `.` or `-`
abbrev pub is_name_byte : ℕ → Bool
is_name_byte byte =
    is_letter byte || nat_le 48 byte && nat_le byte 57 || byte == 95 || byte == 46 || byte == 45

-- A file's name is 1 to 32 letters, digits, `_`, `.` and `-`, and begins with a letter.
abbrev pub is_name : List ℕ → Bool
is_name [] = false
is_name (first ∷ rest) = is_letter first && list_all is_name_byte rest && nat_le (length rest) 31

-- a file is regular or a directory
unfoldable pub kinds : List (List ℕ × FileKind)
kinds = (codes "reg", Regular) ∷ (codes "dir", Directory) ∷ []

abbrev pub kind_of : List ℕ → Option FileKind
kind_of word = named kinds word

-- an octal digit
abbrev pub octal_of : ℕ → Option ℕ
octal_of byte = if nat_le 48 byte && nat_le byte 55 then Some (byte - 48) else None

-- A mode is four octal digits.
abbrev pub mode_of : List ℕ → Option ℕ
mode_of (a ∷ b ∷ c ∷ d ∷ []) =
    option_and_then (λ first.
    option_and_then (λ second.
    option_and_then (λ third.
    option_map (λ fourth. 512 * first + 64 * second + 8 * third + fourth)
    (octal_of d)) (octal_of c)) (octal_of b)) (octal_of a)
mode_of word = None

-- what is wanted of a file: at least one of `r`, `w` and `x`, in this order
unfoldable pub wants : List (List ℕ × Want)
wants =
    (codes "r", record { r = true; w = false; x = false }) ∷
    (codes "w", record { r = false; w = true; x = false }) ∷
    (codes "x", record { r = false; w = false; x = true }) ∷
    (codes "rw", record { r = true; w = true; x = false }) ∷
    (codes "rx", record { r = true; w = false; x = true }) ∷
    (codes "wx", record { r = false; w = true; x = true }) ∷
    (codes "rwx", record { r = true; w = true; x = true }) ∷
    []

abbrev pub want_of : List ℕ → Option Want
want_of word = named wants word
