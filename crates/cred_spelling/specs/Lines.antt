-- The lines of a script.
use Rattle.std.specs.Prelude.{ℕ, ◌+◌, Bool, ◌&&◌, ◌==◌, nat_le, List, [], ◌∷◌, if◌then◌else◌}
use Rattle.std.specs.List.{onto_first, list_all}

-- Each line ends with LF; the last one may lack it.
abbrev pub lines_of : List ℕ → List (List ℕ)
lines_of [] = []
lines_of (byte ∷ bytes) =
    if byte == 10 then [] ∷ lines_of bytes else onto_first byte (lines_of bytes)

-- how many LF there are
abbrev pub line_ends : List ℕ → ℕ
line_ends [] = 0
line_ends (byte ∷ bytes) = if byte == 10 then 1 + line_ends bytes else line_ends bytes

-- from 0x20 to 0x7E: neither CR nor a tab is
abbrev pub is_printable_byte : ℕ → Bool
is_printable_byte byte = nat_le 32 byte && nat_le byte 126

abbrev pub is_printable : List ℕ → Bool
is_printable line = list_all is_printable_byte line
