-- What script a text is, or its first bad line and the reason.
use Rattle.std.specs.Prelude.{ℕ, ◌+◌, List, [], ◌∷◌, length, Result, Ok, Err}
use Rattle.std.specs.Prelude.{ok_or, if◌then◌else◌}
use Rattle.cred_model.specs.Script.{Script}
use Rattle.cred_spelling.specs.declared.reason.Reason.{Reason}
use Rattle.cred_spelling.specs.declared.reason.Reason.TheVariants.{Byte, Word}
use Rattle.cred_spelling.specs.Lines.{lines_of, is_printable}
use Rattle.cred_spelling.specs.Names.{form_of}
use Rattle.cred_spelling.specs.Words.{line_words, is_comment}
use Rattle.cred_grammar.specs.declared.forms.Parsed.{Parsed}
use Rattle.cred_grammar.specs.declared.forms.Parsed.TheVariants.{Empty}
use Rattle.cred_grammar.specs.Forms.{parse_form}
use Rattle.cred_grammar.specs.Reading.{Reading, nothing, script, admits, keep}
use Rattle.cred_ids.specs.Tests.{◌>>=◌}

-- A line that isn't empty. The tests stand in their order: the first that fails gives the reason.
unfoldable pub parse_full : Reading → List ℕ → List (List ℕ) → Result Parsed Reason
parse_full reading first words = do
  form ← ok_or (form_of first) Word
  line ← parse_form reading.files form words
  fits ← admits reading line
  Ok line

-- A line without words, and a comment, declare nothing and hold nothing.
abbrev pub parse_words : Reading → List (List ℕ) → Result Parsed Reason
parse_words reading [] = Ok Empty
parse_words reading (first ∷ words) =
    if is_comment first then Ok Empty else parse_full reading first words

-- what a line declares or holds, or why it is bad
abbrev pub parse_line : Reading → List ℕ → Result Parsed Reason
parse_line reading text =
    if is_printable text then parse_words reading (line_words text) else Err Byte

-- what is read with one more line
unfoldable pub add_line : Reading → List ℕ → Result Reading Reason
add_line reading text = do
  line ← parse_line reading text
  Ok (keep reading line)

-- a bad line is reported by its number
abbrev pub at_line : {A : Type 0} → ℕ → Result A Reason → Result A (ℕ × Reason)
at_line number (Ok content) = Ok content
at_line number (Err reason) = Err (number, reason)

-- what is read with these lines, one after another; or the first bad line
abbrev pub add_lines : Reading → List (List ℕ) → Result Reading (ℕ × Reason)
add_lines reading [] = Ok reading
add_lines reading (text ∷ texts) = do
  next ← at_line (length reading.lines + 1) (add_line reading text)
  add_lines next texts

-- the script that a text is, whose lines are numbered from 1
abbrev pub script_of : List ℕ → Result Script (ℕ × Reason)
script_of bytes = do
  reading ← add_lines nothing (lines_of bytes)
  Ok (script reading)
