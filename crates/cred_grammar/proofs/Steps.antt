-- One more line of a script.
use Rattle.std.proofs.Common.{◌≡◌, ℕ, ◌+◌, List, ◌∷◌, length, Result, Ok, Err, refl, ap, length-append}
use Rattle.cred_spelling.specs.declared.reason.Reason.{Reason}
use Rattle.cred_ids.specs.Tests.{◌>>=◌}
use Rattle.cred_grammar.specs.declared.forms.Parsed.{Parsed}
use Rattle.cred_grammar.specs.declared.forms.Parsed.TheVariants.{Empty, File, Starts, Lane, Holds}
use Rattle.cred_grammar.specs.declared.forms.Parsed.TheVariants as parsed
use Rattle.cred_grammar.specs.Grammar.{parse_line, add_line, at_line, add_lines}
use Rattle.cred_grammar.specs.Reading.{Reading, keep}

-- each line that is read is one line more
longer_keep : (reading : Reading) (line : Parsed) → length (keep reading line).lines ≡ length reading.lines + 1
longer_keep reading Empty = rw (length-append reading.lines) refl
longer_keep reading (File file) = rw (length-append reading.lines) refl
longer_keep reading (parsed.Namespace number root parent) = rw (length-append reading.lines) refl
longer_keep reading (Starts content) = rw (length-append reading.lines) refl
longer_keep reading (Lane number) = rw (length-append reading.lines) refl
longer_keep reading (Holds by content) = rw (length-append reading.lines) refl

longer_by : (reading next : Reading) (found : Result Parsed Reason)
    → (found >>= λ line. Ok (keep reading line)) ≡ Ok next → length next.lines ≡ length reading.lines + 1
longer_by reading next (Ok line) is =
    let same : keep reading line ≡ next = cc in rw (← same) (longer_keep reading line)
longer_by reading next (Err reason) is = absurd (cc)

pub longer : (reading next : Reading) (text : List ℕ) → add_line reading text ≡ Ok next → length next.lines ≡ length reading.lines + 1
unfolding add_line
longer reading next text is = longer_by reading next (parse_line reading text) is

-- a line that is good is good by its number
pub at_ok : (number : ℕ) (found : Result Reading Reason) (next : Reading) → at_line number found ≡ Ok next → found ≡ Ok next
at_ok number (Ok reading) next is = let same : reading ≡ next = cc in ap (λ (r : Reading). let a : Result Reading Reason = Ok r in a) same
at_ok number (Err reason) next is = absurd (cc)

-- what is read of the lines after one that was read is what is read of all
pub read_one : (reading next : Reading) (text : List ℕ) (texts all : List (List ℕ))
    → at_line (length reading.lines + 1) (add_line reading text) ≡ Ok next → all ≡ text ∷ texts → add_lines next texts ≡ add_lines reading all
read_one reading next text texts all is all_is = rw (all_is, is) refl
