-- Laws of what `encode` and `capdata` say of a word: it is one text.
use Rattle.std.specs.Prelude.{◌≡◌, ℕ, List}
use Rattle.cred_output.specs.declared.status.Status.{Status}
use Rattle.cred_inspect.specs.Encoding.{SaysText}
use Rattle.cred_inspect.specs.Records.{SaysRecord}

-- no text gets two lines, nor a line with two statuses
abbrev pub NoTextGetsTwoLines : Type 0
NoTextGetsTwoLines =
    (text one other : List ℕ) (first second : Status)
    → SaysText text first one → SaysText text second other → (first ≡ second) × (one ≡ other)

-- and no record
abbrev pub NoRecordGetsTwoLines : Type 0
NoRecordGetsTwoLines =
    (bytes one other : List ℕ) (first second : Status)
    → SaysRecord bytes first one → SaysRecord bytes second other
    → (first ≡ second) × (one ≡ other)
