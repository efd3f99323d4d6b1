-- What reading a word may answer.
use Rattle.std.specs.Prelude.{◌≡◌, ℕ, List, map, Result, Ok, Err}
use Rattle.std.specs.Borrow.{Bor}
use Rattle.cred_spelling.specs.declared.reason.Reason.{Reason}

-- what was answered is what the definition gives
abbrev pub Says : {V A : Type 0} → (V → A) → Result V Reason → Result A Reason → Type 0
Says view (Ok v) given = given ≡ Ok (view v)
Says view (Err reason) given = given ≡ Err reason

-- the words as values, where they are borrowed
abbrev pub nows : List (Bor (List ℕ)) → List (List ℕ)
nows words = map (λ word. word.now) words
