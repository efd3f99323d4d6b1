-- Which texts are reports of a script, and where one that isn't goes wrong.
use Rattle.std.specs.Prelude.{◌≡◌, ℕ, ◌<◌, List, ◌++◌, length}
use Rattle.cred_event.specs.declared.entry.Entry.{Entry}
use Rattle.cred_model.specs.Script.{Script}
use Rattle.cred_model.specs.Journal.{SoFar, IsLegal}
use Rattle.cred_report.specs.Text.{text}
use Rattle.cred_audit.specs.One.{IsOnly}
use Rattle.cred_audit.specs.declared.verdict.Verdict.{Verdict}
use Rattle.cred_audit.specs.declared.verdict.Verdict.TheVariants.{Legal, NotLegal}

-- The bytes are the text of a legal journal of the script.
pub record IsReport (script : Script) (bytes : List ℕ) : Type 0 where
  pub journal : List Entry
  pub legal : IsLegal script journal
  pub is : bytes ≡ text script journal

-- They are the text of that journal, and of no other journal so far of the script.
pub record IsOneJournal (script : Script) (bytes : List ℕ) : Type 0 where
  pub report : IsReport script bytes
  pub only : IsOnly script report.journal

-- The bytes begin with the text of `count` entries, which are the script's so far.
pub record Begins (script : Script) (bytes : List ℕ) (count : ℕ) : Type 0 where
  pub journal : List Entry
  pub so_far : SoFar script journal
  pub counts : length journal ≡ count
  pub rest : List ℕ
  pub is : bytes ≡ text script journal ++ rest

-- The bytes are no report of the script, and it is at this entry, counted from 1, that they go
-- wrong: they begin with the entries before it, whatever their number, and not with as many as up
-- to it. Where a report stops too early that is the first entry that it lacks. Bytes after the
-- last line feed stand for an entry that goes wrong.
pub record IsFault (script : Script) (bytes : List ℕ) (entry : ℕ) : Type 0 where
  pub other : ¬ IsReport script bytes
  pub before : (count : ℕ) → count < entry → Begins script bytes count
  pub wrong : ¬ Begins script bytes entry

-- what is said of the bytes is true
abbrev pub IsVerdict : Script → List ℕ → Verdict → Type 0
IsVerdict script bytes Legal = IsOneJournal script bytes
IsVerdict script bytes (NotLegal entry) = IsFault script bytes entry
