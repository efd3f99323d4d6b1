-- A run of a script whose lanes take turns in any way, and whose journal isn't kept.
use Rattle.std.specs.Prelude.{◌≡◌, ◌≢◌, ◌≤◌, ℕ, true, List, [], ◌∷◌, ◌++◌}
use Rattle.std.specs.Prelude.{length, Some, None, is_some}
use Rattle.std.specs.declared.option.Option.{Option}
use Rattle.cred_ids.specs.Limits.{LINE_LIMIT}
use Rattle.cred_event.specs.declared.entry.Entry.{Entry}
use Rattle.cred_model.specs.Script.{Script}
use Rattle.cred_model.specs.Like.{IsLike}
use Rattle.cred_model.specs.Journal.{SoFar, next, replay}
use Rattle.cred_report.specs.Text.{entry_text}
use Rattle.cred_course.specs.LaneCursors.{AreCursors}
use Rattle.cred_audit.specs.Next.{ComesNext}
use Rattle.cred_audit.specs.declared.run.Run.{Run}

-- The run has come as far as the journal: no event can tell its state from the one that the journal
-- leads to, the journal is one so far, and each lane's cursor is the journal's.
pub record IsRunAfter (script : Script) (journal : List Entry) (run : Run) : Type 0 where
  pub few : length script.lines ≤ LINE_LIMIT
  pub state : IsLike run.state (replay script journal)
  pub so_far : SoFar script journal
  pub cursors : AreCursors script journal run.cursors

-- the run has come as far as some journal
abbrev pub IsRun : Script → Run → Type 0
IsRun script run = (journal : List Entry) × IsRunAfter script journal run

-- the journal with one entry more, or as it is
abbrev pub grown : List Entry → Option Entry → List Entry
grown journal None = journal
grown journal (Some entry) = journal ++ entry ∷ []

-- Whatever journal the run before had come to, this is the lane's next entry, and the run after has
-- come to the journal with it.
pub record GoesOn (script : Script) (lane : ℕ) (before after : Run) (found : Option Entry)
    : Type 0 where
  pub next : (journal : List Entry) → IsRunAfter script journal before
      → next script journal lane ≡ found
  pub leads : (journal : List Entry) → IsRunAfter script journal before
      → IsRunAfter script (grown journal found) after

-- Whatever script and journal it is that the run has come to, no lane has a next entry.
abbrev pub RunHasEnded : Run → Type 0
RunHasEnded run =
    (script : Script) (journal : List Entry) → IsRunAfter script journal run
    → (lane : ℕ) → next script journal lane ≡ None

-- Whatever script and journal it is that the run has come to, some lane has a next entry.
abbrev pub IsLeft : Run → Type 0
IsLeft run =
    (script : Script) (journal : List Entry) → IsRunAfter script journal run
    → (lane : ℕ) × (is_some (next script journal lane) ≡ true)

-- Whatever journal the run before had come to, the bytes begin with the text of an entry with which
-- the run after has come to it, and this is what follows.
pub record ReadsEntry (script : Script) (before after : Run) (bytes rest : List ℕ) : Type 0 where
  pub entry : Entry
  pub leads : (journal : List Entry) → IsRunAfter script journal before
      → IsRunAfter script (journal ++ entry ∷ []) after
  pub is : bytes ≡ entry_text script entry ++ rest

-- Whatever journal the run has come to, the bytes begin with the text of no entry that comes next.
abbrev pub GoesWrong : Script → Run → List ℕ → Type 0
GoesWrong script run bytes =
    (journal : List Entry) → IsRunAfter script journal run
    → (entry : Entry) (rest : List ℕ) → ComesNext script journal entry
    → bytes ≢ entry_text script entry ++ rest
