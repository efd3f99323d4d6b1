-- What a book keeps.
use Rattle.std.specs.Prelude.{ℕ, List, [], ◌∷◌, ◌++◌, slice_get}
use Rattle.std.specs.declared.option.Option.{Option}
use Rattle.std.specs.Option.{option_and_then}
use Rattle.cred_record.specs.Credential.{Credential}
use Rattle.cred_record.specs.File.{File}
use Rattle.cred_event.specs.declared.event.Event.{Event}
use Rattle.cred_event.specs.declared.answer.Answer.{Answer}
use Rattle.cred_event.specs.declared.entry.Entry.{Entry}
use Rattle.cred_model.specs.Script.{Script}
use Rattle.cred_model.specs.Course.{Course}
use Rattle.cred_model.specs.Step.{step}
use Rattle.cred_model.specs.Journal.{replay, entry_of}
use Rattle.cred_tables.specs.Kept.{SharedWords}

-- A script, the journal of its run so far, and those of its entries that are of earlier parts and
-- not kept any more; for each lane a cursor, the course of a line or none, the number of its lines
-- that have ended, and the line whose work is out, or none; the shared words that the credentials
-- stand in, and for each slot the credential that stands in its words, if one does.
pub record Recorded : Type 0 where
  pub script : Script
  pub journal : List Entry
  pub earlier : List Entry
  pub cursors : List (Option Course)
  pub ended : List ℕ
  pub outs : List (Option ℕ)
  pub words : SharedWords
  pub places : List (Option Credential)

-- the line of the lane whose work is out
abbrev pub out_of : Recorded → ℕ → Option ℕ
out_of book lane = option_and_then (λ line. line) (slice_get book.outs lane)

-- the script's files as they stand after the journal
abbrev pub inodes_in : Recorded → List File
inodes_in book = (replay book.script book.journal).inodes

-- the book in which an event of a line is entered, with its answer
abbrev pub with_event : Recorded → ℕ → Event → Recorded
with_event book line event =
    let entry = entry_of book.script book.journal (record { line = line; event = event }) in
    record book { journal = book.journal ++ entry ∷ [] }

-- what an event of a line is answered
abbrev pub answer_of : Recorded → ℕ → Event → Answer
answer_of book line event = (step book.script (replay book.script book.journal) line event).0
