-- The entries that words are read as fit, but for what they name of the script and for their row.
use Rattle.std.proofs.Common.{◌≡◌, ℕ, ◌+◌, List, [], ◌∷◌, take, drop, position, Result, Ok, ok_or, subst}
use Rattle.cred_event.specs.declared.entry.Entry.{Entry}
use Rattle.cred_model.specs.Script.{NamedFile}
use Rattle.cred_spelling.specs.declared.reason.Reason.{Reason}
use Rattle.cred_spelling.specs.declared.reason.Reason.TheVariants.{Word}
use Rattle.cred_spelling.specs.Spellings.{number_of}
use Rattle.cred_spelling.specs.Words.{word_of}
use Rattle.cred_reader.specs.Answers.{told_by, read_answer}
use Rattle.cred_reader.specs.Events.{read_event}
use Rattle.cred_reader.specs.Entry.{is_arrow, read_entry}
use Rattle.cred_reader.specs.Fits.{IsNumber, FitsEvent, FitsAnswer}
use Rattle.cred_reader.proofs.Spelled.{Holds, then_holds, word_holds, any_holds}
use Rattle.cred_reader.proofs.KindsFit.{number_fits}
use Rattle.cred_reader.proofs.EventsFit.{event_fits}
use Rattle.cred_reader.proofs.AnswersFit.{answer_fits}

-- the parts of an entry that its words alone decide
pub record AreSpelled (entry : Entry) : Type 0 where
  pub line : IsNumber entry.line
  pub event : FitsEvent entry.event
  pub answer : FitsAnswer entry.answer

entry_fits : (files : List NamedFile) (words : List (List ℕ)) → Holds AreSpelled (read_entry files words)
unfolding read_entry
entry_fits files [] = tt
entry_fits files (number ∷ words) =
    then_holds IsNumber AreSpelled (word_of number_of number) _ (word_holds IsNumber number_of number_fits number) (λ line l.
    then_holds (λ place. Unit {0}) AreSpelled (ok_or (position is_arrow words) Word) _ (any_holds (ok_or (position is_arrow words) Word)) (λ place p.
    then_holds FitsEvent AreSpelled (read_event files (take place words)) _ (event_fits files (take place words)) (λ event e.
    then_holds FitsAnswer AreSpelled (read_answer (told_by event) (drop (place + 1) words)) _ (answer_fits (told_by event) (drop (place + 1) words))
    (λ answer a.
    record { line = l; event = e; answer = a }))))

-- of an entry that was read
pub entry_spelled : (files : List NamedFile) (words : List (List ℕ)) (entry : Entry) → read_entry files words ≡ Ok entry → AreSpelled entry
entry_spelled files words entry read = subst (λ (r : Result Entry Reason). Holds AreSpelled r) read (entry_fits files words)
