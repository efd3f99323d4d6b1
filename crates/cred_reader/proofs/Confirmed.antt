-- The entry that was read is the one whose text the line is.
use Rattle.std.proofs.Common.{◌≡◌, ℕ, Option, Some, None, IfSome, IfOk, List, Result, Ok, Err, sym, ap, subst, ◌∙◌}
use Rattle.cred_event.specs.declared.entry.Entry.{Entry}
use Rattle.cred_model.specs.Script.{Script}
use Rattle.cred_spelling.specs.Words.{line_words}
use Rattle.cred_spelling.specs.declared.reason.Reason.{Reason}
use Rattle.cred_grammar.specs.declared.refusal.LineRefusal.{LineRefusal}
use Rattle.cred_grammar.specs.declared.refusal.LineRefusal.TheVariants as line
use Rattle.cred_grammar.specs.ReadAnswers.{GivesLine}
use Rattle.cred_report.specs.Text.{entry_text}
use Rattle.cred_reader.specs.Entry.{read_entry, body_of}
use Rattle.cred_reader.specs.Fits.{Fits, IsSoundEntry}
use Rattle.cred_reader.proofs.EntryBack.{entry_back}
use Rattle.cred_reader.proofs.EntryFit.{AreSpelled}

-- what is spelled and sound fits
pub spelled_fits : {E : Type 0} (script : Script) (line : List ℕ) (entry : Entry) (r : Result (Option Entry) E) → AreSpelled entry
    → IfOk r (λ found. IfSome found (λ e. (e ≡ entry) × (entry_text script entry ≡ line) × IsSoundEntry script entry))
    → IfOk r (λ found. IfSome found (λ e. (entry_text script e ≡ line) × Fits script e))
spelled_fits script line entry (Ok (Some e)) spelled h =
    let fits : Fits script entry = record { line = spelled.line; event = spelled.event; answer = spelled.answer; sound = h.2 } in
    subst (λ (e : Entry). (entry_text script e ≡ line) × Fits script e) (sym h.0) (h.1, fits)
spelled_fits script line entry (Ok None) spelled h = h
spelled_fits script line entry (Err error) spelled h = h

-- the words of a line that is a fitting entry's text are read as that one
pub read_is : (script : Script) (line : List ℕ) (words : List (List ℕ)) (entry : Entry) → words ≡ line_words (body_of line)
    → Fits script entry → entry_text script entry ≡ line → read_entry script.files words ≡ Ok entry
read_is script line words entry split fits text =
    ap (read_entry script.files) split ∙ ap (λ (l : List ℕ). read_entry script.files (line_words (body_of l))) (sym text) ∙ entry_back script entry fits

pub confirmed_is : {E : Type 0} (script : Script) (line : List ℕ) (found entry : Entry) (r : Result (Option Entry) E)
    → (IsSoundEntry script found → entry_text script found ≡ line → IfOk r (λ o. o ≡ Some found)) → found ≡ entry
    → Fits script entry → entry_text script entry ≡ line → IfOk r (λ o. o ≡ Some entry)
confirmed_is script line found entry r h same fits text =
    subst (λ (e : Entry). IfOk r (λ o. o ≡ Some e)) same
    (h (subst (IsSoundEntry script) (sym same) fits.sound) (ap (entry_text script) same ∙ text))

-- a line that is refused is read as nothing
pub refused : (r : Result Entry LineRefusal) (why : LineRefusal) (reason : Reason) (given : Result Entry Reason)
    → r ≡ Err why → why ≡ line.Bad reason → GivesLine (λ (e : Entry). e) r given → given ≡ Err reason
refused r why reason given is bad h =
    let e : r ≡ Err (line.Bad reason) = is ∙ ap Err bad in
    subst (λ (s : Result Entry LineRefusal). GivesLine (λ (e : Entry). e) s given) e h
