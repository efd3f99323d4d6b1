-- Entries that were printed, read back.
use Rattle.std.proofs.Common.{◌≡◌, ℕ, ◌+◌, ◌-◌, true, List, ◌∷◌, ◌++◌, length, take, drop, codes, Ok, refl, sym, ap, ◌∙◌, append_assoc, length-append, decimal}
use Rattle.std.proofs.Common.{arith}
use Rattle.std.specs.List.{list_all}
use Rattle.std.proofs.Math.Seq.{drop-append-add}
use Rattle.std.proofs.lemmas.List.{take_at}
use Rattle.std.proofs.lemmas.List.Folds.{list_all-append}
use Rattle.cred_event.specs.declared.event.Event.{Event}
use Rattle.cred_event.specs.declared.answer.Answer.{Answer}
use Rattle.cred_event.specs.declared.entry.Entry.{Entry}
use Rattle.cred_model.specs.Script.{Script, NamedFile}
use Rattle.cred_spelling.specs.Words.{line_words}
use Rattle.cred_report.specs.Text.{entry_text}
use Rattle.cred_reader.specs.Answers.{told_by, read_answer}
use Rattle.cred_reader.specs.Events.{read_event}
use Rattle.cred_reader.specs.Entry.{read_entry, body_of}
use Rattle.cred_reader.specs.Fits.{Fits, IsNumber}
use Rattle.cred_reader.proofs.Agrees.{can_agree}
use Rattle.cred_reader.proofs.AnswersBack.{answer_back}
use Rattle.cred_reader.proofs.EventsBack.{event_back}
use Rattle.cred_reader.proofs.Numbers.{long_number, number_back, decimal_plain}
use Rattle.cred_reader.proofs.Words.{is_plain, is_whole, plain_whole, all_whole, spaced, spaced-append, words_back, arrow_back}

-- the words after the number of the line
abbrev joined_by_arrow : List (List ℕ) → List (List ℕ) → List (List ℕ)
joined_by_arrow es vs = es ++ (codes "->" ∷ vs)

joined_by_arrow_whole : (es vs : List (List ℕ)) → list_all is_plain es ≡ true → list_all is_plain vs ≡ true → list_all is_whole (joined_by_arrow es vs) ≡ true
joined_by_arrow_whole es vs e v =
    rw (list_all-append is_whole es (codes "->" ∷ vs)) (rw (all_whole es e, all_whole vs v) refl)

-- the text without LF
before_end : (d ev an : List ℕ) → d ++ codes " " ++ ev ++ codes " -> " ++ an ≡ d ++ ((32 ∷ ev) ++ (32 ∷ 45 ∷ 62 ∷ 32 ∷ an))
before_end d ev an = simp append_assoc

-- the text is the words, with a space before each but the first, and LF
as_words : (d ev an : List ℕ) (es vs : List (List ℕ)) → 32 ∷ ev ≡ spaced es → 32 ∷ an ≡ spaced vs
    → d ++ codes " " ++ ev ++ codes " -> " ++ an ++ codes "\n" ≡ (d ++ spaced (joined_by_arrow es vs)) ++ codes "\n"
as_words d ev an es vs e v =
    let words : (32 ∷ ev) ++ (32 ∷ 45 ∷ 62 ∷ 32 ∷ an) ≡ spaced (joined_by_arrow es vs)
    = ap (λ (t : List ℕ). t ++ (32 ∷ 45 ∷ 62 ∷ 32 ∷ an)) e
    ∙ ap (λ (t : List ℕ). spaced es ++ (32 ∷ 45 ∷ 62 ∷ t)) v
    ∙ sym (spaced-append es (codes "->" ∷ vs)) in
    ap (λ (t : List ℕ). t ++ codes "\n") (before_end d ev an ∙ ap (λ (t : List ℕ). d ++ t) words)

-- the words of a fitting entry's text
pub record IsSpelled (script : Script) (entry : Entry) : Type 0 where
  pub words : List (List ℕ)
  pub number : is_whole (decimal entry.line) ≡ true
  pub whole : list_all is_whole words ≡ true
  pub is : entry_text script entry ≡ (decimal entry.line ++ spaced words) ++ codes "\n"

pub entry_words : (script : Script) (entry : Entry) → Fits script entry → IsSpelled script entry
entry_words script entry fits =
    let eb = event_back script entry.event fits.event fits.sound.names.files in
    let ab = answer_back (told_by entry.event) entry.answer fits.answer (can_agree entry.event entry.answer fits.sound.row) in
    let es : List (List ℕ) = eb.first ∷ eb.rest in
    let vs : List (List ℕ) = ab.first ∷ ab.rest in
    record {
      words = joined_by_arrow es vs;
      number = plain_whole (decimal entry.line) (decimal_plain entry.line (long_number entry.line fits.line));
      whole = joined_by_arrow_whole es vs eb.plain ab.plain;
      is = as_words (decimal entry.line) _ _ es vs eb.spaced ab.spaced;
    }

-- what stands before LF
body_back : (text : List ℕ) → body_of (text ++ codes "\n") ≡ text
body_back text =
    let long : length (text ++ codes "\n") - 1 ≡ length text = omega (arith, length-append text (codes "\n")) in
    rw long (take_at text (codes "\n") (length text) refl)

entry_from : (files : List NamedFile) (line : ℕ) (event : Event) (answer : Answer) (es vs : List (List ℕ)) → IsNumber line
    → list_all is_plain es ≡ true → read_event files es ≡ Ok event → read_answer (told_by event) vs ≡ Ok answer
    → read_entry files (decimal line ∷ joined_by_arrow es vs) ≡ Ok (record { line = line; event = event; answer = answer })
unfolding read_entry
entry_from files line event answer es vs small plain e v =
    let prefix_is : take (length es) (joined_by_arrow es vs) ≡ es = take_at es (codes "->" ∷ vs) (length es) refl in
    let back : drop (length es + 1) (joined_by_arrow es vs) ≡ vs = drop-append-add es (codes "->" ∷ vs) 1 in
    rw (number_back line small, arrow_back es vs plain, prefix_is, e, back, v) refl

-- the words of a fitting entry's text are read as the entry
pub entry_back : (script : Script) (entry : Entry) → Fits script entry → read_entry script.files (line_words (body_of (entry_text script entry))) ≡ Ok entry
entry_back script entry fits =
    let eb = event_back script entry.event fits.event fits.sound.names.files in
    let ab = answer_back (told_by entry.event) entry.answer fits.answer (can_agree entry.event entry.answer fits.sound.row) in
    let es : List (List ℕ) = eb.first ∷ eb.rest in
    let vs : List (List ℕ) = ab.first ∷ ab.rest in
    let text = as_words (decimal entry.line) _ _ es vs eb.spaced ab.spaced in
    let body : body_of (entry_text script entry) ≡ decimal entry.line ++ spaced (joined_by_arrow es vs)
    = ap body_of text ∙ body_back (decimal entry.line ++ spaced (joined_by_arrow es vs)) in
    let split =
    words_back (decimal entry.line) (joined_by_arrow es vs) (plain_whole (decimal entry.line) (decimal_plain entry.line (long_number entry.line fits.line)))
    (joined_by_arrow_whole es vs eb.plain ab.plain) in
    ap (λ (b : List ℕ). read_entry script.files (line_words b)) body
    ∙ ap (read_entry script.files) split
    ∙ entry_from script.files entry.line entry.event entry.answer es vs fits.line eb.plain eb.read ab.read

-- a text is that of one fitting entry at most
pub once : (script : Script) (a b : Entry) → Fits script a → Fits script b → entry_text script a ≡ entry_text script b → a ≡ b
once script a b fits_a fits_b same =
    let ra = entry_back script a fits_a in
    let rb = entry_back script b fits_b in
    let e : read_entry script.files (line_words (body_of (entry_text script a))) ≡ read_entry script.files (line_words (body_of (entry_text script b)))
    = ap (λ (t : List ℕ). read_entry script.files (line_words (body_of t))) same in
    cc
