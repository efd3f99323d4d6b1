-- What a line is parsed as is sound.
use Rattle.std.proofs.Common.{◌≡◌, ℕ, Bool, true, false, cond, List, [], ◌∷◌, Option, Some, None, Result, Ok, Err, ok_or, refl, subst}
use Rattle.cred_spelling.specs.declared.names.Form.{Form}
use Rattle.cred_spelling.specs.declared.reason.Reason.{Reason}
use Rattle.cred_spelling.specs.declared.reason.Reason.TheVariants.{Word, Byte}
use Rattle.cred_spelling.specs.Lines.{is_printable}
use Rattle.cred_spelling.specs.Names.{form_of}
use Rattle.cred_spelling.specs.Words.{line_words, is_comment}
use Rattle.cred_grammar.specs.declared.forms.Parsed.{Parsed}
use Rattle.cred_grammar.specs.declared.forms.Parsed.TheVariants.{Empty}
use Rattle.cred_grammar.specs.Forms.{parse_form}
use Rattle.cred_grammar.specs.Grammar.{parse_full, parse_words, parse_line}
use Rattle.cred_grammar.specs.Reading.{Reading, admits}
use Rattle.cred_grammar.specs.Sound.{IsParsed}
use Rattle.cred_grammar.proofs.Own.{form_sound}
use Rattle.cred_reader.proofs.Spelled as spelled
use Rattle.cred_ids.specs.Tests.{◌>>=◌}

sound_form : (reading : Reading) (form : Form) (words : List (List ℕ)) (r : Result Parsed Reason) → parse_form reading.files form words ≡ r
    → spelled.Holds (IsParsed reading) (r >>= λ line. admits reading line >>= λ fits. Ok line)
sound_form reading form words (Err reason) is = tt
sound_form reading form words (Ok line) is = by (admits reading line) refl
  where
    by : (a : Result (Unit {0}) Reason) → admits reading line ≡ a
        → spelled.Holds (IsParsed reading) (a >>= λ fits. let r : Result Parsed Reason = Ok line in r)
    by (Ok fit) fits = form_sound reading form words line is fits
    by (Err reason) fits = tt

sound_full : (reading : Reading) (first : List ℕ) (words : List (List ℕ)) → spelled.Holds (IsParsed reading) (parse_full reading first words)
unfolding parse_full
sound_full reading first words = by (form_of first)
  where
    by : (o : Option Form)
        → spelled.Holds (IsParsed reading) (ok_or o Word >>= λ form. parse_form reading.files form words >>= λ line. admits reading line >>= λ fits. Ok line)
    by (Some form) = sound_form reading form words (parse_form reading.files form words) refl
    by None = tt

sound_words : (reading : Reading) (words : List (List ℕ)) → spelled.Holds (IsParsed reading) (parse_words reading words)
sound_words reading [] = tt
sound_words reading (first ∷ words) = by (is_comment first)
  where
    by : (b : Bool) → spelled.Holds (IsParsed reading) (let r : Result Parsed Reason = cond b (Ok Empty) (parse_full reading first words) in r)
    by true = tt
    by false = sound_full reading first words

sound_line : (reading : Reading) (text : List ℕ) → spelled.Holds (IsParsed reading) (parse_line reading text)
sound_line reading text = by (is_printable text)
  where
    by : (b : Bool) → spelled.Holds (IsParsed reading) (let r : Result Parsed Reason = cond b (parse_words reading (line_words text)) (Err Byte) in r)
    by true = sound_words reading (line_words text)
    by false = tt

pub parsed_sound : (reading : Reading) (text : List ℕ) (line : Parsed) → parse_line reading text ≡ Ok line → IsParsed reading line
parsed_sound reading text line is = subst (spelled.Holds (IsParsed reading)) is (sound_line reading text)
