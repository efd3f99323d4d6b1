-- What is true of the files and the lines of every script.
use Rattle.std.proofs.Common.{◌≡◌, ℕ, ◌+◌, ◌<◌, ◌==◌, Bool, true, false, cond, List, [], ◌∷◌, ◌++◌, length, Option, Some, None, Result, Ok, Err, ok_or, refl}
use Rattle.std.proofs.Common.{subst, length-append, arith}
use Rattle.std.specs.Prelude.{IsTrue, IsSome}
use Rattle.std.specs.List.{All}
use Rattle.std.specs.Option.{option_map, option_or}
use Rattle.std.proofs.lemmas.List.Elements.{All-nil, All-push, All-weaker}
use Rattle.std.proofs.lemmas.List.Folds.{find-append}
use Rattle.cred_record.specs.File.{IsMode}
use Rattle.cred_event.specs.declared.content.Content.{Content}
use Rattle.cred_event.specs.declared.content.Content.TheVariants.{Nothing}
use Rattle.cred_model.specs.Script.{Script, Line, Namespace, NamedFile, INITIAL, chain_in}
use Rattle.cred_model.specs.Named as named
use Rattle.cred_model.specs.Named.{IsContentOf}
use Rattle.cred_spelling.specs.declared.reason.Reason.{Reason}
use Rattle.cred_spelling.specs.declared.reason.Reason.TheVariants.{Word, Byte}
use Rattle.cred_spelling.specs.Lines.{lines_of, is_printable}
use Rattle.cred_spelling.specs.Names.{form_of}
use Rattle.cred_spelling.specs.Spellings.{is_name}
use Rattle.cred_spelling.specs.Words.{line_words, is_comment}
use Rattle.cred_grammar.specs.declared.forms.Parsed.{Parsed}
use Rattle.cred_grammar.specs.declared.forms.Parsed.TheVariants.{Empty, File, Starts, Lane, Holds}
use Rattle.cred_grammar.specs.declared.forms.Parsed.TheVariants as parsed
use Rattle.cred_script.specs.Files.{file_place}
use Rattle.cred_grammar.specs.Forms.{parse_form}
use Rattle.cred_grammar.specs.Grammar.{parse_full, parse_words, parse_line, add_line, at_line, add_lines, script_of}
use Rattle.cred_grammar.specs.Reading.{Reading, nothing, admits, keep}
use Rattle.cred_grammar.specs.Reading as reading_of
use Rattle.cred_grammar.specs.Sound.{IsParsed}
use Rattle.cred_fits.proofs.ParsedSound.{parsed_sound}
use Rattle.cred_reader.proofs.Spelled as spelled
use Rattle.cred_reader.proofs.Spelled.{then_holds, ok_or_holds}
use Rattle.cred_fits.specs.Content.{FitsContent, FitsFile}
use Rattle.cred_fits.proofs.FormFits.{FitsForm, FitsParsed, form_fits, parse_fits}
use Rattle.cred_fits.proofs.FilesFit.{AreNamed, none_named, named_more}
use Rattle.cred_ids.specs.Tests.{◌>>=◌}

-- ---- what a line is parsed as

allowed : {A B E : Type 0} (P : A → Type 0) (x : A) → P x → (test : Result B E) → spelled.Holds P (test >>= λ y. Ok x)
allowed P x h (Ok y) = h
allowed P x h (Err e) = tt

-- a value is kept where a last step allows it
kept : {A B E : Type 0} (P : A → Type 0) (r : Result A E) (test : A → Result B E) → spelled.Holds P r
    → spelled.Holds P (r >>= λ x. test x >>= λ y. Ok x)
kept P (Err e) test h = tt
kept P (Ok x) test h = allowed P x h (test x)

full_fits : (reading : Reading) (first : List ℕ) (words : List (List ℕ)) → spelled.Holds FitsParsed (parse_full reading first words)
unfolding parse_full
full_fits reading first words =
    then_holds FitsForm FitsParsed (ok_or (form_of first) Word) _ (ok_or_holds FitsForm (form_of first) Word (form_fits first)) (λ form f.
    kept FitsParsed (parse_form reading.files form words) (admits reading) (parse_fits reading.files form f words))

words_fit : (reading : Reading) (words : List (List ℕ)) → spelled.Holds FitsParsed (parse_words reading words)
words_fit reading [] = tt
words_fit reading (first ∷ words) = by (is_comment first)
  where
    by : (b : Bool) → spelled.Holds FitsParsed (let r : Result Parsed Reason = cond b (Ok Empty) (parse_full reading first words) in r)
    by true = tt
    by false = full_fits reading first words

line_fits : (reading : Reading) (text : List ℕ) → spelled.Holds FitsParsed (parse_line reading text)
line_fits reading text = by (is_printable text)
  where
    by : (b : Bool) → spelled.Holds FitsParsed (let r : Result Parsed Reason = cond b (parse_words reading (line_words text)) (Err Byte) in r)
    by true = words_fit reading (line_words text)
    by false = tt

-- ---- what was declared before stays declared

there : (b : Bool) (found more : Option Namespace) → IsSome (cond b (Some INITIAL) (option_map (λ ns. ns.chain) found))
    → IsSome (cond b (Some INITIAL) (option_map (λ ns. ns.chain) (option_or found more)))
there true found more some = refl
there false (Some ns) more some = refl
there false None more some = absurd (cc)

still_there : (declared : List Namespace) (ns : Namespace) (number : ℕ) → IsSome (chain_in declared number) → IsSome (chain_in (declared ++ ns ∷ []) number)
still_there declared ns number some = rw (find-append (λ ns. ns.number == number) declared (ns ∷ [])) (there (number == 0) _ _ some)

abbrev NamesDeclared : ℕ → List Namespace → Line → Type 0
NamesDeclared count declared line = IsContentOf count declared line.content

with_ns : (count : ℕ) (declared : List Namespace) (ns : Namespace) (line : Line) → NamesDeclared count declared line
    → NamesDeclared count (declared ++ ns ∷ []) line
with_ns count declared ns line of = record {
  files = of.files;
  namespaces =
      All-weaker (λ number. IsSome (chain_in declared number)) (λ number. IsSome (chain_in (declared ++ ns ∷ []) number)) (still_there declared ns)
      (named.namespaces line.content) of.namespaces;
  modes = of.modes;
}

with_file : (count : ℕ) (declared : List Namespace) (line : Line) → NamesDeclared count declared line → NamesDeclared (count + 1) declared line
with_file count declared line of = record {
  files = All-weaker (λ file. file < count) (λ file. file < count + 1) (λ file among. omega arith) (named.files line.content) of.files;
  namespaces = of.namespaces;
  modes = of.modes;
}

-- ---- what was read

abbrev LineFits : Line → Type 0
LineFits line = FitsContent line.content

-- so many files, these namespaces and these lines
pub record AreRead (known : List NamedFile) (declared : List Namespace) (held : List Line) : Type 0 where
  pub files : AreNamed known
  pub inodes : All (λ file. FitsFile file.info) known
  pub lines : All (λ line. FitsContent line.content) held
  pub names : All (λ line. IsContentOf (length known) declared line.content) held

abbrev IsRead : Reading → Type 0
IsRead reading = AreRead reading.files reading.namespaces reading.lines

nothing_held : (count : ℕ) (declared : List Namespace) → IsContentOf count declared Nothing
nothing_held count declared = record {
  files = All-nil (λ file. file < count);
  namespaces = All-nil (λ n. IsSome (chain_in declared n));
  modes = All-nil (λ mode. IsMode mode);
}

-- a line more
pushed : (files : List NamedFile) (namespaces : List Namespace) (lines : List Line) (lane : ℕ) (content : Content) → AreRead files namespaces lines
    → FitsContent content → IsContentOf (length files) namespaces content → AreRead files namespaces (lines ++ record { lane = lane; content = content } ∷ [])
pushed files namespaces lines lane content old fits of = record {
  files = old.files;
  inodes = old.inodes;
  lines = All-push LineFits lines _ old.lines fits;
  names = All-push (NamesDeclared (length files) namespaces) lines _ old.names of;
}

file_more : (files : List NamedFile) (file : NamedFile) (namespaces : List Namespace) (lines : List Line) → AreRead files namespaces lines
    → file_place files file.name ≡ None → IsTrue (is_name file.name) → FitsFile file.info → AreRead (files ++ file ∷ []) namespaces lines
file_more files file namespaces lines old new name info =
    let count : length (files ++ file ∷ []) ≡ length files + 1 = length-append files (file ∷ []) in
    record {
      files = named_more files file old.files new name;
      inodes = All-push (λ (f : NamedFile). FitsFile f.info) files file old.inodes info;
      lines = old.lines;
      names =
          rw count
          (All-weaker (NamesDeclared (length files) namespaces) (NamesDeclared (length files + 1) namespaces) (with_file (length files) namespaces) lines
          old.names);
    }

namespace_more : (files : List NamedFile) (namespaces : List Namespace) (ns : Namespace) (lines : List Line) → AreRead files namespaces lines
    → AreRead files (namespaces ++ ns ∷ []) lines
namespace_more files namespaces ns lines old = record {
  files = old.files;
  inodes = old.inodes;
  lines = old.lines;
  names =
      All-weaker (NamesDeclared (length files) namespaces) (NamesDeclared (length files) (namespaces ++ ns ∷ [])) (with_ns (length files) namespaces ns) lines
      old.names;
}

kept_fits : (reading : Reading) (line : Parsed) → IsRead reading → IsParsed reading line → FitsParsed line → IsRead (keep reading line)
kept_fits reading Empty old sound fits = pushed _ _ _ _ Nothing old tt (nothing_held _ _)
kept_fits reading (File file) old sound fits =
    file_more _ file _ _ (pushed _ _ _ _ Nothing old tt (nothing_held _ _)) sound.1 fits.0 fits.1
kept_fits reading (parsed.Namespace number root parent) old sound fits =
    namespace_more _ _ _ _ (pushed _ _ _ _ Nothing old tt (nothing_held _ _))
kept_fits reading (Starts content) old sound fits = pushed _ _ _ _ content old fits sound.named
kept_fits reading (Lane number) old sound fits = pushed _ _ _ _ Nothing old tt (nothing_held _ _)
kept_fits reading (Holds by content) old sound fits = pushed _ _ _ _ content old fits sound.named

added : (reading : Reading) (text : List ℕ) → IsRead reading → spelled.Holds IsRead (add_line reading text)
unfolding add_line
added reading text old = by (parse_line reading text) refl (line_fits reading text)
  where
    by : (r : Result Parsed Reason) → parse_line reading text ≡ r → spelled.Holds FitsParsed r
        → spelled.Holds IsRead (r >>= λ line. let k : Result Reading Reason = Ok (keep reading line) in k)
    by (Ok line) is fits = kept_fits reading line old (parsed_sound reading text line is) fits
    by (Err reason) is fits = tt

all_added : (reading : Reading) (texts : List (List ℕ)) → IsRead reading → spelled.Holds IsRead (add_lines reading texts)
all_added reading [] old = old
all_added reading (text ∷ texts) old = by (add_line reading text) (added reading text old) (λ next h. all_added next texts h)
  where
    by : (r : Result Reading Reason) → spelled.Holds IsRead r → ((next : Reading) → IsRead next → spelled.Holds IsRead (add_lines next texts))
        → spelled.Holds IsRead (at_line (length reading.lines + 1) r >>= λ next. add_lines next texts)
    by (Ok next) h more = more next h
    by (Err reason) h more = tt

nothing_read : IsRead nothing
nothing_read =
    record { files = none_named; inodes = All-nil (λ (f : NamedFile). FitsFile f.info); lines = All-nil LineFits; names = All-nil (NamesDeclared 0 []) }

-- so it is of every script
pub script_fits : (bytes : List ℕ) (script : Script) → script_of bytes ≡ Ok script → AreRead script.files script.namespaces script.lines
script_fits bytes script is = by (add_lines nothing (lines_of bytes)) (all_added nothing (lines_of bytes) nothing_read) is
  where
    by : (r : Result Reading (ℕ × Reason)) → spelled.Holds IsRead r → (r >>= λ reading. Ok (reading_of.script reading)) ≡ Ok script
        → AreRead script.files script.namespaces script.lines
    by (Ok reading) h is =
        let same : reading_of.script reading ≡ script = cc in
        subst (λ (s : Script). AreRead s.files s.namespaces s.lines) same h
    by (Err bad) h is = absurd (cc)
