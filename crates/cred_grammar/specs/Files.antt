-- The lines that declare files.
use Rattle.std.specs.Prelude.{ℕ, Bool, false, ◌&&◌, nat_le, nat_lt, List, [], ◌∷◌, length}
use Rattle.std.specs.Prelude.{codes, Some, None, Result, Ok, Err, ok_or, if◌then◌else◌}
use Rattle.std.specs.declared.option.Option.{Option}
use Rattle.std.specs.Option.{option_map, option_map_or}
use Rattle.std.specs.Str.{bytes_eq}
use Rattle.cred_record.specs.File.{File}
use Rattle.cred_ids.specs.Limits.{FILES}
use Rattle.cred_ids.specs.Tests.{◌>>=◌}
use Rattle.cred_model.specs.Script.{NamedFile}
use Rattle.cred_spelling.specs.declared.reason.Reason.{Reason}
use Rattle.cred_spelling.specs.declared.reason.Reason.TheVariants.{Word, Count}
use Rattle.cred_spelling.specs.Words.{name_of, word_of, three_of}
use Rattle.cred_spelling.specs.Spellings.{id_of, bytes_of, kind_of, mode_of}
use Rattle.cred_script.specs.Files.{file_place}

-- how many words stand after the first one of such a line: the five of each, and the three that may
-- follow
abbrev pub LEAST_WORDS : ℕ
LEAST_WORDS = 5

abbrev pub MOST_WORDS : ℕ
MOST_WORDS = 8

-- the place of the file of this name, or, where none has it, the next one that a file may take
abbrev pub place_or_next : List NamedFile → List ℕ → ℕ
place_or_next files name = option_map_or (λ place. place) (file_place files name) (length files)

-- the file that a word names, by its place
abbrev pub file_at : List NamedFile → List ℕ → Result ℕ Reason
file_at files word = name_of word >>= λ name. Ok (place_or_next files name)

-- one file more may be declared
abbrev pub has_room : List NamedFile → Result (Unit {0}) Reason
has_room files = if nat_lt (length files) FILES then Ok tt else Err Count

-- the words are as many as such a line may have after its first one
abbrev pub has_count : List (List ℕ) → Result (Unit {0}) Reason
has_count words =
    if nat_le LEAST_WORDS (length words) && nat_le (length words) MOST_WORDS
    then Ok tt
    else Err Count

-- nothing, or `caps HEX`
unfoldable pub attr_of : List (List ℕ) → Result (Option (List ℕ)) Reason
attr_of [] = Ok None
attr_of (word ∷ digits ∷ []) =
    if bytes_eq word (codes "caps")
    then ok_or (option_map Some (bytes_of digits)) Word
    else Err Word
attr_of words = Err Word

-- whether `nosuid` stands first
abbrev pub has_nosuid : List (List ℕ) → Bool
has_nosuid [] = false
has_nosuid (word ∷ words) = bytes_eq word (codes "nosuid")

-- what stands after `nosuid`, or all where that does not stand first
abbrev pub after_nosuid : List (List ℕ) → List (List ℕ)
after_nosuid [] = []
after_nosuid (word ∷ words) = if bytes_eq word (codes "nosuid") then words else word ∷ words

-- what may follow: `nosuid`, and then `caps HEX`
unfoldable pub options_of : List (List ℕ) → Result (Bool × Option (List ℕ)) Reason
options_of words = do
  attr ← attr_of (after_nosuid words)
  Ok (has_nosuid words, attr)

-- `KIND ID ID MODE`, and what may follow. The ids are those of the owner and of the group.
unfoldable pub read_info : List (List ℕ) → Result File Reason
read_info (kind ∷ owner ∷ group ∷ mode ∷ options) = do
  word ← three_of kind_of id_of id_of (kind ∷ owner ∷ group ∷ [])
  bits ← word_of mode_of mode
  option ← options_of options
  Ok (record {
    kind = word.0;
    owner = word.1;
    group = word.2;
    mode = bits;
    nosuid = option.0;
    attr = option.1;
  })
read_info words = Err Count

-- `NAME KIND ID ID MODE`, and what may follow
unfoldable pub declared_of : List (List ℕ) → Result NamedFile Reason
declared_of [] = Err Count
declared_of (word ∷ words) = do
  name ← name_of word
  info ← read_info words
  Ok (record { name = name; info = info })

-- `file NAME KIND ID ID MODE`, then perhaps `nosuid`, then perhaps `caps HEX`
unfoldable pub file_of : List NamedFile → List (List ℕ) → Result NamedFile Reason
file_of files words = do
  room ← has_room files
  count ← has_count words
  declared_of words
