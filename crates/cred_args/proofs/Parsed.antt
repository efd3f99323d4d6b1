-- What clap makes of plain words: one or two of them are taken as they stand, and nothing else is.
use Rattle.std.proofs.Common.{◌≡◌, ◌==◌, inl, inr, ℕ, Bool, true, false, not, ◌&&◌, List, [], ◌∷◌, Option, Some, None, Result, Ok, Err, option_map, codes, refl}
use Rattle.std.proofs.Common.{sym, ap, ap₂, ◌∙◌, subst}
use Rattle.std.specs.List.{list_all}
use Rattle.std.specs.Result.{IfOk}
use Rattle.clap.specs.Words.{App, FailsBy, HasKind, HasMatchesOf, IsAmong, is_simple, Text, app_of, fault_of, first_of, first_value, found_of}
use Rattle.clap.specs.Words.{is_simple_and_free, kind_of, matches_of, new_app, rows_of}
use Rattle.std.specs.Str.{bytes_eq}
use Rattle.clap.specs.Faults.{step_fault, turn_fault, walk_fault, word_fault, defaults_fault}
use Rattle.clap.specs.Kinds.{Kinds, or_else}
use Rattle.clap.specs.Lexer.{long_of, short_of}
use Rattle.clap.specs.Simple.{Shape, app_of_fields, built}
use Rattle.clap.specs.Walk.{Held, Rule, Step, Walk, after_step, arg_by_index, idle, nothing_held, settled, to_positional, value, walked, word_met}
use Rattle.clap.specs.declared.builder.command.Command.{Command}
use Rattle.clap.specs.declared.builder.command.Command.TheViews.{out-Command}
use Rattle.clap.specs.declared.error.Error.{Error}
use Rattle.clap.specs.declared.error.kind.ErrorKind.{ErrorKind}
use Rattle.clap.specs.declared.error.kind.ErrorKind.TheVariants as kind
use Rattle.clap.specs.declared.parser.matches.ArgMatches.{ArgMatches}
use Rattle.clap.proofs.WalkLemmas.{first_value-rows}
use Rattle.cred_args.specs.Line.{Finds, bare_line, line}
use Rattle.cred_args.specs.Positionals.{WordsGiven, is_plain, split, positionals}

-- ---- the command that is built

abbrev no_name : App → App
no_name a = record a { top = record a.top { no_binary_name = true } }

abbrev no_help : App → App
no_help a = record a { top = record a.top { disable_help_flag = true } }

pub bared : (a b c : Command) → app_of a ≡ new_app (codes "credtrace") → out-Command b ≡ record (out-Command a) { no_binary_name = true }
    → out-Command c ≡ record (out-Command b) { disable_help_flag = true } → app_of c ≡ bare_line
bared a b c is nameless helpless =
    let second : app_of c ≡ no_help (app_of b) = ap app_of_fields helpless in
    let first : app_of b ≡ no_name (app_of a) = ap app_of_fields nameless in
    second ∙ ap no_help (first ∙ ap no_name is)

pub is_free : is_simple_and_free line ≡ true
is_free = refl

-- ---- one plain word

-- the word is no flag
record IsPlainWord (word : Text) : Type 0 where
  long : long_of word ≡ None
  short : short_of word ≡ None
  other : bytes_eq word (45 ∷ 45 ∷ []) ≡ false

plain_word_of : (x : ℕ) (xs : Text) → (x == 45) ≡ false → IsPlainWord (x ∷ xs)
plain_word_of x xs plain = record {
  long = rw plain refl;
  short = rw plain refl;
  other = rw plain refl;
}

-- between two words, where no flag waits for a value
abbrev at : Held → ℕ → Walk
at h position = record { held = h; waiting = idle; position = position; is_trailing = false; stopped = None }

met : (c : List Rule) (position : ℕ) (word : Text) (h : Held) → IsPlainWord word → word_met c [] false idle position word h ≡ (h, value)
met c position word h plain = rw (plain.other, plain.long, plain.short) refl

no_word_fault : (s : Shape) (word : Text) (h : Held) → IsPlainWord word → word_fault s [] false idle word h ≡ []
no_word_fault s word h plain = rw (plain.other, plain.long, plain.short) refl

goes_on : (c : List Rule) (position : ℕ) (word : Text) (h : Held) → IsPlainWord word
    → walked c [] (at h position) word ≡ to_positional c (arg_by_index c position) word (at h position) h
unfolding walked
goes_on c position word h plain =
    ap (λ (m : Held × Step). after_step c word (at h position) m.0 m.1) (met c position word h plain)

turn : (s : Shape) (position : ℕ) (word : Text) (h : Held) → IsPlainWord word → turn_fault s [] (at h position) word ≡ step_fault s position h value
turn s position word h plain =
    ap₂ (λ (faults : Kinds) (m : Held × Step). or_else faults (step_fault s position m.0 m.1)) (no_word_fault s word h plain)
    (met s.rules position word h plain)

-- ---- what the command makes of words

abbrev top : Shape
top = (built line).top

abbrev held_one : Text → Held
held_one a = record { rows = []; pending = Some (codes "command", a ∷ []); skip = 0 }

abbrev held_two : Text → Text → Held
held_two a b = record { rows = (settled top.rules (held_one a)).rows; pending = Some (codes "operand", b ∷ []); skip = 0 }

first : (a : Text) → IsPlainWord a → walked top.rules [] (at nothing_held 1) a ≡ at (held_one a) 2
first a plain = goes_on top.rules 1 a nothing_held plain

second : (a b : Text) → IsPlainWord b → walked top.rules [] (at (held_one a) 2) b ≡ at (held_two a b) 3
second a b plain = goes_on top.rules 2 b (held_one a) plain

first_turn : (a : Text) → IsPlainWord a → turn_fault top [] (at nothing_held 1) a ≡ []
first_turn a plain = turn top 1 a nothing_held plain

second_turn : (a b : Text) → IsPlainWord b → turn_fault top [] (at (held_one a) 2) b ≡ []
second_turn a b plain = turn top 2 b (held_one a) plain

third_turn : (a b c : Text) → IsPlainWord c → turn_fault top [] (at (held_two a b) 3) c ≡ kind.UnknownArgument ∷ []
third_turn a b c plain = turn top 3 c (held_two a b) plain

none_missing : fault_of line [] ≡ kind.MissingRequiredArgument ∷ []
unfolding walk_fault walked defaults_fault
none_missing = refl

one_taken : (a : Text) → IsPlainWord a → fault_of line (a ∷ []) ≡ []
unfolding walk_fault defaults_fault
one_taken a plain = rw (first_turn a plain, first a plain) refl

two_taken : (a b : Text) → IsPlainWord a → IsPlainWord b → fault_of line (a ∷ b ∷ []) ≡ []
unfolding walk_fault defaults_fault
two_taken a b plain also = rw (first_turn a plain, first a plain, second_turn a b also, second a b also) refl

three_refused : (a b c : Text) (more : List Text) → IsPlainWord a → IsPlainWord b → IsPlainWord c
    → fault_of line (a ∷ b ∷ c ∷ more) ≡ kind.UnknownArgument ∷ []
unfolding walk_fault
three_refused a b c more plain also too =
    rw (first_turn a plain, first a plain, second_turn a b also, second a b also, third_turn a b c too) refl

one_command : (a : Text) → IsPlainWord a → first_of (codes "command") (matches_of line (a ∷ [])) ≡ Some a
one_command a plain = rw (first a plain) refl

one_operand : (a : Text) → IsPlainWord a → first_of (codes "operand") (matches_of line (a ∷ [])) ≡ None
one_operand a plain = rw (first a plain) refl

two_command : (a b : Text) → IsPlainWord a → IsPlainWord b → first_of (codes "command") (matches_of line (a ∷ b ∷ [])) ≡ Some a
two_command a b plain also = rw (first a plain, second a b also) refl

two_operand : (a b : Text) → IsPlainWord a → IsPlainWord b → first_of (codes "operand") (matches_of line (a ∷ b ∷ [])) ≡ Some b
two_operand a b plain also = rw (first a plain, second a b also) refl

-- ---- all words

both : (a b : Bool) → (a && b) ≡ true → (a ≡ true) × (b ≡ true)
both true b h = (refl, h)
both false b h = absurd (cc)

other : (b : Bool) → not b ≡ true → b ≡ false
other false h = refl
other true h = absurd (cc)

-- where all words are plain, so is the first, and so are those after it
first_plain : (a : Text) (more : List Text) → list_all is_plain (a ∷ more) ≡ true → IsPlainWord a × (list_all is_plain more ≡ true)
first_plain [] more plain = absurd (cc)
first_plain (x ∷ xs) more plain =
    let parts = both (not (x == 45)) (list_all is_plain more) plain in
    (plain_word_of x xs (other (x == 45) parts.0), parts.1)

-- the two positionals, as they are found
abbrev given : List Text → Option WordsGiven
given words =
    option_map (λ command. (command, first_of (codes "operand") (matches_of line words))) (first_of (codes "command") (matches_of line words))

taken : (words : List Text) → list_all is_plain words ≡ true → fault_of line words ≡ [] → given words ≡ split words
taken [] plain none = let bad : kind.MissingRequiredArgument ∷ [] ≡ [] = sym none_missing ∙ none in absurd (cc)
taken (a ∷ []) plain none =
    let p = first_plain a [] plain in
    rw (one_command a p.0, one_operand a p.0) refl
taken (a ∷ b ∷ []) plain none =
    let p = first_plain a (b ∷ []) plain in
    let q = first_plain b [] p.1 in
    rw (two_command a b p.0 q.0, two_operand a b p.0 q.0) refl
taken (a ∷ b ∷ c ∷ more) plain none =
    let p = first_plain a (b ∷ c ∷ more) plain in
    let q = first_plain b (c ∷ more) p.1 in
    let r = first_plain c more q.1 in
    let bad : kind.UnknownArgument ∷ [] ≡ [] = sym (three_refused a b c more p.0 q.0 r.0) ∙ none in
    absurd (cc)

refused : (words : List Text) → list_all is_plain words ≡ true → (k : ErrorKind) → IsAmong k (fault_of line words) → split words ≡ None
refused [] plain k among = refl
refused (a ∷ []) plain k among = absurd (subst (IsAmong k) (one_taken a (first_plain a [] plain).0) among)
refused (a ∷ b ∷ []) plain k among =
    let p = first_plain a (b ∷ []) plain in
    let q = first_plain b [] p.1 in
    absurd (subst (IsAmong k) (two_taken a b p.0 q.0) among)
refused (a ∷ b ∷ c ∷ more) plain k among = refl

-- what is found is what the words are
pub as_found : (words : List Text) (m : ArgMatches) → list_all is_plain words ≡ true
    → (fault_of line words ≡ []) × (rows_of (found_of m) ≡ matches_of line words)
    → option_map (λ command. (command, first_value (found_of m) (codes "operand"))) (first_value (found_of m) (codes "command")) ≡ positionals words
as_found words m plain found =
    rw (first_value-rows (found_of m) (codes "operand"), first_value-rows (found_of m) (codes "command"), found.1, plain) (taken words plain found.0)

-- words with a fault are none
pub as_refused : (words : List Text) (e : Error) → list_all is_plain words ≡ true → HasKind (fault_of line words) e
    → (kind_of e ≡ kind.OutOfMemory → ⊥) → None ≡ positionals words
as_refused words e plain (inl memory) other = absurd (other memory)
as_refused words e plain (inr among) other = rw (plain, refused words plain (kind_of e) among) refl

-- what the parse says, of this command
pub found_so : (a : App) (words : List Text) (r : Result ArgMatches Error) → a ≡ line → FailsBy (fault_of a words) r → IfOk r (HasMatchesOf a words)
    → Finds words r
found_so a words (Ok m) is fails has =
    let simple : is_simple a ≡ true = ap is_simple is in
    (ap (λ (b : App). fault_of b words) (sym is) ∙ fails, (has simple).0 ∙ ap (λ (b : App). matches_of b words) is)
found_so a words (Err e) is fails has = subst (λ (b : App). HasKind (fault_of b words) e) is fails
