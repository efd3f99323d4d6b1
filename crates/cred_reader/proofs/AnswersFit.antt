-- The answers that words are read as fit.
use Rattle.std.proofs.Common.{ℕ, ◌≤◌, ◌==◌, Bool, true, false, cond, Option, All, List, [], ◌∷◌, Result, Ok, ok_or, length, codes}
use Rattle.std.specs.Str.{bytes_eq}
use Rattle.cred_ids.specs.Id.{IsId}
use Rattle.cred_ids.specs.Tests.{◌>>=◌}
use Rattle.cred_caps.specs.Caps.{IsCaps}
use Rattle.cred_caps.specs.Secure.{LAST_BITS}
use Rattle.cred_record.specs.File.{IsMode}
use Rattle.cred_event.specs.declared.answer.Answer.{Answer}
use Rattle.cred_event.specs.declared.answer.Answer.TheVariants as answer
use Rattle.cred_spelling.specs.declared.reason.Reason.{Reason}
use Rattle.cred_spelling.specs.declared.reason.Reason.TheVariants.{Word}
use Rattle.cred_spelling.specs.Spellings as spelling
use Rattle.cred_spelling.specs.Words.{word_of, one_of, two_of, three_of, five_of}
use Rattle.cred_grammar.specs.IdCalls.{ids}
use Rattle.cred_reader.specs.declared.answers.AnswerForm.{AnswerForm}
use Rattle.cred_reader.specs.declared.answers.AnswerForm.TheVariants.{Nothing, Ids, Caps, Groups, Bits, Flag, File}
use Rattle.cred_reader.specs.Answers as spec
use Rattle.cred_reader.specs.Fits.{IsNumber, IsLong, FitsAnswer}
use Rattle.cred_reader.specs.Kinds as kinds
use Rattle.cred_reader.proofs.FileWords.{mode_fits}
use Rattle.cred_reader.proofs.Spelled.{Holds, HoldsSome, then_holds, ok_or_holds, word_holds, two_holds, three_holds, five_holds, any_holds}
use Rattle.cred_reader.proofs.KindsFit.{number_fits, id_fits, set_fits, task_fits, label_fits, slot_fits, cred_fits, bits_fits, flag_fits, ids_fit}

ids_told_fit : (words : List (List ℕ)) → Holds FitsAnswer (spec.ids_told words)
unfolding spec.ids_told
ids_told_fit [] = tt
ids_told_fit (a ∷ []) = tt
ids_told_fit (a ∷ b ∷ []) = tt
ids_told_fit (a ∷ b ∷ c ∷ words) =
    then_holds _ FitsAnswer (three_of spelling.id_of spelling.id_of spelling.id_of (a ∷ b ∷ c ∷ [])) _
    (three_holds IsId IsId IsId spelling.id_of spelling.id_of spelling.id_of id_fits id_fits id_fits (a ∷ b ∷ c ∷ [])) (λ user u.
    then_holds _ FitsAnswer (five_of spelling.id_of spelling.id_of spelling.id_of spelling.id_of spelling.id_of words) _
    (five_holds IsId IsId IsId IsId IsId spelling.id_of spelling.id_of spelling.id_of spelling.id_of spelling.id_of id_fits id_fits id_fits id_fits id_fits
    words)
    (λ rest r.
    ((u.0, u.1, u.2, r.0), (r.1, r.2, r.3, r.4))))

was_or_sealed : (t : Bool) (a b : List ℕ)
    → Holds FitsAnswer
    (cond t (word_of spelling.id_of b >>= λ id. Ok (answer.Was id))
    (two_of kinds.cred_of kinds.slot_word (a ∷ b ∷ []) >>= λ word. Ok (answer.Sealed word.0 word.1)))
was_or_sealed true a b = then_holds IsId FitsAnswer (word_of spelling.id_of b) _ (word_holds IsId spelling.id_of id_fits b) (λ v h. h)
was_or_sealed false a b =
    then_holds _ FitsAnswer (two_of kinds.cred_of kinds.slot_word (a ∷ b ∷ [])) _
    (two_holds IsLong IsNumber kinds.cred_of kinds.slot_word cred_fits slot_fits (a ∷ b ∷ [])) (λ v h. h)

numbers : (a b c : List ℕ)
    → Holds (λ (v : ℕ × ℕ × ℕ). IsLong v.0 × IsNumber v.1 × IsNumber v.2) (three_of kinds.cred_of kinds.slot_word spelling.number_of (a ∷ b ∷ c ∷ []))
numbers a b c = three_holds IsLong IsNumber IsNumber kinds.cred_of kinds.slot_word spelling.number_of cred_fits slot_fits number_fits (a ∷ b ∷ c ∷ [])

either : (t : Bool) (a b : Result Answer Reason) → Holds FitsAnswer a → Holds FitsAnswer b → Holds FitsAnswer (cond t a b)
either true a b ha hb = ha
either false a b ha hb = hb

acted_fits : (words : List (List ℕ)) → Holds FitsAnswer (spec.acted words)
unfolding spec.acted
acted_fits [] = tt
acted_fits (a ∷ []) = tt
acted_fits (a ∷ b ∷ []) = tt
acted_fits (a ∷ b ∷ c ∷ []) = tt
acted_fits (a ∷ b ∷ c ∷ d ∷ []) = tt
acted_fits (task ∷ a ∷ b ∷ left ∷ number ∷ []) =
    then_holds _ FitsAnswer (two_of kinds.task_word kinds.cred_of (task ∷ a ∷ [])) _
    (two_holds IsNumber IsLong kinds.task_word kinds.cred_of task_fits cred_fits (task ∷ a ∷ [])) (λ word w.
    then_holds _ FitsAnswer (two_of kinds.slot_word spelling.number_of (b ∷ number ∷ [])) _
    (two_holds IsNumber IsNumber kinds.slot_word spelling.number_of slot_fits number_fits (b ∷ number ∷ [])) (λ rest r. (w.0, w.1, r.0, r.1)))
acted_fits (a ∷ b ∷ c ∷ d ∷ e ∷ word ∷ words) = tt

longest_fits : (words : List (List ℕ)) → Holds FitsAnswer (spec.longest words)
unfolding spec.longest
longest_fits [] = tt
longest_fits (a ∷ []) = tt
longest_fits (a ∷ b ∷ []) = tt
longest_fits (a ∷ b ∷ c ∷ []) = tt
longest_fits (a ∷ b ∷ left ∷ number ∷ []) =
    then_holds _ FitsAnswer (three_of kinds.cred_of kinds.slot_word spelling.number_of (a ∷ b ∷ number ∷ [])) _ (numbers a b number) (λ v h. h)
longest_fits (a ∷ b ∷ ended ∷ number ∷ gain ∷ words) =
    then_holds _ FitsAnswer (three_of kinds.cred_of kinds.slot_word spelling.number_of (a ∷ b ∷ number ∷ [])) _ (numbers a b number) (λ v h.
    then_holds _ FitsAnswer (three_of spelling.set_of spelling.set_of spelling.set_of words) _
    (three_holds IsCaps IsCaps IsCaps spelling.set_of spelling.set_of spelling.set_of set_fits set_fits set_fits words) (λ s g. (h.0, h.1, h.2, g)))

longer_fits : (words : List (List ℕ)) → Holds FitsAnswer (spec.longer words)
unfolding spec.longer
longer_fits words = either (length words == 5) (spec.acted words) (spec.longest words) (acted_fits words) (longest_fits words)

plain_fits : (words : List (List ℕ)) → Holds FitsAnswer (spec.plain words)
unfolding spec.plain
plain_fits [] = tt
plain_fits (slot ∷ []) = then_holds IsNumber FitsAnswer (word_of kinds.slot_word slot) _ (word_holds IsNumber kinds.slot_word slot_fits slot) (λ v h. h)
plain_fits (a ∷ b ∷ []) = was_or_sealed (bytes_eq a (codes "was")) a b
plain_fits (a ∷ b ∷ c ∷ words) = longer_fits (a ∷ b ∷ c ∷ words)

file_told_fits : (words : List (List ℕ)) → Holds FitsAnswer (spec.file_told words)
unfolding spec.file_told
file_told_fits [] = tt
file_told_fits (owner ∷ []) = tt
file_told_fits (owner ∷ group ∷ words) =
    then_holds _ FitsAnswer (two_of spelling.id_of spelling.id_of (owner ∷ group ∷ [])) _
    (two_holds IsId IsId spelling.id_of spelling.id_of id_fits id_fits (owner ∷ group ∷ [])) (λ id i.
    then_holds _ FitsAnswer (two_of spelling.mode_of kinds.flag_of words) _
    (two_holds (λ mode. IsMode mode) (λ flag. Unit {0}) spelling.mode_of kinds.flag_of mode_fits flag_fits words) (λ rest r. (i.0, i.1, r.0)))

ok_fits : (told : AnswerForm) (words : List (List ℕ)) → Holds FitsAnswer (spec.ok_words told words)
unfolding spec.ok_words
ok_fits Nothing words = plain_fits words
ok_fits Ids words = ids_told_fit words
ok_fits Caps words =
    then_holds _ FitsAnswer (five_of spelling.set_of spelling.set_of spelling.set_of spelling.set_of spelling.set_of words) _
    (five_holds IsCaps IsCaps IsCaps IsCaps IsCaps spelling.set_of spelling.set_of spelling.set_of spelling.set_of spelling.set_of set_fits set_fits set_fits
    set_fits set_fits words)
    (λ v h. h)
ok_fits Groups words = then_holds (All IsId) FitsAnswer (ids words) _ (ids_fit words) (λ v h. h)
ok_fits Bits words =
    then_holds _ FitsAnswer (two_of kinds.bits_of kinds.flag_of words) _
    (two_holds (λ bits. bits ≤ LAST_BITS) (λ flag. Unit {0}) kinds.bits_of kinds.flag_of bits_fits flag_fits words) (λ v h. h.0)
ok_fits Flag words = then_holds (λ flag. Unit {0}) FitsAnswer (one_of kinds.flag_of words) _ (any_holds (one_of kinds.flag_of words)) (λ v h. tt)
ok_fits File words = file_told_fits words

number_then : (word : List ℕ) (f : ℕ → Answer) → ((n : ℕ) → IsNumber n → FitsAnswer (f n))
    → Holds FitsAnswer (word_of spelling.number_of word >>= λ n. Ok (f n))
number_then word f next = then_holds IsNumber FitsAnswer (word_of spelling.number_of word) _ (word_holds IsNumber spelling.number_of number_fits word) next

label_then : (word : List ℕ) (f : ℕ → Answer) → ((n : ℕ) → IsNumber n → FitsAnswer (f n)) → Holds FitsAnswer (word_of kinds.label_word word >>= λ n. Ok (f n))
label_then word f next = then_holds IsNumber FitsAnswer (word_of kinds.label_word word) _ (word_holds IsNumber kinds.label_word label_fits word) next

either_some : (t : Bool) (a b : Option Answer) → HoldsSome FitsAnswer a → HoldsSome FitsAnswer b → HoldsSome FitsAnswer (cond t a b)
either_some true a b ha hb = ha
either_some false a b ha hb = hb

one_word_fits : (word : List ℕ) → HoldsSome FitsAnswer (spec.one_word word)
one_word_fits word =
    either_some (bytes_eq word (codes "eperm")) _ _ tt
    (either_some (bytes_eq word (codes "einval")) _ _ tt
    (either_some (bytes_eq word (codes "eacces")) _ _ tt
    (either_some (bytes_eq word (codes "ebadf")) _ _ tt tt)))

exists_fits : (word : List ℕ) → Holds FitsAnswer (spec.exists_of word)
unfolding spec.exists_of
exists_fits [] = tt
exists_fits (first ∷ digits) =
    then_holds (λ what. Unit {0}) FitsAnswer (ok_or (spec.what_of first) Word) _ (any_holds (ok_or (spec.what_of first) Word))
    (λ what u. number_then digits (answer.Exists what) (λ n h. h))

two_words_fit : (a b : List ℕ) → Holds FitsAnswer (spec.two_words a b)
unfolding spec.two_words
two_words_fit a b =
    either (bytes_eq a (codes "busy")) _ _ (number_then b answer.Busy (λ n h. h))
    (either (bytes_eq a (codes "exists")) _ _ (exists_fits b)
    (either (bytes_eq a (codes "overridden")) _ _ (number_then b answer.Overridden (λ n h. h))
    (either (bytes_eq a (codes "not")) _ _ tt
    (either (bytes_eq a (codes "too")) _ _ tt
    (either (bytes_eq a (codes "table")) _ _ tt tt)))))

no_fits : (what word : List ℕ) → Holds FitsAnswer (spec.no_of what word)
unfolding spec.no_of
no_fits what word =
    either (bytes_eq what (codes "task")) _ _
    (then_holds IsNumber FitsAnswer (word_of kinds.task_word word) _ (word_holds IsNumber kinds.task_word task_fits word) (λ n h. h))
    (either (bytes_eq what (codes "hold")) _ _ (label_then word answer.NoHold (λ n h. h))
    (either (bytes_eq what (codes "prepared")) _ _ (label_then word answer.NoPrepared (λ n h. h))
    (either (bytes_eq what (codes "broadcast")) _ _ (number_then word answer.NoBroadcast (λ n h. h)) tt)))

three_words_fit : (a b c : List ℕ) → Holds FitsAnswer (spec.three_words a b c)
unfolding spec.three_words
three_words_fit a b c =
    either (bytes_eq a (codes "no")) _ _ (no_fits b c)
    (either (bytes_eq a (codes "stale")) _ _
    (then_holds _ FitsAnswer (two_of kinds.cred_of kinds.cred_of (b ∷ c ∷ [])) _
    (two_holds IsLong IsLong kinds.cred_of kinds.cred_of cred_fits cred_fits (b ∷ c ∷ [])) (λ v h. h))
    (either (bytes_eq a (codes "too")) _ _
    (then_holds (λ counted. Unit {0}) FitsAnswer (ok_or (spec.counted_of c) Word) _ (any_holds (ok_or (spec.counted_of c) Word)) (λ v h. tt))
    (either (bytes_eq a (codes "aborted")) _ _
    (then_holds IsNumber FitsAnswer (word_of kinds.task_word b) _ (word_holds IsNumber kinds.task_word task_fits b) (λ task t.
    then_holds (λ cause. Unit {0}) FitsAnswer (ok_or (spec.cause_of c) Word) _ (any_holds (ok_or (spec.cause_of c) Word)) (λ v h. t))) tt)))

refusal_fits : (words : List (List ℕ)) → Holds FitsAnswer (spec.read_refusal words)
unfolding spec.read_refusal
refusal_fits [] = tt
refusal_fits (a ∷ []) = ok_or_holds FitsAnswer (spec.one_word a) Word (one_word_fits a)
refusal_fits (a ∷ b ∷ []) = two_words_fit a b
refusal_fits (a ∷ b ∷ c ∷ []) = three_words_fit a b c
refusal_fits (a ∷ b ∷ c ∷ d ∷ words) = tt

pub answer_fits : (told : AnswerForm) (words : List (List ℕ)) → Holds FitsAnswer (spec.read_answer told words)
unfolding spec.read_answer
answer_fits told [] = tt
answer_fits told (word ∷ words) = either (bytes_eq word (codes "ok")) _ _ (ok_fits told words) (refusal_fits (word ∷ words))
