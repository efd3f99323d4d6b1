-- Refusals that were printed, read back, whatever is told.
use Rattle.std.proofs.Common.{ℕ, ◌∷◌, ◌++◌, codes, refl, append_assoc, decimal}
use Rattle.std.proofs.lemmas.List.{append-nil}
use Rattle.cred_event.specs.declared.answer.Named.TheVariants as named
use Rattle.cred_event.specs.declared.answer.Counted.TheVariants as counted
use Rattle.cred_event.specs.declared.answer.AbortCause.TheVariants as cause
use Rattle.cred_event.specs.declared.answer.Answer.{Answer}
use Rattle.cred_event.specs.declared.answer.Answer.TheVariants as answer
use Rattle.cred_spelling.specs.Words as words
use Rattle.cred_report.specs.Answers.{answer_text}
use Rattle.cred_reader.specs.declared.answers.AnswerForm.{AnswerForm}
use Rattle.cred_reader.specs.Answers as spec
use Rattle.cred_reader.specs.Fits.{FitsAnswer}
use Rattle.cred_reader.proofs.ReadBack.{IsBack, bare, with_word, with_two}
use Rattle.cred_reader.proofs.Numbers.{long_number, number_back, long_back, decimal_inner, decimal_plain}

-- the answer's text is read as the answer, where this is told
abbrev pub AnswerBack : AnswerForm → Answer → Type 0
AnswerBack k answer =
    IsBack (answer_text answer) (λ first rest. spec.read_answer k (first ∷ rest)) answer

pub eperm_back : (k : AnswerForm) → FitsAnswer (answer.Eperm) → AnswerBack k (answer.Eperm)
unfolding spec.read_answer spec.read_refusal
eperm_back k fits = bare (codes "eperm") refl refl

pub einval_back : (k : AnswerForm) → FitsAnswer (answer.Einval) → AnswerBack k (answer.Einval)
unfolding spec.read_answer spec.read_refusal
einval_back k fits = bare (codes "einval") refl refl

pub eacces_back : (k : AnswerForm) → FitsAnswer (answer.Eacces) → AnswerBack k (answer.Eacces)
unfolding spec.read_answer spec.read_refusal
eacces_back k fits = bare (codes "eacces") refl refl

pub ebadf_back : (k : AnswerForm) → FitsAnswer (answer.Ebadf) → AnswerBack k (answer.Ebadf)
unfolding spec.read_answer spec.read_refusal
ebadf_back k fits = bare (codes "ebadf") refl refl

pub no_task_back : (k : AnswerForm) (task : ℕ) → FitsAnswer (answer.NoTask task) → AnswerBack k (answer.NoTask task)
unfolding spec.read_answer spec.read_refusal spec.three_words spec.no_of
no_task_back k task fits =
    with_two (codes "no") (codes "task") (codes "t" ++ decimal task) (simp (append_assoc, append-nil))
    refl refl (rw (decimal_inner task (long_number task fits)) refl) (rw (number_back task fits) refl)

pub no_hold_back : (k : AnswerForm) (label : ℕ) → FitsAnswer (answer.NoHold label) → AnswerBack k (answer.NoHold label)
unfolding spec.read_answer spec.read_refusal spec.three_words spec.no_of
no_hold_back k label fits =
    with_two (codes "no") (codes "hold") (codes "h" ++ decimal label) (simp (append_assoc, append-nil))
    refl refl (rw (decimal_inner label (long_number label fits)) refl) (rw (number_back label fits) refl)

pub no_prepared_back : (k : AnswerForm) (label : ℕ) → FitsAnswer (answer.NoPrepared label) → AnswerBack k (answer.NoPrepared label)
unfolding spec.read_answer spec.read_refusal spec.three_words spec.no_of
no_prepared_back k label fits =
    with_two (codes "no") (codes "prepared") (codes "h" ++ decimal label) (simp (append_assoc, append-nil))
    refl refl (rw (decimal_inner label (long_number label fits)) refl) (rw (number_back label fits) refl)

pub no_broadcast_back : (k : AnswerForm) (broadcast : ℕ) → FitsAnswer (answer.NoBroadcast broadcast) → AnswerBack k (answer.NoBroadcast broadcast)
unfolding spec.read_answer spec.read_refusal spec.three_words spec.no_of
no_broadcast_back k broadcast fits =
    with_two (codes "no") (codes "broadcast") (decimal broadcast) (simp append-nil)
    refl refl (decimal_plain broadcast (long_number broadcast fits)) (rw (number_back broadcast fits) refl)

pub busy_back : (k : AnswerForm) (broadcast : ℕ) → FitsAnswer (answer.Busy broadcast) → AnswerBack k (answer.Busy broadcast)
unfolding spec.read_answer spec.read_refusal spec.two_words
busy_back k broadcast fits =
    with_word (codes "busy") (decimal broadcast) refl (decimal_plain broadcast (long_number broadcast fits)) (rw (number_back broadcast fits) refl)

pub exists_task_back : (k : AnswerForm) (number : ℕ) → FitsAnswer (answer.Exists named.Task number) → AnswerBack k (answer.Exists named.Task number)
unfolding spec.read_answer spec.read_refusal spec.two_words spec.exists_of
exists_task_back k number fits =
    with_word (codes "exists") (codes "t" ++ decimal number)
    refl (rw (decimal_inner number (long_number number fits)) refl) (rw (number_back number fits) refl)

pub exists_process_back : (k : AnswerForm) (number : ℕ) → FitsAnswer (answer.Exists named.Process number) → AnswerBack k (answer.Exists named.Process number)
unfolding spec.read_answer spec.read_refusal spec.two_words spec.exists_of
exists_process_back k number fits =
    with_word (codes "exists") (codes "p" ++ decimal number)
    refl (rw (decimal_inner number (long_number number fits)) refl) (rw (number_back number fits) refl)

pub exists_label_back : (k : AnswerForm) (number : ℕ) → FitsAnswer (answer.Exists named.Label number) → AnswerBack k (answer.Exists named.Label number)
unfolding spec.read_answer spec.read_refusal spec.two_words spec.exists_of
exists_label_back k number fits =
    with_word (codes "exists") (codes "h" ++ decimal number)
    refl (rw (decimal_inner number (long_number number fits)) refl) (rw (number_back number fits) refl)

pub exists_file_back : (k : AnswerForm) (number : ℕ) → FitsAnswer (answer.Exists named.File number) → AnswerBack k (answer.Exists named.File number)
unfolding spec.read_answer spec.read_refusal spec.two_words spec.exists_of
exists_file_back k number fits =
    with_word (codes "exists") (codes "f" ++ decimal number)
    refl (rw (decimal_inner number (long_number number fits)) refl) (rw (number_back number fits) refl)

pub exists_broadcast_back : (k : AnswerForm) (number : ℕ) → FitsAnswer (answer.Exists named.Broadcast number) → AnswerBack k (answer.Exists named.Broadcast number)
unfolding spec.read_answer spec.read_refusal spec.two_words spec.exists_of
exists_broadcast_back k number fits =
    with_word (codes "exists") (codes "k" ++ decimal number)
    refl (rw (decimal_inner number (long_number number fits)) refl) (rw (number_back number fits) refl)

pub overridden_back : (k : AnswerForm) (depth : ℕ) → FitsAnswer (answer.Overridden depth) → AnswerBack k (answer.Overridden depth)
unfolding spec.read_answer spec.read_refusal spec.two_words
overridden_back k depth fits =
    with_word (codes "overridden") (decimal depth) refl (decimal_plain depth (long_number depth fits)) (rw (number_back depth fits) refl)

pub not_overridden_back : (k : AnswerForm) → FitsAnswer (answer.NotOverridden) → AnswerBack k (answer.NotOverridden)
unfolding spec.read_answer spec.read_refusal spec.two_words
not_overridden_back k fits = with_word (codes "not") (codes "overridden") refl refl refl

pub too_deep_back : (k : AnswerForm) → FitsAnswer (answer.TooDeep) → AnswerBack k (answer.TooDeep)
unfolding spec.read_answer spec.read_refusal spec.two_words
too_deep_back k fits = with_word (codes "too") (codes "deep") refl refl refl

pub stale_back : (k : AnswerForm) (base : ℕ) (now : ℕ) → FitsAnswer (answer.Stale base now) → AnswerBack k (answer.Stale base now)
unfolding spec.read_answer spec.read_refusal spec.three_words words.two_of
stale_back k base now fits =
    with_two (codes "stale") (codes "c" ++ decimal base) (codes "c" ++ decimal now) (simp (append_assoc, append-nil))
    refl (rw (decimal_inner base fits.0) refl) (rw (decimal_inner now fits.1) refl) (rw (long_back base fits.0, long_back now fits.1) refl)

pub too_many_tasks_back : (k : AnswerForm) → FitsAnswer (answer.TooMany counted.Tasks) → AnswerBack k (answer.TooMany counted.Tasks)
unfolding spec.read_answer spec.read_refusal spec.three_words spec.counted_names
too_many_tasks_back k fits = with_two (codes "too") (codes "many") (codes "tasks") refl refl refl refl refl

pub too_many_files_back : (k : AnswerForm) → FitsAnswer (answer.TooMany counted.Files) → AnswerBack k (answer.TooMany counted.Files)
unfolding spec.read_answer spec.read_refusal spec.three_words spec.counted_names
too_many_files_back k fits = with_two (codes "too") (codes "many") (codes "files") refl refl refl refl refl

pub too_many_holds_back : (k : AnswerForm) → FitsAnswer (answer.TooMany counted.Holds) → AnswerBack k (answer.TooMany counted.Holds)
unfolding spec.read_answer spec.read_refusal spec.three_words spec.counted_names
too_many_holds_back k fits = with_two (codes "too") (codes "many") (codes "holds") refl refl refl refl refl

pub too_many_prepared_back : (k : AnswerForm) → FitsAnswer (answer.TooMany counted.Prepared) → AnswerBack k (answer.TooMany counted.Prepared)
unfolding spec.read_answer spec.read_refusal spec.three_words spec.counted_names
too_many_prepared_back k fits = with_two (codes "too") (codes "many") (codes "prepared") refl refl refl refl refl

pub table_full_back : (k : AnswerForm) → FitsAnswer (answer.TableFull) → AnswerBack k (answer.TableFull)
unfolding spec.read_answer spec.read_refusal spec.two_words
table_full_back k fits = with_word (codes "table") (codes "full") refl refl refl

pub aborted_perm_back : (k : AnswerForm) (task : ℕ) → FitsAnswer (answer.Aborted task cause.Perm) → AnswerBack k (answer.Aborted task cause.Perm)
unfolding spec.read_answer spec.read_refusal spec.three_words spec.cause_names
aborted_perm_back k task fits =
    with_two (codes "aborted") (codes "t" ++ decimal task) (codes "eperm") (simp (append_assoc, append-nil))
    refl (rw (decimal_inner task (long_number task fits)) refl) refl (rw (number_back task fits) refl)

pub aborted_full_back : (k : AnswerForm) (task : ℕ) → FitsAnswer (answer.Aborted task cause.Full) → AnswerBack k (answer.Aborted task cause.Full)
unfolding spec.read_answer spec.read_refusal spec.three_words spec.cause_names
aborted_full_back k task fits =
    with_two (codes "aborted") (codes "t" ++ decimal task) (codes "full") (simp (append_assoc, append-nil))
    refl (rw (decimal_inner task (long_number task fits)) refl) refl (rw (number_back task fits) refl)
