-- Answers that were printed, read back.
use Rattle.std.proofs.Common.{◌≡◌, ℕ, ◌≤◌, Bool, true, false, List, [], ◌∷◌, ◌++◌, map, codes, refl, sym, ap, subst, append_assoc, decimal, arith}
use Rattle.std.proofs.lemmas.List.{append-nil}
use Rattle.cred_ids.specs.declared.id.Ids4.{Ids4}
use Rattle.cred_caps.specs.Secure.{LAST_BITS}
use Rattle.cred_record.specs.declared.gains.Gains.{Gains}
use Rattle.cred_event.specs.declared.answer.Named.TheVariants as named
use Rattle.cred_event.specs.declared.answer.Counted.TheVariants as counted
use Rattle.cred_event.specs.declared.answer.AbortCause.TheVariants as cause
use Rattle.cred_event.specs.declared.answer.Told.TheVariants as told
use Rattle.cred_event.specs.declared.answer.Answer.{Answer}
use Rattle.cred_event.specs.declared.answer.Answer.TheVariants as answer
use Rattle.cred_spelling.specs.Words as words
use Rattle.cred_report.specs.Numbers.{hexadecimal}
use Rattle.cred_reader.specs.declared.answers.AnswerForm.{AnswerForm}
use Rattle.cred_reader.specs.declared.answers.AnswerForm.TheVariants.{Nothing, Ids, Caps, Groups, Bits, Flag, File}
use Rattle.cred_reader.specs.Answers as spec
use Rattle.cred_reader.specs.Kinds as kinds
use Rattle.cred_reader.specs.Fits.{IsLong, FitsAnswer}
use Rattle.cred_reader.proofs.Agrees.{same, agrees}
use Rattle.cred_reader.proofs.Numbers.{long_number, number_back, long_back, id_number, id_back, decimal_inner, decimal_plain}
use Rattle.cred_reader.proofs.Sets.{set_back, set_plain}
use Rattle.cred_reader.proofs.Ids.{ids_spaced, ids_plain, ids_back}
use Rattle.cred_reader.proofs.Words.{spaced}
use Rattle.cred_reader.proofs.WordsBack.{bits_back}
use Rattle.cred_reader.proofs.FileWordsBack.{mode_word, mode_spaced, mode_back, mode_plain}
use Rattle.cred_reader.proofs.ReadBack.{bare, with_word, with_two}
use Rattle.cred_reader.proofs.RefusalsBack.{AnswerBack, eperm_back, einval_back, eacces_back, ebadf_back, no_task_back, no_hold_back, no_prepared_back}
use Rattle.cred_reader.proofs.RefusalsBack.{no_broadcast_back, busy_back, exists_task_back, exists_process_back, exists_label_back, exists_file_back}
use Rattle.cred_reader.proofs.RefusalsBack.{exists_broadcast_back, overridden_back, not_overridden_back, too_deep_back, stale_back, too_many_tasks_back}
use Rattle.cred_reader.proofs.RefusalsBack.{too_many_files_back, too_many_holds_back, too_many_prepared_back, table_full_back, aborted_perm_back}
use Rattle.cred_reader.proofs.RefusalsBack.{aborted_full_back}

bits_long : (bits : ℕ) → bits ≤ LAST_BITS → IsLong bits
bits_long bits h = omega arith

acted_parts : (o t c cred s slot l left : List ℕ) → o ++ t ++ (c ++ cred ++ s ++ slot) ++ l ++ left ≡ o ++ (t ++ (c ++ (cred ++ (s ++ (slot ++ (l ++ left))))))
acted_parts o t c cred s slot l left = simp append_assoc

executed_parts : (o c cred s slot e ended g b file inherit root : List ℕ)
    → o ++ (c ++ cred ++ s ++ slot) ++ e ++ ended ++ g ++ (b ++ file) ++ (b ++ inherit) ++ (b ++ root)
    ≡ o ++ (c ++ (cred ++ (s ++ (slot ++ (e ++ (ended ++ (g ++ (b ++ (file ++ (b ++ (inherit ++ (b ++ root))))))))))))
executed_parts o c cred s slot e ended g b file inherit root = simp append_assoc

ids_parts : (o b p q r s t u v w : List ℕ)
    → o ++ ((b ++ p ++ b ++ q ++ b ++ r ++ b ++ s) ++ (b ++ t ++ b ++ u ++ b ++ v ++ b ++ w))
    ≡ o ++ (b ++ (p ++ (b ++ (q ++ (b ++ (r ++ (b ++ (s ++ (b ++ (t ++ (b ++ (u ++ (b ++ (v ++ (b ++ w)))))))))))))))
ids_parts o b p q r s t u v w = simp append_assoc

caps_parts : (o b p q r s t : List ℕ)
    → o ++ ((b ++ p) ++ (b ++ q) ++ (b ++ r) ++ (b ++ s) ++ (b ++ t)) ≡ o ++ (b ++ (p ++ (b ++ (q ++ (b ++ (r ++ (b ++ (s ++ (b ++ t)))))))))
caps_parts o b p q r s t = simp append_assoc

done_back : FitsAnswer (answer.Done) → AnswerBack Nothing (answer.Done)
unfolding spec.read_answer spec.ok_words spec.plain spec.longer spec.longest spec.acted
done_back fits = bare (codes "ok") refl refl

sealed_back : (cred : ℕ) (slot : ℕ) → FitsAnswer (answer.Sealed cred slot) → AnswerBack Nothing (answer.Sealed cred slot)
unfolding spec.read_answer spec.ok_words spec.plain spec.longer spec.longest spec.acted words.two_of
sealed_back cred slot fits =
    with_two (codes "ok") (codes "c" ++ decimal cred) (codes "s" ++ decimal slot) (simp (append_assoc, append-nil))
    refl (rw (decimal_inner cred fits.0) refl) (rw (decimal_inner slot (long_number slot fits.1)) refl)
    (rw (long_back cred fits.0, number_back slot fits.1) refl)

kept_back : (slot : ℕ) → FitsAnswer (answer.Kept slot) → AnswerBack Nothing (answer.Kept slot)
unfolding spec.read_answer spec.ok_words spec.plain spec.longer spec.longest spec.acted
kept_back slot fits =
    with_word (codes "ok") (codes "s" ++ decimal slot) refl (rw (decimal_inner slot (long_number slot fits)) refl) (rw (number_back slot fits) refl)

was_back : (previous : ℕ) → FitsAnswer (answer.Was previous) → AnswerBack Nothing (answer.Was previous)
unfolding spec.read_answer spec.ok_words spec.plain spec.longer spec.longest spec.acted
was_back previous fits =
    with_two (codes "ok") (codes "was") (decimal previous) (simp append-nil)
    refl refl (decimal_plain previous (long_number previous (id_number previous fits))) (rw (id_back previous fits) refl)

executed_back : (cred : ℕ) (slot : ℕ) (ended : ℕ) (gains : Gains) → FitsAnswer (answer.Executed cred slot ended gains)
    → AnswerBack Nothing (answer.Executed cred slot ended gains)
unfolding spec.read_answer spec.ok_words spec.plain spec.longer spec.longest spec.acted words.three_of
executed_back cred slot ended gains fits = record {
  first = codes "ok";
  rest =
      (codes "c" ++ decimal cred) ∷ (codes "s" ++ decimal slot) ∷ codes "ended" ∷ decimal ended ∷ codes "gain" ∷ (hexadecimal gains.file)
      ∷ (hexadecimal gains.inherit) ∷ (hexadecimal gains.root) ∷ [];
  spaced =
      rw append-nil
      (ap (λ (text : List ℕ). 32 ∷ text)
      (executed_parts (codes "ok") (codes " c") (decimal cred) (codes " s") (decimal slot) (codes " ended ") (decimal ended) (codes " gain") (codes " ")
      (hexadecimal gains.file) (hexadecimal gains.inherit) (hexadecimal gains.root)));
  plain =
      rw (
        decimal_inner cred fits.0,
        decimal_inner slot (long_number slot fits.1),
        decimal_plain ended (long_number ended fits.2),
        set_plain gains.file fits.3.0,
        set_plain gains.inherit fits.3.1,
        set_plain gains.root fits.3.2,
      )
      refl;
  read =
      rw (
        long_back cred fits.0,
        number_back slot fits.1,
        number_back ended fits.2,
        set_back gains.file fits.3.0,
        set_back gains.inherit fits.3.1,
        set_back
            gains.root fits.3.2,
      )
      refl;
}

began_back : (cred : ℕ) (slot : ℕ) (left : ℕ) → FitsAnswer (answer.Began cred slot left) → AnswerBack Nothing (answer.Began cred slot left)
unfolding spec.read_answer spec.ok_words spec.plain spec.longer spec.longest spec.acted words.three_of
began_back cred slot left fits = record {
  first = codes "ok";
  rest = (codes "c" ++ decimal cred) ∷ (codes "s" ++ decimal slot) ∷ codes "left" ∷ decimal left ∷ [];
  spaced = simp (append_assoc, append-nil);
  plain = rw (decimal_inner cred fits.0, decimal_inner slot (long_number slot fits.1), decimal_plain left (long_number left fits.2)) refl;
  read = rw (long_back cred fits.0, number_back slot fits.1, number_back left fits.2) refl;
}

acted_back : (task : ℕ) (cred : ℕ) (slot : ℕ) (left : ℕ) → FitsAnswer (answer.Acted task cred slot left) → AnswerBack Nothing (answer.Acted task cred slot left)
unfolding spec.read_answer spec.ok_words spec.plain spec.longer spec.longest spec.acted words.two_of
acted_back task cred slot left fits = record {
  first = codes "ok";
  rest = (codes "t" ++ decimal task) ∷ (codes "c" ++ decimal cred) ∷ (codes "s" ++ decimal slot) ∷ codes "left" ∷ decimal left ∷ [];
  spaced =
      rw append-nil
      (ap (λ (text : List ℕ). 32 ∷ text)
      (acted_parts (codes "ok t") (decimal task) (codes " c") (decimal cred) (codes " s") (decimal slot) (codes " left ") (decimal left)));
  plain =
      rw (
        decimal_inner task (long_number task fits.0),
        decimal_inner cred fits.1,
        decimal_inner slot (long_number slot fits.2),
        decimal_plain left
            (long_number left fits.3),
      )
      refl;
  read = rw (number_back task fits.0, long_back cred fits.1, number_back slot fits.2, number_back left fits.3) refl;
}

ids_told : (uid : Ids4) (gid : Ids4) → FitsAnswer (answer.Told (told.Ids uid gid)) → AnswerBack Ids (answer.Told (told.Ids uid gid))
unfolding spec.read_answer spec.ok_words spec.ids_told words.two_of words.three_of words.five_of
ids_told uid gid fits = record {
  first = codes "ok";
  rest =
      decimal uid.real ∷ decimal uid.effective ∷ decimal uid.saved ∷ decimal uid.fs ∷ decimal gid.real ∷ decimal gid.effective ∷ decimal gid.saved
      ∷ decimal gid.fs ∷ [];
  spaced =
      rw append-nil
      (ap (λ (text : List ℕ). 32 ∷ text)
      (ids_parts (codes "ok") (codes " ") (decimal uid.real) (decimal uid.effective) (decimal uid.saved) (decimal uid.fs) (decimal gid.real)
      (decimal gid.effective) (decimal gid.saved) (decimal gid.fs)));
  plain =
      rw (
        decimal_plain uid.real (long_number uid.real (id_number uid.real fits.0.0)),
        decimal_plain uid.effective
            (long_number uid.effective (id_number uid.effective fits.0.1)),
        decimal_plain uid.saved (long_number uid.saved (id_number uid.saved fits.0.2)),
        decimal_plain uid.fs (long_number uid.fs (id_number uid.fs fits.0.3)),
        decimal_plain gid.real (long_number gid.real (id_number gid.real fits.1.0)),
        decimal_plain gid.effective (long_number gid.effective (id_number gid.effective fits.1.1)),
        decimal_plain gid.saved
            (long_number gid.saved (id_number gid.saved fits.1.2)),
        decimal_plain gid.fs (long_number gid.fs (id_number gid.fs fits.1.3)),
      )
      refl;
  read =
      rw (
        id_back uid.real fits.0.0,
        id_back uid.effective fits.0.1,
        id_back uid.saved fits.0.2,
        id_back uid.fs fits.0.3,
        id_back gid.real fits.1.0,
        id_back
            gid.effective fits.1.1,
        id_back gid.saved fits.1.2,
        id_back gid.fs fits.1.3,
      )
      refl;
}

caps_told : (perm : ℕ) (inh : ℕ) (eff : ℕ) (bound : ℕ) (amb : ℕ) → FitsAnswer (answer.Told (told.Caps perm inh eff bound amb))
    → AnswerBack Caps (answer.Told (told.Caps perm inh eff bound amb))
unfolding spec.read_answer spec.ok_words words.two_of words.three_of words.five_of
caps_told perm inh eff bound amb fits = record {
  first = codes "ok";
  rest = (hexadecimal perm) ∷ (hexadecimal inh) ∷ (hexadecimal eff) ∷ (hexadecimal bound) ∷ (hexadecimal amb) ∷ [];
  spaced =
      rw append-nil
      (ap (λ (text : List ℕ). 32 ∷ text)
      (caps_parts (codes "ok") (codes " ") (hexadecimal perm) (hexadecimal inh) (hexadecimal eff) (hexadecimal bound) (hexadecimal amb)));
  plain = rw (set_plain perm fits.0, set_plain inh fits.1, set_plain eff fits.2, set_plain bound fits.3, set_plain amb fits.4) refl;
  read = rw (set_back perm fits.0, set_back inh fits.1, set_back eff fits.2, set_back bound fits.3, set_back amb fits.4) refl;
}

groups_told : (groups : List ℕ) → FitsAnswer (answer.Told (told.Groups groups)) → AnswerBack Groups (answer.Told (told.Groups groups))
unfolding spec.read_answer spec.ok_words
groups_told groups fits = record {
  first = codes "ok";
  rest = map decimal groups;
  spaced = rw (ids_spaced groups) refl;
  plain = ids_plain groups fits;
  read = rw (ids_back groups fits) refl;
}

bits_told : (bits : ℕ) (nnp : Bool) → FitsAnswer (answer.Told (told.Bits bits nnp)) → AnswerBack Bits (answer.Told (told.Bits bits nnp))
unfolding spec.read_answer spec.ok_words words.two_of kinds.flags
bits_told bits false fits =
    with_two (codes "ok") (decimal bits) (codes "0") (simp (append_assoc, append-nil))
    refl (decimal_plain bits (bits_long bits fits)) refl (rw (bits_back bits fits) refl)
bits_told bits true fits =
    with_two (codes "ok") (decimal bits) (codes "1") (simp (append_assoc, append-nil))
    refl (decimal_plain bits (bits_long bits fits)) refl (rw (bits_back bits fits) refl)

flag_told : (flag : Bool) → FitsAnswer (answer.Told (told.Flag flag)) → AnswerBack Flag (answer.Told (told.Flag flag))
unfolding spec.read_answer spec.ok_words kinds.flags
flag_told false fits = with_word (codes "ok") (codes "0") refl refl refl
flag_told true fits = with_word (codes "ok") (codes "1") refl refl refl

file_words : (owner group mode flag : List ℕ)
    → 32 ∷ (codes "ok" ++ (codes " " ++ owner ++ codes " " ++ group ++ (32 ∷ mode) ++ (32 ∷ flag))) ≡ spaced (codes "ok" ∷ owner ∷ group ∷ mode ∷ flag ∷ [])
file_words owner group mode flag = simp (append_assoc, append-nil)

file_told : (owner group mode : ℕ) (attr : Bool) → FitsAnswer (answer.Told (told.File owner group mode attr))
    → AnswerBack File (answer.Told (told.File owner group mode attr))
unfolding spec.read_answer spec.ok_words spec.file_told words.two_of kinds.flags
file_told owner group mode false fits = record {
  first = codes "ok";
  rest = decimal owner ∷ decimal group ∷ mode_word mode ∷ codes "0" ∷ [];
  spaced = rw (mode_spaced mode) (file_words (decimal owner) (decimal group) (mode_word mode) (codes "0"));
  plain =
      rw (decimal_plain owner (long_number owner (id_number owner fits.0)), decimal_plain group (long_number group (id_number group fits.1)), mode_plain mode)
      refl;
  read = rw (id_back owner fits.0, id_back group fits.1, mode_back mode fits.2) refl;
}
file_told owner group mode true fits = record {
  first = codes "ok";
  rest = decimal owner ∷ decimal group ∷ mode_word mode ∷ codes "1" ∷ [];
  spaced = rw (mode_spaced mode) (file_words (decimal owner) (decimal group) (mode_word mode) (codes "1"));
  plain =
      rw (decimal_plain owner (long_number owner (id_number owner fits.0)), decimal_plain group (long_number group (id_number group fits.1)), mode_plain mode)
      refl;
  read = rw (id_back owner fits.0, id_back group fits.1, mode_back mode fits.2) refl;
}

is_same : (k other : AnswerForm) → same k other ≡ true → k ≡ other
is_same Nothing Nothing h = refl
is_same Ids Ids h = refl
is_same Caps Caps h = refl
is_same Groups Groups h = refl
is_same Bits Bits h = refl
is_same Flag Flag h = refl
is_same File File h = refl
is_same k other h = absurd (cc)

-- a value is read where it is told
where_told : (k other : AnswerForm) (answer : Answer) → same k other ≡ true → AnswerBack other answer → AnswerBack k answer
where_told k other answer h back = subst (λ (t : AnswerForm). AnswerBack t answer) (sym (is_same k other h)) back

pub answer_back : (k : AnswerForm) (answer : Answer) → FitsAnswer answer → agrees k answer ≡ true → AnswerBack k answer
answer_back k answer.Done fits h = where_told k Nothing _ h (done_back fits)
answer_back k (answer.Sealed cred slot) fits h = where_told k Nothing _ h (sealed_back cred slot fits)
answer_back k (answer.Kept slot) fits h = where_told k Nothing _ h (kept_back slot fits)
answer_back k (answer.Was previous) fits h = where_told k Nothing _ h (was_back previous fits)
answer_back k (answer.Executed cred slot ended gains) fits h = where_told k Nothing _ h (executed_back cred slot ended gains fits)
answer_back k (answer.Began cred slot left) fits h = where_told k Nothing _ h (began_back cred slot left fits)
answer_back k (answer.Acted task cred slot left) fits h = where_told k Nothing _ h (acted_back task cred slot left fits)
answer_back k (answer.Told (told.Ids uid gid)) fits h = where_told k Ids _ h (ids_told uid gid fits)
answer_back k (answer.Told (told.Caps perm inh eff bound amb)) fits h = where_told k Caps _ h (caps_told perm inh eff bound amb fits)
answer_back k (answer.Told (told.Groups groups)) fits h = where_told k Groups _ h (groups_told groups fits)
answer_back k (answer.Told (told.Bits bits nnp)) fits h = where_told k Bits _ h (bits_told bits nnp fits)
answer_back k (answer.Told (told.Flag flag)) fits h = where_told k Flag _ h (flag_told flag fits)
answer_back k (answer.Told (told.File owner group mode attr)) fits h = where_told k File _ h (file_told owner group mode attr fits)
answer_back k answer.Eperm fits h = eperm_back k fits
answer_back k answer.Einval fits h = einval_back k fits
answer_back k answer.Eacces fits h = eacces_back k fits
answer_back k answer.Ebadf fits h = ebadf_back k fits
answer_back k (answer.NoTask task) fits h = no_task_back k task fits
answer_back k (answer.NoHold label) fits h = no_hold_back k label fits
answer_back k (answer.NoPrepared label) fits h = no_prepared_back k label fits
answer_back k (answer.NoBroadcast broadcast) fits h = no_broadcast_back k broadcast fits
answer_back k (answer.Busy broadcast) fits h = busy_back k broadcast fits
answer_back k (answer.Exists named.Task number) fits h = exists_task_back k number fits
answer_back k (answer.Exists named.Process number) fits h = exists_process_back k number fits
answer_back k (answer.Exists named.Label number) fits h = exists_label_back k number fits
answer_back k (answer.Exists named.File number) fits h = exists_file_back k number fits
answer_back k (answer.Exists named.Broadcast number) fits h = exists_broadcast_back k number fits
answer_back k (answer.Overridden depth) fits h = overridden_back k depth fits
answer_back k answer.NotOverridden fits h = not_overridden_back k fits
answer_back k answer.TooDeep fits h = too_deep_back k fits
answer_back k (answer.Stale base now) fits h = stale_back k base now fits
answer_back k (answer.TooMany counted.Tasks) fits h = too_many_tasks_back k fits
answer_back k (answer.TooMany counted.Files) fits h = too_many_files_back k fits
answer_back k (answer.TooMany counted.Holds) fits h = too_many_holds_back k fits
answer_back k (answer.TooMany counted.Prepared) fits h = too_many_prepared_back k fits
answer_back k answer.TableFull fits h = table_full_back k fits
answer_back k (answer.Aborted task cause.Perm) fits h = aborted_perm_back k task fits
answer_back k (answer.Aborted task cause.Full) fits h = aborted_full_back k task fits
