-- A file is changed, or asked about, by the credential that a label holds.
use Rattle.std.proofs.Common.{◌≡◌, ℕ, Bool, true, List, slice_get, slice_set, is_some, Option, Some, None, Result, Ok, Err, ◌⊎◌, inl, inr, refl, sym, ap, subst}
use Rattle.cred_ids.specs.declared.arg.Arg.{Arg}
use Rattle.std.specs.Result.{IfOk}
use Rattle.std.proofs.lemmas.Result.{IfOk-weaker}
use Rattle.cred_record.specs.Answer.{AnswersBy, refusal_of}
use Rattle.cred_record.specs.Credential.{Credential}
use Rattle.cred_record.specs.File.{File}
use Rattle.cred_record.specs.declared.refusal.Denial.{Denial}
use Rattle.cred_record.specs.declared.refusal.Denial.TheVariants as denial
use Rattle.cred_record.specs.declared.refusal.Refusal.{Refusal}
use Rattle.cred_record.specs.declared.refusal.Refusal.TheVariants as refusal
use Rattle.cred_attr.specs.Exactly.{AnswersExactly}
use Rattle.cred_event.specs.declared.event.Event.{Event}
use Rattle.cred_event.specs.declared.event.Event.TheVariants.{Chown, Chmod, SetAttr}
use Rattle.cred_event.specs.declared.answer.Answer.TheVariants.{Done, Told, NoHold}
use Rattle.cred_event.specs.declared.answer.Told.TheVariants as told
use Rattle.cred_event.specs.declared.answer.Answer.{Answer}
use Rattle.cred_model.specs.Change.{by_rule}
use Rattle.cred_model.specs.FileChanges.{changed_by, event_changes}
use Rattle.cred_model.specs.Script.{Script}
use Rattle.cred_model.specs.State.{State, Numbered, held_by}
use Rattle.cred_model.specs.FileEvents.{by_file, by_stat}
use Rattle.cred_model.specs.Step.{done, outcome}
use Rattle.cred_decide.specs.Refusals.{IsDenied}
use Rattle.cred_decide.proofs.Denied.{answered}
use Rattle.cred_machine.specs.Written.{IsMadeBy}

-- ---- what was made

-- by what a call answers
pub made_by : (given : Result File Denial) (made : Result File Refusal) → AnswersBy made given → IsMadeBy given made
made_by (Ok file) (Ok new) (inl is) = let same : new ≡ file = cc in ap Ok (sym same)
made_by (Ok file) (Ok new) (inr memory) = cc
made_by (Ok file) (Err refusal.Memory) is = tt
made_by (Ok file) (Err refusal.Perm) (inl is) = cc
made_by (Ok file) (Err refusal.Perm) (inr memory) = cc
made_by (Ok file) (Err refusal.Invalid) (inl is) = cc
made_by (Ok file) (Err refusal.Invalid) (inr memory) = cc
made_by (Err denial.Perm) made is = subst (IsMadeBy (Err denial.Perm)) (sym is) refl
made_by (Err denial.Invalid) made is = subst (IsMadeBy (Err denial.Invalid)) (sym is) refl

pub made_exactly : (given : Result File Denial) (made : Result File Refusal) → AnswersExactly made given → IsMadeBy given made
made_exactly (Ok file) made is = subst (IsMadeBy (Ok file)) (sym is) refl
made_exactly (Err denial.Perm) made is = subst (IsMadeBy (Err denial.Perm)) (sym is) refl
made_exactly (Err denial.Invalid) made is = subst (IsMadeBy (Err denial.Invalid)) (sym is) refl

-- what the rule denies, by the refusal
denial_made : (given : Result File Denial) (d : Denial) → IsMadeBy given (Err (refusal_of d)) → given ≡ Err d
denial_made given denial.Perm is = is
denial_made given denial.Invalid is = is

denied_made : (given : Result File Denial) (why : Refusal) (answer : Answer) → IsDenied why answer → IsMadeBy given (Err why) → by_rule given ≡ Err answer
denied_made given why answer is made =
    answered given why answer is (denial_made given is.denial (subst (λ (w : Refusal). IsMadeBy given (Err w)) is.reports made))

-- an event that changes a file is one of three
pub no_other : (event : Event) → event_changes event ≡ true
    → ((hold file : ℕ) (owner group : Arg) → event ≡ Chown hold file owner group → ⊥)
    → ((hold file mode : ℕ) → event ≡ Chmod hold file mode → ⊥)
    → ((hold file : ℕ) (attr : Option (List ℕ)) → event ≡ SetAttr hold file attr → ⊥) → ⊥
no_other (Chown hold file owner group) is a b c = a hold file owner group refl
no_other (Chmod hold file mode) is a b c = b hold file mode refl
no_other (SetAttr hold file attr) is a b c = c hold file attr refl
no_other event is a b c = cc

-- and what it does is to change the file that it names, by the label that it names
pub done_so : (script : Script) (s : State) (line : ℕ) (event : Event) (hold file : ℕ)
    → ((owner : Arg) × (group : Arg) × event ≡ Chown hold file owner group)
    ⊎ (((mode : ℕ) × event ≡ Chmod hold file mode) ⊎ ((attr : Option (List ℕ)) × event ≡ SetAttr hold file attr))
    → ◌≡◌ {A = Result (Answer × State) Answer} (by_file s hold file (changed_by event)) (done script s line event)
done_so script s line event hold file (inl (owner, group, is)) = rw is refl
done_so script s line event hold file (inr (inl (mode, is))) = rw is refl
done_so script s line event hold file (inr (inr (attr, is))) = rw is refl

-- ---- the file at a place

module _ (s : State) (hold place : ℕ) (rule : Credential → File → Result File Denial) where
  pub file_unheld : held_by s hold ≡ None → outcome s (by_file s hold place rule) ≡ (NoHold hold, s)
  file_unheld none = rw none refl

  module _ (held : Numbered) (has : held_by s hold ≡ Some held) where
    pub file_none : slice_get s.inodes place ≡ None → outcome s (by_file s hold place rule) ≡ (NoHold hold, s)
    file_none none = rw (has, none) refl

    module _ (old : File) (there : slice_get s.inodes place ≡ Some old) where
      pub file_written : (new : File) (inodes : List File) → rule held.cred old ≡ Ok new → inodes ≡ slice_set s.inodes place new
          → outcome s (by_file s hold place rule) ≡ (Done, record s { inodes = inodes })
      file_written new inodes ruled now = rw (has, there, ruled, now) refl

      file_denied : (answer : Answer) → by_rule (rule held.cred old) ≡ Err answer → outcome s (by_file s hold place rule) ≡ (answer, s)
      file_denied answer ruled = rw (has, there, ruled) refl

      pub file_refused : {E : Type 0} (answered : Result Answer E) (why : Refusal) → IsMadeBy (rule held.cred old) (Err why) → IfOk answered (IsDenied why)
          → IfOk answered (λ answer. outcome s (by_file s hold place rule) ≡ (answer, s))
      file_refused answered why made denied =
          IfOk-weaker answered (IsDenied why) (λ answer. outcome s (by_file s hold place rule) ≡ (answer, s))
          (λ answer is. file_denied answer (denied_made (rule held.cred old) why answer is made)) denied

-- ---- how it stands

module _ (s : State) (hold place : ℕ) where
  pub stat_unheld : held_by s hold ≡ None → outcome s (by_stat s hold place) ≡ (NoHold hold, s)
  stat_unheld none = rw none refl

  module _ (held : Numbered) (has : held_by s hold ≡ Some held) where
    pub stat_none : slice_get s.inodes place ≡ None → outcome s (by_stat s hold place) ≡ (NoHold hold, s)
    stat_none none = rw (has, none) refl

    pub stands : (file : File) (attr : Bool) → slice_get s.inodes place ≡ Some file → attr ≡ is_some file.attr
        → outcome s (by_stat s hold place) ≡ (Told (told.File file.owner file.group file.mode attr), s)
    stands file attr there is = rw (has, there, is) refl
