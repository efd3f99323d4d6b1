-- A file is changed by what a label holds.
use Rattle.std.proofs.Common.{◌≡◌, ℕ, List, Option, None, Some, Result, Ok, Err, inl, inr, slice_get, slice_set, refl, ap, ◌∙◌}
use Rattle.std.specs.Option.{option_map}
use Rattle.std.specs.Result.{IfOk}
use Rattle.std.proofs.lemmas.Result.{IfOk-weaker}
use Rattle.cred_record.specs.Answer.{AnswersBy}
use Rattle.cred_record.specs.Credential.{Credential}
use Rattle.cred_record.specs.File.{File}
use Rattle.cred_record.specs.declared.refusal.Denial.{Denial}
use Rattle.cred_record.specs.declared.refusal.Refusal.{Refusal}
use Rattle.cred_attr.specs.Exactly.{AnswersExactly}
use Rattle.cred_event.specs.declared.answer.Answer.{Answer}
use Rattle.cred_event.specs.declared.answer.Answer.TheVariants.{Done}
use Rattle.cred_model.specs.Change.{by_rule}
use Rattle.cred_model.specs.State.{State, Numbered, held_by}
use Rattle.cred_model.specs.FileEvents.{by_file}
use Rattle.cred_model.specs.Step.{outcome}
use Rattle.cred_decide.specs.Refusals.{IsDenied}
use Rattle.cred_decide.proofs.Denied.{denied}
use Rattle.cred_slots.specs.Table.{Table}
use Rattle.cred_tables.specs.Kept.{StateLists, IsKept}

-- The files refer to nothing.
pub kept_inodes : {parts : StateLists} {store : List (Option Credential)} {t : Table}
    → IsKept parts store t → (inodes : List File) → IsKept (record parts { inodes = inodes }) store t
kept_inodes is inodes = record { counted = is.counted; filled = is.filled }

-- ---- what a rule has made

-- a call that takes no memory
pub by_exactly : {X : Type 0} (made : Result X Refusal) (given : Result X Denial)
    → AnswersExactly made given → AnswersBy made given
by_exactly made (Ok x) is = inl is
by_exactly made (Err d) is = is

pub by_value : (file : File) (given : Result File Denial) → AnswersBy (Ok file) given
    → given ≡ Ok file
by_value file (Ok x) (inl is) =
    let gives : File → Result File Denial = λ f. Ok f in
    let same : x ≡ file = cc in
    ap gives same
by_value file (Ok x) (inr is) = cc
by_value file (Err d) is = cc

-- what the label holds, where it holds this credential
held_cred : (found : Option Numbered) (c : Credential)
    → option_map (λ held. held.cred) found ≡ Some c
    → (held : Numbered) × (found ≡ Some held) × (held.cred ≡ c)
held_cred None c is = cc
held_cred (Some held) c is = (held, refl, cc)

-- the change is made
pub file_changed : (s : State) (hold place : ℕ) (rule : Credential → File → Result File Denial)
    (c : Credential) (file : File)
    → option_map (λ held. held.cred) (held_by s hold) ≡ Some c
    → slice_get s.inodes place ≡ Some file
    → (new : File) → rule c file ≡ Ok new
    → outcome s (by_file s hold place rule)
    ≡ (Done, record s { inodes = slice_set s.inodes place new })
file_changed s hold place rule c file holds there new is =
    let held = held_cred (held_by s hold) c holds in
    let made : rule held.0.cred file ≡ Ok new = ap (λ (x : Credential). rule x file) held.2 ∙ is in
    rw (held.1, there, made) refl

-- the rule denies it
pub file_refused : (s : State) (hold place : ℕ) (rule : Credential → File → Result File Denial)
    (c : Credential) (file : File)
    → option_map (λ held. held.cred) (held_by s hold) ≡ Some c
    → slice_get s.inodes place ≡ Some file
    → {E : Type 0} (answered : Result Answer E) (why : Refusal) → AnswersBy (Err why) (rule c file)
    → IfOk answered (IsDenied why)
    → IfOk answered (λ answer. outcome s (by_file s hold place rule) ≡ (answer, s))
file_refused s hold place rule c file holds there answered why by so =
    let held = held_cred (held_by s hold) c holds in
    IfOk-weaker answered (IsDenied why)
    (λ answer. outcome s (by_file s hold place rule) ≡ (answer, s))
    (λ answer is.
    let ruled : by_rule (rule held.0.cred file) ≡ Err answer
    = ap (λ (x : Credential). by_rule (rule x file)) held.2 ∙ denied (rule c file) why answer is by in
    rw (held.1, there, ruled) refl) so
