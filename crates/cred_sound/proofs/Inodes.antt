-- What an event makes of the files.
use Rattle.std.proofs.Common.{◌≡◌, ℕ, List, [], ◌∷◌, length, slice_set, Some, is_some, true, false, refl, sym, ap, ◌∙◌}
use Rattle.std.proofs.lemmas.List.{length-set}
use Rattle.cred_record.specs.File.{File}
use Rattle.cred_event.specs.declared.event.Event.{Event}
use Rattle.cred_event.specs.declared.answer.Answer.{Answer}
use Rattle.cred_model.specs.Script.{Script}
use Rattle.cred_model.specs.State.{State}
use Rattle.cred_model.specs.FileChanges.{changed_file, event_changes}
use Rattle.cred_model.specs.Step.{step}
use Rattle.cred_sound.proofs.Parts.{InodesChange, SameInodes, Writes}
use Rattle.cred_sound.proofs.Events.{changes}

-- ---- an event that changes no file

inodes_kept : (s : State) (event : Event) (made : Answer × State) → event_changes event ≡ false → InodesChange s event made
    → made.1.inodes ≡ s.inodes
inodes_kept s event made none (SameInodes same) = same
inodes_kept s event made none (Writes place held old new is there ruled done now) =
    absurd (let both : true ≡ false = sym (ap is_some is) ∙ none in cc)

pub keeps_inodes : (script : Script) (s : State) (line : ℕ) (event : Event) → event_changes event ≡ false
    → (step script s line event).1.inodes ≡ s.inodes
keeps_inodes script s line event none =
    inodes_kept s event (step script s line event) none (changes script s line event).inodes

-- ---- no event adds a file, or takes one away

inodes_many : (s : State) (event : Event) (made : Answer × State) → InodesChange s event made → length made.1.inodes ≡ length s.inodes
inodes_many s event made (SameInodes same) = ap (λ (files : List File). length files) same
inodes_many s event made (Writes place held old new is there ruled done now) =
    ap (λ (files : List File). length files) now ∙ length-set s.inodes place new

pub keeps_many : (script : Script) (s : State) (line : ℕ) (event : Event) → length (step script s line event).1.inodes ≡ length s.inodes
keeps_many script s line event = inodes_many s event (step script s line event) (changes script s line event).inodes
