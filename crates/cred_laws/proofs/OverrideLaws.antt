-- What an override leaves, and what an open file keeps.
use Rattle.std.proofs.Common.{◌≡◌, ◌≢◌, ◌==◌, ℕ, List, length, position, slice_get, drop, Option, Some, None, refl, ap, ◌∙◌}
use Rattle.std.specs.List.{All, find}
use Rattle.std.specs.Option.{option_map}
use Rattle.cred_ids.specs.Limits.{DEPTH}
use Rattle.cred_event.specs.declared.answer.Answer.{Answer}
use Rattle.cred_event.specs.declared.entry.Entry.{Entry}
use Rattle.cred_event.specs.declared.event.Event.TheVariants.{Override, Revert, CloseFile}
use Rattle.cred_model.specs.Script.{Script}
use Rattle.cred_model.specs.State.{State, Task, Numbered, OpenFile, task_of, open_of, held_by, opener_of}
use Rattle.cred_model.specs.Moves.{overriding, with_overrides}
use Rattle.cred_model.specs.LabelEvents.{for_access}
use Rattle.cred_model.proofs.Numbers.{overriding_task, overriding_current}
use Rattle.cred_sound.proofs.Events.{changes}
use Rattle.cred_sound.proofs.Tests.{outcome_has, if_some, if_either, if_fewer}
use Rattle.cred_laws.specs.Overrides.{OverridesLeaveCurrent, OpenStays}
use Rattle.cred_laws.proofs.HeldLaws.{goes_on, still_found, still_refers, left_by_each}

-- ---- overrides

-- the number of a task's current credential, if the task lives
abbrev current_in : List Task → ℕ → Option ℕ
current_in tasks task = option_map (λ (t : Task). t.current) (find (λ t. t.number == task) tasks)

found_same : (acting : ℕ) (numbers : List ℕ) (o : Option Task)
    → option_map (λ (t : Task). t.current) (option_map (overriding acting numbers) o) ≡ option_map (λ t. t.current) o
found_same acting numbers None = refl
found_same acting numbers (Some t) = ap Some (overriding_current acting numbers t)

-- whatever tasks act with, their current credentials stay
pub leaves_current : (tasks : List Task) (acting : ℕ) (numbers : List ℕ) (task : ℕ)
    → option_map (λ t. t.current) (find (λ t. t.number == task) (with_overrides tasks acting numbers))
    ≡ option_map (λ t. t.current) (find (λ t. t.number == task) tasks)
leaves_current tasks acting numbers task =
    ap (option_map (λ (t : Task). t.current)) (overriding_task tasks acting numbers task)
    ∙ found_same acting numbers (find (λ t. t.number == task) tasks)

pub overrides_leave_current : OverridesLeaveCurrent
overrides_leave_current script s line (Override task label) who is =
    let Q : Answer × State → Type 0 = λ made. current_in made.1.tasks who ≡ current_in s.tasks who in
    outcome_has Q s _ (λ answer. refl)
    (if_some Q (task_of s task) _ _
    (λ owner found. if_either Q (held_by s label) _ _
    (λ held at. if_fewer Q (length owner.overrides) DEPTH _ _ (leaves_current s.tasks owner.number _ who))
    (λ none. if_some Q (position (λ p. p.label == label) s.prepared) _ _
    (λ place at. if_some Q (slice_get s.prepared place) _ _
    (λ p there. if_some Q (for_access owner.number p) _ _
    (λ last changed. if_fewer Q (length owner.overrides) DEPTH _ _ (leaves_current s.tasks owner.number _ who)))))))
overrides_leave_current script s line (Revert task) who is =
    let Q : Answer × State → Type 0 = λ made. current_in made.1.tasks who ≡ current_in s.tasks who in
    outcome_has Q s _ (λ answer. refl)
    (if_some Q (task_of s task) _ _
    (λ owner found. if_some Q (slice_get owner.overrides 0) _ _
    (λ newest at. leaves_current s.tasks task (drop 1 owner.overrides) who)))
overrides_leave_current script s line event who is = absurd is

-- ---- open files

pub open_stays : OpenStays
open_stays script s line event fd file is other =
    let c = changes script s line event in
    still_found (λ (f : OpenFile). f.fd) _ _ s.files _ fd file c.files is other

-- what a file was opened by stays while it isn't closed
pub opener_goes_on : (script : Script) (s : State) (entries : List Entry) (fd : ℕ) (opener : Numbered)
    → opener_of s fd ≡ Some opener → All (λ entry. entry.event ≢ CloseFile fd) entries
    → opener_of (goes_on script s entries) fd ≡ Some opener
opener_goes_on script s entries fd opener is none =
    still_refers (λ (f : OpenFile). f.opener) script s entries (open_of s fd) (open_of (goes_on script s entries) fd) opener
    (λ file at. left_by_each (λ t. open_of t fd ≡ Some file) (λ event. event ≢ CloseFile fd)
    (λ script s line event. open_stays script s line event fd file) script s entries at none)
    is
