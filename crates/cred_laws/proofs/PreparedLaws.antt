-- What is prepared stays, but for the changes of its credential.
use Rattle.std.proofs.Common.{◌≡◌, ◌≢◌, ◌==◌, ◌⊎◌, inl, inr, false, sym, ℕ, List, [], ◌∷◌, Option, Some, None, refl, ap, ◌∙◌}
use Rattle.std.specs.List.{All, find}
use Rattle.std.specs.Option.{option_map, option_or}
use Rattle.std.proofs.lemmas.List.Folds.{find-append}
use Rattle.cred_event.specs.declared.event.Event.{Event}
use Rattle.cred_event.specs.declared.event.Event.TheVariants.{Commit, Abort, Override}
use Rattle.cred_event.specs.declared.entry.Entry.{Entry}
use Rattle.cred_model.specs.Script.{Script}
use Rattle.cred_model.specs.State.{State, Prepared, Changed}
use Rattle.cred_model.specs.Moves.{altered_at}
use Rattle.cred_laws.specs.Held.{preparation_of, ends_label, PreparedStays}
use Rattle.std.proofs.lemmas.Bool.{eqb-false}
use Rattle.cred_model.proofs.Lists.{find_changed, find-remove_other}
use Rattle.cred_model.proofs.Numbers.{changed_as, changed_label}
use Rattle.cred_sound.specs.SlotUse.{SealsOf}
use Rattle.cred_sound.proofs.Parts.{PreparedChange, SamePrepared, Prepares, Alters, Ends}
use Rattle.cred_sound.proofs.Events.{changes}
use Rattle.cred_laws.proofs.HeldLaws.{goes_on, left_by_each}

-- what is prepared, as it was before its first change
abbrev fresh : Prepared → Prepared
fresh p = record p { changed = None }

-- another one is searched for after it
first_stays : (o other : Option Prepared) (p : Prepared) → option_map fresh o ≡ Some p → option_map fresh (option_or o other) ≡ Some p
first_stays None other p is = cc
first_stays (Some q) other p is = is

-- a change leaves it
change_leaves : (o : Option Prepared) (label : ℕ) (to : Changed)
    → option_map fresh (option_map (altered_at label to) o) ≡ option_map fresh o
change_leaves None label to = refl
change_leaves (Some q) label to = ap Some (changed_as (λ p. fresh p ≡ fresh q) label to q (λ test. refl) refl)

-- the event that seals what a label prepared ends that
seals_end : (label gone : ℕ) (event : Event) → SealsOf event gone → ends_label label event ≡ (gone == label)
seals_end label gone (Commit committed) seals = ap (λ n. n == label) seals
seals_end label gone (Override task overriding) seals = ap (λ n. n == label) seals
seals_end label gone event seals = absurd seals

-- where it isn't ended, what an event ends is another label
not_ended : (label gone : ℕ) (event : Event) → SealsOf event gone ⊎ (event ≡ Abort gone) → ends_label label event ≡ false
    → gone ≢ label
not_ended label gone event ended other same =
    let test : (gone == label) ≡ false
    = elim ended [ inl seals ↦ sym (seals_end label gone event seals) ∙ other | inr is ↦ ap (ends_label label) (sym is) ∙ other ] in
    eqb-false gone label test same

still_prepared : (script : Script) (s : State) (event : Event) (left : List ℕ) (t : State) (label : ℕ) (p : Prepared)
    → PreparedChange script s event left t → preparation_of s label ≡ Some p → ends_label label event ≡ false
    → preparation_of t label ≡ Some p
still_prepared script s event left t label p (SamePrepared same) is other =
    ap (λ ps. option_map fresh (find (λ (p : Prepared). p.label == label) ps)) same ∙ is
still_prepared script s event left t label p (Prepares new prepared unchanged unheld unprepared stands free) is other =
    ap (λ ps. option_map fresh (find (λ (p : Prepared). p.label == label) ps)) prepared
    ∙ ap (option_map fresh) (find-append (λ (p : Prepared). p.label == label) s.prepared (new ∷ []))
    ∙ first_stays (find (λ (p : Prepared). p.label == label) s.prepared) _ p is
still_prepared script s event left t label p (Alters altered to q base answer prepared found at so acts) is other =
    ap (λ ps. option_map fresh (find (λ (p : Prepared). p.label == label) ps)) prepared
    ∙ ap (option_map fresh) (find_changed (λ (p : Prepared). p.label) (altered_at altered to) s.prepared label (changed_label altered to))
    ∙ change_leaves (find (λ (p : Prepared). p.label == label) s.prepared) altered to ∙ is
still_prepared script s event left t label p (Ends gone place q ended prepared at found) is other =
    ap (λ ps. option_map fresh (find (λ (p : Prepared). p.label == label) ps)) prepared
    ∙ ap (option_map fresh) (find-remove_other (λ (p : Prepared). p.label) s.prepared label gone place q at found (not_ended label gone event ended other))
    ∙ is

pub prepared_stays : PreparedStays
prepared_stays script s line event label p =
    let c = changes script s line event in
    still_prepared script s event c.left _ label p c.prepared

pub prepared_goes_on : (script : Script) (s : State) (entries : List Entry) (label : ℕ) (p : Prepared)
    → preparation_of s label ≡ Some p → All (λ entry. ends_label label entry.event ≡ false) entries
    → preparation_of (goes_on script s entries) label ≡ Some p
prepared_goes_on script s entries label p =
    left_by_each (λ t. preparation_of t label ≡ Some p) (λ event. ends_label label event ≡ false)
    (λ script s line event. prepared_stays script s line event label p) script s entries
