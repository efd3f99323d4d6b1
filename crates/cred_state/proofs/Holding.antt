-- A label takes hold of a credential, and drops it.
use Rattle.std.proofs.Common.{IfOk, Result, Ok, Err, ◌≡◌, ℕ, ◌<◌, ◌==◌, List, [], ◌∷◌, ◌++◌, find, position, remove, count_by, slice_get, Option, Some, ap, ◌∙◌}
use Rattle.std.proofs.Common.{refl}
use Rattle.cred_record.specs.Credential.{Credential}
use Rattle.cred_event.specs.declared.answer.Answer.{Answer}
use Rattle.cred_event.specs.declared.answer.Answer.TheVariants.{Done}
use Rattle.cred_model.specs.State.{State, Hold, Numbered, numbered_in}
use Rattle.cred_model.specs.LabelEvents.{by_release, take_hold}
use Rattle.cred_model.specs.Step.{outcome}
use Rattle.cred_slots.specs.Table.{Table}
use Rattle.cred_tables.specs.Kept.{StateLists, state_of, IsKept}
use Rattle.cred_tables.proofs.Bags.{bag-has, bag-at}
use Rattle.cred_model.proofs.Places.{place-of_found}
use Rattle.cred_tables.proofs.Sealing.{Drops, keeps_same, kept_less, over_later}
use Rattle.cred_tables.proofs.InUse.{in_use-unhold}

-- an event by which a label takes hold of this credential
pub takes_hold : (s after : State) {E : Type 0} (event : Result (Answer × State) Answer) (label : ℕ) (taken : Numbered) → event ≡ take_hold s label taken
    → (made : Result Answer E) → IfOk made (λ answer. outcome s (take_hold s label (numbered_in taken.number taken.slot)) ≡ (answer, after))
    → IfOk made (λ answer. outcome s event ≡ (answer, after))
takes_hold s after event label taken is (Ok answer) gives = ap (λ (r : Result (Answer × State) Answer). outcome s r) is ∙ gives
takes_hold s after event label taken is (Err e) gives = tt

module _ {parts : StateLists} {store : List (Option Credential)} {t : Table} (is : IsKept parts store t) where
  abbrev s : State
  s = state_of parts store t

  -- what a label holds is held
  pub hold-held : (place : ℕ) (h : Hold) → slice_get parts.holds place ≡ Some h → 0 < count_by (λ m. m == h.number) t.held
  hold-held place h there = bag-at h.number is.counted.counts (bag-has (in_use-unhold s place h there))

  pub hold-held_found : (label : ℕ) (h : Hold) → find (λ g. g.label == label) parts.holds ≡ Some h → 0 < count_by (λ m. m == h.number) t.held
  hold-held_found label h found =
      let at = place-of_found (λ g. g.label == label) parts.holds h found in
      hold-held at.0 h at.2

  module _ (after : Table) (place : ℕ) (h : Hold) (there : slice_get parts.holds place ≡ Some h) (less : Drops t after h.number) where
    abbrev left : StateLists
    left = record parts { holds = remove parts.holds place }

    pub release_kept : IsKept left store after
    release_kept = kept_less is less (in_use-unhold s place h there) (keeps_same t after _ is.counted.keeps less.kept)

    pub release_done : (label : ℕ) → position (λ g. g.label == label) parts.holds ≡ Some place
        → outcome s (by_release s label) ≡ (Done, state_of left store after)
    release_done label at =
        let found : outcome s (by_release s label) ≡ (Done, record s { holds = left.holds; deferred = t.deferred ++ h.number ∷ [] })
        = rw (at, there) refl in
        found ∙ ap (λ (r : State). (Done, r)) (over_later left store t after less.sealed less.deferred)
