-- Slots that are free, maybe after a sweep.
use Rattle.std.proofs.Common.{◌≡◌, ℕ, not, Bool, true, false, cond, [], ◌∷◌, ◌++◌, is_some, Option, Some, None, if◌then◌else◌, refl, sym, ap, ◌∙◌}
use Rattle.cred_event.specs.declared.answer.Answer.{Answer}
use Rattle.cred_model.specs.State.{State, Prepared}
use Rattle.cred_model.specs.Slots.{free, least_free, swept_if_full, swept}
use Rattle.cred_model.specs.Moves.{in_slot, preparing}
use Rattle.cred_machine.specs.Room.{swept_if}

-- the sweep that was made for a slot
pub room_is : (s : State) (sweep : Bool) → sweep ≡ not (is_some (least_free s)) → swept_if_full s ≡ swept_if sweep s
room_is s sweep is =
    elim (is_some (least_free s)) as (λ b. sweep ≡ not b → cond b s (swept s) ≡ swept_if sweep s) [
      | true ↦ λ same. rw same refl
      | false ↦ λ same. rw same refl
    ] is

-- where none is free, there was a sweep
pub full_swept : (s : State) → free s ≡ None → swept_if_full s ≡ swept s
full_swept s none = by (least_free s) refl none
  where
    by : (o : Option ℕ) → least_free s ≡ o → least_free (cond (is_some o) s (swept s)) ≡ None → cond (is_some o) s (swept s) ≡ swept s
    by None at none = refl
    by (Some slot) at none = let never : Some slot ≡ None = sym at ∙ none in cc

pub in_none : (s : State) (full : State → Answer × State) (does : State → ℕ → Answer × State) → free s ≡ None → in_slot s full does ≡ full (swept s)
in_none s full does none =
    let at : in_slot s full does ≡ full (swept_if_full s) = rw none refl in
    at ∙ ap full (full_swept s none)

pub in_free : (s : State) (full : State → Answer × State) (does : State → ℕ → Answer × State) (sweep : Bool) (slot : ℕ) → free s ≡ Some slot
    → sweep ≡ not (is_some (least_free s)) → in_slot s full does ≡ does (swept_if sweep s) slot
in_free s full does sweep slot found is =
    let at : in_slot s full does ≡ does (swept_if_full s) slot = rw found refl in
    at ∙ ap (λ (r : State). does r slot) (room_is s sweep is)

pub preparing_if : (sweep : Bool) (s : State) (p : Prepared)
    → preparing (swept_if sweep s) p ≡ record s { prepared = s.prepared ++ p ∷ []; deferred = if sweep then [] else s.deferred }
preparing_if true s p = refl
preparing_if false s p = refl
