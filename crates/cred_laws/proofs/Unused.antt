-- A credential is sealed only in a slot that is not in use.
use Rattle.std.proofs.Common.{◌≡◌, ◌≢◌, ℕ, ◌≤◌, List, [], ◌∷◌, ◌++◌, length, slice_get, Some, sym, ap, ◌∙◌, subst, arith}
use Rattle.std.proofs.lemmas.List.{length_push}
use Rattle.std.proofs.lemmas.Option.{slice_get_within}
use Rattle.cred_event.specs.declared.event.Event.{Event}
use Rattle.cred_model.specs.State.{State, SealedCred, Numbered, numbered}
use Rattle.cred_model.specs.Slots.{in_use}
use Rattle.cred_model.proofs.Lists.{All-left}
use Rattle.cred_model.proofs.Numbers.{numbered_is, numbered_last, sealed_cred_of}
use Rattle.cred_sound.specs.SlotUse.{slot_use, IsOrderly}
use Rattle.cred_sound.proofs.Parts.{CredsChange, SameCreds, Seals, sealed_cred}
use Rattle.cred_sound.proofs.Events.{changes}
use Rattle.cred_laws.specs.Slots.{IsUnusedSlot, NoHeldSlotIsRewritten}

-- Of the credentials after an event, those that the state had not stand in slots that were not in
-- use.
unused : (s : State) (event : Event) (left : List ℕ) (t : State) → CredsChange s event left t → IsOrderly (slot_use s)
    → (number : ℕ) (new : Numbered) → length s.creds ≤ number → numbered t.creds number ≡ Some new
    → IsUnusedSlot s event new.slot
unused s event left t (SameCreds same) order number new past is =
    let within = slice_get_within t.creds number (sealed_cred_of new) (numbered_is t.creds number new is).1 in
    let long = ap (λ (creds : List SealedCred). length creds) same in absurd (omega arith)
unused s event left t (Seals c slot creds fits origin) order number new past is =
    let within = slice_get_within t.creds number (sealed_cred_of new) (numbered_is t.creds number new is).1 in
    let long = ap (λ (creds : List SealedCred). length creds) creds in
    let last : number ≡ length s.creds = omega (arith, length_push s.creds (sealed_cred c slot)) in
    let both : Some (record { number = length s.creds; cred = c; slot = slot }) ≡ Some new
    = sym (ap (λ creds. numbered creds number) creds ∙ ap (numbered (s.creds ++ sealed_cred c slot ∷ [])) last ∙ numbered_last s.creds (sealed_cred c slot))
    ∙ is in
    let one : record { number = length s.creds; cred = c; slot = slot } ≡ new = cc in
    let fit = fits order in
    subst (IsUnusedSlot s event) (ap (λ (n : Numbered). n.slot) one)
    (record { clear = All-left (λ n. slice_get (slot_use s).slots n ≢ Some slot) (in_use s) left fit.clear; kept = fit.own })

pub no_held_slot_is_rewritten : NoHeldSlotIsRewritten
no_held_slot_is_rewritten script s line event number new sound =
    let c = changes script s line event in
    unused s event c.left _ c.creds sound.slots number new
