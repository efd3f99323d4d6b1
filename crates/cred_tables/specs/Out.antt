-- Which tokens of the shared words are lent for an event that is decided on them, and what stays of
-- a state while they are out.
use Rattle.std.specs.Prelude.{◌≡◌, ◌==◌, ◌&&◌, ℕ, Bool, false, List, [], ◌∷◌, ◌++◌, All}
use Rattle.std.specs.Prelude.{Contains, map, count_by, is_some, Some, None, slice_get}
use Rattle.std.specs.Prelude.{if◌then◌else◌}
use Rattle.std.specs.declared.option.Option.{Option}
use Rattle.std.specs.Option.{option_map, option_map_or}
use Rattle.cred_record.specs.Credential.{Credential}
use Rattle.cred_event.specs.declared.event.Event.{Event}
use Rattle.cred_event.specs.declared.event.Event.TheVariants.{Ask, Signal, Alter, OpenFile}
use Rattle.cred_model.specs.State.{State, Prepared, SealedCred, hold_of, prepared_of, held_by}
use Rattle.cred_model.specs.State.{numbered, no_credential}
use Rattle.cred_names.specs.Labels.{event_labels}
use Rattle.cred_words.specs.Lists.{Has}
use Rattle.cred_hold.specs.Tokens.{Loan, loan, IsAlone}
use Rattle.cred_tables.specs.Kept.{SharedWords}

-- The event waits for a decision on credentials that are there: those that its labels hold, or the
-- base of what its label prepares.
abbrev pub needs_tokens : State → Event → Bool
needs_tokens s (Ask label query) = is_some (hold_of s label)
needs_tokens s (OpenFile hold file want fd) = is_some (hold_of s hold)
needs_tokens s (Signal from hold to target) = is_some (hold_of s hold) && is_some (hold_of s target)
needs_tokens s (Alter label change) = is_some (prepared_of s label)
needs_tokens s event = false

-- the token of what a label holds
abbrev pub hold_token : State → ℕ → List Loan
hold_token s label =
    option_map_or (λ held. loan label held.slot (Some held.cred) ∷ []) (held_by s label) []

-- the tokens of what a label prepares: the writer of its slot, and the hold of its base
abbrev pub kept_tokens : State → ℕ → List Loan
kept_tokens s label =
    option_map_or
    (λ p. option_map_or
    (λ base. loan label p.slot None ∷ loan label base.slot (Some base.cred) ∷ [])
    (numbered s.creds p.base) [])
    (prepared_of s label) []

-- the tokens that an event is decided on, the newest first
abbrev pub tokens_in : State → Event → List Loan
tokens_in s (Ask label query) = hold_token s label
tokens_in s (OpenFile hold file want fd) = hold_token s hold
tokens_in s (Signal from hold to target) = hold_token s target ++ hold_token s hold
tokens_in s (Alter label change) = kept_tokens s label
tokens_in s event = []

-- Each token that is out is one of its label, which refers to what it was when it was lent.
abbrev pub AreOut : State → List Loan → Type 0
AreOut s out = All (λ e. Has (hold_token s e.label ++ kept_tokens s e.label) e) out

-- Nothing is lent under a label that the event names.
abbrev pub AreHome : Event → List Loan → Type 0
AreHome event out = All (λ e. Contains (event_labels event) e.label → ⊥) out

-- Where nothing is lent on the slot that a label keeps, its words have what was prepared, or
-- nothing where it was never changed.
abbrev pub ArePut : List Prepared → List Loan → List (Option Credential) → Type 0
ArePut prepared out places =
    All (λ p. IsAlone out p.slot
    → slice_get places p.slot ≡ Some (option_map (λ last. last.cred) p.changed)) prepared

-- what is seen under each number, where nothing is in the words of a slot
abbrev pub cleared : ℕ → List SealedCred → List SealedCred
cleared slot creds =
    map (λ sealed. if sealed.slot == slot
    then record { cred = no_credential; slot = sealed.slot }
    else sealed) creds

-- the same tokens, in any order
abbrev pub AreSameTokens : List Loan → List Loan → Type 0
AreSameTokens xs ys = (test : Loan → Bool) → count_by test xs ≡ count_by test ys

-- these tokens have come back, and nothing else was lent or taken back
pub record AreBack (back : List Loan) (before after : SharedWords) : Type 0 where
  pub id : after.id ≡ before.id
  pub out : AreSameTokens before.out (back ++ after.out)
