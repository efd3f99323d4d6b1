-- The sealed credentials: those that are stored, under their numbers, and the slot of each number.
use Rattle.std.specs.Prelude.{◌≡◌, ℕ, ◌+◌, ◌<◌, ◌==◌, All, Bool, List, [], ◌∷◌, find, map}
use Rattle.std.specs.List.Sorted.{IsNonDecreasingBy}
use Rattle.std.specs.Option.{option_map_or}
use Rattle.cred_record.specs.Credential.{Credential, first_credential}
use Rattle.cred_model.specs.State.{SealedCred, Numbered}
use Rattle.cred_plain.specs.declared.creds.Numbered as creds

-- a credential under its number
pub record StoredCred : Type 0 where
  pub number : ℕ
  pub cred : Credential

-- what stands under every number whose credential was forgotten
abbrev pub gone : Credential
gone = first_credential 0 0 0 0

-- What is stored stands in the order of its numbers, all of which were sealed: `count` were.
pub record IsStored (stored : List StoredCred) (count : ℕ) : Type 0 where
  pub rising : IsNonDecreasingBy (λ s. s.number) stored
  pub sealed : All (λ s. s.number < count) stored

-- What is stored is in order, and this is what stands for all that was forgotten.
pub record IsHeld (forgotten : Credential) (stored : List StoredCred) (count : ℕ) : Type 0 where
  pub in_order : IsStored stored count
  pub stands : forgotten ≡ gone

-- The sealed credentials; those that are stored; and whether there is room for one more, so that
-- the next is sealed without an allocation.
pub record Sealed : Type 0 where
  pub list : List SealedCred
  pub stored : List StoredCred
  pub roomy : Bool

-- the credential that is stored under a number, or else the one that stands for all that are gone
abbrev pub under : Credential → List StoredCred → ℕ → Credential
under forgotten stored number =
    option_map_or (λ s. s.cred) (find (λ s. s.number == number) stored) forgotten

-- the sealed credential of a number, in its slot
abbrev pub sealed_at : Credential → List StoredCred → ℕ → ℕ → SealedCred
sealed_at forgotten stored number slot =
    record { cred = under forgotten stored number; slot = slot }

-- the sealed credentials from a number on, where these are their slots
unfoldable pub sealed_from : Credential → List StoredCred → ℕ → List ℕ → List SealedCred
sealed_from forgotten stored number [] = []
sealed_from forgotten stored number (slot ∷ slots) =
    sealed_at forgotten stored number slot ∷ sealed_from forgotten stored (number + 1) slots

-- all sealed credentials
abbrev pub sealed_of : Credential → List StoredCred → List ℕ → List SealedCred
sealed_of forgotten stored slots = sealed_from forgotten stored 0 slots

-- the slots of sealed credentials
abbrev pub slots_of : List SealedCred → List ℕ
slots_of creds = map (λ sealed. sealed.slot) creds

-- a sealed credential with its number, as a value where it is borrowed
abbrev pub seen_numbered : creds.Numbered → Numbered
seen_numbered n = record { number = n.number; cred = n.cred.now; slot = n.slot }
