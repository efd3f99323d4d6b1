-- What contracts see of the tokens: labels, slots, credentials, and the identity of the cells.
use Rattle.std.specs.Prelude.{◌≡◌, ◌≢◌, ℕ, List, replicate, Option, Some, None, Bool, true}
use Rattle.std.specs.Prelude.{false, not, slice_get, slice_index, ◌≤◌, ◌<◌}
use Rattle.std.specs.List.{AllByRecursion}
use Rattle.cred_ids.specs.Limits.{SLOTS}
use Rattle.atomic_table.specs.Seated.{TableId}
use Rattle.cred_record.specs.Credential.{Credential}
use Rattle.cred_record.specs.Words.{credential_in, are_words}
use Rattle.cred_words.specs.Size.{width}
use Rattle.cred_words.specs.declared.view.Slot.{Slot}
use Rattle.cred_words.specs.declared.view.Token.{Token}
use Rattle.cred_words.specs.declared.view.Ledger.{Ledger}

-- what is lent: a hold of a credential, or a writer, for which none stands here
pub record Loan : Type 0 where
  pub label : ℕ
  pub slot : ℕ
  pub held : Option Credential

abbrev pub loan : ℕ → ℕ → Option Credential → Loan
loan label slot held = record { label = label; slot = slot; held = held }

-- the master: the identity of its cells, what is lent, the newest first, and for each slot the
-- credential if it is sealed
pub record Mastered : Type 0 where
  pub id : TableId
  pub loans : List Loan
  pub slots : List (Option Credential)

-- a hold: its cells, its label and its slot, and the credential that is held
pub record Held : Type 0 where
  pub id : TableId
  pub label : ℕ
  pub slot : ℕ
  pub cred : Credential

-- a writer: its cells, its label and its slot, and what was put last, if anything was
pub record Written : Type 0 where
  pub id : TableId
  pub label : ℕ
  pub slot : ℕ
  pub put : Option Credential

-- the slot is sealed. No writer is then out on it, since a loan to a writer unseals it
abbrev pub IsSealed : List (Option Credential) → ℕ → Type 0
IsSealed slots slot = (c : Credential) × (slice_get slots slot ≡ Some (Some c))

-- no slot is sealed
unfoldable pub none_sealed : List (Option Credential)
none_sealed = replicate SLOTS None

-- no token is out on the slot
abbrev pub IsAlone : List Loan → ℕ → Type 0
IsAlone loans slot = AllByRecursion (λ e. e.slot ≢ slot) loans

-- ---- how they are seen in words

-- the credential of words that are said to have one
abbrev pub seen_if : Bool → List ℕ → Option Credential
seen_if true ws = Some (credential_in ws)
seen_if false ws = None

-- a loan, by its words
abbrev pub loan_seen : Token → Loan
loan_seen t = loan t.label t.slot (seen_if (not t.writes) t.words)

-- the credential of a slot, if it is sealed
abbrev pub slot_seen : Slot → Option Credential
slot_seen x = seen_if x.sealed x.words

-- the words of each slot are a credential's, sealed or not: at first they are those of a credential
-- whose numbers are all 0, and nothing but whole credentials is ever put
abbrev pub AreSlots : List Slot → Type 0
AreSlots slots = (s : ℕ) (x : Slot) → slice_get slots s ≡ Some x → are_words x.words ≡ true

-- the words of a slot from the first on are 0
abbrev pub AreZeros : ℕ → List ℕ → Type 0
AreZeros first ws = (i : ℕ) → first ≤ i → i < width → slice_index ws i ≡ 0

-- the ledger is as before, but for its next ticket
pub record IsAgain (before after : Ledger) : Type 0 where
  pub slots_are : after.slots ≡ before.slots
  pub loans : after.loans ≡ before.loans
  pub kept : after.kept ≡ before.kept
