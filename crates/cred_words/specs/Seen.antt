-- What contracts see of the master's token and of a lent one.
use Rattle.std.specs.Prelude.{◌≡◌, ◌≢◌, ℕ, Some, true, slice_get}
use Rattle.std.specs.List.{AllByRecursion}
use Rattle.atomic_table.specs.Seated.{TableId}
use Rattle.cred_words.specs.declared.view.Slot.{Slot}
use Rattle.cred_words.specs.declared.view.Token.{Token}
use Rattle.cred_words.specs.declared.view.Ledger.{Ledger}

-- the master: its table and its ledger
pub record MasteredWords : Type 0 where
  pub id : TableId
  pub ledger : Ledger

-- a lent token, and its table
pub record Lending : Type 0 where
  pub id : TableId
  pub token : Token

-- the slot is sealed
abbrev pub IsSealedSlot : Ledger → ℕ → Type 0
IsSealedSlot d slot = (x : Slot) × (slice_get d.slots slot ≡ Some x) × (x.sealed ≡ true)

-- no token is out on the slot
abbrev pub NoTokenIsOn : Ledger → ℕ → Type 0
NoTokenIsOn d slot = AllByRecursion (λ e. e.slot ≢ slot) d.loans
