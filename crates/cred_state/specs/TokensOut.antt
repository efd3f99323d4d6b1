-- A state of which tokens are lent for an event.
use Rattle.std.specs.Prelude.{◌≡◌, ◌≢◌, ℕ, List, [], ◌∷◌, ◌++◌, Some, None, slice_set, ⊤, All}
use Rattle.std.specs.Prelude.{IfSome, IsSome, Bool, true, false, ◌<◌, length, Result, Ok, Err}
use Rattle.cred_ids.specs.Limits.{OPEN_FILES}
use Rattle.cred_event.specs.declared.answer.Answer.{Answer}
use Rattle.std.specs.declared.option.Option.{Option}
use Rattle.std.specs.Option.{option_and_then, option_map}
use Rattle.atomic_table.specs.Seated.{TableId}
use Rattle.cred_record.specs.Credential.{Credential}
use Rattle.cred_record.specs.File.{File}
use Rattle.cred_event.specs.declared.event.Event.{Event}
use Rattle.cred_event.specs.declared.event.Event.TheVariants.{Ask, Signal, Alter, OpenFile}
use Rattle.cred_event.specs.declared.event.Change.TheVariants.{Exec}
use Rattle.cred_event.specs.declared.event.Change.{Change}
use Rattle.cred_model.specs.Change.{Made, by_change}
use Rattle.cred_model.specs.Named.{change_files}
use Rattle.cred_model.specs.Script.{Script, chain_of}
use Rattle.cred_model.specs.State.{State, Prepared, Numbered, numbered, prepared_of, held_by}
use Rattle.cred_model.specs.State.{info_of, open_of}
use Rattle.cred_words.specs.Lists.{IsTaken}
use Rattle.cred_hold.specs.Tokens.{Loan, Held, Written, loan}
use Rattle.cred_work.specs.declared.pending.Pending.{Pending}
use Rattle.cred_work.specs.declared.pending.Pending.TheVariants.{Asking, Opening, Signalling}
use Rattle.cred_work.specs.declared.pending.Pending.TheVariants.{Altering}
use Rattle.cred_tables.specs.Kept.{Standing, creds_in}
use Rattle.cred_tables.specs.Out.{ArePut, cleared}

-- the loan of a hold
abbrev pub hold_loan : Held → Loan
hold_loan hold = loan hold.label hold.slot (Some hold.cred)

-- The loans of tokens that are out, the newest first. A writer's is that of none, whatever it
-- has put.
abbrev pub loans_of : Pending → List Loan
loans_of (Asking hold query told) = hold_loan hold ∷ []
loans_of (Opening hold file want fd may) = hold_loan hold ∷ []
loans_of (Signalling from hold to target may) = hold_loan target ∷ hold_loan hold ∷ []
loans_of (Altering base writer change made) =
    loan writer.label writer.slot None ∷ hold_loan base ∷ []

-- the state of which this hold is lent
abbrev pub with_hold : Standing → Held → Standing
with_hold before hold =
    record before { words = record before.words { out = hold_loan hold ∷ before.words.out } }

-- the state of which a base is lent, and a writer, whose slot is not sealed
abbrev pub with_kept : Standing → Held → Written → Standing
with_kept before base writer = record {
  state = record before.state { creds = cleared writer.slot before.state.creds };
  words = record before.words {
    out = loan writer.label writer.slot None ∷ hold_loan base ∷ before.words.out;
  };
  places = slice_set before.places writer.slot None;
}

-- the state of which these tokens are lent
abbrev pub with_lent : Standing → Pending → Standing
with_lent before (Altering base writer change made) = with_kept before base writer
with_lent before lent =
    record before { words = record before.words { out = loans_of lent ++ before.words.out } }

-- the root ids are those of the user namespace and of its ancestors, if the change is an execve
abbrev pub IsChainOf : Script → Change → ℕ → List ℕ → Type 0
IsChainOf script (Exec file) ns chain = chain ≡ chain_of script ns
IsChainOf script change ns chain = ⊤

-- the root ids are those that the event is decided by: of the base's user namespace
abbrev pub IsChain : Script → Pending → List ℕ → Type 0
IsChain script (Altering base writer change made) chain =
    IsChainOf script change base.cred.ns chain
IsChain script lent chain = ⊤

-- what stands in the words of kept slots was prepared, and what is seen is what stands in the words
pub record IsStanding (s : Standing) : Type 0 where
  pub put : ArePut s.state.prepared s.words.out s.places
  pub slots : List ℕ
  pub creds : s.state.creds ≡ creds_in s.places slots

-- nothing is lent under the label
abbrev pub IsHome : ℕ → List Loan → Type 0
IsHome label out = All (λ e. e.label ≢ label) out

-- The tokens of what the label prepares: its base's, and a writer's that has put nothing.
pub record IsKeptBy (cells : TableId) (s : State) (label : ℕ) (base : Held) (writer : Written)
    : Type 0 where
  pub preparation : Prepared
  pub found : Numbered
  pub prepared : prepared_of s label ≡ Some preparation
  pub sealed : numbered s.creds preparation.base ≡ Some found
  pub base_is :
      base ≡ record { id = cells; label = label; slot = found.slot; cred = found.cred }
  pub writer_is :
      writer ≡ record { id = cells; label = label; slot = preparation.slot; put = None }

-- the user namespace is the base's, if the event is an execve
abbrev pub IsNs : State → Event → ℕ → Type 0
IsNs s (Alter label (Exec file)) ns =
    IfSome (prepared_of s label) (λ p.
    IfSome (numbered s.creds p.base) (λ base. ns ≡ base.cred.ns))
IsNs s event ns = ⊤

-- what the label prepared last, if it was changed
abbrev pub earlier_of : State → ℕ → Option Credential
earlier_of s label =
    option_and_then (λ p. option_map (λ last. last.cred) p.changed) (prepared_of s label)

-- these were taken from the list, one after another in this order
abbrev pub AreTaken : List Loan → List Loan → List Loan → Type 0
AreTaken [] old new = new ≡ old
AreTaken (e ∷ back) old new = (mid : List Loan) × IsTaken old e mid × AreTaken back mid new

-- nothing that is lent to be read stands in one of these slots
abbrev pub HoldsApart : List ℕ → List Loan → Type 0
HoldsApart slots out = All (λ e. IsSome e.held → All (λ slot. e.slot ≢ slot) slots) out

-- a change made this of the base, as its file stands and as the script has its root ids
abbrev pub IsMadeOf :
    Script → List File → List ℕ → Credential → Change → Result Made Answer → Type 0
IsMadeOf script inodes chain base change made =
    IsChainOf script change base.ns chain
    × (made ≡ by_change (info_of inodes (change_files change)) chain base change)

-- what a change made was put
abbrev pub IsMadePut : Written → Result Made Answer → Type 0
IsMadePut writer (Ok made) = writer.put ≡ Some made.cred
IsMadePut writer (Err answer) = ⊤

-- what the label prepares is based on this credential, if it prepares anything
abbrev pub IsBase : State → ℕ → Credential → Type 0
IsBase s label c =
    IfSome (prepared_of s label) (λ p. IfSome (numbered s.creds p.base) (λ base. base.cred ≡ c))

-- the event is decided on credentials
abbrev pub needs_decision : Event → Bool
needs_decision (Ask label query) = true
needs_decision (Signal from label to target) = true
needs_decision (Alter label change) = true
needs_decision (OpenFile label file want fd) = true
needs_decision event = false

-- The label holds the credential of this number, which may open the file, and the descriptor is
-- new.
pub record MayOpen (s : State) (label fd opener : ℕ) (may : Bool) : Type 0 where
  pub held : Numbered
  pub is : held_by s label ≡ Some held
  pub number : held.number ≡ opener
  pub new : open_of s fd ≡ None
  pub room : length s.files < OPEN_FILES
  pub allowed : may ≡ true

-- nothing refuses to open a file by what the label holds, as it was decided
abbrev pub CanOpen : State → (label fd : ℕ) → Bool → Type 0
CanOpen s label fd may = (opener : ℕ) × MayOpen s label fd opener may

-- why what was lent for an event stays lent: nothing was decided for it, or it opens a file, which
-- takes memory and which nothing refuses
abbrev pub StaysLent : State → Pending → Type 0
StaysLent s (Asking hold query told) = told ≡ None
StaysLent s (Opening hold file want fd may) = IfSome may (CanOpen s hold.label fd)
StaysLent s (Signalling from hold to target may) = may ≡ None
StaysLent s (Altering base writer change made) = made ≡ None
