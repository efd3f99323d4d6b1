-- The rule of the shared words, as six points of what the table holds between any two steps. Word 0
-- is the guide. Slot s has the words from `word_place s 0` on.
use Rattle.std.specs.Prelude.{◌≡◌, ◌≢◌, ◌<◌, ℕ, List, ◌∷◌, Some, true, false, slice_get}
use Rattle.std.specs.Prelude.{slice_index}
use Rattle.cred_record.specs.Credential.{Credential}
use Rattle.cred_record.specs.Words.{IsCredential, words_of}
use Rattle.cred_words.specs.Lists.{Has}
use Rattle.cred_words.specs.Words.{tokens_out_of, token_aside, WordsStand, WordRuleHolds}
use Rattle.cred_words.specs.declared.view.Slot.{Slot}
use Rattle.cred_words.specs.declared.view.Token.{Token}
use Rattle.cred_words.specs.declared.view.Ledger.{Ledger}
use Rattle.cred_words.specs.declared.view.View.{View}
use Rattle.cred_words.specs.declared.view.View.TheVariants.{Master}

-- the tokens of holds and writers, and the one kept aside
abbrev pub tokens_of : Ledger → List View → List Token
tokens_of d views = tokens_out_of (token_aside d.kept ∷ views)

-- no two elements share a ticket
abbrev pub AreDistinct : List Token → Type 0
AreDistinct ts =
    (i j : ℕ) (t u : Token) → slice_get ts i ≡ Some t → slice_get ts j ≡ Some u →
    t.ticket ≡ u.ticket → i ≡ j

-- 1. exactly one view is the master's; its tickets are distinct and below the next ticket
pub record OneMaster (views : List View) (d : Ledger) : Type 0 where
  pub is_there : slice_get views 0 ≡ Some (Master d)
  pub no_other : (i : ℕ) (e : Ledger) → slice_get views i ≡ Some (Master e) → (i ≡ 0) × (e ≡ d)
  pub distinct : AreDistinct d.loans
  pub below : (e : Token) → Has d.loans e → e.ticket < d.next

-- the loan has the ticket, label, slot and kind of the token, and a hold's its words too
pub record Agrees (t e : Token) : Type 0 where
  pub ticket : e.ticket ≡ t.ticket
  pub label : e.label ≡ t.label
  pub slot : e.slot ≡ t.slot
  pub kind : e.writes ≡ t.writes
  pub words : t.writes ≡ false → e.words ≡ t.words

-- 2. each token agrees with exactly one loan, and no two tokens share a ticket
pub record HaveLoans (views : List View) (d : Ledger) : Type 0 where
  pub has :
      (t : Token) → Has (tokens_of d views) t → (e : Token) × Has d.loans e × Agrees t e
  pub one :
      (t e f : Token) → Has d.loans e → Has d.loans f → Agrees t e → Agrees t f → e ≡ f
  pub distinct : AreDistinct (tokens_of d views)

-- 3. a slot with a writer's loan has no second loan and is not sealed; a slot with a hold's loan
-- is sealed, and the loan's words are the master's of that slot
pub record FitSlots (d : Ledger) : Type 0 where
  pub alone :
      (e f : Token) → Has d.loans e → Has d.loans f → e.writes ≡ true → f.slot ≡ e.slot →
      f ≡ e
  pub unsealed :
      (e : Token) → Has d.loans e → e.writes ≡ true →
      (x : Slot) × (slice_get d.slots e.slot ≡ Some x) × (x.sealed ≡ false)
  pub sealed :
      (e : Token) → Has d.loans e → e.writes ≡ false →
      (x : Slot) × (slice_get d.slots e.slot ≡ Some x) × (x.sealed ≡ true) × (e.words ≡ x.words)

-- no writer is out on the slot
abbrev pub IsUnwritten : Ledger → ℕ → Type 0
IsUnwritten d s = (e : Token) → Has d.loans e → e.writes ≡ true → e.slot ≢ s

-- 4. a slot without a writer's loan has the master's words
abbrev pub MasterStands : List ℕ → Ledger → Type 0
MasterStands words d =
    (s : ℕ) (x : Slot) → slice_get d.slots s ≡ Some x → IsUnwritten d s → WordsStand words s x.words

-- 5. the slot of each token has the token's words
abbrev pub TokensStand : List ℕ → List View → Ledger → Type 0
TokensStand words views d =
    (t : Token) → Has (tokens_of d views) t → WordsStand words t.slot t.words

-- 6. the words of a sealed slot are a credential's
abbrev pub SealedAreCredentials : List ℕ → Ledger → Type 0
SealedAreCredentials words d =
    (s : ℕ) (x : Slot) → slice_get d.slots s ≡ Some x → x.sealed ≡ true →
    (c : Credential) × IsCredential c × WordsStand words s (words_of c)

pub record HasPoints (words : List ℕ) (views : List View) (d : Ledger) : Type 0 where
  pub guide : slice_index words 0 ≡ 0
  pub one_master : OneMaster views d
  pub have_loans : HaveLoans views d
  pub fit_slots : FitSlots d
  pub master_stands : MasterStands words d
  pub tokens_stand : TokensStand words views d
  pub sealed_are : SealedAreCredentials words d

-- where the rule holds, so do the points
abbrev pub RuleHasPoints : Type 0
RuleHasPoints =
    (words : List ℕ) (views : List View) → WordRuleHolds words views →
    (d : Ledger) × HasPoints words views d
