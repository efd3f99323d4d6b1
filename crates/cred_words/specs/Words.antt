-- The rule of the shared words over plain lists.
use Rattle.std.specs.Prelude.{◌≡◌, ◌≢◌, ℕ, zero, suc, ◌+◌, ◌<◌, List, [], ◌∷◌, length, Option, Some}
use Rattle.std.specs.Prelude.{None, Bool, true, false, ◌&&◌, ◌==◌, if◌then◌else◌, replicate}
use Rattle.std.specs.Prelude.{slice_get, slice_set, slice_index, ⊤}
use Rattle.std.specs.List.{AllByRecursion}
use Rattle.cred_words.specs.Lists.{Has, IsTaken}
use Rattle.cred_words.specs.Size.{width, count, total, word_place}
use Rattle.cred_record.specs.Words.{are_words}
use Rattle.cred_words.specs.declared.view.Slot.{Slot}
use Rattle.cred_words.specs.declared.view.Token.{Token}
use Rattle.cred_words.specs.declared.view.Ledger.{Ledger}
use Rattle.cred_words.specs.declared.view.View.{View}
use Rattle.cred_words.specs.declared.view.View.TheVariants.{Master, Lent, Spent}

-- a slot with these words
abbrev pub slot_of : List ℕ → Bool → Slot
slot_of ws sealed = record { words = ws; sealed = sealed }

-- a ledger of these parts
abbrev pub ledger_with : List Slot → ℕ → List Token → Option Token → Ledger
ledger_with slots next loans kept = record {
  slots = slots;
  next = next;
  loans = loans;
  kept = kept;
}

-- a token of these parts
abbrev pub token : (ticket label slot : ℕ) → Bool → List ℕ → Token
token ticket label slot writes ws = record {
  ticket = ticket;
  label = label;
  slot = slot;
  writes = writes;
  words = ws;
}

-- the loan of a token: a hold's has its words, a writer's none
abbrev pub as_loan : Token → Token
as_loan t = token t.ticket t.label t.slot t.writes (if t.writes then [] else t.words)

-- the token with these words
abbrev pub put_words : Token → List ℕ → Token
put_words t ws = token t.ticket t.label t.slot t.writes ws

-- the tokens that are out
abbrev pub tokens_out_of : List View → List Token
tokens_out_of [] = []
tokens_out_of (Master d ∷ vs) = tokens_out_of vs
tokens_out_of (Lent t ∷ vs) = t ∷ tokens_out_of vs
tokens_out_of (Spent ∷ vs) = tokens_out_of vs

-- the token kept aside, as a view
abbrev pub token_aside : Option Token → View
token_aside None = Spent
token_aside (Some t) = Lent t

-- the view is not the master's
abbrev pub IsNoMaster : View → Type 0
IsNoMaster (Master d) = ⊥
IsNoMaster (Lent t) = ⊤
IsNoMaster Spent = ⊤

-- two loans have different tickets, and a writer's slot is its own
pub record Apart (e f : Token) : Type 0 where
  pub tickets : f.ticket ≢ e.ticket
  pub writer : e.writes ≡ true → f.slot ≢ e.slot
  pub other : f.writes ≡ true → f.slot ≢ e.slot

-- each two are apart
abbrev pub AllApart : List Token → Type 0
AllApart [] = ⊤
AllApart (e ∷ es) = AllByRecursion (Apart e) es × AllApart es

-- no two share a ticket
abbrev pub OwnTickets : List Token → Type 0
OwnTickets [] = ⊤
OwnTickets (t ∷ ts) = AllByRecursion (λ u. u.ticket ≢ t.ticket) ts × OwnTickets ts

-- the slot has these numbers as its words
pub record WordsStand (words : List ℕ) (slot : ℕ) (ws : List ℕ) : Type 0 where
  pub within : slot < count
  pub wide : length ws ≡ width
  pub each : (i : ℕ) → i < width → slice_index words (word_place slot i) ≡ slice_index ws i

-- the loan's slot, by whether the loan is a writer's
abbrev pub FitsAs : Bool → List Slot → Token → Type 0
FitsAs true slots e = (ws : List ℕ) × (slice_get slots e.slot ≡ Some (slot_of ws false))
FitsAs false slots e = slice_get slots e.slot ≡ Some (slot_of e.words true)

-- a writer's slot isn't sealed; a hold's is, with the loan's words
abbrev pub LoanFits : List Slot → Token → Type 0
LoanFits slots e = FitsAs e.writes slots e

-- the loan is no writer's on the slot
abbrev pub NoWriterOn : ℕ → Token → Type 0
NoWriterOn slot e = e.writes ≡ true → e.slot ≢ slot

-- the rule, with the master's parts and the other views. The guide is 0; the master's view is the
-- first, and no other is a master's; tickets are below the next one; each token that is out has
-- its loan, and a ticket of its own; loans are apart, and fit their slots; a slot with no writer
-- has the master's words, and that of a token the token's; a sealed slot's words are a credential's
pub record KeepsWords
    (words : List ℕ) (views : List View)
    (slots : List Slot) (next : ℕ) (loans : List Token) (kept : Option Token)
    (others : List View) : Type 0 where
  pub guide : slice_index words 0 ≡ 0
  pub size : length words ≡ total
  pub slot_count : length slots ≡ count
  pub views_are : views ≡ Master (ledger_with slots next loans kept) ∷ others
  pub one_master : AllByRecursion IsNoMaster others
  pub below_next : AllByRecursion (λ e. e.ticket < next) loans
  pub has_loan : AllByRecursion (λ t. Has loans (as_loan t))
      (tokens_out_of (token_aside kept ∷ others))
  pub own_tickets : OwnTickets (tokens_out_of (token_aside kept ∷ others))
  pub apart : AllApart loans
  pub fit : AllByRecursion (LoanFits slots) loans
  pub masters :
      (s : ℕ) (x : Slot) → slice_get slots s ≡ Some x → AllByRecursion (NoWriterOn s) loans →
      WordsStand words s x.words
  pub stand : AllByRecursion (λ t. WordsStand words t.slot t.words)
      (tokens_out_of (token_aside kept ∷ others))
  pub sealed :
      (s : ℕ) (x : Slot) → slice_get slots s ≡ Some x → x.sealed ≡ true → are_words x.words ≡ true

-- the rule: there are a master's parts and other views with which it holds
abbrev pub WordRuleHolds : List ℕ → List View → Type 0
WordRuleHolds words views =
    (slots : List Slot) × (next : ℕ) × (loans : List Token) × (kept : Option Token) ×
    (others : List View) × KeepsWords words views slots next loans kept others

-- ---- the steps

-- the master's first view: no slot is sealed, and nothing is lent
abbrev pub first_master : View
first_master = Master (ledger_with (replicate count (slot_of (replicate width 0) false)) 0 [] None)

-- the ledger of the master's view
abbrev pub ledger_of : View → Ledger
ledger_of (Master d) = d
ledger_of (Lent t) = ledger_with [] 0 [] None
ledger_of Spent = ledger_with [] 0 [] None

-- what a view without a token is read as
abbrev pub no_token : Token
no_token = token 0 0 0 false []

-- the token of a view
abbrev pub token_of : View → Token
token_of (Master d) = no_token
token_of (Lent t) = t
token_of Spent = no_token

-- the words of a slot, as the master knows them
abbrev pub words_at : List Slot → ℕ → List ℕ
words_at [] s = []
words_at (x ∷ xs) zero = x.words
words_at (x ∷ xs) (suc s) = words_at xs s

-- the token that a lend gives
abbrev pub lent_token : Ledger → ℕ → ℕ → Bool → Token
lent_token d label slot writes = token d.next label slot writes (words_at d.slots slot)

-- the slots after a loan: a writer's is no longer sealed
abbrev pub slots_after : List Slot → ℕ → Bool → List Slot
slots_after slots slot true = slice_set slots slot (slot_of (words_at slots slot) false)
slots_after slots slot false = slots

-- the ledger after a loan
abbrev pub after_lend : Ledger → ℕ → ℕ → Bool → Ledger
after_lend d label slot writes =
    ledger_with (slots_after d.slots slot writes) (d.next + 1)
    (as_loan (lent_token d label slot writes) ∷ d.loans) d.kept

-- the views after a loan: the master's, and the new one
abbrev pub after_lending_token : ℕ → ℕ → Bool → View → View
after_lending_token label slot writes (Master d) = Master (after_lend d label slot writes)
after_lending_token label slot writes (Lent t) = Lent t
after_lending_token label slot writes Spent = Spent

-- the view of the token that a lend gives
abbrev pub lends : ℕ → ℕ → Bool → View → View
lends label slot writes v = Lent (lent_token (ledger_of v) label slot writes)

-- the token of a view, if it has one
abbrev pub token_in_view : View → Option Token
token_in_view (Master d) = None
token_in_view (Lent t) = Some t
token_in_view Spent = None

-- the master's view after a return: the token is kept aside
abbrev pub after_return_of_token : View → View → View
after_return_of_token (Master d) w = Master (ledger_with d.slots d.next d.loans (token_in_view w))
after_return_of_token (Lent t) w = Lent t
after_return_of_token Spent w = Spent

-- the loans less the first one with the ticket
abbrev pub without_ticket : ℕ → List Token → List Token
without_ticket ticket [] = []
without_ticket ticket (e ∷ es) = if e.ticket == ticket then es else (e ∷ without_ticket ticket es)

-- the slots after the load that follows a return: a writer's has the writer's words, and is sealed
-- where they are a credential's and one was put
abbrev pub slots_back : List Slot → Token → Bool → Bool → List Slot
slots_back slots t put true =
    slice_set slots t.slot (slot_of t.words (put && are_words t.words))
slots_back slots t put false = slots

-- the ledger after that load
abbrev pub after_back : Ledger → Token → Bool → Ledger
after_back d t put =
    ledger_with (slots_back d.slots t put t.writes) d.next (without_ticket t.ticket d.loans) None

-- what the load after a return reports
abbrev pub LearnedAs : Ledger → Bool → Option Token → View → Type 0
LearnedAs d put None w = w ≡ Master d
LearnedAs d put (Some t) w =
    IsTaken d.loans (as_loan t) (without_ticket t.ticket d.loans)
    × LoanFits d.slots (as_loan t) ×
    (w ≡ Master (after_back d t put))

-- the same of any view: to others than the master the load reports nothing
abbrev pub LearnedToken : Bool → View → View → Type 0
LearnedToken put (Master d) w = LearnedAs d put d.kept w
LearnedToken put (Lent t) w = w ≡ Lent t
LearnedToken put Spent w = w ≡ Spent

-- what the load of a word reports
abbrev pub LoadsAt : ℕ → View → ℕ → Type 0
LoadsAt word (Master d) n = ⊤
LoadsAt word (Lent t) n =
    (i : ℕ) → i < width → word ≡ word_place t.slot i → n ≡ slice_index t.words i
LoadsAt word Spent n = ⊤

-- what the store of a word does
abbrev pub StoresAt : ℕ → ℕ → View → View → Type 0
StoresAt word n (Master d) w = ⊤
StoresAt word n (Lent t) w =
    (i : ℕ) → i < width → word ≡ word_place t.slot i →
    w ≡ Lent (put_words t (slice_set t.words i n))
StoresAt word n Spent w = ⊤
