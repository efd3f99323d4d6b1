-- A state of which tokens are lent, and decisions that depend on less than they are given.
use Rattle.std.proofs.Common.{◌≡◌, ℕ, ◌||◌, Bool, true, false, List, [], ◌∷◌, Option, None, Some, refl, sym, ap, ◌∙◌, subst}
use Rattle.std.specs.Option.{option_map_or}
use Rattle.cred_record.specs.Credential.{Credential}
use Rattle.cred_rules.specs.Access.{may_signal}
use Rattle.cred_model.specs.Like.{IsLike}
use Rattle.cred_model.specs.State.{State, Prepared, Numbered, numbered, prepared_of}
use Rattle.cred_model.proofs.Likes.{like_self}
use Rattle.cred_sound.specs.Sound.{IsSound}
use Rattle.cred_hold.specs.Tokens.{Loan, Held, Written, loan}
use Rattle.cred_work.specs.Decisions.{AreOf, undecided, work_event}
use Rattle.cred_work.specs.declared.pending.Pending.{Pending}
use Rattle.cred_work.specs.declared.pending.Pending.TheVariants.{Asking, Opening, Signalling, Altering}
use Rattle.cred_tables.specs.Kept.{Standing}
use Rattle.cred_tables.specs.Out.{cleared, tokens_in}
use Rattle.cred_tables.proofs.TokensOfLabels.{cleared_like}
use Rattle.cred_state.specs.TokensOut.{IsChain, loans_of, hold_loan, with_lent}
use Rattle.cred_model.specs.Script.{Script}
use Rattle.atomic_table.specs.Seated.{TableId}

-- ---- decisions

-- within one process a signal is always allowed
pub same_or : (a b : Credential) (same : Bool) → may_signal a b same ≡ (same || may_signal a b false)
same_or a b true = refl
same_or a b false = refl

-- ---- the slot that is lent to be written

-- what a writer is lent on is the slot that a label keeps
pub record IsKeptBy (s : State) (slot : ℕ) : Type 0 where
  pub label : ℕ
  pub preparation : Prepared
  pub prepared : prepared_of s label ≡ Some preparation
  pub is : preparation.slot ≡ slot

abbrev of_base : ℕ → Prepared → Option Numbered → List Loan
of_base label p o =
    option_map_or (λ (base : Numbered). loan label p.slot None ∷ loan label base.slot (Some base.cred) ∷ []) o []

abbrev of_prepared : State → ℕ → Option Prepared → List Loan
of_prepared s label o = option_map_or (λ (p : Prepared). of_base label p (numbered s.creds p.base)) o []

pub kept_by : (s : State) (base : Held) (writer : Written)
    → loan writer.label writer.slot None ∷ hold_loan base ∷ [] ≡ of_prepared s base.label (prepared_of s base.label) → IsKeptBy s writer.slot
kept_by s base writer is = by (prepared_of s base.label) refl is
  where
    label : ℕ
    label = base.label

    sealed : (p : Prepared) → prepared_of s label ≡ Some p → (o : Option Numbered)
        → loan writer.label writer.slot None ∷ hold_loan base ∷ [] ≡ of_base label p o → IsKeptBy s writer.slot
    sealed p at None is = cc
    sealed p at (Some c) is =
        let first : loan label p.slot None ≡ loan writer.label writer.slot None = cc in
        record { label = label; preparation = p; prepared = at; is = ap (λ (o : Loan). o.slot) first }

    by : (o : Option Prepared) → prepared_of s label ≡ o → loan writer.label writer.slot None ∷ hold_loan base ∷ [] ≡ of_prepared s label o
        → IsKeptBy s writer.slot
    by None at is = cc
    by (Some p) at is = sealed p at (numbered s.creds p.base) is

-- while it is lent, the state is like the one before
pub like_lent : (before : Standing) (lent : Pending) → IsSound before.state → loans_of lent ≡ tokens_in before.state (work_event lent)
    → IsLike (with_lent before lent).state before.state
like_lent before (Asking hold query told) sound is = like_self before.state
like_lent before (Opening hold file want fd may) sound is = like_self before.state
like_lent before (Signalling from hold to target may) sound is = like_self before.state
like_lent before (Altering base writer change made) sound is =
    let by = kept_by before.state base writer is in
    subst (λ slot. IsLike (record before.state { creds = cleared slot before.state.creds }) before.state) by.is
    (cleared_like before.state sound by.label by.preparation by.prepared)

-- a decision leaves the loans
pub loans_bare : (lent : Pending) → loans_of (undecided lent) ≡ loans_of lent
loans_bare (Asking hold query told) = refl
loans_bare (Opening hold file want fd may) = refl
loans_bare (Signalling from hold to target may) = refl
loans_bare (Altering base writer change made) = refl

-- and the event
pub event_bare : (lent : Pending) → work_event (undecided lent) ≡ work_event lent
event_bare (Asking hold query told) = refl
event_bare (Opening hold file want fd may) = refl
event_bare (Signalling from hold to target may) = refl
event_bare (Altering base writer change made) = refl

-- and what the tokens are of
pub of_bare : (cells : TableId) (lent : Pending) → AreOf cells (undecided lent) ≡ AreOf cells lent
of_bare cells (Asking hold query told) = refl
of_bare cells (Opening hold file want fd may) = refl
of_bare cells (Signalling from hold to target may) = refl
of_bare cells (Altering base writer change made) = refl

-- and the root ids
pub chain_bare : (script : Script) (chain : List ℕ) (lent : Pending) → IsChain script (undecided lent) chain ≡ IsChain script lent chain
chain_bare script chain (Asking hold query told) = refl
chain_bare script chain (Opening hold file want fd may) = refl
chain_bare script chain (Signalling from hold to target may) = refl
chain_bare script chain (Altering base writer change made) = refl

-- two that are the same but for the decision
module _ (old new : Pending) (stays : undecided new ≡ undecided old) where
  pub loans_stay : loans_of new ≡ loans_of old
  loans_stay = sym (loans_bare new) ∙ ap loans_of stays ∙ loans_bare old

  pub event_stays : work_event new ≡ work_event old
  event_stays = sym (event_bare new) ∙ ap work_event stays ∙ event_bare old

  pub of_stays : (cells : TableId) → AreOf cells old → AreOf cells new
  of_stays cells of =
      subst (λ T. T) (of_bare cells new) (subst (λ l. AreOf cells l) (sym stays) (subst (λ T. T) (sym (of_bare cells old)) of))

  pub chain_stays : (script : Script) (chain : List ℕ) → IsChain script old chain → IsChain script new chain
  chain_stays script chain is =
      subst (λ T. T) (chain_bare script chain new) (subst (λ l. IsChain script l chain) (sym stays) (subst (λ T. T) (sym (chain_bare script chain old)) is))
