-- What was lent was lent of the state before.
use Rattle.std.proofs.Common.{◌≡◌, ◌∷◌, ◌++◌, ℕ, List, [], None, Some, sym, ap, ◌∙◌, subst}
use Rattle.atomic_table.specs.Seated.{TableId}
use Rattle.cred_event.specs.declared.event.Change.{Change}
use Rattle.cred_event.specs.declared.event.Event.{Event}
use Rattle.cred_event.specs.declared.event.Event.TheVariants.{Ask, Signal, Alter, OpenFile}
use Rattle.cred_event.specs.declared.event.Query.{Query}
use Rattle.cred_record.specs.declared.want.Want.{Want}
use Rattle.cred_hold.specs.Tokens.{Loan, Held, Written, loan}
use Rattle.cred_work.specs.Decisions.{AreOf, work_event}
use Rattle.cred_work.specs.declared.pending.Pending.{Pending}
use Rattle.cred_work.specs.declared.pending.Pending.TheVariants.{Asking, Opening, Signalling, Altering}
use Rattle.cred_model.specs.State.{Numbered, held_by}
use Rattle.cred_sound.specs.Sound.{IsSound}
use Rattle.cred_tables.specs.Kept.{Standing, creds_in}
use Rattle.cred_tables.specs.Out.{AreHome, AreOut, ArePut, hold_token, tokens_in}
use Rattle.cred_tables.proofs.TokensOfLabels.{hold_token_is, kept_tokens_are}
use Rattle.cred_state.specs.TokensOut.{IsKeptBy, IsStanding, loans_of}

-- The tokens were lent of this state, under labels that nothing else was lent under.
pub record WereLent (before : Standing) (lent : Pending) : Type 0 where
  pub cells : TableId
  pub of : AreOf cells lent
  pub tokens : loans_of lent ≡ tokens_in before.state (work_event lent)
  pub sound : IsSound before.state
  pub out : AreOut before.state before.words.out
  pub home : AreHome (work_event lent) before.words.out
  pub put : ArePut before.state.prepared before.words.out before.places
  pub slots : List ℕ
  pub creds : before.state.creds ≡ creds_in before.places slots

pub were_of : (before : Standing) (cells : TableId) (lent : Pending) (event : Event) → work_event lent ≡ event → AreOf cells lent
    → loans_of lent ≡ tokens_in before.state event → IsSound before.state → AreOut before.state before.words.out → AreHome event before.words.out
    → IsStanding before → WereLent before lent
were_of before cells lent event named of tokens sound out home standing = record {
  cells = cells;
  of = of;
  tokens = subst (λ (e : Event). loans_of lent ≡ tokens_in before.state e) (sym named) tokens;
  sound = sound;
  out = out;
  home = subst (λ (e : Event). AreHome e before.words.out) (sym named) home;
  put = standing.put;
  slots = standing.slots;
  creds = standing.creds;
}

-- what the label holds is lent
module _ (before : Standing) (cells : TableId) (label : ℕ) (own : Numbered) (hold : Held) (held : held_by before.state label ≡ Some own)
    (is : hold ≡ record { id = cells; label = label; slot = own.slot; cred = own.cred }) (sound : IsSound before.state)
    (out : AreOut before.state before.words.out) (standing : IsStanding before) where
  its : hold.label ≡ label
  its = ap (λ (h : Held). h.label) is

  token : loan hold.label hold.slot (Some hold.cred) ∷ [] ≡ hold_token before.state label
  token = ap (λ (h : Held). loan h.label h.slot (Some h.cred) ∷ []) is ∙ sym (hold_token_is before.state label own held)

  pub were_asked : (query : Query) → AreHome (Ask label query) before.words.out → WereLent before (Asking hold query None)
  were_asked query home =
      were_of before cells (Asking hold query None) (Ask label query) (ap (λ l. Ask l query) its) (ap (λ (h : Held). h.id) is) token sound out home standing

  pub were_opened : (file : ℕ) (want : Want) (fd : ℕ) → AreHome (OpenFile label file want fd) before.words.out
      → WereLent before (Opening hold file want fd None)
  were_opened file want fd home =
      were_of before cells (Opening hold file want fd None) (OpenFile label file want fd) (ap (λ l. OpenFile l file want fd) its)
      (ap (λ (h : Held). h.id) is) token sound out home standing

-- what two labels hold
pub were_signalled : (before : Standing) (cells : TableId) (from label to target : ℕ) (own other : Numbered) (a b : Held)
    → held_by before.state label ≡ Some own → held_by before.state target ≡ Some other
    → a ≡ record { id = cells; label = label; slot = own.slot; cred = own.cred }
    → b ≡ record { id = cells; label = target; slot = other.slot; cred = other.cred }
    → IsSound before.state → AreOut before.state before.words.out → AreHome (Signal from label to target) before.words.out
    → IsStanding before → WereLent before (Signalling from a to b None)
were_signalled before cells from label to target own other a b held theirs first second sound out home standing =
    let as_loan : Held → Loan = λ h. loan h.label h.slot (Some h.cred) in
    let mine = hold_token_is before.state label own held in
    let yours = hold_token_is before.state target other theirs in
    let its : a.label ≡ label = ap (λ (h : Held). h.label) first in
    let of : b.label ≡ target = ap (λ (h : Held). h.label) second in
    were_of before cells (Signalling from a to b None) (Signal from label to target) (λ k. Signal from (its k) to (of k))
    (ap (λ (h : Held). h.id) first, ap (λ (h : Held). h.id) second)
    ((λ k. as_loan (second k) ∷ as_loan (first k) ∷ []) ∙ sym (λ k. yours k ++ mine k))
    sound out home standing

-- what the label prepares
pub were_altered : (before : Standing) (cells : TableId) (label : ℕ) (change : Change) (base : Held) (writer : Written)
    → IsKeptBy cells before.state label base writer
    → IsSound before.state → AreOut before.state before.words.out → AreHome (Alter label change) before.words.out
    → IsStanding before → WereLent before (Altering base writer change None)
were_altered before cells label change base writer kept sound out home standing =
    let its : base.label ≡ label = ap (λ (h : Held). h.label) kept.base_is in
    were_of before cells (Altering base writer change None) (Alter label change) (ap (λ l. Alter l change) its) (
      ap (λ (h : Held). h.id) kept.base_is,
      ap (λ (w : Written). w.id) kept.writer_is,
      ap (λ (w : Written). w.label) kept.writer_is ∙ sym its,
    )
    ((λ k. loan (kept.writer_is k).label (kept.writer_is k).slot None ∷ loan (kept.base_is k).label (kept.base_is k).slot (Some (kept.base_is k).cred) ∷ [])
    ∙ sym (kept_tokens_are before.state label kept.preparation kept.found kept.prepared kept.sealed))
    sound out home standing
