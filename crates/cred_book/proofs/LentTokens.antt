-- What is lent for the works of a book, and under which labels.
use Rattle.std.proofs.Common.{◌≡◌, ◌≢◌, ℕ, ◌<◌, ◌==◌, cond, Bool, true, List, [], ◌∷◌, ◌++◌, get_or, length, ◌⊎◌, inl, inr, Option, Some, None, is_some, refl}
use Rattle.std.proofs.Common.{sym, ap, ◌∙◌, subst, arith}
use Rattle.std.specs.List.{Contains, count_by, range_with_len}
use Rattle.std.specs.Option.{IfSome, option_map_or}
use Rattle.std.proofs.lemmas.Bool.{eqb-true, eq-eqb}
use Rattle.std.proofs.lemmas.List.Elements.{Contains-append_left, Contains-push}
use Rattle.std.proofs.lemmas.List.Sums.{get_or-le-sum_by}
use Rattle.cred_event.specs.declared.event.Event.{Event}
use Rattle.cred_event.specs.declared.event.Event.TheVariants.{Ask, Signal, Alter, OpenFile}
use Rattle.cred_model.specs.State.{State}
use Rattle.cred_model.specs.Journal.{Due, due_in, replay}
use Rattle.cred_names.specs.Labels.{event_labels}
use Rattle.cred_words.specs.Lists.{Has}
use Rattle.cred_hold.specs.Tokens.{Loan}
use Rattle.cred_work.specs.declared.pending.Pending.{Pending}
use Rattle.cred_work.specs.declared.pending.Pending.TheVariants.{Asking, Opening, Signalling, Altering}
use Rattle.cred_tables.specs.Kept.{Standing}
use Rattle.cred_tables.specs.Out.{AreHome, AreOut, hold_token, kept_tokens, tokens_in}
use Rattle.cred_tables.proofs.TokensOfLabels.{IsToken, has_first, has_last, has_out, held_token, kept_token, out_has}
use Rattle.cred_state.specs.TokensOut.{loans_of, with_lent}
use Rattle.cred_book.specs.Book.{Recorded, out_of}
use Rattle.cred_book.specs.Cursor.{BookStands}
use Rattle.cred_book.specs.Works.{IsOutOf, lane_tokens}
use Rattle.cred_book.proofs.LabelsDiffer.{IsNext, labels_apart}
use Rattle.cred_book.proofs.Joined.{Passes, one_if, count-joined, has-append, some_passes, some_place}

-- ---- the labels of an event's tokens

hold_named : (s : State) (label : ℕ) (e : Loan) → Has (hold_token s label) e → label ≡ e.label
hold_named s label e has = ap (λ (x : Loan). x.label) (held_token s label e has).is

kept_named : (s : State) (label : ℕ) (e : Loan) → Has (kept_tokens s label) e → label ≡ e.label
kept_named s label e has = elim (kept_token s label e has).is [
  | inl is ↦ ap (λ (x : Loan). x.label) is
  | inr is ↦ ap (λ (x : Loan). x.label) is
]

only : (label other : ℕ) → label ≡ other → Contains (label ∷ []) other
only label other is = subst (λ n. Contains (label ∷ []) n) is (Contains-push [] label)

-- are labels that it names
pub tokens_named : (s : State) (event : Event) (e : Loan) → Has (tokens_in s event) e → Contains (event_labels event) e.label
tokens_named s (Ask label query) e has = only label e.label (hold_named s label e has)
tokens_named s (OpenFile hold file want fd) e has = only hold e.label (hold_named s hold e has)
tokens_named s (Signal from hold to target) e has = elim (has-append (hold_token s target) (hold_token s hold) e has) [
  | inl there ↦ subst (λ n. Contains (hold ∷ target ∷ []) n) (hold_named s target e there) (Contains-push (hold ∷ []) target)
  | inr here ↦
      subst (λ n. Contains (hold ∷ target ∷ []) n) (hold_named s hold e here) (Contains-append_left (hold ∷ []) (target ∷ []) hold (Contains-push [] hold))
]
tokens_named s (Alter label change) e has = only label e.label (kept_named s label e has)
tokens_named s event e has = absurd has

-- are their labels'
token_of : (s : State) (event : Event) (e : Loan) → Has (tokens_in s event) e → IsToken s e
token_of s event e has = by event has
  where
    held : (label : ℕ) → Has (hold_token s label) e → IsToken s e
    held label has =
        subst (λ n. Has (hold_token s n ++ kept_tokens s n) e) (hold_named s label e has) (has_first (hold_token s label) (kept_tokens s label) e has)

    kept : (label : ℕ) → Has (kept_tokens s label) e → IsToken s e
    kept label has =
        subst (λ n. Has (hold_token s n ++ kept_tokens s n) e) (kept_named s label e has) (has_last (hold_token s label) (kept_tokens s label) e has)

    by : (event : Event) → Has (tokens_in s event) e → IsToken s e
    by (Ask label query) has = held label has
    by (OpenFile hold file want fd) has = held hold has
    by (Signal from hold to target) has = elim (has-append (hold_token s target) (hold_token s hold) e has) [
      | inl there ↦ held target there
      | inr here ↦ held hold here
    ]
    by (Alter label change) has = kept label has
    by event has = absurd has

-- what is lent besides
pub out_lent : (s : State) (event : Event) (lent : Pending) (out : List Loan) → loans_of lent ≡ tokens_in s event → AreOut s out
    → AreOut s (loans_of lent ++ out)
out_lent s event lent out tokens are = has_out s (loans_of lent ++ out) (λ e has. by e (has-append (loans_of lent) out e has))
  where
    by : (e : Loan) → Has (loans_of lent) e ⊎ Has out e → IsToken s e
    by e (inl has) = token_of s event e (subst (λ es. Has es e) tokens has)
    by e (inr has) = out_has s out e are has

pub words_lent : (before : Standing) (lent : Pending) → (with_lent before lent).words.out ≡ loans_of lent ++ before.words.out
words_lent before (Asking hold query told) = refl
words_lent before (Opening hold file want fd may) = refl
words_lent before (Signalling from hold to target may) = refl
words_lent before (Altering base writer change made) = refl

-- ---- what a lane's work has

-- the lane's work, where one is out
pub work_of : (book : Recorded) (lane line : ℕ) → BookStands book → out_of book lane ≡ Some line → IsOutOf book lane line
work_of book lane line stands out = subst (λ o. IfSome o (IsOutOf book lane)) out (stands.works lane)

pub work_next : (book : Recorded) (lane line : ℕ) (work : IsOutOf book lane line)
    → IsNext book.script book.journal lane (record { line = line; event = work.event })
work_next book lane line work = record { is = work.due; set_up = work.set_up }

pub lane_tokens_are : (book : Recorded) (lane line : ℕ) → out_of book lane ≡ Some line → (work : IsOutOf book lane line)
    → lane_tokens book lane ≡ tokens_in (replay book.script book.journal) work.event
lane_tokens_are book lane line out work =
    let due : Option Due → List Loan = λ o. option_map_or (λ (due : Due). tokens_in (replay book.script book.journal) due.event) o [] in
    ap (λ o. cond (is_some o) (due (due_in book.script book.journal lane)) []) out ∙ ap due work.due

pub lane_tokens_none : (book : Recorded) (lane : ℕ) → out_of book lane ≡ None → lane_tokens book lane ≡ []
lane_tokens_none book lane none =
    ap
    (λ o. cond (is_some o) (option_map_or (λ (due : Due). tokens_in (replay book.script book.journal) due.event) (due_in book.script book.journal lane) []) [])
    none

-- a work that is out, one of whose tokens passes the test
pub record HasLent (book : Recorded) (test : Loan → Bool) : Type 0 where
  pub lane : ℕ
  pub line : ℕ
  pub out : out_of book lane ≡ Some line
  pub work : IsOutOf book lane line
  pub it : Loan
  pub token : Has (tokens_in (replay book.script book.journal) work.event) it
  pub passes : test it ≡ true

pub lent_by : (book : Recorded) (test : Loan → Bool) → BookStands book → 0 < count_by test book.words.out → HasLent book test
lent_by book test stands some =
    let tokens : ℕ → List Loan = λ lane. lane_tokens book lane in
    let all = count-joined test tokens (range_with_len 0 (length book.outs)) in
    let at = some_place (λ lane. count_by test (tokens lane)) 0 (length book.outs) (omega (arith, some, stands.lent test, all)) in
    by at.0 (some_passes test (lane_tokens book at.0) at.1) (out_of book at.0) refl
  where
    by : (lane : ℕ) → Passes test (lane_tokens book lane) → (o : Option ℕ) → out_of book lane ≡ o → HasLent book test
    by lane found None out = absurd (subst (λ es. Has es found.it) (lane_tokens_none book lane out) found.is)
    by lane found (Some line) out =
        let work = work_of book lane line stands out in
        record {
          lane = lane;
          line = line;
          out = out;
          work = work;
          it = found.it;
          token = subst (λ es. Has es found.it) (lane_tokens_are book lane line out work) found.is;
          passes = found.passes;
        }

-- a token that is lent under this label
abbrev pub under : ℕ → Loan → Bool
under label e = e.label == label

-- each token that is lent is a work's, whose event names its label
pub lent_under : (book : Recorded) (label : ℕ) (at : HasLent book (under label)) → Contains (event_labels at.work.event) label
lent_under book label at =
    subst (Contains (event_labels at.work.event)) (eqb-true at.it.label label at.passes)
    (tokens_named (replay book.script book.journal) at.work.event at.it at.token)

-- ---- a lane of which no work is out

-- makes an event that names no label under which something is lent
pub next_home : (book : Recorded) (lane : ℕ) (due : Due) → BookStands book → out_of book lane ≡ None
    → IsNext book.script book.journal lane due → AreHome due.event book.words.out
next_home book lane due stands home next k d within names =
    let e = get_or book.words.out k d in
    let one : one_if (under e.label e) ≡ 1 = ap one_if (eq-eqb e.label e.label refl) in
    let most = get_or-le-sum_by (λ (x : Loan). one_if (under e.label x)) book.words.out k d within in
    let at = lent_by book (under e.label) stands (omega (arith, one, most)) in
    let differ : lane ≢ at.lane = λ same. let both : Some at.line ≡ None = sym at.out ∙ ap (out_of book) (sym same) ∙ home in absurd (cc) in
    labels_apart book.script book.journal lane at.lane due (record { line = at.line; event = at.work.event }) e.label stands.named
    next (work_next book at.lane at.line at.work) differ names (lent_under book e.label at)
