-- A work that comes back is the one that was out: its tokens and its event are those of the lane's next event.
use Rattle.std.proofs.Common.{◌≡◌, ◌≢◌, ℕ, ◌&&◌, Bool, true, false, List, [], ◌∷◌, ◌++◌, ◌⊎◌, inl, inr, Option, Some, None, is_some, refl, sym, ap, ◌∙◌, subst}
use Rattle.std.specs.List.{Contains}
use Rattle.std.specs.Option.{IfSome}
use Rattle.std.proofs.lemmas.Bool.{cases_eq, eq-eqb}
use Rattle.std.proofs.lemmas.List.Elements.{Contains-push}
use Rattle.cred_event.specs.declared.content.Stage.{Stage}
use Rattle.cred_event.specs.declared.event.Event.{Event}
use Rattle.cred_model.specs.Script.{Script, Line}
use Rattle.cred_model.specs.State.{State, Hold, Numbered, Prepared, hold_of, held_by, prepared_of}
use Rattle.cred_model.specs.Course.{event_in}
use Rattle.cred_model.specs.Journal.{Due, due_in, replay}
use Rattle.cred_names.specs.Labels.{event_labels}
use Rattle.cred_sound.specs.Sound.{IsSound}
use Rattle.cred_script.specs.Lines.{line_at}
use Rattle.cred_course.proofs.Courses.{line_at-place}
use Rattle.cred_words.specs.Lists.{Has}
use Rattle.cred_hold.specs.Tokens.{Loan, Held, Written, loan}
use Rattle.atomic_table.specs.Seated.{TableId}
use Rattle.cred_work.specs.Decisions.{AreOf, work_event}
use Rattle.cred_work.specs.declared.pending.Pending.{Pending}
use Rattle.cred_work.specs.declared.pending.Pending.TheVariants.{Asking, Opening, Signalling, Altering}
use Rattle.cred_work.specs.Work.{Work}
use Rattle.cred_tables.specs.Out.{AreOut, hold_token, kept_tokens, tokens_in, needs_tokens}
use Rattle.cred_tables.proofs.Returned.{has_taken, taken_has}
use Rattle.cred_tables.proofs.TokensOfLabels.{base_out, hold_out, hold_token_is, kept_tokens_are, writer_out}
use Rattle.cred_state.specs.TokensOut.{AreTaken, loans_of}
use Rattle.cred_state.proofs.Lines.{IsLines, may_need_tokens, names_own, same_event, waiting_may}
use Rattle.cred_state.proofs.Stays.{base_sealed, held_sealed}
use Rattle.cred_book.specs.Book.{Recorded}
use Rattle.cred_book.specs.Cursor.{BookStands}
use Rattle.cred_book.specs.Works.{IsOfLane, IsOutOf}
use Rattle.cred_book.proofs.LabelsDiffer.{IsOfPlace, due_from, names_at, names_differ, never_setup, next_made}
use Rattle.cred_book.proofs.Joined.{has_passes}
use Rattle.cred_book.proofs.LentTokens.{HasLent, lent_by, lent_under, under, work_next}

-- ---- what was taken

pub all_taken : (back old new : List Loan) → AreTaken back old new → (e : Loan) → Has back e → Has old e
all_taken [] old new taken e has = absurd has
all_taken (x ∷ back) old new (mid, first, rest) e (inl is) = subst (Has old) is (has_taken old x mid first)
all_taken (x ∷ back) old new (mid, first, rest) e (inr has) = taken_has old x mid first e (all_taken back mid new rest e has)

-- what is left was there
pub left_there : (back old new : List Loan) → AreTaken back old new → (e : Loan) → Has new e → Has old e
left_there [] old new taken e has = subst (λ es. Has es e) taken has
left_there (x ∷ back) old new (mid, first, rest) e has = taken_has old x mid first e (left_there back mid new rest e has)

-- ---- the tokens are those of its event

both_true : (a b : Bool) → a && b ≡ true → (a ≡ true) × (b ≡ true)
both_true true b is = (refl, is)
both_true false b is = cc

module _ (s : State) (sound : IsSound s) (out : List Loan) (are : AreOut s out) where
  held_some : (label : ℕ) → is_some (hold_of s label) ≡ true → (c : Numbered) × (held_by s label ≡ Some c)
  held_some label some = by (hold_of s label) refl some
    where
      by : (o : Option Hold) → hold_of s label ≡ o → is_some o ≡ true → (c : Numbered) × (held_by s label ≡ Some c)
      by None at is = cc
      by (Some h) at is = held_sealed s sound label h at

  abbrev hold_loan : Held → Loan
  hold_loan hold = loan hold.label hold.slot (Some hold.cred)

  hold_back : (label : ℕ) (hold : Held) → hold.label ≡ label → is_some (hold_of s label) ≡ true → Has out (hold_loan hold)
      → hold_loan hold ∷ [] ≡ hold_token s label
  hold_back label hold own some has =
      let c = held_some label some in
      let same = hold_out s sound out are label hold.slot c.0 hold.cred c.1 (subst (λ n. Has out (loan n hold.slot (Some hold.cred))) own has) in
      (λ k. loan (own k) (sym same.0 k) (Some (sym same.1 k)) ∷ []) ∙ sym (hold_token_is s label c.0 c.1)

  kept_back : (label : ℕ) (base : Held) (writer : Written) → base.label ≡ label → writer.label ≡ label → is_some (prepared_of s label) ≡ true
      → Has out (loan writer.label writer.slot None) → Has out (hold_loan base)
      → loan writer.label writer.slot None ∷ hold_loan base ∷ [] ≡ kept_tokens s label
  kept_back label base writer own its some writes holds = by (prepared_of s label) refl some
    where
      by : (o : Option Prepared) → prepared_of s label ≡ o → is_some o ≡ true
          → loan writer.label writer.slot None ∷ hold_loan base ∷ [] ≡ kept_tokens s label
      by None at is = cc
      by (Some p) at is =
          let c = base_sealed s sound label p at in
          let slot = writer_out s sound out are label writer.slot p at (subst (λ n. Has out (loan n writer.slot None)) its writes) in
          let same = base_out s sound out are label base.slot p c.0 base.cred at c.1 (subst (λ n. Has out (loan n base.slot (Some base.cred))) own holds) in
          (λ k. loan (its k) (sym slot k) None ∷ loan (own k) (sym same.0 k) (Some (sym same.1 k)) ∷ [])
          ∙ sym (kept_tokens_are s label p c.0 at c.1)

  pub tokens_back : (cells : TableId) (lent : Pending) → needs_tokens s (work_event lent) ≡ true → AreOf cells lent
      → ((e : Loan) → Has (loans_of lent) e → Has out e) → loans_of lent ≡ tokens_in s (work_event lent)
  tokens_back cells (Asking hold query told) waits of has = hold_back hold.label hold refl waits (has (hold_loan hold) (inl refl))
  tokens_back cells (Opening hold file want fd may) waits of has = hold_back hold.label hold refl waits (has (hold_loan hold) (inl refl))
  tokens_back cells (Signalling from hold to target may) waits of has =
      let both = both_true (is_some (hold_of s hold.label)) (is_some (hold_of s target.label)) waits in
      λ k. hold_back target.label target refl both.1 (has (hold_loan target) (inl refl)) k
      ++ hold_back hold.label hold refl both.0 (has (hold_loan hold) (inr (inl refl))) k
  tokens_back cells (Altering base writer change made) waits (own, its, same) has =
      kept_back base.label base writer refl same waits (has (loan writer.label writer.slot None) (inl refl)) (has (hold_loan base) (inr (inl refl)))

-- ---- its event is the lane's next one

-- one of its tokens
pub record HasToken (lent : Pending) : Type 0 where
  pub it : Loan
  pub is : Has (loans_of lent) it
  pub named : Contains (event_labels (work_event lent)) it.label

one_token : (cells : TableId) (lent : Pending) → AreOf cells lent → HasToken lent
one_token cells (Asking hold query told) of =
    record { it = loan hold.label hold.slot (Some hold.cred); is = inl refl; named = Contains-push [] hold.label }
one_token cells (Opening hold file want fd may) of =
    record { it = loan hold.label hold.slot (Some hold.cred); is = inl refl; named = Contains-push [] hold.label }
one_token cells (Signalling from hold to target may) of =
    record { it = loan target.label target.slot (Some target.cred); is = inl refl; named = Contains-push (hold.label ∷ []) target.label }
one_token cells (Altering base writer change made) (own, its, same) =
    record { it = loan base.label base.slot (Some base.cred); is = inr (inl refl); named = Contains-push [] base.label }

pub lent_waits : (lent : Pending) → may_need_tokens (work_event lent) ≡ true
lent_waits (Asking hold query told) = refl
lent_waits (Opening hold file want fd may) = refl
lent_waits (Signalling from hold to target may) = refl
lent_waits (Altering base writer change made) = refl

-- what the line of the work may make
made_by : (script : Script) (number : ℕ) (event : Event) (o : Option Line) (line : Line) → o ≡ Some line
    → IfSome o (λ line. (stage : Stage) × (event_in number line.content stage ≡ Some event))
    → (stage : Stage) × (event_in number line.content stage ≡ Some event)
made_by script number event o line at made =
    subst (λ o. IfSome o (λ line. (stage : Stage) × (event_in number line.content stage ≡ Some event))) at made

abbrev due_of_line : ℕ → Event → Due
due_of_line line event = record { line = line; event = event }

pub event_is : (book : Recorded) (lane : ℕ) (work : Work) → BookStands book → IsOfLane book lane work → (out : IsOutOf book lane work.line)
    → ((e : Loan) → Has (loans_of work.lent) e → Has book.words.out e) → work_event work.lent ≡ out.event
event_is book lane work stands is out has = by (cases_eq at.lane lane)
  where
    token : HasToken work.lent
    token = one_token book.words.id work.lent is.of.own

    at : HasLent book (under token.it.label)
    at = lent_by book (under token.it.label) stands
        (has_passes (under token.it.label) book.words.out token.it (has token.it token.is) (eq-eqb token.it.label token.it.label refl))

    place : IsOfPlace book.journal lane 1 book.script.lines (due_of_line work.line out.event)
    place = due_from book.script book.journal lane (due_of_line work.line out.event) out.due

    line_is : line_at book.script work.line ≡ Some place.line
    line_is = ap (line_at book.script) place.number ∙ line_at-place book.script place.place ∙ place.here

    made : (stage : Stage) × (event_in work.line place.line.content stage ≡ Some (work_event work.lent))
    made = made_by book.script work.line (work_event work.lent) (line_at book.script work.line) place.line line_is is.of.made

    by : (at.lane ≡ lane) ⊎ (at.lane ≢ lane) → work_event work.lent ≡ out.event
    by (inl same) =
        let one : Some (due_of_line at.line at.work.event) ≡ Some (due_of_line work.line out.event)
        = sym at.work.due ∙ ap (due_in book.script book.journal) same ∙ out.due in
        let due_same : due_of_line at.line at.work.event ≡ due_of_line work.line out.event = cc in
        let event_same : at.work.event ≡ out.event = ap (λ (d : Due). d.event) due_same in
        let stage = next_made book.journal work.line place.line.content out.event place.next in
        same_event work.line place.line.content made.0 stage.stage (work_event work.lent) out.event made.1 stage.made
        (lent_waits work.lent) (waiting_may (replay book.script book.journal) out.event out.waits)
        token.it.label token.named (subst (λ (e : Event). Contains (event_labels e) token.it.label) event_same (lent_under book token.it.label at))
    by (inr other) =
        let due : Due = due_of_line work.line out.event in
        let its : Due = due_of_line at.line at.work.event in
        let there = due_from book.script book.journal at.lane its at.work.due in
        let differ : lane ≢ at.lane = λ e. other (sym e) in
        let mine = work_next book lane work.line out in
        let theirs = work_next book at.lane at.line at.work in
        absurd (names_differ book.journal lane at.lane book.script.lines due its token.it.label stands.named
        (never_setup book.script book.journal lane at.lane due its mine theirs differ)
        (never_setup book.script book.journal at.lane lane its due theirs mine other)
        differ place there
        (subst (λ n. IsLines n place.line.content token.it.label) place.number
        (names_own work.line place.line.content made.0 (work_event work.lent) made.1 token.it.label token.named))
        (names_at book.journal at.lane book.script.lines its there token.it.label (lent_under book token.it.label at)))
