-- The states that a journal leads through, and its answers.
use Rattle.std.proofs.Common.{◌≡◌, inl, inr, ℕ, ◌+◌, List, [], ◌∷◌, ◌++◌, length, take, slice_get, Option, Some, None, sym, ap, ◌∙◌, subst, arith}
use Rattle.std.specs.Option.{IfSome}
use Rattle.std.proofs.lemmas.List.{take_all, take_more}
use Rattle.cred_model.proofs.Lists.{slice_get_at}
use Rattle.std.proofs.lemmas.Option.{get_or_from_slice_get, slice_get_past, slice_get_within}
use Rattle.std.proofs.lemmas.Bool.{cases_lt}
use Rattle.cred_event.specs.declared.entry.Entry.{Entry}
use Rattle.cred_model.specs.Script.{Script}
use Rattle.cred_model.specs.Step.{step}
use Rattle.cred_model.specs.Journal.{replay, IsAnswered}
use Rattle.cred_model.proofs.Journals.{replay-push}
use Rattle.cred_laws.specs.States.{state_at}

-- the state after one entry more is the step's
pub step_at : (script : Script) (journal : List Entry) (k : ℕ) (entry : Entry) → slice_get journal k ≡ Some entry
    → state_at script journal (k + 1) ≡ (step script (state_at script journal k) entry.line entry.event).1
step_at script journal k entry is =
    let lt = slice_get_within journal k entry is in
    ap (replay script) (take_more journal k entry lt ∙ ap (λ (e : Entry). take k journal ++ e ∷ []) (get_or_from_slice_get journal k entry entry is))
    ∙ replay-push script (take k journal) entry

-- past its end a journal says nothing of its answers
pub answered_at : (script : Script) (journal : List Entry) → IsAnswered script journal → (k : ℕ)
    → IfSome (slice_get journal k) (λ entry. entry.answer ≡ (step script (state_at script journal k) entry.line entry.event).0)
answered_at script journal answered k =
    elim (cases_lt k (length journal)) [
      | inl lt ↦ answered k lt
      | inr past ↦ subst (λ (o : Option Entry). IfSome o (λ entry. entry.answer ≡ (step script (state_at script journal k) entry.line entry.event).0))
          (sym (slice_get_past journal k past)) tt
    ]

-- past its end a journal leads no further
pub past_end : (script : Script) (journal : List Entry) (k : ℕ) → slice_get journal k ≡ None
    → state_at script journal (k + 1) ≡ state_at script journal k
past_end script journal k none =
    elim (cases_lt k (length journal)) [
      | inl lt ↦ absurd (let there = slice_get_at journal k lt in let both : Some there.0 ≡ None = sym there.1 ∙ none in cc)
      | inr past ↦ ap (replay script) (take_all (k + 1) journal (omega (arith, past)) ∙ sym (take_all k journal past))
    ]
