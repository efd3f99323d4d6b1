-- Journals that grow by an entry.
use Rattle.std.proofs.Common.{◌≡◌, ℕ, zero, suc, ◌<◌, List, [], ◌∷◌, ◌++◌, length, take, slice_get, Option, Some, sym, ap, ◌∙◌, arith}
use Rattle.std.specs.Option.{IfSome}
use Rattle.std.proofs.lemmas.List.Sums.{fold_push}
use Rattle.cred_event.specs.declared.answer.Answer.{Answer}
use Rattle.cred_event.specs.declared.entry.Entry.{Entry}
use Rattle.cred_model.specs.Script.{Script}
use Rattle.cred_model.specs.State.{State, opening}
use Rattle.cred_model.specs.Step.{step}
use Rattle.cred_model.specs.Journal.{replay, IsAnswered, next_in_order, IsInOrder}

-- what holds at each place of a list, of the elements before it and of the one there
pub each_push : {A : Type 0} (Q : List A → Option A → Type 0) (xs : List A) (x : A)
    → ((k : ℕ) → k < length xs → Q (take k xs) (slice_get xs k)) → Q xs (Some x)
    → (k : ℕ) → k < length (xs ++ x ∷ []) → Q (take k (xs ++ x ∷ [])) (slice_get (xs ++ x ∷ []) k)
each_push Q [] x each here zero lt = here
each_push Q [] x each here (suc k) lt = absurd (omega arith)
each_push Q (y ∷ ys) x each here zero lt = each zero (omega arith)
each_push Q (y ∷ ys) x each here (suc k) lt =
    each_push (λ zs o. Q (y ∷ zs) o) ys x (λ j l. each (suc j) (omega arith)) here k (omega arith)

pub replay-push : (script : Script) (journal : List Entry) (entry : Entry)
    → replay script (journal ++ entry ∷ []) ≡ (step script (replay script journal) entry.line entry.event).1
replay-push script journal entry =
    fold_push (λ (s : State) (e : Entry). (step script s e.line e.event).1) (opening script) journal entry

pub IsAnswered-push : (script : Script) (journal : List Entry) (entry : Entry) → IsAnswered script journal
    → entry.answer ≡ (step script (replay script journal) entry.line entry.event).0 → IsAnswered script (journal ++ entry ∷ [])
IsAnswered-push script journal entry each here =
    each_push (λ before o. IfSome o (λ e. e.answer ≡ (step script (replay script before) e.line e.event).0)) journal entry each here

pub IsInOrder-push : (script : Script) (journal : List Entry) (entry : Entry) → IsInOrder script journal
    → next_in_order script journal ≡ Some entry → IsInOrder script (journal ++ entry ∷ [])
IsInOrder-push script journal entry each here = each_push (λ before o. next_in_order script before ≡ o) journal entry each here

-- what a book keeps when an event is made and entered
pub entered : (script : Script) (before after : State) (journal grown : List Entry) (entry : Entry)
    → (before ≡ replay script journal) × IsAnswered script journal → step script before entry.line entry.event ≡ (entry.answer, after)
    → grown ≡ journal ++ entry ∷ [] → (after ≡ replay script grown) × IsAnswered script grown
entered script before after journal grown entry kept stepped e =
    let made : step script (replay script journal) entry.line entry.event ≡ (entry.answer, after)
    = ap (λ (s : State). step script s entry.line entry.event) (sym kept.0) ∙ stepped in
    let answer : entry.answer ≡ (step script (replay script journal) entry.line entry.event).0
    = sym (ap (λ (p : Answer × State). p.0) made) in
    let state : after ≡ replay script (journal ++ entry ∷ [])
    = sym (replay-push script journal entry ∙ ap (λ (p : Answer × State). p.1) made) in
    rw e (state, IsAnswered-push script journal entry kept.1 answer)
