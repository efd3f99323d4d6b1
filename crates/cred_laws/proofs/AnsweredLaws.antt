-- The next entry has the answer that the rules give.
use Rattle.std.proofs.Common.{◌≡◌, ◌==◌, ◌&&◌, not, ℕ, List, take, slice_get, Option, Some, None, true, false, cond, is_some, refl, subst}
use Rattle.std.specs.Option.{IfSome, option_map}
use Rattle.std.proofs.lemmas.Option.{IfSome_then}
use Rattle.cred_event.specs.declared.entry.Entry.{Entry}
use Rattle.cred_model.specs.Script.{Script}
use Rattle.cred_model.specs.Step.{step}
use Rattle.cred_model.specs.Journal.{Due, replay, first_due, entry_of, due_in, next}
use Rattle.cred_laws.specs.Answered.{InOrderIsAnswered, SoFarIsAnswered}

-- the entry has the answer that its event gets in the state after those before it
abbrev HasAnswer : Script → List Entry → Entry → Type 0
HasAnswer script before entry = entry.answer ≡ (step script (replay script before) entry.line entry.event).0

due_answered : (script : Script) (before : List Entry) (found : Option Due)
    → IfSome (option_map (entry_of script before) found) (HasAnswer script before)
due_answered script before None = tt
due_answered script before (Some due) = refl

next_answered : (script : Script) (before : List Entry) (lane : ℕ)
    → IfSome (next script before lane) (HasAnswer script before)
next_answered script before lane =
    elim (not (lane == 0) && is_some (due_in script before 0)) as
    (λ b. IfSome (cond b None (option_map (entry_of script before) (due_in script before lane))) (HasAnswer script before)) [
      | true ↦ tt
      | false ↦ due_answered script before (due_in script before lane)
    ]

pub in_order_is_answered : InOrderIsAnswered
in_order_is_answered script journal in_order k lt =
    subst (λ (o : Option Entry). IfSome o (HasAnswer script (take k journal))) (in_order k lt)
    (due_answered script (take k journal) (first_due (λ line. true) (take k journal) 1 script.lines))

pub so_far_is_answered : SoFarIsAnswered
so_far_is_answered script journal so_far k lt =
    IfSome_then (slice_get journal k) (so_far k lt)
    (λ entry of.
    subst (λ (o : Option Entry). IfSome o (HasAnswer script (take k journal))) of.2
    (next_answered script (take k journal) of.0))
