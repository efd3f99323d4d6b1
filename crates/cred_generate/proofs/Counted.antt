-- The answers of a journal tell how many credentials are sealed at its end.
use Rattle.std.proofs.Common.{◌≡◌, ℕ, zero, suc, ◌+◌, ◌<◌, ◌≤◌, List, [], ◌∷◌, ◌++◌, length, take, slice_get, Option, Some, refl, sym, ap, ◌∙◌, subst, arith}
use Rattle.std.specs.Option.{IfSome}
use Rattle.std.proofs.lemmas.List.{take_all, take_more}
use Rattle.std.proofs.lemmas.List.Sums.{fold_push}
use Rattle.std.proofs.lemmas.Option.{get_or_from_slice_get, slice_get_within}
use Rattle.cred_event.specs.declared.entry.Entry.{Entry}
use Rattle.cred_model.specs.Journal.{replay, IsAnswered}
use Rattle.cred_model.specs.Script.{Script}
use Rattle.cred_model.specs.State.{State}
use Rattle.cred_model.specs.Step.{step}
use Rattle.cred_model.proofs.Lists.{slice_get_at}
use Rattle.cred_laws.specs.States.{state_at}
use Rattle.cred_laws.proofs.States.{step_at}
use Rattle.cred_generate.specs.Sealed.{count_with, count_sealed}
use Rattle.cred_generate.proofs.Growth.{tells}

-- so it is after one entry more
counted_at : (script : Script) (journal : List Entry) (k : ℕ) (entry : Entry) → slice_get journal k ≡ Some entry
    → entry.answer ≡ (step script (state_at script journal k) entry.line entry.event).0
    → count_sealed (take k journal) ≡ length (state_at script journal k).creds
    → count_sealed (take (k + 1) journal) ≡ length (state_at script journal (k + 1)).creds
counted_at script journal k entry at answered before =
    let s = state_at script journal k in
    let here =
    take_more journal k entry (slice_get_within journal k entry at)
    ∙ ap (λ (e : Entry). take k journal ++ e ∷ []) (get_or_from_slice_get journal k entry entry at) in
    ap count_sealed here
    ∙ fold_push (λ (count : ℕ) (e : Entry). count_with count e.answer) 0 (take k journal) entry
    ∙ ap (λ (n : ℕ). count_with n entry.answer) before
    ∙ ap (count_with (length s.creds)) answered
    ∙ sym (tells script s entry.line entry.event)
    ∙ sym (ap (λ (t : State). length t.creds) (step_at script journal k entry at))

counted : (script : Script) (journal : List Entry) → IsAnswered script journal → (k : ℕ) → k ≤ length journal
    → count_sealed (take k journal) ≡ length (state_at script journal k).creds
counted script journal answered zero le = refl
counted script journal answered (suc k) le =
    let lt : k < length journal = omega arith in
    let there = slice_get_at journal k lt in
    let said =
    subst (λ (o : Option Entry). IfSome o (λ entry. entry.answer ≡ (step script (state_at script journal k) entry.line entry.event).0)) there.1
    (answered k lt) in
    let one : k + 1 ≡ suc k = omega arith in
    subst (λ (n : ℕ). count_sealed (take n journal) ≡ length (state_at script journal n).creds) one
    (counted_at script journal k there.0 there.1 said (counted script journal answered k (omega arith)))

-- the answers of a journal tell how many credentials are sealed at its end
pub sealed_count : (script : Script) (journal : List Entry) → IsAnswered script journal → count_sealed journal ≡ length (replay script journal).creds
sealed_count script journal answered =
    let all = take_all (length journal) journal (omega arith) in
    subst (λ (entries : List Entry). count_sealed entries ≡ length (replay script entries).creds) all
    (counted script journal answered (length journal) (omega arith))
