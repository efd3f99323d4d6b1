-- The first line of some lines that has not ended.
use Rattle.std.proofs.Common.{◌≡◌, ℕ, zero, suc, ◌+◌, ◌<◌, List, [], ◌∷◌, length, slice_get, Option, Some, None, Bool, true, false, cond, refl, sym, ap, ◌∙◌}
use Rattle.std.proofs.Common.{subst, arith}
use Rattle.std.specs.Option.{IfSome, option_map_or}
use Rattle.cred_event.specs.declared.event.Event.{Event}
use Rattle.cred_event.specs.declared.entry.Entry.{Entry}
use Rattle.cred_model.specs.Script.{Line}
use Rattle.cred_model.specs.Journal.{Due, next_event, first_due}

-- the event that is due of the line at a number, or what is due of those after it
abbrev due_or : ℕ → Option Event → Option Due → Option Due
due_or n event rest = option_map_or (λ event. Some (record { line = n; event = event })) event rest

-- of the lines from number n on, that at this place has ended if it is one of these
abbrev pub IsEnded : (Line → Bool) → List Entry → ℕ → List Line → ℕ → Type 0
IsEnded these journal n lines k = IfSome (slice_get lines k) (λ l. these l ≡ true → next_event journal (k + n) l.content ≡ None)

-- a line that isn't one of these, or has ended, is passed over
passed : (n : ℕ) (b : Bool) (event : Option Event) (rest : Option Due) → (b ≡ true → event ≡ None) → cond b (due_or n event rest) rest ≡ rest
passed n true event rest over = ap (λ e. due_or n e rest) (over refl)
passed n false event rest over = refl

first_passed : (these : Line → Bool) (journal : List Entry) (n : ℕ) (line : Line) (lines : List Line) → IsEnded these journal n (line ∷ lines) 0
    → first_due these journal n (line ∷ lines) ≡ first_due these journal (n + 1) lines
first_passed these journal n line lines ended =
    let z : 0 + n ≡ n = omega arith in
    passed n (these line) (next_event journal n line.content) (first_due these journal (n + 1) lines)
    (λ own. ap (λ m. next_event journal m line.content) (sym z) ∙ ended own)

-- a later line is numbered from the next number on
ended_behind : (these : Line → Bool) (journal : List Entry) (n : ℕ) (line : Line) (lines : List Line) (k : ℕ) → IsEnded these journal n (line ∷ lines) (suc k)
    → IsEnded these journal (n + 1) lines k
ended_behind these journal n line lines k ended =
    let up : suc k + n ≡ k + (n + 1) = omega arith in
    subst (λ m. IfSome (slice_get lines k) (λ l. these l ≡ true → next_event journal m l.content ≡ None)) up ended

-- the first of these lines that has not ended makes the next event
pub first_due_at : (these : Line → Bool) (journal : List Entry) (n : ℕ) (lines : List Line) (i : ℕ) (line : Line) (event : Event)
    → ((k : ℕ) → k < i → IsEnded these journal n lines k)
    → slice_get lines i ≡ Some line → these line ≡ true → next_event journal (i + n) line.content ≡ Some event
    → first_due these journal n lines ≡ Some (record { line = i + n; event = event })
first_due_at these journal n [] i line event ended here own due = cc
first_due_at these journal n (l ∷ ls) zero line event ended here own due =
    let same : l ≡ line = cc in
    let z : 0 + n ≡ n = omega arith in
    let mine : these l ≡ true = ap these same ∙ own in
    let now : next_event journal n l.content ≡ Some event
    = ap (λ m. next_event journal m l.content) (sym z) ∙ ap (λ (x : Line). next_event journal (0 + n) x.content) same ∙ due in
    rw (mine, now) (ap (λ (m : ℕ). Some (record { line = m; event = event })) (sym z))
first_due_at these journal n (l ∷ ls) (suc i) line event ended here own due =
    let up : suc i + n ≡ i + (n + 1) = omega arith in
    first_passed these journal n l ls (ended 0 (omega arith))
    ∙ first_due_at these journal (n + 1) ls i line event (λ k lt. ended_behind these journal n l ls k (ended (suc k) (omega arith)))
    here own (ap (λ m. next_event journal m line.content) (sym up) ∙ due)
    ∙ ap (λ (m : ℕ). Some (record { line = m; event = event })) (sym up)

-- where all of these lines have ended none is left
pub first_due_none : (these : Line → Bool) (journal : List Entry) (n : ℕ) (lines : List Line)
    → ((k : ℕ) → k < length lines → IsEnded these journal n lines k)
    → first_due these journal n lines ≡ None
first_due_none these journal n [] ended = refl
first_due_none these journal n (l ∷ ls) ended =
    first_passed these journal n l ls (ended 0 (omega arith))
    ∙ first_due_none these journal (n + 1) ls (λ k lt. ended_behind these journal n l ls k (ended (suc k) (omega arith)))
