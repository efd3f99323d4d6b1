-- How many of a lane's entries are works', from entry to entry.
use Rattle.std.proofs.Common.{◌≡◌, ◌≢◌, ℕ, ◌+◌, ◌==◌, ◌&&◌, true, false, List, [], ◌∷◌, ◌++◌, Some, refl, ap, ◌∙◌, arith}
use Rattle.std.specs.List.{fold}
use Rattle.std.specs.Option.{option_map_or}
use Rattle.std.proofs.lemmas.Bool.Decides.{nat_tests}
use Rattle.std.proofs.lemmas.List.Sums.{fold_push}
use Rattle.cred_event.specs.declared.entry.Entry.{Entry}
use Rattle.cred_model.specs.Script.{Script}
use Rattle.cred_model.specs.State.{State}
use Rattle.cred_model.specs.Step.{step}
use Rattle.cred_model.specs.Journal.{lane_of, replay}
use Rattle.cred_tables.specs.Out.{needs_tokens}
use Rattle.cred_book.specs.Counts.{Tally, count_of, decided_of, first_tally, is_of_lane, tallied}

-- the state of a tally is the replayed one
tally_state : (script : Script) (lane : ℕ) (tally : Tally) (journal : List Entry)
    → (fold (tallied script lane) tally journal).state
    ≡ fold (λ (s : State) (e : Entry). (step script s e.line e.event).1) tally.state journal
tally_state script lane tally [] = refl
tally_state script lane tally (entry ∷ journal) = tally_state script lane (tallied script lane tally entry) journal

decided_push : (script : Script) (journal : List Entry) (entry : Entry) (lane : ℕ)
    → decided_of script (journal ++ entry ∷ []) lane
    ≡ decided_of script journal lane + count_of (is_of_lane script lane entry && needs_tokens (replay script journal) entry.event)
decided_push script journal entry lane =
    ap (λ (t : Tally). t.decided) (fold_push (tallied script lane) (first_tally script) journal entry)
    ∙ ap (λ (s : State). decided_of script journal lane + count_of (is_of_lane script lane entry && needs_tokens s entry.event))
    (tally_state script lane (first_tally script) journal)

-- an entry of the lane
pub decided_own : (script : Script) (journal : List Entry) (entry : Entry) (lane : ℕ) → lane_of script entry.line ≡ Some lane
    → decided_of script (journal ++ entry ∷ []) lane
    ≡ decided_of script journal lane + count_of (needs_tokens (replay script journal) entry.event)
decided_own script journal entry lane of =
    let test : (lane == lane) ≡ true = grind (arith, nat_tests) in
    let own : is_of_lane script lane entry ≡ true = ap (λ o. option_map_or (λ own. own == lane) o false) of ∙ test in
    decided_push script journal entry lane
    ∙ ap (λ b. decided_of script journal lane + count_of (b && needs_tokens (replay script journal) entry.event)) own

-- one of another lane
pub decided_other : (script : Script) (journal : List Entry) (entry : Entry) (lane other : ℕ) → lane_of script entry.line ≡ Some lane → other ≢ lane
    → decided_of script (journal ++ entry ∷ []) other ≡ decided_of script journal other
decided_other script journal entry lane other of differ =
    let test : (lane == other) ≡ false = grind (arith, nat_tests) in
    let not : is_of_lane script other entry ≡ false = ap (λ o. option_map_or (λ own. own == other) o false) of ∙ test in
    decided_push script journal entry other
    ∙ ap (λ b. decided_of script journal other + count_of (b && needs_tokens (replay script journal) entry.event)) not
    ∙ omega arith
