-- Where no line of any lane is left.
use Rattle.std.proofs.Common.{◌≡◌, ◌≢◌, ℕ, ◌<◌, ◌≤◌, ◌==◌, ◌&&◌, not, cond, true, false, List, Option, None, is_some, refl, ap, ◌∙◌, arith}
use Rattle.std.specs.Option.{option_map}
use mathlib.Core.Logic.{dite}
use native.Mathlib.Decide.{ℕ_discrete}
use Rattle.std.proofs.Math.Decide.{dec_le}
use Rattle.cred_event.specs.declared.entry.Entry.{Entry}
use Rattle.cred_model.specs.Script.{Script}
use Rattle.cred_model.specs.Journal.{due_in, entry_of, next, IsLegal, SoFar}
use Rattle.cred_script.specs.Lanes.{lanes}
use Rattle.cred_book.specs.Counts.{ended_of, lines_in}
use Rattle.cred_book.proofs.Ends.{due_none, ended_within, lines_past}

-- a lane in which nothing is due has no next entry
none_next : (script : Script) (journal : List Entry) (lane : ℕ) → due_in script journal lane ≡ None → next script journal lane ≡ None
none_next script journal lane none =
    let waits = not (lane == 0) && is_some (due_in script journal 0) in
    ap (λ o. cond waits None (option_map (entry_of script journal) o)) none
    ∙ elim waits as (λ b. cond {A = Option Entry} b None None ≡ None) [ true ↦ refl | false ↦ refl ]

past_ended : (script : Script) (journal : List Entry) (lane : ℕ) → lanes script.lines < lane → ended_of script journal lane ≡ lines_in script lane
past_ended script journal lane past = let within = ended_within script journal lane in let no = lines_past script lane past in omega (arith, within, no)

-- A journal so far is legal, where the setup has ended and every line of each lane has.
pub is_legal : (script : Script) (journal : List Entry) → SoFar script journal → due_in script journal 0 ≡ None
    → ((lane : ℕ) → 0 < lane → lane ≤ lanes script.lines → ended_of script journal lane ≡ lines_in script lane) → IsLegal script journal
is_legal script journal so_far set_up ended = record {
  so_far = so_far;
  ended = λ lane. none_next script journal lane (
      dite (ℕ_discrete lane 0)
      (λ (same : lane ≡ 0). ap (due_in script journal) same ∙ set_up)
      (λ (other : lane ≢ 0).
      due_none script journal lane (
      dite (dec_le lane (lanes script.lines))
      (λ le. ended lane (omega (arith, other)) le)
      (λ gt. past_ended script journal lane (omega (arith, gt))))));
}
