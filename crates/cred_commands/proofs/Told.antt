-- A run in order whose entries are summed up as they come.
use Rattle.std.proofs.Common.{◌≡◌, ℕ, ◌+◌, ◌≤◌, List, [], ◌++◌, length, sym, ap, ◌∙◌, subst, arith}
use Rattle.std.proofs.lemmas.List.{length-append}
use Rattle.cred_ids.specs.Limits.{LINE_LIMIT}
use Rattle.cred_event.specs.declared.entry.Entry.{Entry}
use Rattle.cred_model.specs.Script.{Script}
use Rattle.cred_model.specs.State.{State, opening}
use Rattle.cred_laws.proofs.AnsweredLaws.{in_order_is_answered}
use Rattle.cred_generate.specs.Summary.{HasRoom, nothing_told, told_on}
use Rattle.cred_generate.specs.declared.summing.Summary.{Summary}
use Rattle.cred_generate.proofs.Told.{room_for, told_on-append, told_whole}
use Rattle.cred_commands.specs.Order.{HasRun, IsAfter, RunsOn, most_left}
use Rattle.cred_commands.proofs.Ends.{is_whole, nothing_run}
use Rattle.cred_commands.specs.Summing.{TellsSequence}

-- So many lines have run, and all their entries were summed up; there are no more than there may be.
pub record Told (script : Script) (past : ℕ) (state : State) (told : Summary) : Type 0 where
  pub done : List Entry
  pub after : IsAfter script done past state
  pub is : told ≡ told_on (nothing_told script) done
  pub few : length done + most_left script past state ≤ most_left script 0 (opening script)

pub told_has_run : (script : Script) (past : ℕ) (state : State) (told : Summary) → Told script past state told → HasRun script past state
told_has_run script past state told is = (is.done, is.after)

pub told_first : (script : Script) (state : State) (told : Summary) → state ≡ opening script → told ≡ nothing_told script → Told script 0 state told
told_first script state told opens nothing = record {
  done = [];
  after = nothing_run script state opens;
  is = nothing;
  few = subst (λ s. length {A = Entry} [] + most_left script 0 s ≤ most_left script 0 (opening script)) (sym opens) (omega arith);
}

-- where the list was empty before the line
pub told_room : (script : Script) (past : ℕ) (state after : State) (told : Summary) (has : List Entry) → length script.lines ≤ LINE_LIMIT
    → Told script past state told → RunsOn script past state after [] has → HasRoom told (length has)
told_room script past state after told has lines is runs =
    let before = is.few in
    let made = runs.few in
    let same : length has ≡ length runs.made = ap (length {A = Entry}) runs.has_is in
    subst (λ t. HasRoom t (length has)) (sym is.is) (room_for script is.done (length has) (omega (arith, before, made, same, lines)))

pub told_more : (script : Script) (past : ℕ) (state after : State) (told : Summary) (has : List Entry)
    → Told script past state told → RunsOn script past state after [] has → Told script (past + 1) after (told_on told has)
told_more script past state after told has is runs =
    let before = is.few in
    let made = runs.few in
    let all = length-append is.done runs.made in
    record {
      done = is.done ++ runs.made;
      after = runs.leads is.done is.after;
      is = ap (told_on told) runs.has_is ∙ ap (λ t. told_on t runs.made) is.is ∙ told_on-append (nothing_told script) is.done runs.made;
      few = omega (arith, before, made, all);
    }

-- where all lines have run it is the summary of the sequence
pub told_all : (script : Script) (past : ℕ) (state : State) (told : Summary) → Told script past state told → length script.lines ≤ past
    → TellsSequence script told
told_all script past state told is all =
    let sequence = is_whole script is.done past state is.after all in
    (is.done, sequence, is.is ∙ told_whole script is.done (in_order_is_answered script is.done is.after.order))
