-- Where a run in order begins and ends.
use Rattle.std.proofs.Common.{◌≡◌, ℕ, ◌≤◌, List, [], length, sym, subst, arith}
use Rattle.cred_event.specs.declared.entry.Entry.{Entry}
use Rattle.cred_model.specs.Script.{Script}
use Rattle.cred_model.specs.State.{State, opening}
use Rattle.cred_model.specs.Journal.{IsSequence}
use Rattle.cred_model.specs.Like.{IsLike}
use Rattle.cred_model.proofs.Likes.{like_self}
use Rattle.cred_commands.specs.Order.{BeginsSequence, IsAfter}
use Rattle.cred_commands.proofs.Order.{all_past, begins_sequence, nothing_past}

pub nothing_run : (script : Script) (state : State) → state ≡ opening script → IsAfter script [] 0 state
nothing_run script state is = record {
  order = λ k lt. absurd (omega (arith, lt));
  is = nothing_past script;
  like = subst (λ (s : State). IsLike s (opening script)) (sym is) (like_self (opening script));
}

-- it begins the sequence
pub goes_to_end : (script : Script) (journal : List Entry) (past : ℕ) (state : State) → IsAfter script journal past state → BeginsSequence script journal
goes_to_end script journal past state after = begins_sequence script journal past after.is after.order

-- where all lines have run it is the sequence
pub is_whole : (script : Script) (journal : List Entry) (past : ℕ) (state : State) → IsAfter script journal past state → length script.lines ≤ past
    → IsSequence script journal
is_whole script journal past state after all = record {
  in_order = after.order;
  ended = all_past script journal past after.is all;
}
