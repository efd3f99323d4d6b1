-- What the open broadcasts refuse, and what stays the same where only they change, or the flags of
-- the processes.
use Rattle.std.proofs.Common.{◌≡◌, ℕ, true, is_some, List, Option, None, Some, Result, Ok, Err, refl, sym, ap, ◌∙◌}
use Rattle.std.specs.Option.{MatchOption, option_map}
use Rattle.cred_record.specs.Credential.{Credential}
use Rattle.cred_event.specs.declared.answer.Answer.{Answer}
use Rattle.cred_event.specs.declared.answer.Answer.TheVariants.{Busy}
use Rattle.cred_model.specs.State.{State, Broadcast, ProcessFlag}
use Rattle.cred_model.specs.Broadcasts.{not_busy}
use Rattle.cred_model.specs.Like.{IsLike}
use Rattle.cred_slots.specs.Table.{Table}
use Rattle.cred_tables.specs.Kept.{StateLists, IsKept}

-- the number of the broadcast that was found, if one was
pub busy_by : (found : Option Broadcast) (number : Option ℕ) → number ≡ option_map (λ b. b.number) found
    → MatchOption number (not_busy found ≡ Ok tt) (λ n. not_busy found ≡ Err (Busy n))
busy_by None None is = refl
busy_by None (Some n) is = cc
busy_by (Some b) None is = cc
busy_by (Some b) (Some n) is =
    let refused : ℕ → Result (Unit {0}) Answer = λ k. Err (Busy k) in
    let same : b.number ≡ n = cc in
    ap refused same

-- Broadcasts refer to nothing.
pub kept_broadcasts : {parts : StateLists} {store : List (Option Credential)} {t : Table} → IsKept parts store t → (broadcasts : List Broadcast)
    → IsKept (record parts { broadcasts = broadcasts }) store t
kept_broadcasts is broadcasts = record { counted = is.counted; filled = is.filled }

-- States that are alike stay so where both have these broadcasts.
pub like_broadcasts : {a b : State} → IsLike a b → (broadcasts : List Broadcast)
    → IsLike (record a { broadcasts = broadcasts }) (record b { broadcasts = broadcasts })
like_broadcasts like broadcasts = record {
  tasks = like.tasks;
  broadcasts = refl;
  files = like.files;
  holds = like.holds;
  prepared = like.prepared;
  deferred = like.deferred;
  dumpable = like.dumpable;
  inodes = like.inodes;
  slots = like.slots;
  creds = like.creds;
}

-- Nor do the flags of the processes.
pub kept_beside : {parts : StateLists} {store : List (Option Credential)} {t : Table}
    → IsKept parts store t → (broadcasts : List Broadcast) (flags : List ProcessFlag)
    → IsKept (record parts { broadcasts = broadcasts; dumpable = flags }) store t
kept_beside is broadcasts flags = record { counted = is.counted; filled = is.filled }

pub like_beside : {a b : State} → IsLike a b → (broadcasts : List Broadcast) (flags : List ProcessFlag)
    → IsLike (record a { broadcasts = broadcasts; dumpable = flags })
    (record b { broadcasts = broadcasts; dumpable = flags })
like_beside like broadcasts flags = record {
  tasks = like.tasks;
  broadcasts = refl;
  files = like.files;
  holds = like.holds;
  prepared = like.prepared;
  deferred = like.deferred;
  dumpable = refl;
  inodes = like.inodes;
  slots = like.slots;
  creds = like.creds;
}

-- where none was found by a number that it has, there is none
pub none_open : {X : Type 0} (f : Broadcast → X) (found : Option Broadcast) → None ≡ option_map f found → found ≡ None
none_open f None none = refl
none_open f (Some b) none = cc

-- and where one was found, there is one
pub some_open : {X : Type 0} (f : Broadcast → X) (found : Option Broadcast) {seen : Option X} → seen ≡ option_map f found → is_some seen ≡ true
    → is_some found ≡ true
some_open f None is there = sym (ap is_some is) ∙ there
some_open f (Some b) is there = refl
