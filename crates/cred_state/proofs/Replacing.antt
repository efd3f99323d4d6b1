-- A task's current credential is replaced in the slot that is taken next.
use Rattle.std.proofs.Common.{◌≡◌, ◌≢◌, ◌<◌, ◌==◌, ℕ, is_some, List, Some, count_by, max, slice_get, refl, sym, ap, subst, arith}
use Rattle.std.specs.Option.{IsSome}
use Rattle.cred_model.specs.State.{State, Task, numbered, current_of, task_of}
use Rattle.cred_model.proofs.Numbers.{current_is}
use Rattle.cred_hold.specs.Tokens.{Mastered, IsAlone, IsSealed}
use Rattle.cred_procs.specs.Tasks.{task_in}
use Rattle.cred_slots.specs.Table.{Table, free_in}
use Rattle.cred_tables.specs.Kept.{StateLists, cred_under, creds_in, seen_in, state_of, IsInUse, IsKept, Seals}
use Rattle.cred_tables.specs.Out.{AreOut}
use Rattle.cred_tables.specs.declared.table.NumberedSlot.{NumberedSlot}
use Rattle.cred_tables.proofs.Bags.{bag-keeps}
use Rattle.cred_tables.proofs.TokensOfLabels.{free_alone}
use Rattle.cred_tables.proofs.Sealing.{current-held, drops, Drops}
use Rattle.cred_state.specs.Replacements.{IsReplaced, MayReplace}
use Rattle.cred_state.proofs.Reading.{found-place, found-sealed, found-slot, is_found, stands_apart}
use Rattle.cred_state.proofs.Reserved.{kept_spare}
use Rattle.cred_state.proofs.Standing.{current-in_use}

module _ {tasks : List Task} {slots : Table} {master : Mastered} {task slot : ℕ} {now : NumberedSlot} (may : MayReplace tasks slots master task slot now) where
  abbrev s : State
  s = state_of (record may.beside { tasks = tasks }) master.slots slots

  -- the number is that of its credential
  pub there : numbered s.creds now.number ≡ Some (seen_in s.creds now)
  there = is_found s.creds (λ (t : Task). t.current) (task_of s task) _ may.has

  used : IsInUse s now.number
  used = current-in_use s task _ may.has

  -- the task is alive
  pub lives : IsSome (task_in tasks task)
  lives = ap is_some (current_is s task _ may.has).is

  -- its credential stands in the words of its slot
  pub sealed : IsSealed master.slots now.slot
  sealed = found-sealed may.kept now there used

  pub stands : slice_get master.slots now.slot ≡ Some (Some (cred_under s.creds now.number))
  stands = found-place may.kept now there used

  -- and nothing is lent on the slot that is taken
  pub alone : IsAlone master.loans slot
  alone = free_alone may.kept slot may.free master.loans may.out

  module _ {between : Table} {number : ℕ} (seals : Seals slots between number slot) where
    -- what it had is still referred to, and stands in another slot
    pub held : 0 < count_by (λ m. m == now.number) between.held
    held = bag-keeps now.number seals.held (current-held may.kept task _ may.has)

    pub apart : now.slot ≢ slot
    apart = stands_apart seals now.number now.slot (found-slot may.kept now there used) held

-- once room is reserved
pub may_replace : {parts : StateLists} {master : Mastered} {t r : Table} {slot : ℕ} → IsKept parts master.slots t → (task : ℕ) (now : NumberedSlot)
    → current_of (state_of parts master.slots t) task ≡ Some (seen_in (creds_in master.slots t.sealed) now)
    → AreOut (state_of parts master.slots t) master.loans → r ≡ record t { spare = max t.spare 1 } → Some slot ≡ free_in r
    → MayReplace parts.tasks r master task slot now
may_replace {parts = parts} {master = master} {t = t} {slot = slot} is task now has out made free =
    subst (λ (x : Table). MayReplace parts.tasks x master task slot now) (sym made)
    (record {
      beside = parts;
      kept = kept_spare is refl;
      has = has;
      out = out;
      free = subst (λ (x : Table). free_in x ≡ Some slot) made (sym free);
      spare = omega arith;
    })

-- a reference to what it had is given up
pub late : {before after : Table} {number slot old : ℕ} (by : IsReplaced before after number slot old) → Drops by.between after old
late by = drops by.held by.made
