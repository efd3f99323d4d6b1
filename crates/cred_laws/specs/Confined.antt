-- What a task, and what comes of it, can't get: nothing leads out of a tight box
-- (capabilities(7), credentials(7)).
use Rattle.std.specs.Prelude.{◌≡◌, ℕ, zero, suc, ◌+◌, ◌<◌, ◌⊎◌, true, List, Some, None}
use Rattle.std.specs.Prelude.{false, slice_get, is_some, IfSome}
use Rattle.cred_caps.specs.Caps.{has, IsWithin}
use Rattle.cred_caps.specs.Numbers.{SETUID}
use Rattle.cred_record.specs.Credential.{Credential}
use Rattle.cred_record.specs.File.{File}
use Rattle.cred_rules.specs.SetFs.{own_ids}
use Rattle.cred_rules.specs.SetId.{three}
use Rattle.cred_event.specs.Answers.{is_ok}
use Rattle.cred_event.specs.declared.entry.Entry.{Entry}
use Rattle.cred_event.specs.declared.event.Change.{Change}
use Rattle.cred_event.specs.declared.event.Change.TheVariants.{Exec}
use Rattle.cred_event.specs.declared.event.Event.{Event}
use Rattle.cred_event.specs.declared.event.Event.TheVariants.{Commit, Spawn, Fork}
use Rattle.cred_model.specs.Script.{Script, chain_of}
use Rattle.cred_model.specs.State.{State, Prepared, Changed, Numbered, task_of, current_of}
use Rattle.cred_model.specs.State.{prepared_of}
use Rattle.cred_model.specs.Step.{step}
use Rattle.cred_sound.specs.Sound.{IsSound}
use Rattle.cred_box.specs.Boxes.{Box, IsIn, IsTight, LeavesIn, is_in}
use Rattle.cred_laws.specs.Made.{AreMadeFrom}
use Rattle.cred_laws.specs.Valid.{AreValid}
use Rattle.cred_laws.specs.States.{state_at}
use Rattle.cred_laws.specs.Files.{IsFileOf}

-- ---- one event

-- Such a change executes no file that doesn't leave in the box.
abbrev pub ExecutesWithin : Box → List ℕ → Change → File → Type 0
ExecutesWithin box chain change file =
    (place : ℕ) → change ≡ Exec place → LeavesIn box chain file

-- A task that lives before and after an event, and was in a tight box, is still in it, where each
-- file that a prepared label was changed with leaves in the box.
abbrev pub EventsLeaveIn : Type 0
EventsLeaveIn =
    (script : Script) (s : State) (line : ℕ) (event : Event) (task : ℕ) (before after : Numbered)
    (box : Box)
    → IsSound s → AreValid s
    → AreMadeFrom (λ label change file. IfSome file
    (ExecutesWithin box (chain_of script box.ns) change)) script s
    → IsTight box → IsIn box before.cred
    → current_of s task ≡ Some before → current_of (step script s line event).1 task ≡ Some after
    → IsIn box after.cred

-- ---- a journal

-- the task has a current credential, as every task that is alive has
abbrev pub Lives : State → ℕ → Type 0
Lives s task = is_some (current_of s task) ≡ true

-- the event creates a thread or a process of this task (clone(2), fork(2))
abbrev pub Creates : Event → (parent child : ℕ) → Type 0
Creates (Spawn task other) parent child = (task ≡ parent) × (other ≡ child)
Creates (Fork task other process) parent child = (task ≡ parent) × (other ≡ child)
Creates event parent child = ⊥

-- After `more` entries from entry `first` on, the task is this one or was created by one that is:
-- it was so before the last of them and has lived since, or it was created by that entry. A task
-- whose number is given again is another one.
abbrev pub Descends : Script → List Entry → (first from more task : ℕ) → Type 0
Descends script journal first from zero task = task ≡ from
Descends script journal first from (suc more) task =
    (Descends script journal first from more task
    × Lives (state_at script journal (more + first)) task)
    ⊎ ((parent : ℕ) × Descends script journal first from more parent
    × (task_of (state_at script journal (more + first)) task ≡ None)
    × IfSome (slice_get journal (more + first)) (λ entry. Creates entry.event parent task))

-- Entry `at` completes an execve of the task, of this file as it stood at the label's last change.
pub record Executes (script : Script) (journal : List Entry) (at task : ℕ) (file : File)
    : Type 0 where
  pub prepared : Prepared
  pub last : Changed
  pub place : ℕ
  pub stood : prepared_of (state_at script journal at) prepared.label ≡ Some prepared
  pub own : prepared.task ≡ task
  pub changed : prepared.changed ≡ Some last
  pub executes : last.change ≡ Exec place
  pub commits : IfSome (slice_get journal at)
      (λ entry. (entry.event ≡ Commit prepared.label) × (is_ok entry.answer ≡ true))
  pub file_is : IsFileOf script journal at prepared.label (Exec place) (Some file)

-- the task has nothing that the box hasn't, if it is alive
abbrev pub Keeps : Box → State → ℕ → Type 0
Keeps box s task = IfSome (current_of s task) (λ c. IsIn box c.cred)

-- A task that is in a tight box at some entry stays in it, and so does each that descends from it
-- from there on, as long as each file that they execute leaves in it.
abbrev pub StaysInBoxes : Script → List Entry → Type 0
StaysInBoxes script journal =
    (box : Box) (first from more task : ℕ)
    → IsTight box → Keeps box (state_at script journal first) from
    → ((at other : ℕ) (file : File) → at < more → Descends script journal first from at other
    → Executes script journal (at + first) other file → LeavesIn box (chain_of script box.ns) file)
    → Descends script journal first from more task
    → Keeps box (state_at script journal (more + first)) task

-- ---- its smallest case

-- The second has no user id that the first hasn't, and is permitted nothing that it isn't.
pub record IsNoMoreThan (c d : Credential) : Type 0 where
  pub real : is_in (three c.uid) d.uid.real ≡ true
  pub effective : is_in (three c.uid) d.uid.effective ≡ true
  pub saved : is_in (three c.uid) d.uid.saved ≡ true
  pub fs : is_in (own_ids c.uid) d.uid.fs ≡ true
  pub permitted : IsWithin d.perm c.perm

-- Where a task has no_new_privs, and CAP_SETUID isn't permitted to it, neither it nor what descends
-- from it ever gets a user id or a permitted capability that it hasn't, whatever it calls and
-- whatever becomes of any file (prctl(2), PR_SET_NO_NEW_PRIVS).
abbrev pub NeverGains : Script → List Entry → Type 0
NeverGains script journal =
    (first from more task : ℕ) (c : Numbered)
    → current_of (state_at script journal first) from ≡ Some c
    → c.cred.nnp ≡ true → has c.cred.perm SETUID ≡ false
    → Descends script journal first from more task
    → IfSome (current_of (state_at script journal (more + first)) task) (λ d.
    IsNoMoreThan c.cred d.cred)
