-- What holds in every state that a run comes to.
use Rattle.std.specs.Prelude.{◌≡◌, ◌≢◌, List, All, None}
use Rattle.std.specs.List.{AllPairs}
use Rattle.cred_event.specs.declared.entry.Entry.{Entry}
use Rattle.cred_model.specs.Script.{Script}
use Rattle.cred_model.specs.State.{State, hold_of}
use Rattle.cred_model.specs.Journal.{replay}
use Rattle.cred_sound.specs.SlotUse.{slot_use, IsOrderly}
use Rattle.cred_sound.specs.Broadcasts.{IsUnderWay}
use Rattle.cred_sound.specs.Flags.{AreFlagged}

-- No two tasks share a number, no two open files a descriptor, no two holds a label, and no two
-- prepared ones a label; nor is a prepared label a hold's. A process has one open broadcast at
-- most, no two broadcasts share a number, and each is under way. Each process that has threads has
-- one flag, and no other has any. The references and the slots are in order.
pub record IsSound (s : State) : Type 0 where
  pub tasks : AllPairs (λ a b. a.number ≢ b.number) s.tasks
  pub broadcasts : AllPairs (λ a b. a.number ≢ b.number) s.broadcasts
  pub processes : AllPairs (λ a b. a.process ≢ b.process) s.broadcasts
  pub under_way : All (IsUnderWay s.tasks) s.broadcasts
  pub flags : AreFlagged s.tasks s.dumpable
  pub files : AllPairs (λ a b. a.fd ≢ b.fd) s.files
  pub holds : AllPairs (λ a b. a.label ≢ b.label) s.holds
  pub prepared : AllPairs (λ a b. a.label ≢ b.label) s.prepared
  pub labels : All (λ p. hold_of s p.label ≡ None) s.prepared
  pub slots : IsOrderly (slot_use s)

-- this holds after every journal
abbrev pub StatesAreSound : Type 0
StatesAreSound = (script : Script) (journal : List Entry) → IsSound (replay script journal)
