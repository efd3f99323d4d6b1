-- A change of one part of the state, and of what depends on it.
use Rattle.std.proofs.Common.{◌≡◌, ◌≢◌, ◌==◌, ◌<◌, ℕ, List, [], ◌∷◌, ◌++◌, map, slice_get, Some, true, refl, sym, ap, ◌∙◌, subst, position}
use Rattle.std.specs.List.{All, Contains, remove}
use Rattle.std.proofs.lemmas.Bool.{eqb-true}
use Rattle.std.proofs.lemmas.List.Elements.{All-contains_itself, All-map, All-push, All-weaker}
use Rattle.std.proofs.lemmas.List.Quantifiers.{position-Some}
use Rattle.cred_ids.specs.Limits.{SLOTS}
use Rattle.cred_record.specs.Credential.{Credential}
use Rattle.cred_record.specs.File.{File}
use Rattle.cred_event.specs.declared.event.Event.{Event}
use Rattle.cred_event.specs.declared.answer.Answer.{Answer}
use Rattle.cred_model.specs.Script.{Script}
use Rattle.cred_model.specs.State.{State, Task, Broadcast, OpenFile as Open, Hold, Prepared, ProcessFlag}
use Rattle.cred_model.specs.Slots.{refs, kept, free}
use Rattle.cred_model.proofs.Lists.{All-at, All-unmap, AllPairs-unmap, alone, at_place, others_differ}
use Rattle.cred_sound.specs.SlotUse.{IsClear, IsOrderly, SealsOf, slot_use}
use Rattle.cred_sound.proofs.Moves.{Apart}
use Rattle.cred_sound.proofs.References.{IsFree, own_refs}
use Rattle.cred_sound.proofs.Parts.{with_left, sealed_cred, Fits, Origin, Changes, TasksChange, FilesChange, HoldsChange, PreparedChange, InodesChange}
use Rattle.cred_sound.proofs.Parts.{SameCreds, Seals, SameTasks, Stays, SamePrepared, SameInodes}

-- ---- the references that are left

pub still_left : (s : State) (left : List ℕ) → All (Contains (refs (with_left s left))) left
still_left s left = (own_refs (with_left s left)).deferred

-- one more is given up
pub gives_up : (s : State) (n : ℕ) → Contains (refs s) n → All (Contains (refs s)) (s.deferred ++ n ∷ [])
gives_up s n has = All-push (Contains (refs s)) s.deferred n (still_left s s.deferred) has

-- ---- a slot that is taken

-- a free one
pub fits_free : (s : State) (event : Event) (left : List ℕ) (t : State) (slot : ℕ) → kept t ≡ kept s → IsFree (with_left s left) slot
    → Fits s event left t slot
fits_free s event left t slot same free = record {
  below = free.below;
  clear = free.clear;
  unkept = subst (All (λ k. k ≢ slot)) (sym same) free.unkept;
  own = All-weaker (λ (p : Prepared). p.slot ≢ slot) (λ p. p.slot ≡ slot → SealsOf event p.label) (λ p other is. absurd (other is)) s.prepared
      (All-unmap (λ k. k ≢ slot) (λ (p : Prepared). p.slot) s.prepared free.unkept);
}

-- that of the label whose credential is sealed
pub fits_own : (s : State) (event : Event) (t : State) (label place : ℕ) (p : Prepared) → kept t ≡ map (λ p. p.slot) (remove s.prepared place)
    → SealsOf event label → position (λ p. p.label == label) s.prepared ≡ Some place → slice_get s.prepared place ≡ Some p
    → IsOrderly (slot_use s) → Fits s event s.deferred t p.slot
fits_own s event t label place p rest seals at is order =
    let slot_of : Prepared → ℕ = λ p. p.slot in
    let apart = AllPairs-unmap Apart slot_of s.prepared order.own in
    let there = position-Some (λ (p : Prepared). p.label == label) s.prepared place p at in
    let test : (p.label == label) ≡ true = at_place (λ (p : Prepared). p.label == label) s.prepared place p is there.1 in
    let one = All-at (λ (x : Prepared). All (λ (y : Prepared). y.slot ≡ x.slot → y ≡ x) s.prepared) s.prepared place p is (alone slot_of s.prepared apart) in
    record {
      below = All-at (λ p. p.slot < SLOTS) s.prepared place p is (All-unmap (λ k. k < SLOTS) slot_of s.prepared order.kept);
      clear = All-at (λ p. IsClear (slot_use s).slots p.slot (refs s)) s.prepared place p is
          (All-unmap (λ k. IsClear (slot_use s).slots k (refs s)) slot_of s.prepared order.clear);
      unkept = subst (All (λ k. k ≢ p.slot)) (sym rest)
          (All-map (λ k. k ≢ p.slot) slot_of (remove s.prepared place) (others_differ slot_of s.prepared place p is apart));
      own = All-weaker (λ (q : Prepared). q.slot ≡ p.slot → q ≡ p) (λ q. q.slot ≡ p.slot → SealsOf event q.label)
          (λ q same kept. subst (SealsOf event) (sym (ap (λ (q : Prepared). q.label) (same kept) ∙ eqb-true p.label label test)) seals) s.prepared one;
    }

-- ---- a change of one part, and of what depends on it

-- the event is refused, only reads, or only sweeps
pub still : (script : Script) (s : State) (event : Event) (answer : Answer) (left : List ℕ) → All (Contains s.deferred) left
    → Changes script s event (answer, with_left s left)
still script s event answer left fewer = record {
  left = left;
  fewer = fewer;
  tasks = SameTasks refl refl refl;
  files = Stays refl;
  holds = Stays refl;
  prepared = SamePrepared refl;
  creds = SameCreds refl;
  inodes = SameInodes refl;
  deferred = still_left s left;
}

pub refused : (script : Script) (s : State) (event : Event) (answer : Answer) → Changes script s event (answer, s)
refused script s event answer = still script s event answer s.deferred (All-contains_itself s.deferred)

-- a task is created, or has another credential, which is sealed in a free slot
pub with_tasks : (script : Script) (s : State) (event : Event) (answer : Answer) (left : List ℕ) (tasks : List Task)
    (broadcasts : List Broadcast) (flags : List ProcessFlag) (c : Credential) (slot : ℕ) (deferred : List ℕ)
    → let t = record s { tasks = tasks; broadcasts = broadcasts; deferred = deferred; dumpable = flags; creds = s.creds ++ sealed_cred c slot ∷ [] } in
    All (Contains s.deferred) left → IsFree (with_left s left) slot → Origin s c → TasksChange script s event (answer, t)
    → All (Contains (refs (with_left s left))) deferred → Changes script s event (answer, t)
with_tasks script s event answer left tasks broadcasts flags c slot deferred fewer free origin change refer =
    let t : State = record s { tasks = tasks; broadcasts = broadcasts; deferred = deferred; dumpable = flags; creds = s.creds ++ sealed_cred c slot ∷ [] } in
    record {
      left = left;
      fewer = fewer;
      tasks = change;
      files = Stays refl;
      holds = Stays refl;
      prepared = SamePrepared refl;
      creds = Seals c slot refl (λ order. fits_free s event left t slot refl free) origin;
      inodes = SameInodes refl;
      deferred = refer;
    }

-- tasks are created or end, and nothing is sealed
pub only_tasks : (script : Script) (s : State) (event : Event) (answer : Answer) (left : List ℕ) (tasks : List Task) (broadcasts : List Broadcast)
    (flags : List ProcessFlag) (deferred : List ℕ)
    → let t = record s { tasks = tasks; broadcasts = broadcasts; deferred = deferred; dumpable = flags } in
    All (Contains s.deferred) left → TasksChange script s event (answer, t) → All (Contains (refs (with_left s left))) deferred
    → Changes script s event (answer, t)
only_tasks script s event answer left tasks broadcasts flags deferred fewer change refer = record {
  left = left;
  fewer = fewer;
  tasks = change;
  files = Stays refl;
  holds = Stays refl;
  prepared = SamePrepared refl;
  creds = SameCreds refl;
  inodes = SameInodes refl;
  deferred = refer;
}

-- a file is opened or closed, or a label takes hold or is released
pub with_lists : (script : Script) (s : State) (event : Event) (answer : Answer) (files : List Open) (holds : List Hold) (deferred : List ℕ)
    → let t = record s { files = files; holds = holds; deferred = deferred } in
    FilesChange s event s.deferred t → HoldsChange s event s.deferred t → All (Contains (refs s)) deferred
    → Changes script s event (answer, t)
with_lists script s event answer files holds deferred file hold refer = record {
  left = s.deferred;
  fewer = All-contains_itself s.deferred;
  tasks = SameTasks refl refl refl;
  files = file;
  holds = hold;
  prepared = SamePrepared refl;
  creds = SameCreds refl;
  inodes = SameInodes refl;
  deferred = refer;
}

pub with_prepared : (script : Script) (s : State) (event : Event) (answer : Answer) (left : List ℕ) (prepared : List Prepared)
    (deferred : List ℕ) → All (Contains s.deferred) left
    → PreparedChange script s event left (record s { prepared = prepared; deferred = deferred })
    → All (Contains (refs (with_left s left))) deferred
    → Changes script s event (answer, record s { prepared = prepared; deferred = deferred })
with_prepared script s event answer left prepared deferred fewer change refer = record {
  left = left;
  fewer = fewer;
  tasks = SameTasks refl refl refl;
  files = Stays refl;
  holds = Stays refl;
  prepared = change;
  creds = SameCreds refl;
  inodes = SameInodes refl;
  deferred = refer;
}

-- a file is changed
pub only_inodes : (script : Script) (s : State) (event : Event) (answer : Answer) (inodes : List File)
    → InodesChange s event (answer, record s { inodes = inodes }) → Changes script s event (answer, record s { inodes = inodes })
only_inodes script s event answer inodes change = record {
  left = s.deferred;
  fewer = All-contains_itself s.deferred;
  tasks = SameTasks refl refl refl;
  files = Stays refl;
  holds = Stays refl;
  prepared = SamePrepared refl;
  creds = SameCreds refl;
  inodes = change;
  deferred = still_left s s.deferred;
}
