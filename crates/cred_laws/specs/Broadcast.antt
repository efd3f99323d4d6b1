-- A call of one thread that sets ids is every thread's (nptl(7), "NPTL and process credential
-- changes").
use Rattle.std.specs.Prelude.{◌≡◌, ℕ, ◌==◌, Bool, false, List, All, None, Some, IfSome, ⊤}
use Rattle.std.specs.Prelude.{if◌then◌else◌}
use Rattle.std.specs.declared.option.Option.{Option}
use Rattle.std.specs.Option.{option_map}
use Rattle.cred_ids.specs.declared.arg.Arg.{Arg}
use Rattle.cred_ids.specs.declared.arg.Arg.TheVariants.{Keep, Set}
use Rattle.cred_ids.specs.declared.id.Ids4.{Ids4}
use Rattle.cred_ids.specs.declared.id.Kind.{Kind}
use Rattle.cred_ids.specs.declared.id.Kind.TheVariants.{User, Group}
use Rattle.cred_ids.specs.Ordered.{in_order}
use Rattle.cred_caps.specs.Numbers.{SETGID, SETUID}
use Rattle.cred_record.specs.declared.id_call.IdCall.{IdCall}
use Rattle.cred_record.specs.declared.id_call.IdCall.TheVariants.{SetUid, SetEuid, SetReuid}
use Rattle.cred_record.specs.declared.id_call.IdCall.TheVariants.{SetResuid, SetGid, SetEgid}
use Rattle.cred_record.specs.declared.id_call.IdCall.TheVariants.{SetRegid, SetResgid, SetGroups}
use Rattle.cred_record.specs.Credential.{Credential, capable}
use Rattle.cred_rules.specs.SetId.{three}
use Rattle.cred_event.specs.declared.answer.Answer.{Answer}
use Rattle.cred_event.specs.declared.answer.Answer.TheVariants.{Began, Acted}
use Rattle.cred_event.specs.declared.event.Event.{Event}
use Rattle.cred_event.specs.declared.event.Event.TheVariants.{Begin, Act, Exit}
use Rattle.cred_model.specs.Script.{Script}
use Rattle.cred_model.specs.State.{State, SealedCred, Task, Numbered, numbered, task_of}
use Rattle.cred_model.specs.State.{broadcast_of}
use Rattle.cred_model.specs.State.{broadcast_in}
use Rattle.cred_model.specs.Broadcasts.{waits_in}
use Rattle.cred_model.specs.Step.{step}
use Rattle.cred_sound.specs.Sound.{IsSound}
use Rattle.cred_laws.specs.Made.{AreMade}

-- ---- what a call names

-- the argument names this id; -1 names none
abbrev pub Names : Arg → ℕ → Type 0
Names Keep id = ⊤
Names (Set n) id = id ≡ n

-- the arguments name the real, the effective and the saved id
abbrev pub NamesIds : Arg → Arg → Arg → Ids4 → Type 0
NamesIds real effective saved ids =
    Names real ids.real × Names effective ids.effective × Names saved ids.saved

-- The credential has what the call names. setuid(2) and setgid(2) name the effective id alone, as
-- seteuid(2) and setegid(2) do; of the others each argument names its own id, and setgroups(2)
-- names its list, in order.
abbrev pub HasNamed : IdCall → Credential → Type 0
HasNamed (SetUid id) c = NamesIds Keep id Keep c.uid
HasNamed (SetEuid effective) c = NamesIds Keep effective Keep c.uid
HasNamed (SetReuid real effective) c = NamesIds real effective Keep c.uid
HasNamed (SetResuid real effective saved) c = NamesIds real effective saved c.uid
HasNamed (SetGid id) c = NamesIds Keep id Keep c.gid
HasNamed (SetEgid effective) c = NamesIds Keep effective Keep c.gid
HasNamed (SetRegid real effective) c = NamesIds real effective Keep c.gid
HasNamed (SetResgid real effective saved) c = NamesIds real effective saved c.gid
HasNamed (SetGroups list) c = c.groups ≡ in_order list

-- ---- the threads of a process

-- the current credential of the task is there, and P holds of it
abbrev pub CurrentHas : (Credential → Type 0) → List SealedCred → Task → Type 0
CurrentHas P creds t = (c : Numbered) × (numbered creds t.current ≡ Some c) × P c.cred

-- the same of each live thread of the process
abbrev pub AllHave : (Credential → Type 0) → State → ℕ → Type 0
AllHave P s process = All (λ t. t.process ≡ process → CurrentHas P s.creds t) s.tasks

-- ---- the end of a broadcast

-- The event completes the call that a thread of the process began: nobody waits for it any more.
-- That is so at once where the caller is the only thread; where the last thread that waited makes
-- its step; or where it ends.
abbrev pub Completes : State → Event → Answer → State → ℕ → IdCall → Type 0
Completes before (Begin task made) (Began cred slot left) after process call =
    (left ≡ 0)
    × (made ≡ call)
    × (option_map (λ t. t.process) (task_of before task) ≡ Some process)
Completes before (Act number) (Acted task cred slot left) after process call =
    (left ≡ 0)
    × (option_map (λ b. b.process) (broadcast_of before number) ≡ Some process)
    × (option_map (λ b. b.call) (broadcast_of before number) ≡ Some call)
Completes before (Exit task) answer after process call =
    (option_map (λ b. b.call) (broadcast_in before process) ≡ Some call)
    × (broadcast_in after process ≡ None)
Completes before event answer after process call = ⊥

-- In each open broadcast the threads of the process that don't wait have what its call names.
abbrev pub AreFollowed : State → Type 0
AreFollowed s =
    (process : ℕ)
    → IfSome (broadcast_in s process) (λ broadcast.
    All (λ t.
    t.process ≡ process → waits_in t.number broadcast ≡ false
    → CurrentHas (HasNamed broadcast.call) s.creds t)
    s.tasks)

-- Each event keeps it so,
abbrev pub BroadcastsAreFollowed : Type 0
BroadcastsAreFollowed =
    (script : Script) (s : State) (line : ℕ) (event : Event)
    → IsSound s → AreMade script s → AreFollowed s → AreFollowed (step script s line event).1

-- and where an event completes the call, each live thread of the process has what it names.
abbrev pub CallsAreEveryThreads : Type 0
CallsAreEveryThreads =
    (script : Script) (s : State) (line : ℕ) (event : Event) (process : ℕ) (call : IdCall)
    → IsSound s → AreMade script s → AreFollowed s
    → let made = step script s line event in
    Completes s event made.0 made.1 process call → AllHave (HasNamed call) made.1 process

-- ---- threads that are alike

-- the kind of ids that a call sets; CAP_SETGID is asked for by setgroups(2) too
abbrev pub call_kind : IdCall → Kind
call_kind (SetUid id) = User
call_kind (SetEuid effective) = User
call_kind (SetReuid real effective) = User
call_kind (SetResuid real effective saved) = User
call_kind call = Group

-- the real, the effective and the saved id of a kind
abbrev pub three_ids : Kind → Credential → List ℕ
three_ids User c = three c.uid
three_ids Group c = three c.gid

-- the credential has the capability of the kind
abbrev pub is_able : Kind → Credential → Bool
is_able User c = capable c SETUID
is_able Group c = capable c SETGID

-- The credential has these three ids of the kind, and has or lacks the capability.
pub record IsAlike (kind : Kind) (ids : List ℕ) (able : Bool) (c : Credential) : Type 0 where
  pub same : three_ids kind c ≡ ids
  pub both : is_able kind c ≡ able

-- the thread whose own step in the broadcast of this number an event of a line is: its caller's
-- begin, or an act
abbrev pub stepping : ℕ → ℕ → Event → Answer → Option ℕ
stepping number line (Begin task call) (Began cred slot left) =
    if line == number then Some task else None
stepping number line (Act broadcast) (Acted task cred slot left) =
    if broadcast == number then Some task else None
stepping number line event answer = None
