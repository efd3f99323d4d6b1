-- A call of one thread that sets ids is every thread's.
use Rattle.std.proofs.Common.{◌≡◌, ◌==◌, ◌⊎◌, inl, inr, ℕ, List, [], ◌∷◌, length, fold, Option, Some, None, true, false, cond, refl, sym, ap, ◌∙◌, subst, arith}
use Rattle.std.specs.List.{find}
use Rattle.std.specs.Option.{IfSome, option_map}
use Rattle.std.proofs.lemmas.Bool.Decides.{nat_tests}
use Rattle.std.proofs.lemmas.Bool.{eqb-false, eqb-true}
use Rattle.cred_record.specs.Credential.{Credential}
use Rattle.cred_record.specs.declared.id_call.IdCall.{IdCall}
use Rattle.cred_event.specs.declared.answer.Answer.{Answer}
use Rattle.cred_event.specs.declared.answer.Answer.TheVariants.{Began, Acted}
use Rattle.cred_event.specs.declared.entry.Entry.{Entry}
use Rattle.cred_event.specs.declared.event.Change.{Change}
use Rattle.cred_event.specs.declared.event.Change.TheVariants.{Exec}
use Rattle.cred_event.specs.declared.event.Event.{Event}
use Rattle.cred_event.specs.declared.event.Event.TheVariants.{Begin, Act, Exit}
use Rattle.cred_model.specs.Script.{Script}
use Rattle.cred_model.specs.State.{State, Task, Broadcast, broadcast_of, broadcast_in, opening}
use Rattle.cred_model.specs.Broadcasts.{is_open, others_of}
use Rattle.cred_model.specs.Ends.{survivors}
use Rattle.cred_model.specs.Journal.{replay}
use Rattle.cred_model.specs.Moves.{with_current}
use Rattle.cred_model.specs.Step.{step}
use Rattle.cred_model.proofs.Lists.{found}
use Rattle.cred_model.proofs.Referred.{all_survive}
use Rattle.cred_sound.specs.Sound.{IsSound}
use Rattle.cred_sound.proofs.Parts.{begun, TasksChange, ByBegin, ByAct, ByRaw, ByCommit, BySpawn, ByFork, ByExit, ByAbort, SameTasks, SetsFlag, Creates, Shares}
use Rattle.cred_sound.proofs.Parts.{Renews, Overrides, Fewer, broadcasts_left}
use Rattle.cred_sound.proofs.Events.{changes}
use Rattle.cred_sound.proofs.Sound.{step_sound, opening_sound}
use Rattle.cred_sound.proofs.Threads.{finds_itself}
use Rattle.cred_laws.specs.Broadcast.{HasNamed, AllHave, Completes, AreFollowed, BroadcastsAreFollowed, CallsAreEveryThreads}
use Rattle.cred_laws.specs.Made.{AreMade}
use Rattle.cred_laws.proofs.HeldLaws.{step_extends}
use Rattle.cred_laws.proofs.MadeLaws.{step_made}
use Rattle.cred_laws.proofs.NamedLaws.{named, named_same}
use Rattle.cred_laws.proofs.FollowLaws.{Followed, waits, found_in, shown, left_none, joined_none, dropped_still, begun_none}
use Rattle.cred_laws.proofs.FollowSteps.{Kept, OwnStep, Waits, Dropped, goes}
use Rattle.cred_laws.proofs.BegunLaws.{Begun, began, begun_followed, begun_shown, acted_closes}

-- ---- where no broadcast was open

-- one begins in the process
abbrev BeginsIn : State → State → ℕ → Type 0
BeginsIn s t process = (task : ℕ) × (call : IdCall) × (b : Begun s task call t) × (b.owner.process ≡ process)

no_change : (process : ℕ) (broadcasts now : List Broadcast) → now ≡ broadcasts → found_in process broadcasts ≡ None → found_in process now ≡ None
no_change process broadcasts now same none = ap (found_in process) same ∙ none

committed_none : (process : ℕ) (change : Change) (owner : Task) (broadcasts : List Broadcast) → found_in process broadcasts ≡ None
    → found_in process (broadcasts_left change owner broadcasts) ≡ None
committed_none process (Exec file) owner broadcasts none = dropped_still process owner.process broadcasts none
committed_none process change owner broadcasts none = none

none_by : {script : Script} → (s : State) (event : Event) (made : Answer × State) (process : ℕ) → broadcast_in s process ≡ None
    → TasksChange script s event made
    → (found_in process made.1.broadcasts ≡ None) ⊎ BeginsIn s made.1 process
none_by s event made process none (SameTasks same broadcasts flags) = inl (no_change process s.broadcasts made.1.broadcasts broadcasts none)
none_by s event made process none (SetsFlag task value owner flag is found known same broadcasts flags) =
    inl (no_change process s.broadcasts made.1.broadcasts broadcasts none)
none_by s event made process none (Creates task of user group ns slot is tasks creds new idle broadcasts flags) =
    inl (no_change process s.broadcasts made.1.broadcasts broadcasts none)
none_by s event made process none (Shares task child of parent tasks creds current new (BySpawn owner is lives own broadcasts flags)) =
    inl (ap (found_in process) broadcasts ∙ joined_none task child process s.broadcasts none)
none_by s event made process none (Shares task child of parent tasks creds current new (ByFork by is known unused broadcasts flags)) =
    inl (no_change process s.broadcasts made.1.broadcasts broadcasts none)
none_by s event made process none
    (Renews task slot owner c ends tasks creds lives (ByBegin call before number at is has ruled unused idle none_end broadcasts answered flags)) =
    let n = length s.creds in
    elim (owner.process == process) as (λ b. (owner.process == process) ≡ b → (found_in process made.1.broadcasts ≡ None) ⊎ BeginsIn s made.1 process) [
      | true ↦ λ test. inr (
        task,
        call,
        record {
          owner = owner;
          old = before;
          new = c;
          number = number;
          slot = slot;
          lives = lives;
          has = has;
          ruled = ruled;
          idle = idle;
          tasks = tasks ∙ ap (λ ends. with_current (survivors ends s.tasks) task n) none_end
              ∙ ap (λ ts. with_current ts task n) (all_survive s.tasks);
          creds = creds;
          broadcasts = broadcasts;
        },
        eqb-true owner.process process test,
      )
      | false ↦ λ test.
          inl (ap (found_in process) broadcasts
          ∙ begun_none process s.broadcasts (begun number owner call s.tasks) (eqb-false owner.process process test) none)
    ] refl
none_by s event made process none
    (Renews task slot owner c ends tasks creds lives (ByAct number at broadcast before is opened first has ruled none_end broadcasts answered flags)) =
    inl (ap (found_in process) broadcasts ∙ left_none task process s.broadcasts none)
none_by s event made process none
    (Renews task slot owner c ends tasks creds lives (ByRaw call before at is has ruled idle none_end broadcasts answered flags)) =
    inl (no_change process s.broadcasts made.1.broadcasts broadcasts none)
none_by s event made process none
    (Renews task slot owner c ends tasks creds lives
    (ByCommit label place at count p last is first there own changed same cred ending broadcasts answered flags)) =
    inl (ap (found_in process) broadcasts ∙ committed_none process last.change owner s.broadcasts none)
none_by s event made process none (Overrides task numbers tasks refer broadcasts flags) = inl (no_change process s.broadcasts made.1.broadcasts broadcasts none)
none_by s event made process none (Fewer ends tasks creds (ByExit task gone is known ending idle broadcasts flags)) =
    inl (ap (found_in process) broadcasts ∙ left_none task process s.broadcasts none)
none_by s event made process none (Fewer ends tasks creds (ByAbort number task cause broadcast is ending broadcasts answered flags)) =
    inl (ap (found_in process) broadcasts ∙ dropped_still process broadcast.process s.broadcasts none)

-- ---- each broadcast is followed

-- what the broadcast that is found, if any, leaves
abbrev FollowedIn : State → ℕ → Option Broadcast → Type 0
FollowedIn t process found =
    IfSome found (λ broadcast. Followed (HasNamed broadcast.call) t.creds t.tasks process broadcast.waiting)

shown_followed : (t : State) (process : ℕ) (broadcast : Broadcast) (found : Option Broadcast) → found ≡ shown broadcast
    → Followed (HasNamed broadcast.call) t.creds t.tasks process broadcast.waiting → FollowedIn t process found
shown_followed t process broadcast found is each =
    subst (FollowedIn t process) (sym is)
    (elim (is_open broadcast) as (λ b. FollowedIn t process (cond b (Some broadcast) None)) [ true ↦ each | false ↦ tt ])

named_by : (script : Script) (s : State) (line : ℕ) (event : Event) (process : ℕ) → IsSound s → AreMade script s → (o : Option Broadcast)
    → broadcast_in s process ≡ o → FollowedIn s process o
    → FollowedIn (step script s line event).1 process (broadcast_in (step script s line event).1 process)
named_by script s line event process sound are None is before =
    let t = (step script s line event).1 in
    elim (none_by s event (step script s line event) process is (changes script s line event).tasks) [
      | inl none ↦ subst (FollowedIn t process) (sym none) tt
      | inr begins ↦
          let b = begins.2 in
          subst (λ p. FollowedIn t p (broadcast_in t p)) begins.3
          (shown_followed t b.owner.process (begun b.number b.owner begins.1 s.tasks) (broadcast_in t b.owner.process) (begun_shown s t begins.0 begins.1 b)
          (begun_followed (HasNamed begins.1) s t begins.0 begins.1 b (named b.old.cred b.new begins.1 b.ruled)))
    ]
named_by script s line event process sound are (Some broadcast) is before =
    let made = step script s line event in
    elim (goes (HasNamed broadcast.call) (named_same broadcast.call) script s event made process broadcast sound are is before
    (λ number task cred slot left old new acts answered opened has ruled. named old.cred new broadcast.call ruled)
    (changes script s line event).tasks (step_extends script s line event)) [
      | Waits waiting each open_now ↦
          shown_followed made.1 process (record broadcast { waiting = waiting }) (broadcast_in made.1 process) open_now each
      | Dropped none never ↦ subst (FollowedIn made.1 process) (sym none) tt
    ]

pub broadcasts_are_followed : BroadcastsAreFollowed
broadcasts_are_followed script s line event sound are followed process =
    named_by script s line event process sound are (broadcast_in s process) refl (followed process)

followed_from : (script : Script) (journal : List Entry) (s : State) → IsSound s → AreMade script s → AreFollowed s
    → AreFollowed (fold (λ (state : State) (entry : Entry). (step script state entry.line entry.event).1) s journal)
followed_from script [] s sound are followed = followed
followed_from script (entry ∷ journal) s sound are followed =
    followed_from script journal (step script s entry.line entry.event).1 (step_sound script s entry.line entry.event sound)
    (step_made script s entry.line entry.event sound are) (broadcasts_are_followed script s entry.line entry.event sound are followed)

pub followed_after : (script : Script) (journal : List Entry) → AreFollowed (replay script journal)
followed_after script journal =
    followed_from script journal (opening script) (opening_sound script) (λ k d lt. absurd (omega arith)) (λ process. tt)

-- ---- a call that is completed

-- where nobody waits, all have it
all_have : (P : Credential → Type 0) (t : State) (process : ℕ) (waiting : List ℕ) → waiting ≡ []
    → Followed P t.creds t.tasks process waiting → AllHave P t process
all_have P t process waiting none each k d lt of = each k d lt of (ap (waits _) none)

nobody_waits : (waiting : List ℕ) (broadcast : Broadcast) → shown (record broadcast { waiting = waiting }) ≡ None → waiting ≡ []
nobody_waits [] broadcast none = refl
nobody_waits (x ∷ xs) broadcast none =
    let some : is_open (record broadcast { waiting = x ∷ xs }) ≡ true = grind (arith, nat_tests) in
    let both = sym (ap (λ b. cond b (Some (record broadcast { waiting = x ∷ xs })) None) some) ∙ none in
    cc

no_others : (numbers : List ℕ) → length numbers ≡ 0 → numbers ≡ []
no_others [] few = refl
no_others (x ∷ xs) few = absurd (omega arith)

pub mapped : {X Y : Type 0} (f : X → Y) (o : Option X) (y : Y) → option_map f o ≡ Some y → (x : X) × (o ≡ Some x) × (f x ≡ y)
mapped f None y is = cc
mapped f (Some x) y is = (x, refl, cc)

module _ (P : Credential → Type 0) (kept : Kept P) (script : Script) (s : State) (line process : ℕ) (call : IdCall) (sound : IsSound s)
    (are : AreMade script s) where
  -- the broadcast before the event, and its own steps
  abbrev HadBefore : Event → Type 0
  HadBefore event =
      (broadcast : Broadcast) → broadcast_in s process ≡ Some broadcast → broadcast.call ≡ call
      → Followed P s.creds s.tasks process broadcast.waiting × OwnStep P s event (step script s line event).0 broadcast

  -- what the caller's own step makes
  abbrev MadeFirst : Event → Type 0
  MadeFirst event =
      (task : ℕ) (begins : IdCall) → event ≡ Begin task begins → begins ≡ call → (b : Begun s task begins (step script s line event).1)
      → b.owner.process ≡ process → P b.new

  closes : (event : Event) (broadcast : Broadcast) → HadBefore event → broadcast_in s process ≡ Some broadcast → broadcast.call ≡ call
      → (broadcast_in (step script s line event).1 process ≡ None)
      → ((process : ℕ) (call : IdCall) → Completes s event (step script s line event).0 (step script s line event).1 process call → ⊥)
      ⊎ AllHave P (step script s line event).1 process
  closes event broadcast before is same closed =
      let made = step script s line event in
      let had = before broadcast is same in
      elim (goes P kept script s event made process broadcast sound are is had.0 had.1 (changes script s line event).tasks (step_extends script s line event)) [
        | Waits waiting each open_now ↦
            inr (all_have P made.1 process waiting (nobody_waits waiting broadcast (sym open_now ∙ closed)) each)
        | Dropped none never ↦ inl never
      ]

  either_way : (event : Event) (t : State) (answer : Answer)
      → ((process : ℕ) (call : IdCall) → Completes s event answer t process call → ⊥) ⊎ AllHave P t process
      → Completes s event answer t process call → AllHave P t process
  either_way event t answer (inl never) completes = absurd (never process call completes)
  either_way event t answer (inr each) completes = each

  by_answer : (event : Event) (answer : Answer) → (step script s line event).0 ≡ answer → HadBefore event → MadeFirst event
      → Completes s event answer (step script s line event).1 process call → AllHave P (step script s line event).1 process
  by_answer (Begin task begins) (Began cred at left) answered before first completes =
      let t = (step script s line (Begin task begins)).1 in
      let so = began script s line task begins cred at left answered in
      let b = so.begins in
      let none = no_others (others_of b.owner s.tasks) (sym so.few ∙ completes.0) in
      let both : Some b.owner.process ≡ Some process = sym (ap (option_map (λ (t : Task). t.process)) b.lives) ∙ completes.2 in
      let own : b.owner.process ≡ process = cc in
      subst (AllHave P t) own
      (all_have P t b.owner.process (others_of b.owner s.tasks) none
      (begun_followed P s t task begins b (first task begins refl completes.1 b own)))
  by_answer (Act number) (Acted task cred slot left) answered before first completes =
      let event = Act number in
      let t = (step script s line event).1 in
      let at = mapped (λ (b : Broadcast). b.process) (broadcast_of s number) process completes.1 in
      let broadcast : Broadcast = at.0 in
      let called : Some broadcast.call ≡ Some call = sym (ap (option_map (λ (b : Broadcast). b.call)) at.1) ∙ completes.2 in
      let here = (found (λ (x : Broadcast). find (λ y. y.process == x.process) s.broadcasts ≡ Some x) (λ b. b.number == number) s.broadcasts broadcast at.1
      (finds_itself (λ (b : Broadcast). b.process) s.broadcasts sound.processes)).0 in
      let is : broadcast_in s process ≡ Some broadcast = ap (broadcast_in s) (sym at.2) ∙ here in
      either_way event t (step script s line event).0
      (closes event broadcast before is (cc) (acted_closes script s line number process broadcast task cred slot left sound at.1 is completes.0 answered))
      (subst (λ a. Completes s event a t process call) (sym answered) completes)
  by_answer (Exit task) answer answered before first completes =
      let event = Exit task in
      let t = (step script s line event).1 in
      let at = mapped (λ (b : Broadcast). b.call) (broadcast_in s process) call completes.0 in
      either_way event t (step script s line event).0 (closes event at.0 before at.1 at.2 completes.1)
      (subst (λ a. Completes s event a t process call) (sym answered) completes)
  by_answer event answer answered before first completes = absurd completes

  pub completed : (event : Event) → HadBefore event → MadeFirst event
      → Completes s event (step script s line event).0 (step script s line event).1 process call
      → AllHave P (step script s line event).1 process
  completed event = by_answer event (step script s line event).0 refl

pub calls_are_every_threads : CallsAreEveryThreads
calls_are_every_threads script s line event process call sound are followed =
    completed (HasNamed call) (named_same call) script s line process call sound are event
    (λ broadcast is same. (
      subst (λ call. Followed (HasNamed call) s.creds s.tasks process broadcast.waiting) same
          (subst (FollowedIn s process) is (followed process)),
      λ number task cred slot left old new acts answered opened has ruled.
          subst (λ call. HasNamed call new) same (named old.cred new broadcast.call ruled),
    ))
    (λ task begins is same b own. subst (λ call. HasNamed call b.new) same (named b.old.cred b.new begins b.ruled))
