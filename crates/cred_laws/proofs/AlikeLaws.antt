-- Threads that are alike before a call of all of them are alike after it.
use Rattle.std.proofs.Common.{◌≡◌, ◌==◌, inl, inr, ℕ, zero, suc, ◌+◌, ◌-◌, ◌<◌, ◌≤◌, List, take, slice_get, Option, Some, None, Ok, Bool, true, false, cond}
use Rattle.std.proofs.Common.{refl, sym, ap, ◌∙◌, subst, arith}
use Rattle.std.specs.Option.{IfSome, option_map}
use Rattle.std.proofs.lemmas.Option.{slice_get_within}
use Rattle.std.proofs.lemmas.Bool.{cases_lt, eqb-true}
use Rattle.std.proofs.lemmas.Bool.Decides.{nat_tests}
use Rattle.cred_record.specs.Credential.{Credential}
use Rattle.cred_record.specs.declared.id_call.IdCall.{IdCall}
use Rattle.cred_rules.specs.SetId.{set_id}
use Rattle.cred_event.specs.declared.answer.Answer.TheVariants.{Began}
use Rattle.cred_event.specs.declared.entry.Entry.{Entry}
use Rattle.cred_event.specs.declared.event.Event.TheVariants.{Begin, Act}
use Rattle.cred_model.specs.Script.{Script}
use Rattle.cred_model.specs.State.{State, Task, Broadcast, Numbered, broadcast_in, current_of}
use Rattle.cred_model.specs.Broadcasts.{is_open}
use Rattle.cred_model.specs.Journal.{IsAnswered}
use Rattle.cred_model.specs.Step.{step}
use Rattle.cred_model.proofs.Lists.{found, slice_get_at}
use Rattle.cred_sound.specs.Sound.{IsSound}
use Rattle.cred_sound.proofs.Events.{changes}
use Rattle.cred_sound.proofs.Parts.{begun}
use Rattle.cred_sound.proofs.Sound.{sound_after}
use Rattle.cred_laws.specs.Broadcast.{AllHave, Completes, call_kind, three_ids, IsAlike, stepping}
use Rattle.cred_laws.specs.States.{state_at}
use Rattle.cred_laws.specs.Journals.{RunsThrough, StepAlike, KeepsAlike}
use Rattle.cred_laws.specs.Made.{AreMade}
use Rattle.cred_laws.proofs.BegunLaws.{Begun, began, begun_followed, begun_shown}
use Rattle.cred_laws.proofs.BroadcastLaws.{completed, mapped}
use Rattle.cred_laws.proofs.FollowLaws.{Followed, found_in, shown}
use Rattle.cred_laws.proofs.FollowSteps.{OwnStep, Waits, Dropped, goes}
use Rattle.cred_laws.proofs.HeldLaws.{step_extends}
use Rattle.cred_laws.proofs.MadeLaws.{made_after}
use Rattle.cred_laws.proofs.NamedLaws.{AreSame, alike, three_same}
use Rattle.cred_laws.proofs.States.{step_at, answered_at}

-- a broadcast that is shown is the one
shown_is : (x y : Broadcast) → shown x ≡ Some y → y ≡ x
shown_is x y is =
    elim (is_open x) as (λ b. cond b (Some x) None ≡ Some y → y ≡ x) [ true ↦ λ same. (cc) | false ↦ λ none. (cc) ] is

module _ (script : Script) (journal : List Entry) (answered : IsAnswered script journal) (from upto number process : ℕ) (call : IdCall)
    (ids : List ℕ) (able : Bool) (run : RunsThrough script journal from upto number process call)
    (steps : StepAlike script journal from upto number (call_kind call) ids able) where
  abbrev At : ℕ → State
  At i = state_at script journal i

  sound : (i : ℕ) → IsSound (At i)
  sound i = sound_after script (take i journal)

  are : (i : ℕ) → AreMade script (At i)
  are i = made_after script (take i journal)

  -- what an entry answers
  answers : (i : ℕ) (entry : Entry) → slice_get journal i ≡ Some entry → entry.answer ≡ (step script (At i) entry.line entry.event).0
  answers i entry is =
      subst (λ o. IfSome o (λ entry. entry.answer ≡ (step script (At i) entry.line entry.event).0)) is
      (answered_at script journal answered i)

  -- what is known of the thread whose own step an entry is
  alike_at : (i : ℕ) (entry : Entry) (task : ℕ) (c : Numbered) → from ≤ i → i ≤ upto → slice_get journal i ≡ Some entry
      → stepping number entry.line entry.event entry.answer ≡ Some task → current_of (At i) task ≡ Some c
      → IsAlike (call_kind call) ids able c.cred
  alike_at i entry task c after before is step_is current =
      let Known : Option Numbered → Type 0 = λ o. IfSome o (λ c. IsAlike (call_kind call) ids able c.cred) in
      let Step : Option ℕ → Type 0 = λ o. IfSome o (λ task. Known (current_of (At i) task)) in
      let all = steps i after before in
      let here = subst (λ o. IfSome o (λ entry. Step (stepping number entry.line entry.event entry.answer))) is all in
      subst Known current (subst Step step_is here)

  -- ---- the begin

  first_answered : (step script (At from) run.first.line (Begin run.task call)).0 ≡ Began run.cred run.slot run.left
  first_answered =
      ap (λ event. (step script (At from) run.first.line event).0) (sym run.calls)
      ∙ sym (answers from run.first run.begins) ∙ run.began

  abbrev After_first : State
  After_first = (step script (At from) run.first.line (Begin run.task call)).1

  begins : Begun (At from) run.task call After_first
  begins = (began script (At from) run.first.line run.task call run.cred run.slot run.left first_answered).begins

  own : begins.owner.process ≡ process
  own =
      let both : Some begins.owner.process ≡ Some process = sym (ap (option_map (λ (t : Task). t.process)) begins.lives) ∙ run.caller in
      cc

  after_first : At (from + 1) ≡ After_first
  after_first = step_at script journal from run.first run.begins ∙ ap (λ event. (step script (At from) run.first.line event).1) run.calls

  caller_step : stepping number run.first.line run.first.event run.first.answer ≡ Some run.task
  caller_step =
      let test : (run.first.line == number) ≡ true = let same = run.numbered in grind (arith, nat_tests) in
      ap (λ event. stepping number run.first.line event run.first.answer) run.calls
      ∙ ap (stepping number run.first.line (Begin run.task call)) run.began
      ∙ ap (λ b. cond b (Some run.task) None) test

  caller_alike : IsAlike (call_kind call) ids able begins.old.cred
  caller_alike = alike_at from run.first run.task begins.old (omega arith) run.order run.begins caller_step begins.has

  -- the caller's three ids after its step
  abbrev Equal : List ℕ
  Equal = three_ids (call_kind call) begins.new

  abbrev P : Credential → Type 0
  P c = three_ids (call_kind call) c ≡ Equal

  kept : (c d : Credential) → AreSame c d → P c → P d
  kept c d same has = three_same (call_kind call) Equal c d same has

  -- what another one's step makes is alike
  made_alike : (old new : Credential) → IsAlike (call_kind call) ids able old → set_id old call ≡ Ok new → P new
  made_alike old new one ruled =
      sym (alike begins.old.cred begins.new old new call (caller_alike.both ∙ sym one.both) (caller_alike.same ∙ sym one.same) begins.ruled ruled)

  -- ---- in between

  record Hand (i : ℕ) : Type 0 where
    broadcast : Broadcast
    is : broadcast_in (At i) process ≡ Some broadcast
    has : broadcast.number ≡ number
    calls : broadcast.call ≡ call
    followed : Followed P (At i).creds (At i).tasks process broadcast.waiting

  -- an own step in that broadcast
  own_step : (i : ℕ) (entry : Entry) (broadcast : Broadcast) → from ≤ i → i ≤ upto → slice_get journal i ≡ Some entry → broadcast.number ≡ number
      → broadcast.call ≡ call → OwnStep P (At i) entry.event (step script (At i) entry.line entry.event).0 broadcast
  own_step i entry broadcast after before is has calls n task cred slot left old new acts answer opened current ruled =
      let there = (found (λ (b : Broadcast). Unit {0}) (λ b. b.number == n) (At i).broadcasts broadcast opened (λ k d lt. tt)).1 in
      let same : n ≡ number = sym (eqb-true broadcast.number n there) ∙ has in
      let test : (n == number) ≡ true = grind (arith, nat_tests) in
      let steps_is : stepping number entry.line entry.event entry.answer ≡ Some task
      = ap (λ event. stepping number entry.line event entry.answer) acts
      ∙ ap (stepping number entry.line (Act n)) (answers i entry is ∙ answer)
      ∙ ap (λ b. cond b (Some task) None) test in
      made_alike old.cred new (alike_at i entry task old after before is steps_is current)
      (ap (set_id old.cred) (sym calls) ∙ ruled)

  opened_at : (i : ℕ) → from < i → i ≤ upto → (broadcast : Broadcast) × (broadcast_in (At i) process ≡ Some broadcast) × (broadcast.number ≡ number)
  opened_at i after before = mapped (λ (b : Broadcast). b.number) (broadcast_in (At i) process) number (run.goes_on i after before)

  first_hand : from + 1 ≤ upto → Hand (from + 1)
  first_hand within =
      let there = opened_at (from + 1) (omega arith) within in
      let new = begun begins.number begins.owner call (At from).tasks in
      let is : found_in begins.owner.process After_first.broadcasts ≡ Some there.0
      = ap (λ p. found_in p After_first.broadcasts) own ∙ ap (λ (s : State). broadcast_in s process) (sym after_first) ∙ there.1 in
      let same : there.0 ≡ new = shown_is new there.0 (sym (begun_shown (At from) After_first run.task call begins) ∙ is) in
      record {
        broadcast = there.0;
        is = there.1;
        has = there.2;
        calls = ap (λ (b : Broadcast). b.call) same;
        followed = subst (λ (s : State). Followed P s.creds s.tasks process there.0.waiting) (sym after_first)
            (subst (λ p. Followed P After_first.creds After_first.tasks p there.0.waiting) own
            (subst (Followed P After_first.creds After_first.tasks begins.owner.process) (sym (ap (λ (b : Broadcast). b.waiting) same))
            (begun_followed P (At from) After_first run.task call begins refl)));
      }

  next_hand : (i : ℕ) → from < i → i + 1 ≤ upto → Hand i → Hand (i + 1)
  next_hand i after within hand =
      let long = slice_get_within journal upto run.last run.ends in
      let at = slice_get_at journal i (omega arith) in
      let entry : Entry = at.0 in
      let made = step script (At i) entry.line entry.event in
      let there = opened_at (i + 1) (omega arith) within in
      let next : At (i + 1) ≡ made.1 = step_at script journal i entry at.1 in
      let is : broadcast_in made.1 process ≡ Some there.0 = ap (λ (s : State). broadcast_in s process) (sym next) ∙ there.1 in
      elim (goes P kept script (At i) entry.event made process hand.broadcast (sound i) (are i) hand.is hand.followed
      (own_step i entry hand.broadcast (omega arith) (omega arith) at.1 hand.has hand.calls)
      (changes script (At i) entry.line entry.event).tasks (step_extends script (At i) entry.line entry.event)) [
        | Waits waiting each open_now ↦
            let one = record hand.broadcast { waiting = waiting } in
            let same : there.0 ≡ one = shown_is one there.0 (sym open_now ∙ is) in
            record {
              broadcast = there.0;
              is = there.1;
              has = there.2;
              calls = ap (λ (b : Broadcast). b.call) same ∙ hand.calls;
              followed = subst (λ (s : State). Followed P s.creds s.tasks process there.0.waiting) (sym next)
                  (subst (Followed P made.1.creds made.1.tasks process) (sym (ap (λ (b : Broadcast). b.waiting) same)) each);
            }
        | Dropped none never ↦ absurd (let both : None ≡ Some there.0 = sym none ∙ is in cc)
      ]

  hand_at : (k i : ℕ) → i ≡ from + 1 + k → i ≤ upto → Hand i
  hand_at zero i is within =
      let same : from + 1 ≡ i = omega arith in
      subst Hand same (first_hand (omega arith))
  hand_at (suc k) i is within =
      let before = from + 1 + k in
      let same : before + 1 ≡ i = omega arith in
      subst Hand same (next_hand before (omega arith) (omega arith) (hand_at k before refl (omega arith)))

  -- ---- the end

  hand_last : from < upto → Hand upto
  hand_last more = hand_at (upto - (from + 1)) upto (omega arith) (omega arith)

  -- where the begin completes the call, it is the caller's own step
  first_last : upto ≡ from → (task : ℕ) (called : IdCall) → run.last.event ≡ Begin task called → called ≡ call
      → (b : Begun (At upto) task called (step script (At upto) run.last.line run.last.event).1) → P b.new
  first_last same task called is is_call b =
      let both : Some run.last ≡ Some run.first = sym run.ends ∙ ap (slice_get journal) same ∙ run.begins in
      let one : run.last ≡ run.first = cc in
      let events : Begin task called ≡ Begin run.task call = sym is ∙ ap (λ (e : Entry). e.event) one ∙ run.calls in
      let tasks : task ≡ run.task = cc in
      let olds : Some b.old ≡ Some begins.old = sym b.has ∙ ap (λ i. current_of (At i) task) same ∙ ap (current_of (At from)) tasks ∙ begins.has in
      let old : b.old ≡ begins.old = cc in
      let news : Ok b.new ≡ Ok begins.new
      = sym b.ruled ∙ ap (set_id b.old.cred) is_call ∙ ap (λ (c : Numbered). set_id c.cred call) old ∙ begins.ruled in
      let new : b.new ≡ begins.new = cc in
      ap (three_ids (call_kind call)) new

  last_step : AllHave P (step script (At upto) run.last.line run.last.event).1 process
  last_step =
      let event = run.last.event in
      let t = (step script (At upto) run.last.line event).1 in
      let completes : Completes (At upto) event (step script (At upto) run.last.line event).0 t process call
      = subst (λ a. Completes (At upto) event a t process call) (answers upto run.last run.ends)
      (subst (λ t. Completes (At upto) event run.last.answer t process call) (step_at script journal upto run.last run.ends) run.completes) in
      elim (cases_lt from upto) [
        | inl more ↦
            let hand = hand_last more in
            completed P kept script (At upto) run.last.line process call (sound upto) (are upto) event
            (λ broadcast is same.
            let both : Some broadcast ≡ Some hand.broadcast = sym is ∙ hand.is in
            let one : broadcast ≡ hand.broadcast = cc in (
              subst (λ (c : Broadcast). Followed P (At upto).creds (At upto).tasks process c.waiting) (sym one) hand.followed,
              own_step upto run.last broadcast run.order (omega arith) run.ends (ap (λ (c : Broadcast). c.number) one ∙ hand.has) same,
            ))
            (λ task called is same b here. absurd (
            let both : None ≡ Some hand.broadcast = sym b.idle ∙ ap (broadcast_in (At upto)) here ∙ hand.is in cc))
            completes
        | inr not_more ↦
            let order = run.order in
            let same : upto ≡ from = omega arith in
            completed P kept script (At upto) run.last.line process call (sound upto) (are upto) event
            (λ broadcast is called. absurd (
            let both : None ≡ Some broadcast = sym begins.idle ∙ ap (broadcast_in (At from)) own ∙ ap (λ i. broadcast_in (At i) process) (sym same) ∙ is in cc))
            (λ task called is is_call b here. first_last same task called is is_call b)
            completes
      ]

  pub equal : (equal : List ℕ) × AllHave (λ c. three_ids (call_kind call) c ≡ equal) (At (upto + 1)) process
  equal = (Equal, subst (λ t. AllHave P t process) (sym (step_at script journal upto run.last run.ends)) last_step)

pub keeps_alike : (script : Script) (journal : List Entry) → IsAnswered script journal → KeepsAlike script journal
keeps_alike script journal answered begun done number process call ids able run steps =
    equal script journal answered begun done number process call ids able run steps
