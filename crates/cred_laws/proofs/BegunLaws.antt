-- A broadcast from its begin to its last step.
use Rattle.std.proofs.Common.{◌≡◌, ◌≢◌, ◌==◌, ◌||◌, ◌-◌, not, ℕ, List, [], ◌∷◌, ◌++◌, length, map, get_or, slice_get, Some, None, Result, Ok, Err, Bool, true}
use Rattle.std.proofs.Common.{false, cond, refl, sym, ap, ◌∙◌, subst, arith}
use Rattle.std.specs.List.{All, filter, list_any}
use Rattle.std.proofs.lemmas.List.Elements.{All-cons, All-nil}
use Rattle.std.proofs.lemmas.Bool.Decides.{nat_tests}
use Rattle.cred_record.specs.Credential.{Credential}
use Rattle.cred_record.specs.declared.id_call.IdCall.{IdCall}
use Rattle.cred_record.specs.declared.refusal.Denial.{Denial}
use Rattle.cred_record.specs.declared.refusal.Denial.TheVariants.{Perm, Invalid}
use Rattle.cred_rules.specs.SetId.{set_id}
use Rattle.cred_event.specs.declared.answer.Answer.{Answer}
use Rattle.cred_event.specs.declared.answer.Answer.TheVariants.{Began, Acted, Aborted}
use Rattle.cred_event.specs.declared.answer.AbortCause.TheVariants as cause
use Rattle.cred_event.specs.declared.event.Event.TheVariants.{Begin, Act}
use Rattle.cred_model.specs.Script.{Script}
use Rattle.cred_model.specs.State.{State, Task, Broadcast, Numbered, numbered, task_of, broadcast_of, broadcast_in, current_of}
use Rattle.cred_model.specs.Answers.{refusal}
use Rattle.cred_model.specs.Broadcasts.{others_of, with_broadcast, waits_no_more}
use Rattle.cred_model.specs.Change.{by_rule}
use Rattle.cred_model.specs.Ends.{is_beside}
use Rattle.cred_model.specs.Dumpable.{differs, renewed}
use Rattle.cred_model.specs.Moves.{table_full, replaced, with_current}
use Rattle.cred_model.specs.CallEvents.{aborted, follow}
use Rattle.cred_model.specs.Step.{done, outcome, step}
use Rattle.cred_model.proofs.Numbers.{numbered_last, owner_number}
use Rattle.cred_model.proofs.Rising.{any-in_order}
use Rattle.cred_sound.specs.Sound.{IsSound}
use Rattle.cred_sound.proofs.Tests.{in_slots}
use Rattle.cred_sound.proofs.Parts.{sealed_cred, begun}
use Rattle.cred_sound.proofs.Calls.{own_is}
use Rattle.cred_laws.proofs.Cases.{some_case, none_case, own_case, idle_case, rule_case}
use Rattle.cred_laws.proofs.Unexecuted.{answer_of, answers_settled}
use Rattle.cred_laws.proofs.FollowLaws.{Followed, waits, followed_renewed, found_in, shown, left_open, begun_open}

-- ---- a broadcast that begins

-- The task has made its own step, and the other threads of its process wait.
pub record Begun (s : State) (task : ℕ) (call : IdCall) (t : State) : Type 0 where
  pub owner : Task
  pub old : Numbered
  pub new : Credential
  pub number : ℕ
  pub slot : ℕ
  pub lives : task_of s task ≡ Some owner
  pub has : current_of s task ≡ Some old
  pub ruled : set_id old.cred call ≡ Ok new
  pub idle : broadcast_in s owner.process ≡ None
  pub tasks : t.tasks ≡ with_current s.tasks task (length s.creds)
  pub creds : t.creds ≡ s.creds ++ sealed_cred new slot ∷ []
  pub broadcasts : t.broadcasts ≡ with_broadcast s.broadcasts (begun number owner call s.tasks)

-- each that passes the test stands, by its number, among those that do
any_passed : {X : Type 0} (f : X → ℕ) (p : X → Bool) (xs : List X)
    → All (λ x. p x ≡ true → list_any (λ m. m == f x) (map f (filter p xs)) ≡ true) xs
any_passed f p [] = All-nil (λ x. p x ≡ true → list_any (λ m. m == f x) [] ≡ true)
any_passed f p (x ∷ xs) =
    let In : List ℕ → ℕ → Type 0 = λ ns n. list_any (λ m. m == n) ns ≡ true in
    let rest = any_passed f p xs in
    let here : (f x == f x) ≡ true = grind (arith, nat_tests) in
    All-cons (λ y. p y ≡ true → In (map f (filter p (x ∷ xs))) (f y)) x xs
    (λ passes. subst (λ b. In (map f (cond b (x ∷ filter p xs) (filter p xs))) (f x)) (sym passes)
    (ap (λ b. b || list_any (λ m. m == f x) (map f (filter p xs))) here))
    (λ k d lt passes.
    let y = get_or xs k d in
    let later : In (map f (filter p xs)) (f y) = rest k d lt passes in
    elim (p x) as (λ b. In (map f (cond b (x ∷ filter p xs) (filter p xs))) (f y)) [
      | true ↦ or_true (f x == f y) _ later
      | false ↦ later
    ])
  where
    or_true : (a b : Bool) → b ≡ true → (a || b) ≡ true
    or_true true b is = refl
    or_true false b is = is

-- every other thread of the process waits
others_wait : (owner : Task) (tasks : List Task)
    → All (λ t. t.process ≡ owner.process → t.number ≢ owner.number → waits t.number (others_of owner tasks) ≡ true) tasks
others_wait owner tasks k d lt of other =
    let t = get_or tasks k d in
    let beside : is_beside owner t ≡ true = grind (arith, nat_tests) in
    any-in_order (λ n. n == t.number) (map (λ (t : Task). t.number) (filter (is_beside owner) tasks))
    ∙ any_passed (λ (t : Task). t.number) (is_beside owner) tasks k d lt beside

-- What the caller has is had by all that don't wait.
pub begun_followed : (P : Credential → Type 0) (s t : State) (task : ℕ) (call : IdCall) (b : Begun s task call t) → P b.new
    → Followed P t.creds t.tasks b.owner.process (others_of b.owner s.tasks)
begun_followed P s t task call b holds =
    let process = b.owner.process in
    let others = others_of b.owner s.tasks in
    let n = length s.creds in
    let number = owner_number s task b.owner b.lives in
    subst (λ ts. Followed P t.creds ts process others) (sym b.tasks)
    (followed_renewed P t.creds s.tasks process others task n
    (λ k d lt same of still. (
      record { number = n; cred = b.new; slot = b.slot },
      ap (λ creds. numbered creds n) b.creds ∙ numbered_last s.creds (sealed_cred b.new b.slot),
      holds,
    ))
    (λ k d lt other of still.
    let both : true ≡ false = sym (others_wait b.owner s.tasks k d lt of (λ same. other (same ∙ number))) ∙ still in cc))

-- the broadcast that is open then
pub begun_shown : (s t : State) (task : ℕ) (call : IdCall) (b : Begun s task call t)
    → found_in b.owner.process t.broadcasts ≡ shown (begun b.number b.owner call s.tasks)
begun_shown s t task call b =
    ap (found_in b.owner.process) b.broadcasts ∙ begun_open s.broadcasts (begun b.number b.owner call s.tasks) b.idle

-- an event that answers that a broadcast began did begin one
refusal_begins : (denial : Denial) (cred slot left : ℕ) → refusal denial ≡ Began cred slot left → ⊥
refusal_begins Perm cred slot left is = cc
refusal_begins Invalid cred slot left is = cc

pub record BeganSo (s : State) (task : ℕ) (call : IdCall) (left : ℕ) (t : State) : Type 0 where
  pub begins : Begun s task call t
  pub few : left ≡ length (others_of begins.owner s.tasks)

begin_case : (script : Script) (s : State) (line task : ℕ) (call : IdCall) (cred at left : ℕ)
    → answer_of (done script s line (Begin task call)) ≡ Began cred at left
    → BeganSo s task call left (outcome s (done script s line (Begin task call))).1
begin_case script s line task call cred at left =
    let Q : Result (Answer × State) Answer → Type 0
    = λ r. answer_of r ≡ Began cred at left → BeganSo s task call left (outcome s r).1 in
    some_case Q (task_of s task) _ _ (λ answered. cc)
    (λ owner lives. some_case Q (numbered s.creds owner.current) _ _ (λ answered. cc)
    (λ old now. idle_case Q (broadcast_in s owner.process) _ (λ number answered. cc)
    (λ idle. none_case Q (broadcast_of s line) _ _ (λ answered. cc)
    (λ unused. own_case Q owner _ (λ depth answered. cc)
    (rule_case Q (set_id old.cred call) _ (λ denial answered. absurd (refusal_begins denial cred at left answered))
    (λ new ruled.
    let others = others_of owner s.tasks in
    let by : ℕ → Broadcast = λ caller. record { number = line; process = owner.process; caller = caller; call = call; waiting = others } in
    in_slots (λ made. Q (Ok made)) s table_full
    (λ s slot. (
      Began (length s.creds) slot (length others),
      record (replaced s task old.number new slot) {
        broadcasts = with_broadcast s.broadcasts (by task);
        dumpable = renewed s.dumpable owner.process (differs old.cred new);
      },
    ))
    (λ gone fewer answered. cc)
    (λ gone slot fewer free answered.
    record {
      begins = record {
        owner = owner;
        old = old;
        new = new;
        number = line;
        slot = slot;
        lives = lives;
        has = own_is s task owner old lives now;
        ruled = ruled;
        idle = idle;
        tasks = refl;
        creds = refl;
        broadcasts = ap (λ caller. with_broadcast s.broadcasts (by caller)) (sym (owner_number s task owner lives));
      };
      few = cc;
    })))))))

pub began : (script : Script) (s : State) (line task : ℕ) (call : IdCall) (cred at left : ℕ)
    → (step script s line (Begin task call)).0 ≡ Began cred at left → BeganSo s task call left (step script s line (Begin task call)).1
began script s line task call cred at left answered =
    begin_case script s line task call cred at left (sym (answers_settled s (done script s line (Begin task call))) ∙ answered)

-- ---- the last step

-- whoever waits alone, and waits no longer
last_waits : (task : ℕ) (waiting : List ℕ) → slice_get waiting 0 ≡ Some task → length waiting - 1 ≡ 0
    → filter (λ n. not (n == task)) waiting ≡ []
last_waits task [] first few = cc
last_waits task (x ∷ []) first few =
    let same : x ≡ task = cc in
    let test : (x == task) ≡ true = grind (arith, nat_tests) in
    ap (λ b. cond (not b) (x ∷ []) []) test
last_waits task (x ∷ y ∷ rest) first few = absurd (omega arith)

closed_by : (s : State) (process : ℕ) (broadcast : Broadcast) (task : ℕ) → IsSound s → broadcast_in s process ≡ Some broadcast
    → slice_get broadcast.waiting 0 ≡ Some task → length broadcast.waiting - 1 ≡ 0 → found_in process (waits_no_more task s.broadcasts) ≡ None
closed_by s process broadcast task sound is first few =
    left_open task process s.broadcasts broadcast sound.processes is
    ∙ ap (λ w. cond (not (length w == 0)) (Some (record broadcast { waiting = w })) None) (last_waits task broadcast.waiting first few)

follow_closes : (s : State) (process : ℕ) (broadcast : Broadcast) (task : ℕ) (owner : Task) (old : Numbered) (made : Result Credential Answer) → IsSound s
    → broadcast_in s process ≡ Some broadcast → slice_get broadcast.waiting 0 ≡ Some task → (who cred slot left : ℕ) → left ≡ 0
    → (follow s broadcast task owner old made).0 ≡ Acted who cred slot left → found_in process (follow s broadcast task owner old made).1.broadcasts ≡ None
follow_closes s process broadcast task owner old (Err refused) sound is first who cred slot left none answered = cc
follow_closes s process broadcast task owner old (Ok new) sound is first who cred slot left none answered =
    in_slots (λ made. made.0 ≡ Acted who cred slot left → found_in process made.1.broadcasts ≡ None) s
    (λ now. (Aborted task cause.Full, aborted broadcast now))
    (λ now slot. (
      Acted task (length now.creds) slot (length broadcast.waiting - 1),
      record (replaced now task old.number new slot) {
        broadcasts = waits_no_more task now.broadcasts;
        dumpable = renewed now.dumpable owner.process (differs old.cred new);
      },
    ))
    (λ gone fewer answered. cc)
    (λ gone at fewer free answered.
    let few : length broadcast.waiting - 1 ≡ left = cc in
    closed_by s process broadcast task sound is first (few ∙ none)) answered

-- an act that answers that none is left closes the broadcast
act_case : (script : Script) (s : State) (line number process : ℕ) (broadcast : Broadcast) (who cred slot left : ℕ) → IsSound s
    → broadcast_of s number ≡ Some broadcast → broadcast_in s process ≡ Some broadcast → left ≡ 0
    → answer_of (done script s line (Act number)) ≡ Acted who cred slot left
    → found_in process (outcome s (done script s line (Act number))).1.broadcasts ≡ None
act_case script s line number process broadcast who cred slot left sound opened is none =
    let Q : Result (Answer × State) Answer → Type 0
    = λ r. answer_of r ≡ Acted who cred slot left → found_in process (outcome s r).1.broadcasts ≡ None in
    some_case Q (broadcast_of s number) _ _ (λ answered. cc)
    (λ in_broadcast there.
    let both : Some broadcast ≡ Some in_broadcast = sym opened ∙ there in
    let same : broadcast ≡ in_broadcast = cc in
    some_case Q (slice_get in_broadcast.waiting 0) _ _ (λ answered. cc)
    (λ task first. some_case Q (task_of s task) _ _ (λ answered. cc)
    (λ owner lives. some_case Q (numbered s.creds owner.current) _ _ (λ answered. cc)
    (λ old now.
    follow_closes s process in_broadcast task owner old (by_rule (set_id old.cred in_broadcast.call)) sound
    (is ∙ ap Some same) first who cred slot left none))))

pub acted_closes : (script : Script) (s : State) (line number process : ℕ) (broadcast : Broadcast) (who cred slot left : ℕ) → IsSound s
    → broadcast_of s number ≡ Some broadcast → broadcast_in s process ≡ Some broadcast → left ≡ 0
    → (step script s line (Act number)).0 ≡ Acted who cred slot left
    → found_in process (step script s line (Act number)).1.broadcasts ≡ None
acted_closes script s line number process broadcast who cred slot left sound opened is none answered =
    act_case script s line number process broadcast who cred slot left sound opened is none
    (sym (answers_settled s (done script s line (Act number))) ∙ answered)
