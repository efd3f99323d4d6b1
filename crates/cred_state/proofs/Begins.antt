-- A task makes an id call, and the other threads of its process wait.
use Rattle.std.proofs.Common.{◌≡◌, ◌≢◌, ◌==◌, ℕ, Bool, true, filter, find, is_some, List, [], ◌∷◌, ◌++◌, length, slice_set, Option, None, Some, Result}
use Rattle.std.proofs.Common.{Ok, Err, refl, sym, ap, ◌∙◌, subst, arith}
use Rattle.std.specs.List.{All, AllPairs}
use Rattle.std.specs.Option.{option_and_then}
use Rattle.std.specs.Result.{IfOk}
use Rattle.std.proofs.lemmas.Result.{IfOk-weaker}
use Rattle.std.proofs.lemmas.List.Elements.{All-map}
use Rattle.std.proofs.lemmas.List.Kept.{AllPairs-filter}
use Rattle.cred_ids.specs.Limits.{SLOTS}
use Rattle.cred_record.specs.Credential.{Credential}
use Rattle.cred_record.specs.declared.id_call.IdCall.{IdCall}
use Rattle.cred_record.specs.declared.refusal.Denial.{Denial}
use Rattle.cred_record.specs.declared.refusal.Refusal.{Refusal}
use Rattle.cred_rules.specs.SetId.{set_id}
use Rattle.cred_setid.specs.declared.parts.IdParts.{IdParts}
use Rattle.cred_setid.specs.Parts.{PartsBecome}
use Rattle.cred_event.specs.declared.answer.Answer.{Answer}
use Rattle.cred_event.specs.declared.answer.Answer.TheVariants.{Began, Busy, Exists, NoTask, Overridden, TableFull}
use Rattle.cred_event.specs.declared.answer.Named.TheVariants as named
use Rattle.cred_model.specs.State.{State, Task, Broadcast, Numbered, ProcessFlag, numbered, task_of, current_of, broadcast_in, broadcast_of}
use Rattle.cred_model.specs.Ends.{is_beside}
use Rattle.cred_model.specs.Answers.{refusal}
use Rattle.cred_model.specs.Broadcasts.{not_busy, with_broadcast, WaitsNowhere}
use Rattle.cred_model.specs.Dumpable.{differs, renewed}
use Rattle.cred_model.specs.Like.{IsOutcomeLike}
use Rattle.cred_model.specs.Moves.{in_slot, table_full, not_overridden, with_current, replaced}
use Rattle.cred_model.specs.CallEvents.{by_begin}
use Rattle.cred_model.specs.Step.{outcome}
use Rattle.cred_model.proofs.Lists.{AllPairs-map}
use Rattle.cred_model.proofs.Numbers.{current_is}
use Rattle.cred_model.proofs.Rising.{All-passed}
use Rattle.cred_model.proofs.Likes.{does_same}
use Rattle.cred_sound.specs.Broadcasts.{IsThread}
use Rattle.cred_sound.specs.Sound.{IsSound}
use Rattle.cred_sound.proofs.Threads.{beside_is, finds_itself, is_thread}
use Rattle.cred_decide.specs.Refusals.{IsDenied}
use Rattle.cred_broadcasts.proofs.Conditions.{idle_waits_nowhere}
use Rattle.cred_procs.specs.Tasks.{those}
use Rattle.cred_slots.specs.Table.{Table, IsSameBag, IsOnlyUser}
use Rattle.cred_slots.specs.Table as table
use Rattle.cred_tables.specs.Begin.{MayBegin, MayWait, broadcast_begun}
use Rattle.cred_tables.specs.Kept.{StateLists, state_of, IsKept, Seals}
use Rattle.cred_tables.proofs.Filled.{filled_put, no_more_dropped, no_more_sealed}
use Rattle.cred_tables.proofs.Bags.{bag-other}
use Rattle.cred_state.proofs.Broadcasts.{kept_beside, like_beside}
use Rattle.cred_state.proofs.Refused.{parts_denied}
use Rattle.cred_tables.proofs.Owners.{own_none}
use Rattle.cred_tables.proofs.Sealing.{roomy, in_free, in_none, keeps_same, Drops, alone_later}
use Rattle.cred_tables.proofs.InUse.{Differ, in_use-updated}
use Rattle.cred_tables.proofs.Stored.{does_made, length-creds_in, stored_like}

begin_does : (task old : ℕ) (new : Credential) (broadcast : Broadcast) (other : Bool) → State → ℕ
    → Answer × State
begin_does task old new broadcast other s slot = (
  Began (length s.creds) slot (length broadcast.waiting),
  record (replaced s task old new slot) {
    broadcasts = with_broadcast s.broadcasts broadcast;
    dumpable = renewed s.dumpable broadcast.process other;
  },
)

-- ---- the others, who wait

module _ (s : State) (owner : Task) (sound : IsSound s) where
  -- no two of the others are one
  pub others_apart : AllPairs (λ a b. a ≢ b) (those (is_beside owner) s.tasks)
  others_apart =
      AllPairs-map (λ a b. a ≢ b) (λ (t : Task). t.number) (filter (is_beside owner) s.tasks)
      (AllPairs-filter (λ (a b : Task). a.number ≢ b.number) (is_beside owner) s.tasks sound.tasks)

  in_process : (t : Task) → is_beside owner t ≡ true → find (λ u. u.number == t.number) s.tasks ≡ Some t → IsThread s.tasks owner.process t.number
  in_process t beside found =
      is_thread s.tasks owner.process t.number (record { task = t; is = found; of = (beside_is owner t beside).0 })

  -- where no broadcast is open in the process, none of them waits
  pub others_nowhere : broadcast_in s owner.process ≡ None → All (WaitsNowhere s.broadcasts) (those (is_beside owner) s.tasks)
  others_nowhere idle =
      let Found : Task → Type 0 = λ t. find (λ u. u.number == t.number) s.tasks ≡ Some t in
      All-map (WaitsNowhere s.broadcasts) (λ (t : Task). t.number) (filter (is_beside owner) s.tasks)
      (All-passed (is_beside owner) Found (λ t. WaitsNowhere s.broadcasts t.number) s.tasks
      (λ t beside found. idle_waits_nowhere s owner.process t.number sound idle (in_process t beside found))
      (finds_itself (λ (t : Task). t.number) s.tasks sound.tasks))

-- the broadcast may be begun
pub broadcast_may_begin : (s : State) (line task : ℕ) (old : Numbered) → MayBegin s line task old → IsSound s → MayWait s.tasks s.broadcasts line task
broadcast_may_begin s line task old may sound = record {
  owner = may.owner;
  lives = may.lives;
  new = may.new;
  idle = may.idle;
  once = others_apart s may.owner sound;
  nowhere = others_nowhere s may.owner sound may.idle;
}

-- ---- the call

module _ (s : State) (line task : ℕ) (call : IdCall) (old : Numbered) (may : MayBegin s line task old) where
  own_number : numbered s.creds may.owner.current ≡ Some old
  own_number = sym (ap (option_and_then (λ (t : Task). numbered s.creds t.current)) may.lives) ∙ may.has

  begin_denied : (denial : Denial) → set_id old.cred call ≡ Err denial → outcome s (by_begin s line task call) ≡ (refusal denial, s)
  begin_denied denial rule = rw (may.lives, own_number, may.idle, may.new, may.own, rule) refl

  pub begin_refused : {E : Type 0} (answered : Result Answer E) (why : Refusal) (own new : IdParts)
      → PartsBecome old.cred own new (Err why) (set_id old.cred call) → IfOk answered (IsDenied why)
      → IfOk answered (λ answer. IsOutcomeLike (outcome s (by_begin s line task call)) answer s)
  begin_refused answered why own new becomes denied =
      IfOk-weaker answered (IsDenied why) (λ answer. IsOutcomeLike (outcome s (by_begin s line task call)) answer s)
      (λ answer is. does_same _ _ _
      (begin_denied is.denial (parts_denied (set_id old.cred call) old.cred own new why answer is becomes)
      ∙ ap (λ (a : Answer). (a, s)) (sym is.answers))) denied

  begin_tests : (new : Credential) → set_id old.cred call ≡ Ok new
      → outcome s (by_begin s line task call)
      ≡ in_slot s table_full
      (begin_does task old.number new (broadcast_begun line task call may.owner s.tasks)
      (differs old.cred new))
  unfolding begin_does
  begin_tests new rule = rw (may.lives, own_number, may.idle, may.new, may.own, rule) refl

-- what refuses the call before its own rule is asked
module _ (s : State) (line task : ℕ) (call : IdCall) where
  pub begin_without : current_of s task ≡ None → outcome s (by_begin s line task call) ≡ (NoTask task, s)
  begin_without none = own_none s task _ none

  module _ (old : Numbered) (has : current_of s task ≡ Some old) (owner : Task) (lives : task_of s task ≡ Some owner) where
    own_there : numbered s.creds owner.current ≡ Some old
    own_there = sym (ap (option_and_then (λ (t : Task). numbered s.creds t.current)) lives) ∙ has

    pub begin_busy : (number : ℕ) → not_busy (broadcast_in s owner.process) ≡ Err (Busy number) → outcome s (by_begin s line task call) ≡ (Busy number, s)
    begin_busy number busy = rw (lives, own_there, busy) refl

    module _ (idle : broadcast_in s owner.process ≡ None) where
      pub begin_exists : is_some (broadcast_of s line) ≡ true → outcome s (by_begin s line task call) ≡ (Exists named.Broadcast line, s)
      begin_exists there = rw (lives, own_there, idle, there) refl

      pub begin_overridden : broadcast_of s line ≡ None → (depth : ℕ) → not_overridden owner ≡ Err (Overridden depth)
          → outcome s (by_begin s line task call) ≡ (Overridden depth, s)
      begin_overridden new depth over = rw (lives, own_there, idle, new, over) refl

module _ {parts : StateLists} {store : List (Option Credential)} {t : Table} (is : IsKept parts store t)
    (after : Table) (task : ℕ) (old : Numbered) (new : Credential) (has : current_of (state_of parts store t) task ≡ Some old) where
  abbrev s : State
  s = state_of parts store t

  pub begin_full : (line : ℕ) (call : IdCall) → MayBegin s line task old → set_id old.cred call ≡ Ok new → table.free_in t ≡ None
      → state_of parts store (table.swept_table_if_full t) ≡ state_of parts store after
      → IsOutcomeLike (outcome s (by_begin s line task call)) TableFull (state_of parts store after)
  begin_full line call may rule none makes =
      does_same _ _ _
      (begin_tests s line task call old may new rule
      ∙ in_none is
      (begin_does task old.number new (broadcast_begun line task call may.owner parts.tasks)
      (differs old.cred new)) after none makes)

  -- the new credential is sealed in the table `between`, and the old one is given up after it
  module _ {between : Table} {number slot : ℕ} (long : length store ≡ SLOTS) (seals : Seals t between number slot) (distinct : Differ parts.tasks)
      (late : Drops between after old.number) where
    abbrev pub updated : List Task
    updated = with_current parts.tasks task number

    abbrev pub put : List (Option Credential)
    put = slice_set store slot (Some new)

    sealed_is : after.sealed ≡ t.sealed ++ slot ∷ []
    sealed_is = late.sealed ∙ seals.sealed

    updated_kept : IsKept (record parts { tasks = updated }) put after
    updated_kept =
        let u = current_is s task old has in
        record {
          counted = record {
            counts = bag-other is.counted.counts seals.held (subst (λ (n : ℕ). IsSameBag between.held (n ∷ after.held)) u.number late.held)
                (in_use-updated s task number u.owner distinct u.is);
            keeps = keeps_same t after _ is.counted.keeps (late.kept ∙ seals.kept);
          };
          filled = filled_put store slot new (omega (arith, long, seals.in_table)) sealed_is
              (λ n ne some. no_more_sealed seals n ne (no_more_dropped between after (old.number ∷ []) late.held late.deferred n some)) is.filled;
        }

    pub replaced_kept : (broadcasts : List Broadcast) (flags : List ProcessFlag)
        → IsKept (record parts { tasks = updated; broadcasts = broadcasts; dumpable = flags }) put after
    replaced_kept broadcasts flags = kept_beside updated_kept broadcasts flags

    -- the state in which the credential is sealed under this number, if these broadcasts are open,
    -- and these are the flags of the processes
    abbrev made : List Broadcast → List ProcessFlag → ℕ → State
    made broadcasts flags n = record (replaced (roomy is) task old.number new slot) {
      tasks = with_current parts.tasks task n;
      broadcasts = broadcasts;
      dumpable = flags;
    }

    pub replaced_made : {gives : Answer × State} {answer : Answer} (broadcasts : List Broadcast)
        (flags : List ProcessFlag) → gives ≡ (answer, made broadcasts flags number)
        → IsOutcomeLike gives answer
        (state_of (record parts { tasks = updated; broadcasts = broadcasts; dumpable = flags }) put after)
    replaced_made broadcasts flags gives =
        does_made gives
        (like_beside
        (stored_like store after t.sealed new slot (made parts.broadcasts parts.dumpable number)
        updated_kept sealed_is (omega (arith, long, seals.in_table))
        (subst (λ (n : ℕ). IsOnlyUser after n slot) seals.counted (alone_later late seals.alone)) refl
        (late.deferred ∙ ap (λ (ds : List ℕ). ds ++ old.number ∷ []) seals.deferred) refl)
        broadcasts flags)

    -- the number that is sealed is the count of the credentials
    pub counts_next : length (roomy is).creds ≡ number
    counts_next = length-creds_in store t.sealed ∙ sym seals.counted

    pub begin_sealed : (line : ℕ) (call : IdCall) (may : MayBegin s line task old) (count : ℕ) → set_id old.cred call ≡ Ok new
        → count ≡ length (broadcast_begun line task call may.owner parts.tasks).waiting
        → IsOutcomeLike (outcome s (by_begin s line task call)) (Began number slot count)
        (state_of (record parts {
          tasks = updated;
          broadcasts = with_broadcast parts.broadcasts (broadcast_begun line task call may.owner parts.tasks);
          dumpable = renewed parts.dumpable may.owner.process (differs old.cred new);
        }) put after)
    unfolding begin_does
    begin_sealed line call may count rule many =
        let broadcast = broadcast_begun line task call may.owner parts.tasks in
        let broadcasts = with_broadcast parts.broadcasts broadcast in
        let other = differs old.cred new in
        let flags = renewed parts.dumpable may.owner.process other in
        replaced_made broadcasts flags
        (begin_tests s line task call old may new rule
        ∙ in_free is (begin_does task old.number new broadcast other) slot seals.takes
        ∙ ap (λ (n : ℕ). (Began n slot (length broadcast.waiting), made broadcasts flags n)) counts_next
        ∙ ap (λ (k : ℕ). (Began number slot k, made broadcasts flags number)) (sym many))
