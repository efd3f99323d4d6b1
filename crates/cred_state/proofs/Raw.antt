-- A task makes an id call for itself alone.
use Rattle.std.proofs.Common.{◌≡◌, ℕ, Bool, List, length, slice_set, Option, None, Some, Result, Ok, Err, refl, sym, ap, ◌∙◌}
use Rattle.std.specs.Option.{option_and_then}
use Rattle.std.specs.Result.{IfOk}
use Rattle.std.proofs.lemmas.Result.{IfOk-weaker}
use Rattle.cred_ids.specs.Limits.{SLOTS}
use Rattle.cred_record.specs.Credential.{Credential}
use Rattle.cred_record.specs.declared.id_call.IdCall.{IdCall}
use Rattle.cred_record.specs.declared.refusal.Denial.{Denial}
use Rattle.cred_record.specs.declared.refusal.Refusal.{Refusal}
use Rattle.cred_rules.specs.SetId.{set_id}
use Rattle.cred_setid.specs.declared.parts.IdParts.{IdParts}
use Rattle.cred_setid.specs.Parts.{PartsBecome}
use Rattle.cred_event.specs.declared.answer.Answer.{Answer}
use Rattle.cred_event.specs.declared.answer.Answer.TheVariants.{Busy, NoTask, Overridden, Sealed, TableFull}
use Rattle.cred_model.specs.Answers.{refusal}
use Rattle.cred_model.specs.Broadcasts.{not_busy}
use Rattle.cred_model.specs.Dumpable.{differs, renewed}
use Rattle.cred_model.specs.Like.{IsOutcomeLike}
use Rattle.cred_model.specs.Moves.{in_slot, table_full, not_overridden, with_current, replaced}
use Rattle.cred_model.specs.State.{State, Task, Numbered, numbered, task_of, current_of, broadcast_in}
use Rattle.cred_model.specs.CallEvents.{by_raw}
use Rattle.cred_model.specs.Step.{outcome}
use Rattle.cred_model.proofs.Likes.{does_same}
use Rattle.cred_decide.specs.Refusals.{IsDenied}
use Rattle.cred_slots.specs.Table.{Table}
use Rattle.cred_slots.specs.Table as table
use Rattle.cred_tables.specs.Kept.{StateLists, state_of, IsKept, Seals}
use Rattle.cred_tables.proofs.InUse.{Differ}
use Rattle.cred_tables.proofs.Owners.{own_none}
use Rattle.cred_tables.proofs.Sealing.{roomy, in_free, in_none, Drops}
use Rattle.cred_state.specs.Refusals.{MayCallAlone}
use Rattle.cred_state.proofs.Begins.{counts_next, replaced_made}
use Rattle.cred_state.proofs.Refused.{parts_denied}

raw_does : (task process old : ℕ) (new : Credential) (other : Bool) → State → ℕ → Answer × State
raw_does task process old new other s slot = (
  Sealed (length s.creds) slot,
  record (replaced s task old new slot) { dumpable = renewed s.dumpable process other },
)

-- ---- the call

module _ (s : State) (task : ℕ) (call : IdCall) (old : Numbered) (may : MayCallAlone s task old) where
  own_number : numbered s.creds may.owner.current ≡ Some old
  own_number = sym (ap (option_and_then (λ (t : Task). numbered s.creds t.current)) may.lives) ∙ may.has

  raw_denied : (denial : Denial) → set_id old.cred call ≡ Err denial
      → outcome s (by_raw s task call) ≡ (refusal denial, s)
  raw_denied denial rule = rw (may.lives, own_number, may.idle, may.own, rule) refl

  pub raw_refused : {E : Type 0} (answered : Result Answer E) (why : Refusal) (own new : IdParts)
      → PartsBecome old.cred own new (Err why) (set_id old.cred call) → IfOk answered (IsDenied why)
      → IfOk answered (λ answer. IsOutcomeLike (outcome s (by_raw s task call)) answer s)
  raw_refused answered why own new becomes denied =
      IfOk-weaker answered (IsDenied why) (λ answer. IsOutcomeLike (outcome s (by_raw s task call)) answer s)
      (λ answer is. does_same _ _ _
      (raw_denied is.denial (parts_denied (set_id old.cred call) old.cred own new why answer is becomes)
      ∙ ap (λ (a : Answer). (a, s)) (sym is.answers))) denied

  raw_tests : (new : Credential) → set_id old.cred call ≡ Ok new
      → outcome s (by_raw s task call)
      ≡ in_slot s table_full
      (raw_does task may.owner.process old.number new (differs old.cred new))
  unfolding raw_does
  raw_tests new rule = rw (may.lives, own_number, may.idle, may.own, rule) refl

-- what refuses the call before its own rule is asked
module _ (s : State) (task : ℕ) (call : IdCall) where
  pub raw_without : current_of s task ≡ None → outcome s (by_raw s task call) ≡ (NoTask task, s)
  raw_without none = own_none s task _ none

  module _ (old : Numbered) (has : current_of s task ≡ Some old)
      (owner : Task) (lives : task_of s task ≡ Some owner) where
    own_there : numbered s.creds owner.current ≡ Some old
    own_there = sym (ap (option_and_then (λ (t : Task). numbered s.creds t.current)) lives) ∙ has

    pub raw_busy : (number : ℕ) → not_busy (broadcast_in s owner.process) ≡ Err (Busy number)
        → outcome s (by_raw s task call) ≡ (Busy number, s)
    raw_busy number busy = rw (lives, own_there, busy) refl

    pub raw_overridden : broadcast_in s owner.process ≡ None → (depth : ℕ)
        → not_overridden owner ≡ Err (Overridden depth)
        → outcome s (by_raw s task call) ≡ (Overridden depth, s)
    raw_overridden idle depth over = rw (lives, own_there, idle, over) refl

module _ {parts : StateLists} {store : List (Option Credential)} {t : Table} (is : IsKept parts store t)
    (after : Table) (task : ℕ) (old : Numbered) (new : Credential)
    (has : current_of (state_of parts store t) task ≡ Some old) (call : IdCall)
    (may : MayCallAlone (state_of parts store t) task old) (rule : set_id old.cred call ≡ Ok new)
  where
    abbrev s : State
    s = state_of parts store t

    pub raw_full : table.free_in t ≡ None
        → state_of parts store (table.swept_table_if_full t) ≡ state_of parts store after
        → IsOutcomeLike (outcome s (by_raw s task call)) TableFull (state_of parts store after)
    raw_full none makes =
        does_same _ _ _
        (raw_tests s task call old may new rule
        ∙ in_none is
        (raw_does task may.owner.process old.number new (differs old.cred new)) after none makes)

    -- the new credential is sealed in the table `between`, and the old one is given up after it
    module _ {between : Table} {number slot : ℕ} (long : length store ≡ SLOTS)
        (seals : Seals t between number slot) (distinct : Differ parts.tasks)
        (late : Drops between after old.number) where
      pub raw_sealed : IsOutcomeLike (outcome s (by_raw s task call)) (Sealed number slot)
          (state_of (record parts {
            tasks = with_current parts.tasks task number;
            dumpable = renewed parts.dumpable may.owner.process (differs old.cred new);
          }) (slice_set store slot (Some new)) after)
      unfolding raw_does
      raw_sealed =
          let other = differs old.cred new in
          let flags = renewed parts.dumpable may.owner.process other in
          let made : ℕ → State = λ n. record (replaced (roomy is) task old.number new slot) {
            tasks = with_current parts.tasks task n;
            broadcasts = parts.broadcasts;
            dumpable = flags;
          } in
          replaced_made is after task old new has long seals distinct late parts.broadcasts flags
          (raw_tests s task call old may new rule
          ∙ in_free is (raw_does task may.owner.process old.number new other) slot seals.takes
          ∙ ap (λ (n : ℕ). (Sealed n slot, made n))
          (counts_next is after task old new has long seals distinct late))
