-- A thread that waits makes its step in a broadcast, or its process ends.
use Rattle.std.proofs.Common.{◌≡◌, ℕ, ◌+◌, ◌-◌, ◌<◌, ◌==◌, not, Bool, true, false, List, [], ◌∷◌, get_or, length, is_some, position, slice_get, Option, None}
use Rattle.std.proofs.Common.{Some, Ok, Err, refl, sym, ap, ◌∙◌, subst, arith}
use Rattle.std.specs.Option.{IsSomeAnd}
use Rattle.std.proofs.lemmas.List.Quantifiers.{position-Some}
use Rattle.cred_record.specs.Credential.{Credential}
use Rattle.cred_record.specs.declared.refusal.Denial.{Denial}
use Rattle.cred_rules.specs.SetId.{set_id}
use Rattle.cred_event.specs.declared.answer.AbortCause.TheVariants.{Perm, Full}
use Rattle.cred_event.specs.declared.answer.Answer.{Answer}
use Rattle.cred_event.specs.declared.answer.Answer.TheVariants.{Acted, Aborted}
use Rattle.cred_model.specs.State.{State, Task, Broadcast, Numbered, numbered, broadcast_of, task_of}
use Rattle.cred_model.specs.Broadcasts.{waits_no_more}
use Rattle.cred_model.specs.Dumpable.{differs, renewed}
use Rattle.cred_model.specs.Moves.{in_slot, replaced}
use Rattle.cred_model.specs.Slots.{free, least_free, swept}
use Rattle.cred_model.specs.CallEvents.{aborted, by_act}
use Rattle.cred_model.specs.Step.{outcome}
use Rattle.cred_model.proofs.Places.{find-at}
use Rattle.cred_sound.specs.Sound.{IsSound}
use Rattle.cred_plain.specs.Tasks.{IsTaskAt}
use Rattle.cred_plain.proofs.Places.{none_there}
use Rattle.cred_plain.proofs.Stands.{the_task}
use Rattle.cred_machine.specs.Room.{swept_if}
use Rattle.cred_machine.proofs.Rooms.{in_free, in_none}
use Rattle.cred_machine.proofs.Seen.{placed}

act_does : (task : ℕ) (owner : Task) (old : Numbered) (new : Credential) (broadcast : Broadcast) → State → ℕ → Answer × State
act_does task owner old new broadcast s slot = (
  Acted task (length s.creds) slot (length broadcast.waiting - 1),
  record (replaced s task old.number new slot) {
    broadcasts = waits_no_more task s.broadcasts;
    dumpable = renewed s.dumpable owner.process (differs old.cred new);
  },
)

-- the least task that waits in the broadcast of this number, and its credential; and where the
-- broadcast stands
pub record IsNext (s : State) (number task broadcast_at : ℕ) (broadcast : Broadcast) (owner : Task)
    (old : Numbered) : Type 0 where
  pub found : broadcast_of s number ≡ Some broadcast
  pub there : slice_get s.broadcasts broadcast_at ≡ Some broadcast
  pub least : slice_get broadcast.waiting 0 ≡ Some task
  pub lives : task_of s task ≡ Some owner
  pub has : numbered s.creds owner.current ≡ Some old

-- there is no broadcast of this number
pub no_broadcast : (s : State) (number : ℕ) (looked : List Broadcast) (place : Option ℕ)
    → looked ≡ s.broadcasts → place ≡ position (λ b. b.number == number) looked → place ≡ None
    → broadcast_of s number ≡ None
no_broadcast s number looked place same found none =
    none_there (λ (b : Broadcast). b.number == number) s.broadcasts
    (ap (position (λ (b : Broadcast). b.number == number)) (sym same) ∙ sym found ∙ none)

-- the place where one was found is one of the places
pub broadcast_within : (number broadcast_at : ℕ) (broadcasts looked : List Broadcast) → looked ≡ broadcasts
    → Some broadcast_at ≡ position (λ b. b.number == number) looked → broadcast_at < length broadcasts
broadcast_within number broadcast_at broadcasts looked same found =
    by broadcasts (ap (position (λ (b : Broadcast). b.number == number)) (sym same) ∙ sym found)
  where
    by : (bs : List Broadcast) → position (λ (b : Broadcast). b.number == number) bs ≡ Some broadcast_at
        → broadcast_at < length bs
    by [] is = cc
    by (b ∷ bs) is =
        (position-Some (λ (c : Broadcast). c.number == number) (b ∷ bs) broadcast_at b is).0

-- the broadcast of this number, by where it was found
pub broadcast_found : (s : State) (number broadcast_at : ℕ) (looked : List Broadcast) (broadcast seen : Broadcast)
    → looked ≡ s.broadcasts → Some broadcast_at ≡ position (λ b. b.number == number) looked → broadcast ≡ seen
    → seen ≡ get_or s.broadcasts broadcast_at seen
    → (broadcast_of s number ≡ Some broadcast) × (slice_get s.broadcasts broadcast_at ≡ Some broadcast)
broadcast_found s number broadcast_at looked broadcast seen same found read is =
    let test = λ (b : Broadcast). b.number == number in
    let at = placed test s.broadcasts looked broadcast_at seen same found is in
    let there : slice_get s.broadcasts broadcast_at ≡ Some broadcast = at.1 ∙ ap Some (sym read) in
    (find-at test s.broadcasts broadcast_at broadcast at.0 there, there)

-- a task that is alive, by where it stands
pub task_is : (s : State) (task task_at : ℕ) (owner whose : Task) → IsSound s
    → IsTaskAt s.tasks task task_at → Some whose ≡ slice_get s.tasks task_at → owner ≡ whose
    → task_of s task ≡ Some owner
task_is s task task_at owner whose sound stands there own =
    sym (the_task task s.tasks task_at sound.tasks stands) ∙ sym there ∙ ap Some (sym own)

-- the least that waits, by all that was read
pub next_is : (s : State) (number task broadcast_at : ℕ) (broadcast seen : Broadcast) (owner : Task)
    (old : Numbered) → (broadcast_of s number ≡ Some broadcast) × (slice_get s.broadcasts broadcast_at ≡ Some broadcast)
    → broadcast ≡ seen → Some task ≡ slice_get seen.waiting 0 → task_of s task ≡ Some owner
    → Some old ≡ numbered s.creds owner.current → IsNext s number task broadcast_at broadcast owner old
next_is s number task broadcast_at broadcast seen owner old is read least lives has = record {
  found = is.0;
  there = is.1;
  least = ap (λ (b : Broadcast). slice_get b.waiting 0) read ∙ sym least;
  lives = lives;
  has = sym has;
}

module _ (s : State) (number task broadcast_at : ℕ) (broadcast : Broadcast) (owner : Task) (old : Numbered)
    (next : IsNext s number task broadcast_at broadcast owner old) where
  -- while the broadcasts stay, it is the least there
  pub least_there : (broadcasts : List Broadcast) → broadcasts ≡ s.broadcasts
      → IsSomeAnd (slice_get broadcasts broadcast_at) (λ b. slice_get b.waiting 0 ≡ Some task)
  least_there broadcasts same =
      subst (λ (o : Option Broadcast). IsSomeAnd o (λ b. slice_get b.waiting 0 ≡ Some task))
      (sym (ap (λ (cs : List Broadcast). slice_get cs broadcast_at) same ∙ next.there)) next.least

  pub act_refused : (denial : Denial) → set_id old.cred broadcast.call ≡ Err denial → outcome s (by_act s number) ≡ (Aborted task Perm, aborted broadcast s)
  act_refused denial rule = rw (next.found, next.least, next.lives, next.has, rule) refl

  module _ (new : Credential) (rule : set_id old.cred broadcast.call ≡ Ok new) where
    act_tests : outcome s (by_act s number) ≡ in_slot s (λ r. (Aborted task Full, aborted broadcast r)) (act_does task owner old new broadcast)
    unfolding act_does
    act_tests = rw (next.found, next.least, next.lives, next.has, rule) refl

    pub act_full : free s ≡ None → outcome s (by_act s number) ≡ (Aborted task Full, aborted broadcast (swept s))
    act_full none = act_tests ∙ in_none s (λ r. (Aborted task Full, aborted broadcast r)) (act_does task owner old new broadcast) none

    pub acts : (sweep : Bool) (slot left : ℕ) → free s ≡ Some slot → sweep ≡ not (is_some (least_free s)) → left + 1 ≡ length broadcast.waiting
        → outcome s (by_act s number)
        ≡ (
          Acted task (length s.creds) slot left,
          record (replaced (swept_if sweep s) task old.number new slot) {
            broadcasts = waits_no_more task s.broadcasts;
            dumpable = renewed s.dumpable owner.process (differs old.cred new);
          },
        )
    unfolding act_does
    acts sweep slot left is for many =
        let fewer : length broadcast.waiting - 1 ≡ left = omega (arith, many) in
        act_tests
        ∙ in_free s (λ r. (Aborted task Full, aborted broadcast r)) (act_does task owner old new broadcast) sweep slot is for
        ∙ same sweep
        ∙ ap
        (λ (k : ℕ). (
          Acted task (length s.creds) slot k,
          record (replaced (swept_if sweep s) task old.number new slot) {
            broadcasts = waits_no_more task s.broadcasts;
            dumpable = renewed s.dumpable owner.process (differs old.cred new);
          },
        ))
        fewer
      where
        same : (b : Bool)
            → ◌≡◌ {A = Answer × State} (
              Acted task (length (swept_if b s).creds) slot (length broadcast.waiting - 1),
              record (replaced (swept_if b s) task old.number new slot) {
                broadcasts = waits_no_more task (swept_if b s).broadcasts;
                dumpable = renewed (swept_if b s).dumpable owner.process (differs old.cred new);
              },
            ) (
              Acted task (length s.creds) slot (length broadcast.waiting - 1),
              record (replaced (swept_if b s) task old.number new slot) {
                broadcasts = waits_no_more task s.broadcasts;
                dumpable = renewed s.dumpable owner.process (differs old.cred new);
              },
            )
        same true = refl
        same false = refl
