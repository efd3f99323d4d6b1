-- States that no event can tell apart.
use Rattle.std.specs.Prelude.{◌≡◌, Result, map, slice_get, All}
use Rattle.cred_event.specs.declared.answer.Answer.{Answer}
use Rattle.cred_model.specs.State.{State}
use Rattle.cred_model.specs.Slots.{refs}
use Rattle.cred_model.specs.Step.{outcome}

-- The two have the same tasks, broadcasts, open files, holds, prepared labels, deferred numbers,
-- dumpable processes and files, sealed the same numbers in the same slots, and have the same
-- credential under each number that is referred to. Of the other numbers, to which nothing refers
-- any more, nothing is said: their credentials may be gone.
pub record IsLike (a b : State) : Type 0 where
  pub tasks : a.tasks ≡ b.tasks
  pub broadcasts : a.broadcasts ≡ b.broadcasts
  pub files : a.files ≡ b.files
  pub holds : a.holds ≡ b.holds
  pub prepared : a.prepared ≡ b.prepared
  pub deferred : a.deferred ≡ b.deferred
  pub dumpable : a.dumpable ≡ b.dumpable
  pub inodes : a.inodes ≡ b.inodes
  pub slots : map (λ sealed. sealed.slot) a.creds ≡ map (λ sealed. sealed.slot) b.creds
  pub creds : All (λ n. slice_get a.creds n ≡ slice_get b.creds n) (refs a)

-- The same answer, and states that are alike.
pub record AreAlike (a b : Answer × State) : Type 0 where
  pub answers : a.0 ≡ b.0
  pub states : IsLike a.1 b.1

-- What an event gives is this answer, and a state that this one is like.
pub record IsOutcomeLike (gives : Answer × State) (answer : Answer) (after : State) : Type 0 where
  pub answers : gives.0 ≡ answer
  pub leads : IsLike after gives.1

-- In this state the event, by its tests and what it does, gives this answer and this state.
abbrev pub Gives : State → Result (Answer × State) Answer → Answer → State → Type 0
Gives before event answer after = outcome before event ≡ (answer, after)

-- The same, but the state is only like the one that the event leads to.
abbrev pub GivesLike : State → Result (Answer × State) Answer → Answer → State → Type 0
GivesLike before event answer after = IsOutcomeLike (outcome before event) answer after
