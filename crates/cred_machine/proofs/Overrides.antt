-- A task acts with another credential than its current one, and goes back.
use Rattle.std.proofs.Common.{◌≡◌, ◌≢◌, ◌<◌, ◌≤◌, ◌==◌, ℕ, nat_lt, true, false, List, [], ◌∷◌, ◌++◌, find, length, position, remove, slice_get, Option, Some}
use Rattle.std.proofs.Common.{None, refl, sym, ap, ◌∙◌, subst, arith}
use Rattle.std.specs.List.{AllPairs}
use Rattle.std.specs.Option.{IfSome}
use Rattle.std.proofs.lemmas.Bool.Decides.{nat_tests}
use Rattle.cred_ids.specs.Limits.{DEPTH}
use Rattle.cred_record.specs.Credential.{Credential}
use Rattle.cred_event.specs.declared.answer.Answer.TheVariants.{NoHold, Sealed, TooDeep}
use Rattle.cred_model.specs.State.{State, Task, Prepared, Changed, Numbered, SealedCred, held_by, task_of}
use Rattle.cred_model.specs.Moves.{with_override, overridden, with_overrides}
use Rattle.cred_model.specs.LabelEvents.{by_override, for_access}
use Rattle.cred_model.specs.Step.{outcome}
use Rattle.cred_model.proofs.Numbers.{owner_number}
use Rattle.cred_plain.specs.Tasks.{OfOneTask}

-- ---- the depth

pub not_deep : (many depth : ℕ) → depth ≡ many → depth < DEPTH → nat_lt many DEPTH ≡ true
not_deep many depth is few = grind (arith, nat_tests)

pub is_deep : (many depth : ℕ) → depth ≡ many → DEPTH ≤ depth → nat_lt many DEPTH ≡ false
is_deep many depth is deep = grind (arith, nat_tests)

-- ---- what is said of the one task

pub said_of : (tasks : List Task) (task : ℕ) (P : Task → Type 0) (owner : Task) → AllPairs (λ a b. a.number ≢ b.number) tasks
    → find (λ t. t.number == task) tasks ≡ Some owner → OfOneTask tasks task P → P owner
said_of tasks task P owner apart lives holds = subst (λ (o : Option Task). IfSome o P) lives (holds apart)

-- ---- it acts with another

module _ (s : State) (task label : ℕ) (owner : Task) (lives : task_of s task ≡ Some owner) where
  own : owner.number ≡ task
  own = owner_number s task owner lives

  -- with a credential that the label holds
  module _ (held : Numbered) (has : held_by s label ≡ Some held) where
    lend_tests : nat_lt (length owner.overrides) DEPTH ≡ true
        → outcome s (by_override s task label) ≡ (Sealed held.number held.slot, with_override s owner held.number)
    lend_tests few = rw (lives, has, few) refl

    pub lends : (tasks : List Task) → nat_lt (length owner.overrides) DEPTH ≡ true → tasks ≡ with_overrides s.tasks task (held.number ∷ owner.overrides)
        → outcome s (by_override s task label) ≡ (Sealed held.number held.slot, record s { tasks = tasks })
    lends tasks few ts =
        lend_tests few
        ∙ ap (λ (us : List Task). (Sealed held.number held.slot, record s { tasks = us }))
        (ap (λ (n : ℕ). with_overrides s.tasks n (held.number ∷ owner.overrides)) own ∙ sym ts)

  -- with what it prepared for access(2)
  module _ (unheld : held_by s label ≡ None) (place : ℕ) (p : Prepared) (at : position (λ p. p.label == label) s.prepared ≡ Some place)
      (there : slice_get s.prepared place ≡ Some p) where
    asked : (asks : Option Changed) → for_access task p ≡ asks → for_access owner.number p ≡ asks
    asked asks is = ap (λ (n : ℕ). for_access n p) own ∙ is

    pub lend_other : for_access task p ≡ None → outcome s (by_override s task label) ≡ (NoHold label, s)
    lend_other none = rw (lives, unheld, at, there, asked None none) refl

    module _ (last : Changed) (asks : for_access task p ≡ Some last) where
      pub access_deep : nat_lt (length owner.overrides) DEPTH ≡ false → outcome s (by_override s task label) ≡ (TooDeep, s)
      access_deep deep = rw (lives, unheld, at, there, asked (Some last) asks, deep) refl

      access_tests : nat_lt (length owner.overrides) DEPTH ≡ true
          → outcome s (by_override s task label) ≡ (Sealed (length s.creds) p.slot, overridden s place p owner last.cred)
      access_tests few = rw (lives, unheld, at, there, asked (Some last) asks, few) refl

      pub access_lends : (number slot base : ℕ) (c : Credential) (tasks : List Task) (old creds : List SealedCred) (before late : List ℕ)
          (prepared : List Prepared)
          → nat_lt (length owner.overrides) DEPTH ≡ true → old ≡ s.creds → number ≡ length old → slot ≡ p.slot → base ≡ p.base → c ≡ last.cred
          → tasks ≡ with_overrides s.tasks task (number ∷ owner.overrides) → creds ≡ old ++ record { cred = c; slot = slot } ∷ []
          → before ≡ s.deferred → late ≡ before ++ base ∷ [] → prepared ≡ remove s.prepared place
          → outcome s (by_override s task label)
          ≡ (Sealed number slot, record s { tasks = tasks; creds = creds; deferred = late; prepared = prepared })
      access_lends number slot base c tasks old creds before late prepared few same counted stands based made ts cs was ls ps =
          access_tests few
          ∙ ap (λ (n : ℕ). (Sealed (length s.creds) p.slot, with_lent (with_overrides s.tasks n (length s.creds ∷ owner.overrides)))) own
          ∙ rw (ts, cs, ls, ps, was, counted, same, made, based, stands) refl
        where
          with_lent : List Task → State
          with_lent ts =
              record s {
                tasks = ts;
                creds = s.creds ++ record { cred = last.cred; slot = p.slot } ∷ [];
                deferred = s.deferred ++ p.base ∷ [];
                prepared = remove
                    s.prepared place;
              }
