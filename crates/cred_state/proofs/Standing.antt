-- What a task, an open file or a label refers to is in use.
use Rattle.std.proofs.Common.{◌≡◌, ℕ, ◌==◌, Bool, List, [], find, Option, None, Some, refl, sym, subst}
use Rattle.std.specs.List.{All}
use Rattle.std.specs.Option.{option_and_then}
use Rattle.std.proofs.lemmas.List.Elements.{All-append, All-nil}
use Rattle.cred_event.specs.declared.event.Side.{Side}
use Rattle.cred_model.specs.State.{State, Task, OpenFile, Hold, Prepared, Numbered, numbered, number_on, prepared_of, current_of, credential_of, opener_of}
use Rattle.cred_model.specs.State.{held_by}
use Rattle.cred_model.specs.Slots.{in_use, swept}
use Rattle.cred_model.proofs.Lists.{found}
use Rattle.cred_model.proofs.Numbers.{numbered_is}
use Rattle.cred_model.proofs.Referred.{EachRef, each_ref, each_side}
use Rattle.cred_tables.specs.Kept.{IsInUse}
use Rattle.cred_tables.proofs.Bags.{count-at}

module _ (s : State) where
  in_use-each : EachRef (λ n. IsInUse s n) (swept s)
  in_use-each =
      let P : ℕ → Type 0 = λ n. IsInUse s n in
      each_ref P (swept s) (All-append P (in_use s) [] (λ k d lt. count-at (in_use s) k d lt) (All-nil P))

  seen-in_use : {X : Type 0} (number : X → ℕ) (test : X → Bool) (xs : List X) (c : Numbered) → All (λ x. IsInUse s (number x)) xs
      → option_and_then (λ x. numbered s.creds (number x)) (find test xs) ≡ Some c → IsInUse s c.number
  seen-in_use {X} number test xs c each is = by (find test xs) refl is
    where
      by : (here : Option X) → find test xs ≡ here → option_and_then (λ x. numbered s.creds (number x)) here ≡ Some c → IsInUse s c.number
      by None at is = cc
      by (Some x) at is =
          let same : c.number ≡ number x = (numbered_is s.creds (number x) c is).0 in
          subst (λ (n : ℕ). IsInUse s n) (sym same) (found (λ (y : X). IsInUse s (number y)) test xs x at each).0

  pub credential-in_use : (task : ℕ) (side : Side) (c : Numbered) → credential_of s task side ≡ Some c → IsInUse s c.number
  credential-in_use task side c is =
      seen-in_use (λ (t : Task). number_on side t) (λ (t : Task). t.number == task) s.tasks c (each_side side in_use-each) is

  pub opener-in_use : (fd : ℕ) (c : Numbered) → opener_of s fd ≡ Some c → IsInUse s c.number
  opener-in_use fd c is = seen-in_use (λ (f : OpenFile). f.opener) (λ (f : OpenFile). f.fd == fd) s.files c in_use-each.openers is

  pub held-in_use : (label : ℕ) (c : Numbered) → held_by s label ≡ Some c → IsInUse s c.number
  held-in_use label c is = seen-in_use (λ (h : Hold). h.number) (λ (h : Hold). h.label == label) s.holds c in_use-each.holds is

  pub current-in_use : (task : ℕ) (c : Numbered) → current_of s task ≡ Some c → IsInUse s c.number
  current-in_use task c is = seen-in_use (λ (t : Task). t.current) (λ (t : Task). t.number == task) s.tasks c in_use-each.currents is

  pub base-in_use : (label : ℕ) (c : Numbered) → option_and_then (λ (p : Prepared). numbered s.creds p.base) (prepared_of s label) ≡ Some c
      → IsInUse s c.number
  base-in_use label c is = seen-in_use (λ (p : Prepared). p.base) (λ (p : Prepared). p.label == label) s.prepared c in_use-each.bases is
