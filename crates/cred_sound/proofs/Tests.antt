-- How an event's tests lead to what it does.
use Rattle.std.proofs.Common.{◌≡◌, ◌==◌, ℕ, length, List, [], nat_lt, Option, Some, None, Result, Ok, Err, ok_or, Bool, true, false, cond, is_some, refl}
use Rattle.std.specs.List.{All, Contains}
use Rattle.std.specs.Option.{option_map_or}
use Rattle.std.proofs.lemmas.List.Elements.{All-contains_itself, All-nil}
use Rattle.cred_record.specs.Credential.{Credential}
use Rattle.cred_record.specs.File.{File}
use Rattle.cred_record.specs.declared.refusal.Denial.{Denial}
use Rattle.cred_event.specs.declared.answer.Answer.{Answer}
use Rattle.cred_model.specs.State.{State, Task, Broadcast}
use Rattle.cred_model.specs.Slots.{least_free, swept}
use Rattle.cred_model.specs.Broadcasts.{not_busy}
use Rattle.cred_event.specs.Answers.{is_ok}
use Rattle.cred_model.specs.Change.{by_rule}
use Rattle.cred_model.specs.Moves.{none_or, fewer_or, unless_refused, not_overridden}
use Rattle.cred_model.specs.Moves.{in_slot}
use Rattle.cred_model.specs.Step.{outcome}
use Rattle.cred_sound.proofs.References.{IsFree, free_slot}
use Rattle.cred_sound.proofs.Parts.{with_left}
use Rattle.cred_ids.specs.Tests.{◌>>=◌}

-- ---- an event's tests

-- Q holds of what an event does, where it isn't refused
abbrev pub IfAllowed : (Answer × State → Type 0) → Result (Answer × State) Answer → Type 0
IfAllowed Q (Ok made) = Q made
IfAllowed Q (Err answer) = Unit {0}

pub outcome_has : (Q : Answer × State → Type 0) (s : State) (r : Result (Answer × State) Answer) → ((answer : Answer) → Q (answer, s))
    → IfAllowed Q r → Q (outcome s r)
outcome_has Q s (Ok made) refused does = does
outcome_has Q s (Err answer) refused does = refused answer

pub if_some : {A : Type 0} (Q : Answer × State → Type 0) (found : Option A) (answer : Answer) (f : A → Result (Answer × State) Answer)
    → ((x : A) → found ≡ Some x → IfAllowed Q (f x)) → IfAllowed Q (ok_or found answer >>= f)
if_some Q None answer f each = tt
if_some Q (Some x) answer f each = each x refl

pub if_none : {A : Type 0} (Q : Answer × State → Type 0) (found : Option A) (answer : Answer)
    (f : Unit {0} → Result (Answer × State) Answer) → (found ≡ None → IfAllowed Q (f tt)) → IfAllowed Q (none_or found answer >>= f)
if_none Q None answer f each = each refl
if_none Q (Some x) answer f each = tt

-- what is done with what is found, or where nothing is
pub if_either : {A : Type 0} (Q : Answer × State → Type 0) (found : Option A) (f : A → Result (Answer × State) Answer)
    (none : Result (Answer × State) Answer) → ((x : A) → found ≡ Some x → IfAllowed Q (f x)) → (found ≡ None → IfAllowed Q none)
    → IfAllowed Q (option_map_or f found none)
if_either Q None f none each otherwise = otherwise refl
if_either Q (Some x) f none each otherwise = each x refl

-- where a test is passed
pub if_true : (Q : Answer × State → Type 0) (test : Bool) (answer : Answer) (f : Unit {0} → Result (Answer × State) Answer)
    → IfAllowed Q (f tt) → IfAllowed Q (cond test (Ok tt) (Err answer) >>= f)
if_true Q true answer f does = does
if_true Q false answer f does = tt

pub if_fewer : (Q : Answer × State → Type 0) (count limit : ℕ) (answer : Answer) (f : Unit {0} → Result (Answer × State) Answer)
    → IfAllowed Q (f tt) → IfAllowed Q (fewer_or count limit answer >>= f)
if_fewer Q count limit answer f does = if_true Q (nat_lt count limit) answer f does

pub if_passed : (Q : Answer × State → Type 0) (answer : Answer) (f : Unit {0} → Result (Answer × State) Answer)
    → IfAllowed Q (f tt) → IfAllowed Q (unless_refused answer >>= f)
if_passed Q answer f does = if_true Q (is_ok answer) answer f does

-- where no broadcast is open
pub if_idle : (Q : Answer × State → Type 0) (found : Option Broadcast) (f : Unit {0} → Result (Answer × State) Answer)
    → (found ≡ None → IfAllowed Q (f tt)) → IfAllowed Q (not_busy found >>= f)
if_idle Q None f each = each refl
if_idle Q (Some broadcast) f each = tt

pub if_own : (Q : Answer × State → Type 0) (t : Task) (f : Unit {0} → Result (Answer × State) Answer) → IfAllowed Q (f tt)
    → IfAllowed Q (not_overridden t >>= f)
if_own Q t f does = if_true Q (length t.overrides == 0) _ f does

-- the last test
pub if_last : (Q : Answer × State → Type 0) (test : Bool) (made : Answer × State) (answer : Answer) → Q made
    → IfAllowed Q (cond test (Ok made) (Err answer))
if_last Q true made answer has = has
if_last Q false made answer has = tt

pub if_rule : (Q : Answer × State → Type 0) (r : Result Credential Denial) (f : Credential → Result (Answer × State) Answer)
    → ((c : Credential) → r ≡ Ok c → IfAllowed Q (f c)) → IfAllowed Q (by_rule r >>= f)
if_rule Q (Ok c) f each = each c refl
if_rule Q (Err denial) f each = tt

-- the same of a rule that changes a file
pub if_file_rule : (Q : Answer × State → Type 0) (r : Result File Denial) (f : File → Result (Answer × State) Answer)
    → ((file : File) → r ≡ Ok file → IfAllowed Q (f file)) → IfAllowed Q (by_rule r >>= f)
if_file_rule Q (Ok file) f each = each file refl
if_file_rule Q (Err denial) f each = tt

pub if_ok : {A : Type 0} (Q : Answer × State → Type 0) (r : Result A Answer) (f : A → Result (Answer × State) Answer)
    → ((x : A) → r ≡ Ok x → IfAllowed Q (f x)) → IfAllowed Q (r >>= f)
if_ok Q (Ok x) f each = each x refl
if_ok Q (Err answer) f each = tt

-- ---- a slot, after the sweep that makes room

pub in_slots : (Q : Answer × State → Type 0) (s : State) (full : State → Answer × State) (does : State → ℕ → Answer × State)
    → ((left : List ℕ) → All (Contains s.deferred) left → Q (full (with_left s left)))
    → ((left : List ℕ) (slot : ℕ) → All (Contains s.deferred) left → IsFree (with_left s left) slot → Q (does (with_left s left) slot))
    → Q (in_slot s full does)
in_slots Q s full does none each =
    elim (is_some (least_free s)) as (λ b. Q (option_map_or (does (cond b s (swept s))) (least_free (cond b s (swept s))) (full (cond b s (swept s))))) [
      | true ↦ by s.deferred (All-contains_itself s.deferred) (least_free s) refl
      | false ↦ by [] (All-nil (Contains s.deferred)) (least_free (swept s)) refl
    ]
  where
    by : (left : List ℕ) → All (Contains s.deferred) left → (o : Option ℕ) → least_free (with_left s left) ≡ o
        → Q (option_map_or (does (with_left s left)) o (full (with_left s left)))
    by left fewer None is = none left fewer
    by left fewer (Some slot) is = each left slot fewer (free_slot (with_left s left) slot is)
