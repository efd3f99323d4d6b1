-- What stands in a state is in range, and what is found there.
use Rattle.std.proofs.Common.{◌≡◌, ℕ, ◌<◌, ◌≤◌, ◌==◌, nat_lt, Bool, true, false, cond, List, length, Option, Some, None, Result, Ok, Err, refl, subst, arith}
use Rattle.std.specs.List.{All}
use Rattle.std.specs.Option.{IfSome, option_and_then}
use Rattle.std.proofs.lemmas.Bool.Decides.{nat_tests}
use Rattle.std.proofs.lemmas.Option.{slice_get_within}
use Rattle.cred_ids.specs.Limits.{DEPTH, SLOTS}
use Rattle.cred_ids.specs.Tests.{◌>>=◌}
use Rattle.cred_event.specs.declared.answer.Answer.{Answer}
use Rattle.cred_event.specs.declared.answer.Answer.TheVariants as answer
use Rattle.cred_model.specs.Broadcasts.{not_busy}
use Rattle.cred_model.specs.Moves.{fewer_or, not_overridden}
use Rattle.cred_model.specs.State.{State, SealedCred, Task, Broadcast, Prepared, Changed, Numbered, numbered}
use Rattle.cred_model.specs.Step.{outcome}
use Rattle.cred_model.proofs.Lists.{All-at}
use Rattle.cred_model.proofs.Numbers.{numbered_is, sealed_cred_of}
use Rattle.cred_reader.specs.Fits.{IsNumber, FitsCall, FitsGains, FitsAnswer}
use Rattle.cred_fits.proofs.CredFits.{FitsCred}

abbrev pub FitsSealed : SealedCred → Type 0
FitsSealed sealed = FitsCred sealed.cred × (sealed.slot < SLOTS)

abbrev pub FitsTask : Task → Type 0
FitsTask t = IsNumber t.number × (length t.overrides ≤ DEPTH)

abbrev pub FitsBroadcast : Broadcast → Type 0
FitsBroadcast broadcast = IsNumber broadcast.number × FitsCall broadcast.call × All IsNumber broadcast.waiting

abbrev pub FitsChanged : Changed → Type 0
FitsChanged last = FitsCred last.cred × FitsGains last.gains

abbrev pub FitsPrepared : Prepared → Type 0
FitsPrepared p = IsNumber p.task × (p.slot < SLOTS) × IfSome p.changed FitsChanged

-- the sealed credentials, the tasks, the broadcasts and the prepared labels of a state
pub record AreInRange (sealed : List SealedCred) (live : List Task) (going : List Broadcast) (labels : List Prepared) : Type 0 where
  pub creds : All FitsSealed sealed
  pub tasks : All FitsTask live
  pub broadcasts : All FitsBroadcast going
  pub prepared : All FitsPrepared labels

abbrev pub IsInRange : State → Type 0
IsInRange s = AreInRange s.creds s.tasks s.broadcasts s.prepared

-- what an event answers, and the state after it
abbrev pub Good : Answer × State → Type 0
Good made = FitsAnswer made.0 × IsInRange made.1

abbrev pub Gives : State → Result (Answer × State) Answer → Type 0
Gives s r = Good (outcome s r)

-- ---- what is found

pub some_fits : {A : Type 0} (P : A → Type 0) (o : Option A) (x : A) → IfSome o P → o ≡ Some x → P x
some_fits P None x h is = absurd (cc)
some_fits P (Some y) x h is = let same : y ≡ x = cc in subst P same h

-- a credential that is found is one of those that are sealed
pub record IsFound (s : State) (c : Numbered) : Type 0 where
  pub cred : FitsCred c.cred
  pub slot : c.slot < SLOTS
  pub number : c.number < length s.creds

pub is_found : (s : State) (number : ℕ) (c : Numbered) → All FitsSealed s.creds → numbered s.creds number ≡ Some c → IsFound s c
is_found s number c all is =
    let at = numbered_is s.creds number c is in
    let fits = All-at FitsSealed s.creds number (sealed_cred_of c) at.1 all in
    let lt = slice_get_within s.creds number (sealed_cred_of c) at.1 in
    record { cred = fits.0; slot = fits.1; number = rw at.0 lt }

pub found_by : {A : Type 0} (s : State) (of : A → ℕ) (found : Option A) (c : Numbered) → All FitsSealed s.creds
    → option_and_then (λ a. numbered s.creds (of a)) found ≡ Some c → IsFound s c
found_by s of None c all is = absurd (cc)
found_by s of (Some a) c all is = is_found s (of a) c all is

-- ---- tests

pub idle : (s : State) (found : Option Broadcast) (f : Unit {0} → Result (Answer × State) Answer) → IfSome found FitsBroadcast → IsInRange s
    → Gives s (f tt) → Gives s (not_busy found >>= f)
idle s None f fits range each = each
idle s (Some broadcast) f fits range each = (fits.0, range)

pub own : (s : State) (t : Task) (f : Unit {0} → Result (Answer × State) Answer) → FitsTask t → IsInRange s → Gives s (f tt)
    → Gives s (not_overridden t >>= f)
own s t f fits range each =
    elim (length t.overrides == 0) as
    (λ b. Gives s (let r : Result (Unit {0}) Answer = cond b (Ok tt) (Err (answer.Overridden (length t.overrides))) in r >>= f)) [
      | true ↦ each
      | false ↦ (let few = fits.1 in omega (arith, few), range)
    ]

pub fewer : (s : State) (count limit : ℕ) (refused : Answer) (f : Unit {0} → Result (Answer × State) Answer) → FitsAnswer refused → IsInRange s
    → (count < limit → Gives s (f tt)) → Gives s (fewer_or count limit refused >>= f)
fewer s count limit refused f none range each = by (nat_lt count limit) refl
  where
    by : (b : Bool) → nat_lt count limit ≡ b → Gives s (let r : Result (Unit {0}) Answer = cond b (Ok tt) (Err refused) in r >>= f)
    by true is = each (grind (arith, nat_tests))
    by false is = (none, range)
