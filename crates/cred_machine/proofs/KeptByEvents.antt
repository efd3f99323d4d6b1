-- What is kept by an event, and what the events of lists drop: nothing, unless there was a sweep.
use Rattle.std.proofs.Common.{◌≡◌, ◌<◌, ◌⊎◌, inl, inr, not, ℕ, nat_lt, List, [], ◌∷◌, ◌++◌, length, slice_get, remove, Option, Some, None, true, false, cond}
use Rattle.std.proofs.Common.{is_some, refl, ap, ◌∙◌, arith}
use Rattle.std.specs.List.{All, Contains}
use Rattle.std.specs.Option.{option_map_or}
use Rattle.std.proofs.lemmas.Bool.Decides.{nat_tests}
use Rattle.cred_ids.specs.Limits.{HOLDS}
use Rattle.cred_record.specs.File.{File}
use Rattle.cred_event.specs.declared.answer.Answer.{Answer}
use Rattle.cred_event.specs.declared.answer.Answer.TheVariants.{Done, Kept}
use Rattle.cred_model.specs.Moves.{altered, given_up, holding, in_slot, preparing}
use Rattle.cred_model.specs.Slots.{least_free, refs, swept}
use Rattle.cred_model.specs.State.{State, SealedCred, Broadcast, OpenFile as Open, Hold, Prepared, ProcessFlag, Changed, Numbered, hold_of, prepared_of}
use Rattle.cred_model.specs.LabelEvents.{take_hold}
use Rattle.cred_model.proofs.Lists.{All-left}
use Rattle.cred_model.proofs.Referred.{EachRef, each_deferred, each_files, each_holds, each_prepared}
use Rattle.cred_sound.proofs.Parts.{with_left}
use Rattle.cred_sound.proofs.References.{own_refs}
use Rattle.cred_sound.proofs.Tests.{IfAllowed, if_none, if_fewer}
use Rattle.cred_machine.specs.Kept.{may_have_swept}
use Rattle.cred_machine.proofs.Lasting.{bases_before, last_of, unremoved}

-- The sealed credentials: as they were, or one more, which is referred to.
pub data CredsKept (s t : State) : Type 0 where
  NoneMore : t.creds ≡ s.creds → CredsKept s t
  OneMore : (new : SealedCred) → t.creds ≡ s.creds ++ new ∷ [] → Contains (refs t) (length s.creds) → CredsKept s t

-- All that was referred to is, but for what was given up before, if there was a sweep.
pub record Keeps (s : State) (made : Answer × State) : Type 0 where
  pub left : List ℕ
  pub each : EachRef (Contains (refs made.1)) (with_left s left)
  pub swept : (left ≡ s.deferred) ⊎ (may_have_swept (length s.deferred) made.0 (length made.1.deferred) ≡ true)
  pub creds : CredsKept s made.1

-- all that was given up, or nothing of it where there was some
abbrev pub IsLeft : State → List ℕ → Type 0
IsLeft s left = (left ≡ s.deferred) ⊎ ((left ≡ []) × (0 < length s.deferred))

-- ---- sweeps

all_or_none : (xs : List ℕ) → ([] ≡ xs) ⊎ ((◌≡◌ {A = List ℕ} [] []) × (0 < length xs))
all_or_none [] = inl refl
all_or_none (x ∷ xs) = inr (refl, omega arith)

pub in_slots : (Q : Answer × State → Type 0) (s : State) (full : State → Answer × State) (does : State → ℕ → Answer × State)
    → ((left : List ℕ) → IsLeft s left → Q (full (with_left s left)))
    → ((left : List ℕ) (slot : ℕ) → IsLeft s left → Q (does (with_left s left) slot))
    → Q (in_slot s full does)
in_slots Q s full does none each =
    elim (is_some (least_free s)) as (λ b. Q (option_map_or (does (cond b s (swept s))) (least_free (cond b s (swept s))) (full (cond b s (swept s))))) [
      | true ↦ by s.deferred (inl refl) (least_free s)
      | false ↦ by [] (all_or_none s.deferred) (least_free (swept s))
    ]
  where
    by : (left : List ℕ) → IsLeft s left → (o : Option ℕ) → Q (option_map_or (does (with_left s left)) o (full (with_left s left)))
    by left is None = none left is
    by left is (Some slot) = each left slot is

pub less : (n : ℕ) → 0 < n → nat_lt 0 n ≡ true
less n some = grind (arith, nat_tests)

no_more : (n : ℕ) → 0 < n → not (nat_lt n 1) ≡ true
no_more n some = grind (arith, nat_tests)

-- where nothing more was given up
pub if_left : (s : State) (left : List ℕ) → IsLeft s left → (left ≡ s.deferred) ⊎ (nat_lt (length left) (length s.deferred) ≡ true)
if_left s left (inl same) = inl same
if_left s left (inr none) = inr (ap (λ (ns : List ℕ). nat_lt (length ns) (length s.deferred)) none.0 ∙ less (length s.deferred) none.1)

-- where one number was
pub if_left_one : (s : State) (left : List ℕ) (n : ℕ) → IsLeft s left
    → (left ≡ s.deferred) ⊎ (not (nat_lt (length s.deferred) (length (left ++ n ∷ []))) ≡ true)
if_left_one s left n (inl same) = inl same
if_left_one s left n (inr none) =
    inr (ap (λ (ns : List ℕ). not (nat_lt (length s.deferred) (length (ns ++ n ∷ [])))) none.0 ∙ no_more (length s.deferred) none.1)

-- ---- what events do

-- the sealed credentials refer to nothing
pub each_creds : {P : ℕ → Type 0} {s : State} → EachRef P s → (creds : List SealedCred) → EachRef P (record s { creds = creds })
each_creds each creds =
    record {
      currents = each.currents;
      overrides = each.overrides;
      openers = each.openers;
      holds = each.holds;
      bases = each.bases;
      deferred = each.deferred;
    }

-- what was given up before
pub each_before : {P : ℕ → Type 0} {s : State} → EachRef P s → (before more : List ℕ) → All P (before ++ more) → EachRef P (record s { deferred = before })
each_before {P} each before more late = each_deferred each before (All-left P before more late)

-- Nothing was swept, no credential is new, and all that was referred to is.
pub all_stand : (s t : State) (answer : Answer) → EachRef (Contains (refs t)) s → t.creds ≡ s.creds → Keeps s (answer, t)
all_stand s t answer each same = record { left = s.deferred; each = each; swept = inl refl; creds = NoneMore same }

-- the event is refused, only reads, or only sweeps
pub still : (s : State) (answer : Answer) (left : List ℕ)
    → (left ≡ s.deferred) ⊎ (may_have_swept (length s.deferred) answer (length left) ≡ true) → Keeps s (answer, with_left s left)
still s answer left is = record { left = left; each = own_refs (with_left s left); swept = is; creds = NoneMore refl }

pub refused : (s : State) (answer : Answer) → Keeps s (answer, s)
refused s answer = still s answer s.deferred (inl refl)

-- broadcasts refer to nothing
pub with_broadcasts : (s t : State) (answer : Answer) (broadcasts : List Broadcast) → Keeps s (answer, t)
    → Keeps s (answer, record t { broadcasts = broadcasts })
with_broadcasts s t answer broadcasts keeps = record { left = keeps.left; each = by keeps.each; swept = keeps.swept; creds = more keeps.creds }
  where
    by : EachRef (Contains (refs t)) (with_left s keeps.left) → EachRef (Contains (refs t)) (with_left s keeps.left)
    by each = each

    more : CredsKept s t → CredsKept s (record t { broadcasts = broadcasts })
    more (NoneMore same) = NoneMore same
    more (OneMore new is there) = OneMore new is there

-- and so do the flags
pub with_flags : (s t : State) (answer : Answer) (flags : List ProcessFlag) → Keeps s (answer, t) → Keeps s (answer, record t { dumpable = flags })
with_flags s t answer flags keeps = record { left = keeps.left; each = by keeps.each; swept = keeps.swept; creds = more keeps.creds }
  where
    by : EachRef (Contains (refs t)) (with_left s keeps.left) → EachRef (Contains (refs t)) (with_left s keeps.left)
    by each = each

    more : CredsKept s t → CredsKept s (record t { dumpable = flags })
    more (NoneMore same) = NoneMore same
    more (OneMore new is there) = OneMore new is there

-- and so do the files
pub with_inodes : (s t : State) (answer : Answer) (inodes : List File) → Keeps s (answer, t) → Keeps s (answer, record t { inodes = inodes })
with_inodes s t answer inodes keeps = record { left = keeps.left; each = by keeps.each; swept = keeps.swept; creds = more keeps.creds }
  where
    by : EachRef (Contains (refs t)) (with_left s keeps.left) → EachRef (Contains (refs t)) (with_left s keeps.left)
    by each = each

    more : CredsKept s t → CredsKept s (record t { inodes = inodes })
    more (NoneMore same) = NoneMore same
    more (OneMore new is there) = OneMore new is there

pub takes_hold : (s : State) (label : ℕ) (taken : Numbered) → IfAllowed (Keeps s) (take_hold s label taken)
takes_hold s label taken =
    let Q = Keeps s in
    let hold : Hold = record { label = label; number = taken.number } in
    let t = holding s label taken.number in
    let own = own_refs t in
    if_none Q (hold_of s label) _ _
    (λ new. if_none Q (prepared_of s label) _ _
    (λ unprepared. if_fewer Q (length s.holds) HOLDS _ _
    (all_stand s t _ (each_holds own s.holds (All-left (λ (h : Hold). Contains (refs t) h.number) s.holds (hold ∷ []) own.holds)) refl)))

pub releases : (s : State) (place : ℕ) (hold : Hold) → slice_get s.holds place ≡ Some hold
    → Keeps s (Done, record s { holds = remove s.holds place; deferred = s.deferred ++ hold.number ∷ [] })
releases s place hold is =
    let t = record s { holds = remove s.holds place; deferred = s.deferred ++ hold.number ∷ [] } in
    let H = Contains (refs t) in
    let own = own_refs t in
    all_stand s t Done
    (each_holds (each_before own s.deferred (hold.number ∷ []) own.deferred) s.holds
    (unremoved (λ (h : Hold). H h.number) s.holds place hold is (last_of H s.deferred hold.number own.deferred) own.holds)) refl

pub opens : (s : State) (file : Open) → Keeps s (Done, record s { files = s.files ++ file ∷ [] })
opens s file =
    let t = record s { files = s.files ++ file ∷ [] } in
    let own = own_refs t in
    all_stand s t Done (each_files own s.files (All-left (λ (f : Open). Contains (refs t) f.opener) s.files (file ∷ []) own.openers)) refl

pub closes : (s : State) (place : ℕ) (file : Open) → slice_get s.files place ≡ Some file
    → Keeps s (Done, record s { files = remove s.files place; deferred = s.deferred ++ file.opener ∷ [] })
closes s place file is =
    let t = record s { files = remove s.files place; deferred = s.deferred ++ file.opener ∷ [] } in
    let H = Contains (refs t) in
    let own = own_refs t in
    all_stand s t Done
    (each_files (each_before own s.deferred (file.opener ∷ []) own.deferred) s.files
    (unremoved (λ (f : Open). H f.opener) s.files place file is (last_of H s.deferred file.opener own.deferred) own.openers)) refl

pub prepares : (s : State) (left : List ℕ) (slot : ℕ) (p : Prepared) → IsLeft s left → Keeps s (Kept slot, preparing (with_left s left) p)
prepares s left slot p is =
    let t = preparing (with_left s left) p in
    let own = own_refs t in
    record {
      left = left;
      each = each_prepared own s.prepared (All-left (λ (q : Prepared). Contains (refs t) q.base) s.prepared (p ∷ []) own.bases);
      swept = if_left s left is;
      creds = NoneMore refl;
    }

pub gives_up_prepared : (s : State) (answer : Answer) (place : ℕ) (p : Prepared) → slice_get s.prepared place ≡ Some p
    → Keeps s (answer, given_up s place p)
gives_up_prepared s answer place p is =
    let t = given_up s place p in
    let H = Contains (refs t) in
    let own = own_refs t in
    all_stand s t answer
    (each_prepared (each_before own s.deferred (p.base ∷ []) own.deferred) s.prepared
    (unremoved (λ (q : Prepared). H q.base) s.prepared place p is (last_of H s.deferred p.base own.deferred) own.bases)) refl

pub alters : (s : State) (answer : Answer) (label : ℕ) (to : Changed) → Keeps s (answer, altered s label to)
alters s answer label to =
    let t = altered s label to in
    let own = own_refs t in
    all_stand s t answer (each_prepared own s.prepared (bases_before (Contains (refs t)) label to s.prepared own.bases)) refl
