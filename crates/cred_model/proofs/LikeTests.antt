-- The tests of an event, and what it leaves, in two states that are alike.
use Rattle.std.proofs.Common.{◌≡◌, ℕ, List, [], ◌∷◌, ◌++◌, length, Option, Some, None, Result, Ok, Err, ok_or, cond, is_some, refl, sym, ap, ◌∙◌, subst, arith}
use Rattle.std.specs.Option.{IfSome, option_map_or}
use Rattle.std.proofs.lemmas.List.{map-append}
use Rattle.std.proofs.lemmas.List.Elements.{All-nil, All-weaker}
use Rattle.std.proofs.lemmas.Option.{slice_get_past}
use Rattle.cred_event.specs.declared.answer.Answer.{Answer}
use Rattle.cred_model.specs.State.{State, Broadcast, ProcessFlag, SealedCred}
use Rattle.cred_model.specs.Slots.{refs, least_free, swept}
use Rattle.cred_model.specs.Moves.{in_slot, table_full}
use Rattle.cred_model.specs.Step.{outcome}
use Rattle.cred_model.specs.Like.{IsLike, AreAlike}
use Rattle.cred_model.proofs.Referred.{EachRef, refs_each, each_deferred}
use Rattle.cred_model.proofs.LikeReads.{with, Same, slots_of, each_same, same_length, same_free, same_past}
use Rattle.cred_ids.specs.Tests.{◌>>=◌}

-- ---- the tests of an event

abbrev pub BothAre : Result (Answer × State) Answer → Result (Answer × State) Answer → Type 0
BothAre (Ok a) (Ok b) = AreAlike a b
BothAre (Err a) (Err b) = a ≡ b
BothAre a b = ⊥

pub outcome_like : (s t : State) (p q : Result (Answer × State) Answer) → IsLike s t → BothAre p q
    → AreAlike (outcome s p) (outcome t q)
outcome_like s t (Ok a) (Ok b) like both = both
outcome_like s t (Err a) (Err b) like both = record { answers = both; states = like }
outcome_like s t (Ok a) (Err b) like both = absurd both
outcome_like s t (Err a) (Ok b) like both = absurd both

-- a test that goes by what is the same in both
pub tested : {A : Type 0} (r : Result A Answer) (f g : A → Result (Answer × State) Answer)
    → ((x : A) → BothAre (f x) (g x)) → BothAre (r >>= f) (r >>= g)
tested (Ok x) f g each = each x
tested (Err answer) f g each = refl

-- one that finds the same in both
pub read : {A : Type 0} (o p : Option A) (answer : Answer) (f g : A → Result (Answer × State) Answer) → o ≡ p
    → ((x : A) → BothAre (f x) (g x)) → BothAre (ok_or o answer >>= f) (ok_or p answer >>= g)
read o p answer f g same each =
    subst (λ p. BothAre (ok_or o answer >>= f) (ok_or p answer >>= g)) same (tested (ok_or o answer) f g each)

found_one : {A : Type 0} (P : A → Type 0) (o : Option A) (answer : Answer) (f g : A → Result (Answer × State) Answer)
    → IfSome o P → ((x : A) → P x → BothAre (f x) (g x)) → BothAre (ok_or o answer >>= f) (ok_or o answer >>= g)
found_one P None answer f g holds each = refl
found_one P (Some x) answer f g holds each = each x holds

-- one that finds the same in both, where P holds of it
pub found : {A : Type 0} (P : A → Type 0) (o p : Option A) (answer : Answer) (f g : A → Result (Answer × State) Answer)
    → o ≡ p → IfSome o P → ((x : A) → P x → BothAre (f x) (g x)) → BothAre (ok_or o answer >>= f) (ok_or p answer >>= g)
found P o p answer f g same holds each =
    subst (λ p. BothAre (ok_or o answer >>= f) (ok_or p answer >>= g)) same (found_one P o answer f g holds each)

-- what is done with what both find, or where they find nothing
pub either : {A : Type 0} (P : A → Type 0) (o p : Option A) (f g : A → Result (Answer × State) Answer) (x y : Result (Answer × State) Answer)
    → o ≡ p → IfSome o P → ((a : A) → P a → BothAre (f a) (g a)) → BothAre x y → BothAre (option_map_or f o x) (option_map_or g p y)
either P o p f g x y same holds each none =
    subst (λ p. BothAre (option_map_or f o x) (option_map_or g p y)) same
    (elim o as (λ o. IfSome o P → BothAre (option_map_or f o x) (option_map_or g o y)) [
      | None ↦ λ holds. none
      | Some a ↦ λ holds. each a holds
    ] holds)

-- ---- what an event leaves

-- a state that refers to nothing but what is the same in both
pub like_with : (t : State) (cs : List SealedCred) → slots_of t.creds ≡ slots_of cs → EachRef (Same t.creds cs) t
    → IsLike t (with t cs)
like_with t cs slots each = record {
  tasks = refl;
  broadcasts = refl;
  files = refl;
  holds = refl;
  prepared = refl;
  deferred = refl;
  dumpable = refl;
  inodes = refl;
  slots = slots;
  creds = refs_each (Same t.creds cs) t each;
}

-- the same is done to the broadcasts of both
pub like_broadcasts : {a b : State} (f : List Broadcast → List Broadcast) → IsLike a b
    → IsLike (record a { broadcasts = f a.broadcasts }) (record b { broadcasts = f b.broadcasts })
like_broadcasts f like = record {
  tasks = like.tasks;
  broadcasts = ap f like.broadcasts;
  files = like.files;
  holds = like.holds;
  prepared = like.prepared;
  deferred = like.deferred;
  dumpable = like.dumpable;
  inodes = like.inodes;
  slots = like.slots;
  creds = like.creds;
}

-- the same processes are dumpable in both
pub like_flags : {a b : State} (flags : List ProcessFlag) → IsLike a b
    → IsLike (record a { dumpable = flags }) (record b { dumpable = flags })
like_flags flags like = record {
  tasks = like.tasks;
  broadcasts = like.broadcasts;
  files = like.files;
  holds = like.holds;
  prepared = like.prepared;
  deferred = like.deferred;
  dumpable = refl;
  inodes = like.inodes;
  slots = like.slots;
  creds = like.creds;
}

slots_past : (bs cs : List SealedCred) (x : SealedCred) → slots_of bs ≡ slots_of cs → slots_of (bs ++ x ∷ []) ≡ slots_of (cs ++ x ∷ [])
slots_past bs cs x same =
    map-append (λ (sealed : SealedCred). sealed.slot) bs (x ∷ [])
    ∙ ap (λ slots. slots ++ x.slot ∷ []) same
    ∙ sym (map-append (λ sealed. sealed.slot) cs (x ∷ []))

-- a state in which one credential more is sealed
pub like_sealed : (answer : ℕ → Answer) (t : ℕ → State) (bs cs : List SealedCred) (x : SealedCred) → slots_of bs ≡ slots_of cs
    → EachRef (Same bs cs) (t (length bs))
    → AreAlike (answer (length bs), with (t (length bs)) (bs ++ x ∷ [])) (answer (length cs), with (t (length cs)) (cs ++ x ∷ []))
like_sealed answer t bs cs x same each =
    let long = same_length bs cs same in
    subst (λ n. AreAlike (answer (length bs), with (t (length bs)) (bs ++ x ∷ [])) (answer n, with (t n) (cs ++ x ∷ []))) long
    (record {
      answers = refl;
      states = record {
        tasks = refl;
        broadcasts = refl;
        files = refl;
        holds = refl;
        prepared = refl;
        deferred = refl;
        dumpable = refl;
        inodes = refl;
        slots = slots_past bs cs x same;
        creds = All-weaker (Same bs cs) (Same (bs ++ x ∷ []) (cs ++ x ∷ [])) (λ n. same_past bs cs n x long)
            (refs (t (length bs))) (refs_each (Same bs cs) (t (length bs)) each);
      };
    })

-- the number that is sealed next
pub same_next : (bs cs : List SealedCred) → slots_of bs ≡ slots_of cs → Same bs cs (length bs)
same_next bs cs same =
    let long = same_length bs cs same in
    slice_get_past bs (length bs) (omega arith) ∙ sym (slice_get_past cs (length bs) (omega arith))

-- ---- events that want a slot

-- the state where these were given up
abbrev pub gave : State → List ℕ → State
gave s numbers = record s { deferred = numbers }

-- where no slot is free
pub full_like : (s : State) (cs : List SealedCred) → slots_of s.creds ≡ slots_of cs → (numbers : List ℕ)
    → EachRef (Same s.creds cs) (gave s numbers)
    → AreAlike (table_full (gave s numbers)) (table_full (with (gave s numbers) cs))
full_like s cs slots numbers each = record { answers = refl; states = like_with (gave s numbers) cs slots each }

one_slot : (s : State) (cs : List SealedCred) (full : State → Answer × State) (does : State → ℕ → Answer × State)
    → slots_of s.creds ≡ slots_of cs → AreAlike (full s) (full (with s cs))
    → ((slot : ℕ) → AreAlike (does s slot) (does (with s cs) slot))
    → AreAlike (option_map_or (does s) (least_free s) (full s)) (option_map_or (does (with s cs)) (least_free (with s cs)) (full (with s cs)))
one_slot s cs full does slots none each =
    subst (λ o. AreAlike (option_map_or (does s) (least_free s) (full s)) (option_map_or (does (with s cs)) o (full (with s cs))))
    (same_free s cs slots)
    (elim (least_free s) as (λ o. AreAlike (option_map_or (does s) o (full s)) (option_map_or (does (with s cs)) o (full (with s cs)))) [
      | None ↦ none
      | Some slot ↦ each slot
    ])

abbrev taken_from : (State → Answer × State) → (State → ℕ → Answer × State) → State → Option ℕ → Answer × State
taken_from full does s free =
    let now = cond (is_some free) s (swept s) in option_map_or (does now) (least_free now) (full now)

-- it does the same whether or not there was a sweep
pub in_slots : (s : State) (cs : List SealedCred) (full : State → Answer × State) (does : State → ℕ → Answer × State)
    → IsLike s (with s cs)
    → ((numbers : List ℕ) → EachRef (Same s.creds cs) (gave s numbers) → AreAlike (full (gave s numbers)) (full (with (gave s numbers) cs)))
    → ((numbers : List ℕ) → EachRef (Same s.creds cs) (gave s numbers) → (slot : ℕ)
    → AreAlike (does (gave s numbers) slot) (does (with (gave s numbers) cs) slot))
    → AreAlike (in_slot s full does) (in_slot (with s cs) full does)
in_slots s cs full does like none each =
    let refs = each_same s cs like in
    let gone : EachRef (Same s.creds cs) (swept s) = each_deferred refs [] (All-nil (Same s.creds cs)) in
    subst (λ o. AreAlike (taken_from full does s (least_free s)) (taken_from full does (with s cs) o)) (same_free s cs like.slots)
    (elim (least_free s) as (λ o. AreAlike (taken_from full does s o) (taken_from full does (with s cs) o)) [
      | None ↦ one_slot (swept s) cs full does like.slots (none [] gone) (each [] gone)
      | Some slot ↦ one_slot s cs full does like.slots (none s.deferred refs) (each s.deferred refs)
    ])
