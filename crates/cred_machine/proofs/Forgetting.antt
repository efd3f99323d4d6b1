-- What is forgotten, and what stays so.
use Rattle.std.proofs.Common.{◌≡◌, ◌==◌, ◌||◌, ◌⊎◌, inl, inr, ℕ, zero, suc, Bool, true, false, List, [], ◌∷◌, ◌++◌, length, map, slice_get, Result, Ok, Err}
use Rattle.std.proofs.Common.{refl, sym, ap, ◌∙◌, subst, arith}
use Rattle.std.specs.List.{All, Contains, flat_map, list_any}
use Rattle.std.specs.Option.{IfSome}
use Rattle.std.specs.Result.{IfOk, OnErr}
use Rattle.std.proofs.lemmas.Bool.Decides.{nat_tests}
use Rattle.std.proofs.lemmas.List.Elements.{All-contains_itself, All-head, All-tail, All-weaker}
use Rattle.std.proofs.lemmas.List.Folds.{list_any-append, list_any_at}
use Rattle.cred_event.specs.declared.answer.Answer.{Answer}
use Rattle.cred_event.specs.declared.event.Event.{Event}
use Rattle.cred_event.specs.declared.event.Event.TheVariants.{Raw}
use Rattle.cred_model.specs.Script.{Script}
use Rattle.cred_model.specs.State.{State, SealedCred, Task, OpenFile, Hold, Prepared}
use Rattle.cred_model.specs.Slots.{refs}
use Rattle.cred_model.specs.Step.{done}
use Rattle.cred_model.specs.Like.{GivesLike, IsLike, IsOutcomeLike}
use Rattle.cred_model.proofs.Referred.{refs_each}
use Rattle.cred_sound.specs.Sound.{IsSound}
use Rattle.cred_sound.proofs.Parts.{with_left}
use Rattle.cred_sound.proofs.Sound.{like_sound, step_sound}
use Rattle.cred_plain.specs.Creds.{gone, slots_of}
use Rattle.cred_machine.specs.Kept.{KeepsReferred, as_begun, may_have_swept, may_have_dropped}
use Rattle.cred_plain.specs.References.{is_among, refer_to}
use Rattle.cred_plain.specs.declared.references.References.{References}
use Rattle.cred_machine.proofs.Free.{any-map}
use Rattle.cred_machine.proofs.KeptByEvents.{CredsKept, Keeps, NoneMore, OneMore}
use Rattle.cred_machine.proofs.NothingIsLost.{counted}

-- ---- what refers

or_all : (a b c d e f : Bool) → ((a || (b || (c || (d || (e || false))))) || f) ≡ ((a || b) || ((c || (d || e)) || f))
or_all true b c d e f = refl
or_all false true c d e f = refl
or_all false false true d e f = refl
or_all false false false true e f = refl
or_all false false false false true f = refl
or_all false false false false false f = refl

any_parts : (p : ℕ → Bool) (a b c d e f : List ℕ)
    → list_any p ((a ++ (b ++ (c ++ (d ++ (e ++ []))))) ++ f)
    ≡ ((list_any p a || list_any p b) || ((list_any p c || (list_any p d || list_any p e)) || list_any p f))
any_parts p a b c d e f = simp list_any-append (or_all (list_any p a) (list_any p b) (list_any p c) (list_any p d) (list_any p e) (list_any p f))

any-flat_map : {X Y : Type 0} (p : Y → Bool) (f : X → List Y) (xs : List X) → list_any p (flat_map f xs) ≡ list_any (λ x. list_any p (f x)) xs
any-flat_map p f [] = refl
any-flat_map p f (x ∷ xs) =
    list_any-append p (f x) (flat_map f xs)
    ∙ ap (λ b. list_any p (f x) || b) (any-flat_map p f xs)

-- these are what refers in the state
pub record AreOf (r : References) (s : State) : Type 0 where
  pub tasks : r.tasks.now ≡ s.tasks
  pub files : r.files.now ≡ s.files
  pub holds : r.holds.now ≡ s.holds
  pub prepared : r.prepared.now ≡ s.prepared
  pub deferred : r.deferred.now ≡ s.deferred

refer_is : (r : References) (s : State) (n : ℕ) → AreOf r s → refer_to r n ≡ is_among (refs s) n
refer_is r s n are =
    let p : ℕ → Bool = λ m. m == n in
    rw (are.tasks, are.files, are.holds, are.prepared, are.deferred)
    (sym (any_parts p (map (λ (t : Task). t.current) s.tasks) (flat_map (λ (t : Task). t.overrides) s.tasks) (map (λ (f : OpenFile). f.opener) s.files)
    (map (λ (h : Hold). h.number) s.holds) (map (λ (q : Prepared). q.base) s.prepared) s.deferred
    ∙ rw (
      any-map p (λ (t : Task). t.current) s.tasks,
      any-flat_map p (λ (t : Task). t.overrides) s.tasks,
      any-map p (λ (f : OpenFile). f.opener) s.files,
      any-map p (λ (h : Hold). h.number) s.holds,
      any-map p (λ (q : Prepared). q.base) s.prepared,
    ) refl))

-- what is found among them
among : (ns : List ℕ) (n : ℕ) → Contains ns n → is_among ns n ≡ true
among ns n has =
    let same = has.2 in
    list_any_at (λ m. m == n) ns has.0 n has.1 (grind (arith, nat_tests))

any_keeps : (p : ℕ → Bool) (ns : List ℕ) (n : ℕ) → All (λ m. p m ≡ true) ns → is_among ns n ≡ true → p n ≡ true
any_keeps p [] n each is = cc
any_keeps p (m ∷ ns) n each is =
    elim (m == n) as (λ b. (m == n) ≡ b → (b || is_among ns n) ≡ true → p n ≡ true) [
      | true ↦ λ test there. let same : m ≡ n = grind (arith, nat_tests) in subst (λ k. p k ≡ true) same (All-head (λ m. p m ≡ true) m ns each)
      | false ↦ λ test there. any_keeps p ns n (All-tail (λ m. p m ≡ true) m ns each) there
    ] refl is

not_among : (before after : List ℕ) (n : ℕ) → All (Contains after) before → is_among after n ≡ false → is_among before n ≡ false
not_among before after n each none =
    elim (is_among before n) as (λ b. is_among before n ≡ b → b ≡ false) [
      | true ↦ λ is.
          let has = any_keeps (is_among after) before n (All-weaker (Contains after) (λ m. is_among after m ≡ true) (among after) before each) is in
          sym has ∙ none
      | false ↦ λ is. refl
    ] refl

-- ---- what is forgotten

-- The state, where these credentials stand in its own's place.
module _ (s : State) (creds : List SealedCred) (r : References) (are : AreOf r s) where
  pub forgets : slots_of creds ≡ slots_of s.creds → ((n : ℕ) → refer_to r n ≡ true → slice_get creds n ≡ slice_get s.creds n)
      → IsLike (record s { creds = creds }) s
  forgets slots kept = record {
    tasks = refl;
    broadcasts = refl;
    files = refl;
    holds = refl;
    prepared = refl;
    deferred = refl;
    dumpable = refl;
    inodes = refl;
    slots = slots;
    creds = All-weaker (Contains (refs s)) (λ n. slice_get creds n ≡ slice_get s.creds n)
        (λ n has. kept n (refer_is r s n are ∙ among (refs s) n has)) (refs s) (All-contains_itself (refs s));
  }

  pub keeps_referred : ((n : ℕ) → refer_to r n ≡ false → IfSome (slice_get creds n) (λ sealed. sealed.cred ≡ gone))
      → KeepsReferred (record s { creds = creds })
  keeps_referred forgotten n none = forgotten n (refer_is r s n are ∙ none)

-- ---- what an event leaves

-- what is said of the one at each place, with one more
get_push : {X : Type 0} (P : X → Type 0) (xs : List X) (x : X) (n : ℕ) → IfSome (slice_get xs n) P → (n ≡ length xs → P x)
    → IfSome (slice_get (xs ++ x ∷ []) n) P
get_push P [] x zero each last = last refl
get_push P [] x (suc n) each last = tt
get_push P (y ∷ ys) x zero each last = each
get_push P (y ∷ ys) x (suc n) each last = get_push P ys x n each (λ is. last (ap suc is))

still_kept : (s t : State) → CredsKept s t → All (Contains (refs t)) (refs s) → KeepsReferred s → KeepsReferred t
still_kept s t (NoneMore same) each before n none =
    subst (λ (creds : List SealedCred). IfSome (slice_get creds n) (λ sealed. sealed.cred ≡ gone)) (sym same)
    (before n (not_among (refs s) (refs t) n each none))
still_kept s t (OneMore new is there) each before n none =
    subst (λ (creds : List SealedCred). IfSome (slice_get creds n) (λ sealed. sealed.cred ≡ gone)) (sym is)
    (get_push (λ (sealed : SealedCred). sealed.cred ≡ gone) s.creds new n (before n (not_among (refs s) (refs t) n each none))
    (λ last.
    let has : is_among (refs t) n ≡ true = ap (is_among (refs t)) last ∙ among (refs t) (length s.creds) there in
    let never : true ≡ false = sym has ∙ none in
    cc))

-- Where nothing was swept away, nothing has to be forgotten.
pub stays_kept : (s t : State) (answer : Answer) → Keeps s (answer, t) → may_have_swept (length s.deferred) answer (length t.deferred) ≡ false
    → KeepsReferred s → KeepsReferred t
stays_kept s t answer keeps unswept before = by keeps.swept
  where
    by : (keeps.left ≡ s.deferred) ⊎ (may_have_swept (length s.deferred) answer (length t.deferred) ≡ true) → KeepsReferred t
    by (inl same) =
        still_kept s t keeps.creds
        (subst (λ (left : List ℕ). All (Contains (refs t)) (refs (with_left s left))) same (refs_each (Contains (refs t)) (with_left s keeps.left) keeps.each))
        before
    by (inr swept) = let never : true ≡ false = sym swept ∙ unswept in cc

-- so it is where the event dropped nothing
pub still_referred : (s t : State) (event : Event) (answer : Answer) → Keeps s (counted event (answer, t))
    → may_have_dropped event (length s.deferred) answer (length t.deferred) ≡ false → KeepsReferred s → KeepsReferred t
still_referred s t (Raw task call) answer keeps kept before = stays_kept s t (as_begun answer) keeps kept before
still_referred s t event answer keeps kept before = stays_kept s t answer keeps kept before

-- what an event gave, where something was forgotten after it
pub gives_like : (gives : Answer × State) (answer : Answer) (mid after : State) → gives ≡ (answer, mid) → IsLike after mid → IsOutcomeLike gives answer after
gives_like gives answer mid after is like = record {
  answers = ap (λ (g : Answer × State). g.0) is;
  leads = subst (λ (s : State). IsLike after s) (sym (ap (λ (g : Answer × State). g.1) is)) like;
}

-- a sound state stays so
pub step_keeps_sound : {E : Type 0} (script : Script) (s after : State) (line : ℕ) (event : Event) (made : Result Answer E) → IsSound s
    → IfOk made (λ answer. GivesLike s (done script s line event) answer after) → OnErr made (after ≡ s) → IsSound after
step_keeps_sound script s after line event (Ok answer) sound gives same = like_sound after _ gives.leads (step_sound script s line event sound)
step_keeps_sound script s after line event (Err e) sound gives same = subst IsSound (sym same) sound
