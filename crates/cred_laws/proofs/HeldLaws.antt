-- What was sealed, and what is held, stays as it is.
use Rattle.std.proofs.Common.{◌≡◌, ◌≢◌, ◌==◌, ℕ, List, [], ◌∷◌, ◌++◌, length, take, fold, Option, Some, None, refl, sym, ap, ◌∙◌, subst, append_assoc}
use Rattle.std.specs.List.{All, find}
use Rattle.std.specs.Option.{option_and_then, option_or}
use Rattle.std.proofs.lemmas.List.{append-nil, take_at}
use Rattle.std.proofs.lemmas.List.Elements.{All-head, All-tail}
use Rattle.std.proofs.lemmas.List.Folds.{find-append}
use Rattle.cred_event.specs.declared.event.Event.{Event}
use Rattle.cred_event.specs.declared.event.Event.TheVariants.{Release}
use Rattle.cred_event.specs.declared.entry.Entry.{Entry}
use Rattle.cred_model.specs.Script.{Script}
use Rattle.cred_model.specs.State.{State, SealedCred, Hold, Numbered, numbered, hold_of, held_by, opening}
use Rattle.cred_model.specs.Step.{step}
use Rattle.cred_model.specs.Journal.{replay}
use Rattle.cred_laws.specs.Held.{SealedStays, HoldStays, HeldStays}
use Rattle.cred_model.proofs.Lists.{find-remove_other}
use Rattle.cred_model.proofs.Numbers.{numbered_stays}
use Rattle.cred_sound.proofs.Parts.{CredsChange, ListChange, SameCreds, Seals, Stays, Adds, Removes}
use Rattle.cred_sound.proofs.Events.{changes}

-- ---- the states after more entries

abbrev pub goes_on : Script → State → List Entry → State
goes_on script s entries = fold (λ (state : State) (entry : Entry). (step script state entry.line entry.event).1) s entries

goes_on-append : (script : Script) (s : State) (xs ys : List Entry)
    → goes_on script s (xs ++ ys) ≡ goes_on script (goes_on script s xs) ys
goes_on-append script s [] ys = refl
goes_on-append script s (x ∷ xs) ys = goes_on-append script (step script s x.line x.event).1 xs ys

pub replay-append : (script : Script) (journal more : List Entry)
    → replay script (journal ++ more) ≡ goes_on script (replay script journal) more
replay-append script journal more = goes_on-append script (opening script) journal more

-- ---- sealed credentials

-- these credentials are the state's, and perhaps others after them
abbrev pub Extends : State → List SealedCred → Type 0
Extends s creds = (more : List SealedCred) × (creds ≡ s.creds ++ more)

same_creds : (s : State) (creds : List SealedCred) → creds ≡ s.creds → Extends s creds
same_creds s creds kept = ([], kept ∙ sym (append-nil s.creds))

extends : (s : State) (event : Event) (left : List ℕ) (t : State) → CredsChange s event left t → Extends s t.creds
extends s event left t (SameCreds same) = same_creds s t.creds same
extends s event left t (Seals c slot creds fits origin) = (_, creds)

pub step_extends : (script : Script) (s : State) (line : ℕ) (event : Event) → Extends s (step script s line event).1.creds
step_extends script s line event = let c = changes script s line event in extends s event c.left _ c.creds

pub on_extends : (script : Script) (s : State) (entries : List Entry) → Extends s (goes_on script s entries).creds
on_extends script s [] = same_creds s s.creds refl
on_extends script s (entry ∷ entries) =
    let first = step_extends script s entry.line entry.event in
    let rest = on_extends script (step script s entry.line entry.event).1 entries in (
      first.0 ++ rest.0,
      rest.1 ∙ ap (λ creds. creds ++ rest.0) first.1 ∙ append_assoc s.creds first.0 rest.0,
    )

pub sealed_stays : SealedStays
sealed_stays script journal more =
    let s = replay script journal in
    let grown = on_extends script s more in
    ap (λ (after : State). take (length s.creds) after.creds) (replay-append script journal more)
    ∙ ap (take (length s.creds)) grown.1 ∙ take_at s.creds grown.0 (length s.creds) refl

-- ---- what stays over each event, and over more entries

-- what is found by a number in a list is still found, where the event doesn't end that
pub still_found : {X : Type 0} (name : X → ℕ) (IsNew : X → Type 0) (IsGone : ℕ → Type 0) (xs ys : List X) (wanted : ℕ) (x : X)
    → ListChange X name IsNew IsGone xs ys → find (λ y. name y == wanted) xs ≡ Some x → (IsGone wanted → ⊥)
    → find (λ y. name y == wanted) ys ≡ Some x
still_found name IsNew IsGone xs ys wanted x (Stays same) is goes_on = ap (find (λ y. name y == wanted)) same ∙ is
still_found name IsNew IsGone xs ys wanted x (Adds new more none fresh) is goes_on =
    ap (find (λ y. name y == wanted)) more
    ∙ find-append (λ y. name y == wanted) xs (new ∷ [])
    ∙ ap (λ o. option_or o (find (λ y. name y == wanted) (new ∷ []))) is
still_found name IsNew IsGone xs ys wanted x (Removes gone place old ended less at found) is goes_on =
    ap (find (λ y. name y == wanted)) less
    ∙ find-remove_other name xs wanted gone place old at found (λ same. goes_on (subst IsGone same ended))
    ∙ is

-- what each event of a kind leaves, all of them leave
pub left_by_each : (P : State → Type 0) (Spares : Event → Type 0)
    → ((script : Script) (s : State) (line : ℕ) (event : Event) → P s → Spares event → P (step script s line event).1)
    → (script : Script) (s : State) (entries : List Entry) → P s → All (λ entry. Spares entry.event) entries
    → P (goes_on script s entries)
left_by_each P Spares leaves script s [] is each = is
left_by_each P Spares leaves script s (entry ∷ entries) is each =
    left_by_each P Spares leaves script (step script s entry.line entry.event).1 entries
    (leaves script s entry.line entry.event is (All-head (λ e. Spares e.event) entry entries each))
    (All-tail (λ e. Spares e.event) entry entries each)

-- where what is found stays, the credential that it refers to does
pub still_refers : {X : Type 0} (f : X → ℕ) (script : Script) (s : State) (entries : List Entry) (before after : Option X) (c : Numbered)
    → ((x : X) → before ≡ Some x → after ≡ Some x) → option_and_then (λ x. numbered s.creds (f x)) before ≡ Some c
    → option_and_then (λ x. numbered (goes_on script s entries).creds (f x)) after ≡ Some c
still_refers f script s entries None after c stays at = cc
still_refers f script s entries (Some x) after c stays at =
    let now = goes_on script s entries in
    let grown = on_extends script s entries in
    ap (option_and_then (λ x. numbered now.creds (f x))) (stays x refl)
    ∙ ap (λ creds. numbered creds (f x)) grown.1 ∙ numbered_stays s.creds grown.0 (f x) c at

-- ---- holds

pub hold_stays : HoldStays
hold_stays script s line event label hold is other =
    let c = changes script s line event in
    still_found (λ (h : Hold). h.label) _ _ s.holds _ label hold c.holds is other

-- ---- what a label holds

pub held_stays : HeldStays
held_stays script journal more label held is none =
    let s = replay script journal in
    ap (λ (after : State). held_by after label) (replay-append script journal more)
    ∙ still_refers (λ (h : Hold). h.number) script s more (hold_of s label) (hold_of (goes_on script s more) label) held
    (λ hold at. left_by_each (λ t. hold_of t label ≡ Some hold) (λ event. event ≢ Release label)
    (λ script s line event. hold_stays script s line event label hold) script s more at none)
    is
