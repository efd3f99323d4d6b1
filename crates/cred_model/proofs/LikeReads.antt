-- What an event reads of a state, where another has the same but for credentials that nothing
-- refers to.
use Rattle.std.proofs.Common.{◌≡◌, ◌==◌, ◌||◌, not, ℕ, zero, suc, List, [], ◌∷◌, ◌++◌, length, map, slice_get, Some, None, Bool, false, refl, sym, ap, ◌∙◌}
use Rattle.std.proofs.Common.{arith}
use Rattle.std.specs.List.{All, find, list_any}
use Rattle.std.specs.Option.{IfSome, option_and_then, option_map, option_map_or}
use Rattle.std.proofs.lemmas.List.{length-map}
use mathlib.Core.Path.{fun_ext}
use Rattle.cred_event.specs.declared.event.Side.{Side}
use Rattle.cred_model.specs.State.{State, SealedCred, Numbered, number_on, numbered, current_of, credential_of, opener_of, held_by}
use Rattle.cred_model.specs.Slots.{refs, stands_in, is_kept, least_free}
use Rattle.cred_model.specs.Like.{IsLike}
use Rattle.cred_model.proofs.Lists.{find_each, then_same, then_each}
use Rattle.cred_model.proofs.Referred.{EachRef, each_ref, each_side}
use Rattle.cred_ids.specs.Limits.{slots}

-- the state with these credentials in the place of its own
abbrev pub with : State → List SealedCred → State
with s cs = record s { creds = cs }

-- the two lists have the same at this number
abbrev pub Same : List SealedCred → List SealedCred → ℕ → Type 0
Same bs cs n = slice_get bs n ≡ slice_get cs n

-- the slots of these credentials
abbrev pub slots_of : List SealedCred → List ℕ
slots_of creds = map (λ sealed. sealed.slot) creds

pub each_same : (s : State) (cs : List SealedCred) → IsLike s (with s cs) → EachRef (Same s.creds cs) s
each_same s cs like = each_ref (Same s.creds cs) s like.creds

-- ---- credentials

pub same_numbered : (bs cs : List SealedCred) (n : ℕ) → Same bs cs n → numbered bs n ≡ numbered cs n
same_numbered bs cs n =
    ap (option_map (λ (sealed : SealedCred). record { number = n; cred = sealed.cred; slot = sealed.slot }))

-- The credential that what is found in a list refers to.
same_found : {X : Type 0} (f : X → ℕ) (p : X → Bool) (bs cs : List SealedCred) (xs : List X) → All (λ x. Same bs cs (f x)) xs
    → option_and_then (λ x. numbered bs (f x)) (find p xs) ≡ option_and_then (λ x. numbered cs (f x)) (find p xs)
same_found f p bs cs xs each =
    then_same (λ x. numbered bs (f x)) (λ x. numbered cs (f x)) (find p xs)
    (find_each (λ x. numbered bs (f x) ≡ numbered cs (f x)) p xs (λ k d lt. same_numbered bs cs _ (each k d lt)))

pub same_credential : (s : State) (cs : List SealedCred) (task : ℕ) (side : Side) → IsLike s (with s cs)
    → credential_of s task side ≡ credential_of (with s cs) task side
same_credential s cs task side like =
    same_found (number_on side) (λ t. t.number == task) s.creds cs s.tasks (each_side side (each_same s cs like))

pub same_opener : (s : State) (cs : List SealedCred) (fd : ℕ) → IsLike s (with s cs)
    → opener_of s fd ≡ opener_of (with s cs) fd
same_opener s cs fd like =
    same_found (λ f. f.opener) (λ f. f.fd == fd) s.creds cs s.files (each_same s cs like).openers

pub same_held : (s : State) (cs : List SealedCred) (label : ℕ) → IsLike s (with s cs)
    → held_by s label ≡ held_by (with s cs) label
same_held s cs label like =
    same_found (λ h. h.number) (λ h. h.label == label) s.creds cs s.holds (each_same s cs like).holds

-- what holds of a number holds of that of the credential under it
pub numbered_by : (creds : List SealedCred) (n : ℕ) (P : ℕ → Type 0) → P n → IfSome (numbered creds n) (λ c. P c.number)
numbered_by creds n P holds =
    elim (slice_get creds n) as
    (λ o. IfSome (option_map (λ (sealed : SealedCred). record { number = n; cred = sealed.cred; slot = sealed.slot }) o) (λ (c : Numbered). P c.number)) [
      | None ↦ tt
      | Some sealed ↦ holds
    ]

-- what holds of each number that a list refers to holds of that of the credential which is found by
-- it
found_by : {X : Type 0} (f : X → ℕ) (p : X → Bool) (creds : List SealedCred) (P : ℕ → Type 0) (xs : List X) → All (λ x. P (f x)) xs
    → IfSome (option_and_then (λ x. numbered creds (f x)) (find p xs)) (λ c. P c.number)
found_by f p creds P xs each =
    then_each (λ (c : Numbered). P c.number) (λ x. numbered creds (f x)) (find p xs)
    (find_each (λ x. IfSome (numbered creds (f x)) (λ c. P c.number)) p xs (λ k d lt. numbered_by creds _ P (each k d lt)))

pub current_by : (s : State) (P : ℕ → Type 0) (task : ℕ) → EachRef P s → IfSome (current_of s task) (λ c. P c.number)
current_by s P task each = found_by (λ t. t.current) (λ t. t.number == task) s.creds P s.tasks each.currents

pub credential_by : (s : State) (P : ℕ → Type 0) (task : ℕ) (side : Side) → EachRef P s
    → IfSome (credential_of s task side) (λ c. P c.number)
credential_by s P task side each =
    found_by (number_on side) (λ t. t.number == task) s.creds P s.tasks (each_side side each)

pub opener_by : (s : State) (P : ℕ → Type 0) (fd : ℕ) → EachRef P s → IfSome (opener_of s fd) (λ c. P c.number)
opener_by s P fd each = found_by (λ f. f.opener) (λ f. f.fd == fd) s.creds P s.files each.openers

pub held_by_each : (s : State) (P : ℕ → Type 0) (label : ℕ) → EachRef P s → IfSome (held_by s label) (λ c. P c.number)
held_by_each s P label each = found_by (λ h. h.number) (λ h. h.label == label) s.creds P s.holds each.holds

-- ---- slots

pub same_length : (bs cs : List SealedCred) → slots_of bs ≡ slots_of cs → length bs ≡ length cs
same_length bs cs same =
    sym (length-map bs (λ (sealed : SealedCred). sealed.slot)) ∙ ap length same ∙ length-map cs (λ sealed. sealed.slot)

-- where a credential stands, by the list of slots
stands_by : (creds : List SealedCred) (slot n : ℕ)
    → stands_in creds slot n ≡ option_map_or (λ other. other == slot) (slice_get (slots_of creds) n) false
stands_by [] slot n = refl
stands_by (x ∷ xs) slot zero = refl
stands_by (x ∷ xs) slot (suc n) = stands_by xs slot n

same_stands : (bs cs : List SealedCred) → slots_of bs ≡ slots_of cs → (slot : ℕ) → stands_in bs slot ≡ stands_in cs slot
same_stands bs cs same slot =
    fun_ext (λ n.
    stands_by bs slot n
    ∙ ap (λ slots. option_map_or (λ other. other == slot) (slice_get slots n) false) same
    ∙ sym (stands_by cs slot n))

pub same_free : (s : State) (cs : List SealedCred) → slots_of s.creds ≡ slots_of cs → least_free s ≡ least_free (with s cs)
same_free s cs same =
    ap (λ (at : ℕ → ℕ → Bool). find (λ slot. not (list_any (at slot) (refs s) || is_kept s slot)) slots)
    (fun_ext (same_stands s.creds cs same))

-- ---- one credential more

pub same_past : (bs cs : List SealedCred) (n : ℕ) (x : SealedCred) → length bs ≡ length cs → Same bs cs n
    → Same (bs ++ x ∷ []) (cs ++ x ∷ []) n
same_past [] [] n x long same = refl
same_past [] (c ∷ cs) n x long same = absurd (omega arith)
same_past (a ∷ bs) [] n x long same = absurd (omega arith)
same_past (a ∷ bs) (c ∷ cs) zero x long same = same
same_past (a ∷ bs) (c ∷ cs) (suc n) x long same = same_past bs cs n x (omega arith) same
