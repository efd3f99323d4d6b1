-- The slots and loans of a master, as contracts see them.
use Rattle.std.proofs.Common.{length-append, ◌≡◌, ◌≢◌, zero, suc, ◌+◌, ◌<◌, ℕ, List, ◌∷◌, [], map, replicate, take, drop, length, set, Some, None, Bool, true}
use Rattle.std.proofs.Common.{false, refl, sym, ap, ◌∙◌, subst, ⊎_elim, arith}
use Rattle.std.specs.Prelude.{slice_get, slice_index, not, ◌&&◌, if◌then◌else◌}
use Rattle.std.specs.List.{AllByRecursion}
use Rattle.std.proofs.lemmas.List.{get_or-drop, get_or-take, map-append}
use Rattle.std.proofs.lemmas.Option.{same_Some}
use Rattle.cred_record.specs.Credential.{Credential}
use Rattle.cred_record.specs.Words.{are_words, credential_in}
use Rattle.cred_words.specs.Size.{width}
use Rattle.cred_words.specs.Lists.{IsTaken}
use Rattle.cred_words.specs.declared.view.Slot.{Slot}
use Rattle.cred_words.specs.declared.view.Token.{Token}
use Rattle.cred_words.specs.declared.view.Ledger.{Ledger}
use Rattle.cred_words.specs.Words.{slot_of, slots_back, words_at, as_loan, FitsAs, LoanFits}
use Rattle.cred_words.specs.Seen as words
use Rattle.cred_words.proofs.Lists.{words_at-get, get_set}
use Rattle.cred_words.proofs.Opens.{width_is}
use Rattle.cred_words.proofs.Seats.{slot_there}
use Rattle.cred_hold.specs.Tokens.{loan, seen_if, loan_seen, slot_seen, AreSlots, IsAlone}
use Rattle.cred_hold.proofs.Whole.{length-known}

pub sealed_words : (d : Ledger) (slot : ℕ) → AreSlots d.slots → words.IsSealedSlot d slot
    → (length (words_at d.slots slot) ≡ width) × (are_words (words_at d.slots slot) ≡ true)
sealed_words d slot all h =
    let are = ap are_words (words_at-get d.slots slot h.0 h.1) ∙ all slot h.0 h.1 in
    (length-known _ are ∙ sym width_is, are)

-- slots of which one has other words of a credential
pub slots_set : (slots : List Slot) (slot : ℕ) (y : Slot) → AreSlots slots → are_words y.words ≡ true → AreSlots (set slots slot y)
slots_set slots slot y all are s x g =
    ⊎_elim
    (λ (r : (s ≡ slot) × (y ≡ x)). subst (λ (z : Slot). are_words z.words ≡ true) r.1 are)
    (λ (r : (s ≢ slot) × (slice_get slots s ≡ Some x)). all s x r.1)
    (get_set slots slot s y x g)

-- slots of which one has a writer's words back
pub slots_after_back : (slots : List Slot) (t : Token) (put : Bool) → AreSlots slots → are_words t.words ≡ true → AreSlots (slots_back slots t put t.writes)
slots_after_back slots t put all are = by t.writes
  where
    by : (b : Bool) → AreSlots (slots_back slots t put b)
    by true = slots_set slots t.slot (slot_of t.words (put && are_words t.words)) all are
    by false = all

pub after_writer : (slots : List Slot) (slot : ℕ) → slot < length slots → AreSlots slots
    → AreSlots (set slots slot (slot_of (words_at slots slot) false)) × (are_words (words_at slots slot) ≡ true)
after_writer slots slot small all =
    let there = slot_there slots slot small in
    let are : are_words (words_at slots slot) ≡ true = ap are_words (words_at-get slots slot there.0 there.1) ∙ all slot there.0 there.1 in
    (slots_set slots slot (slot_of (words_at slots slot) false) all are, are)

-- ---- as they are seen

-- a slot that is seen to be sealed, sealed with words of that credential
pub sealed-seen : (slots : List Slot) (slot : ℕ) (c : Credential) → slice_get (map slot_seen slots) slot ≡ Some (Some c)
    → (x : Slot) × (slice_get slots slot ≡ Some x) × (x.sealed ≡ true) × (credential_in x.words ≡ c)
sealed-seen [] slot c at = absurd (cc)
sealed-seen (x ∷ slots) zero c at = let h = by x.sealed (same_Some _ _ at) in (x, refl, h.0, h.1)
  where
    by : (b : Bool) → seen_if b x.words ≡ Some c → (b ≡ true) × (credential_in x.words ≡ c)
    by true is = (refl, same_Some _ _ is)
    by false is = absurd (cc)
sealed-seen (x ∷ slots) (suc slot) c at = sealed-seen slots slot c at

pub map-set : {A B : Type 0} (f : A → B) (xs : List A) (i : ℕ) (y : A) → map f (set xs i y) ≡ set (map f xs) i (f y)
map-set f [] i y = refl
map-set f (x ∷ xs) zero y = refl
map-set f (x ∷ xs) (suc i) y = ap (λ l. f x ∷ l) (map-set f xs i y)

pub map-replicate : {A B : Type 0} (f : A → B) (n : ℕ) (x : A) → map f (replicate n x) ≡ replicate n (f x)
map-replicate f zero x = refl
map-replicate f (suc n) x = ap (λ l. f x ∷ l) (map-replicate f n x)

pub map-taken : {A B : Type 0} (f : A → B) (old : List A) (x : A) (new : List A) → IsTaken old x new → IsTaken (map f old) (f x) (map f new)
map-taken f old x new h = (
  map f h.0,
  map f h.1,
  ap (map f) h.2 ∙ map-append f h.0 (x ∷ h.1),
  ap (map f) h.3 ∙ map-append f h.0 h.1,
)

pub alone-seen : (es : List Token) (slot : ℕ) → IsAlone (map loan_seen es) slot → AllByRecursion (λ e. e.slot ≢ slot) es
alone-seen [] slot h = tt
alone-seen (e ∷ es) slot h = (h.0, alone-seen es slot h.1)

pub hold-seen : (t : Token) → t.writes ≡ false → loan_seen (as_loan t) ≡ loan t.label t.slot (Some (credential_in t.words))
hold-seen t is = ap (λ (b : Bool). loan t.label t.slot (seen_if (not b) (if b then [] else t.words))) is

pub writer-seen : (t : Token) → t.writes ≡ true → loan_seen (as_loan t) ≡ loan t.label t.slot None
writer-seen t is = ap (λ (b : Bool). loan t.label t.slot (seen_if (not b) (if b then [] else t.words))) is

-- the slot of a hold's loan
pub hold-slot : (slots : List Slot) (t : Token) → t.writes ≡ false → LoanFits slots (as_loan t) → slice_get slots t.slot ≡ Some (slot_of t.words true)
hold-slot slots t is h =
    let f : FitsAs false slots (as_loan t) = subst (λ b. FitsAs b slots (as_loan t)) is h in
    f ∙ ap (λ (b : Bool). Some (slot_of (if b then [] else t.words) true)) is

-- a writer's slot, which is sealed where a credential was put
pub put-seen : (put : Bool) (ws : List ℕ) → are_words ws ≡ true → seen_if (put && are_words ws) ws ≡ seen_if put ws
put-seen true ws is = ap (λ b. seen_if b ws) is
put-seen false ws is = refl

pub slot-there : (slots : List Slot) (t : Token) → t.writes ≡ true → LoanFits slots (as_loan t) → (x : Slot) × (slice_get slots t.slot ≡ Some x)
slot-there slots t is h =
    let f : FitsAs true slots (as_loan t) = subst (λ b. FitsAs b slots (as_loan t)) is h in
    (slot_of f.0 false, f.1)

-- a word among those that were read
pub part-at : (ws part : List ℕ) (n first i : ℕ) → part ≡ take n (drop first ws) → i < n → slice_index part i ≡ slice_index ws (first + i)
part-at ws part n first i is small = ap (λ (xs : List ℕ). slice_index xs i) is ∙ get_or-take n (drop first ws) i 0 small ∙ get_or-drop first ws i 0

pub taken-length : {A : Type 0} (old : List A) (x : A) (new : List A) → IsTaken old x new → length old ≡ suc (length new)
taken-length old x new h =
    let a = length-append h.0 (x ∷ h.1) in
    let b = length-append h.0 h.1 in
    let c = ap length h.2 in
    let d = ap length h.3 in
    omega arith

pub none-left : {A : Type 0} (xs : List A) → length xs ≡ 0 → xs ≡ []
none-left [] is = refl
none-left (x ∷ xs) is = absurd (omega arith)
