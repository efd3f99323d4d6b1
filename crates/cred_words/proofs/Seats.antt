-- The steps at a seat whose number and view are known by equations.
use Rattle.std.proofs.Common.{◌≡◌, ℕ, zero, suc, ◌<◌, List, [], ◌∷◌, length, set, Option, Some, None, Bool, true, false, true≢false, refl, sym, ap, subst}
use Rattle.std.proofs.Common.{arith}
use Rattle.std.specs.Prelude.{slice_get, slice_index, IsSome}
use Rattle.std.proofs.lemmas.Option.{slice_get_within}
use Rattle.atomic_table.specs.Table.{Allows, Splits, Joins}
use Rattle.cred_words.specs.Size.{width, count, word_place}
use Rattle.cred_words.specs.declared.view.Slot.{Slot}
use Rattle.cred_words.specs.declared.view.Token.{Token}
use Rattle.cred_words.specs.declared.view.Ledger.{Ledger}
use Rattle.cred_words.specs.declared.view.View.{View}
use Rattle.cred_words.specs.declared.view.View.TheVariants.{Master, Lent, Spent}
use Rattle.cred_words.specs.Lists.{IsTaken}
use Rattle.cred_words.specs.Words.{ledger_with, put_words, token_of, after_lending_token, lends, after_return_of_token}
use Rattle.cred_words.specs.Words.{LearnedToken, LoadsAt, StoresAt, as_loan}
use Rattle.cred_words.specs.Words.{LoanFits, without_ticket, after_back}
use Rattle.cred_words.specs.Seen.{IsSealedSlot, NoTokenIsOn}
use Rattle.cred_words.proofs.Steps.{Held, Kept, lends_hold, lends_writer, returns, learns, reads, puts}

abbrev pub held : View → Held
held v = (v, [])

pub lends_hold_as : (id : ℕ) (me : Held) (d : Ledger) (label slot : ℕ) → id ≡ 0 → me ≡ held (Master d) → IsSealedSlot d slot
    → Splits Kept id me.0 (after_lending_token label slot false me.0) (lends label slot false me.0)
lends_hold_as id me d label slot z is h =
    let P : ℕ × Held → Type 0 = λ x. Splits Kept x.0 x.1.0 (after_lending_token label slot false x.1.0) (lends label slot false x.1.0) in
    subst P (λ i. (sym z i, sym is i)) (lends_hold d label slot h.0 h.1 h.2)

pub slot_there : (xs : List Slot) (k : ℕ) → k < length xs → (x : Slot) × (slice_get xs k ≡ Some x)
slot_there [] k h = absurd (omega arith)
slot_there (x ∷ xs) zero h = (x, refl)
slot_there (x ∷ xs) (suc k) h = slot_there xs k (omega arith)

pub lends_writer_as : (id : ℕ) (me : Held) (d : Ledger) (label slot : ℕ) → id ≡ 0 → me ≡ held (Master d) → slot < length d.slots → NoTokenIsOn d slot
    → Splits Kept id me.0 (after_lending_token label slot true me.0) (lends label slot true me.0)
lends_writer_as id me d label slot z is small h =
    let P : ℕ × Held → Type 0 = λ x. Splits Kept x.0 x.1.0 (after_lending_token label slot true x.1.0) (lends label slot true x.1.0) in
    let there = slot_there d.slots slot small in
    subst P (λ i. (sym z i, sym is i)) (lends_writer d label slot there.0 there.1 h)

pub returns_as : (id other : ℕ) (me them : Held) (d : Ledger) (t : Token) → id ≡ 0 → me ≡ held (Master d) → them ≡ held (Lent t) → d.kept ≡ None
    → Joins Kept id me.0 other them.0 (after_return_of_token me.0 them.0) Spent
returns_as id other me them d t z is they none =
    let P : ℕ × Held × Held → Type 0 = λ x. Joins Kept x.0 x.1.0 other x.2.0 (after_return_of_token x.1.0 x.2.0) Spent in
    let Q : Option Token → Type 0 =
    λ k. let e : Ledger = ledger_with d.slots d.next d.loans k in Joins Kept 0 (Master e) other (Lent t) (after_return_of_token (Master e) (Lent t)) Spent in
    subst P (λ i. (sym z i, sym is i, sym they i)) (subst Q (sym none) (returns d.slots d.next d.loans other t))

pub learns_as : (id : ℕ) (me : Held) (d : Ledger) (t : Token) (put : Bool) (n : ℕ) → id ≡ 0 → me ≡ held (Master d) → d.kept ≡ Some t
    → Allows Kept n id me 0 (λ m. m) (λ _ w. LearnedToken put me.0 w.0 × (w.1 ≡ me.1))
learns_as id me d t put n z is some =
    let P : ℕ × Held → Type 0 = λ x. Allows Kept n x.0 x.1 0 (λ m. m) (λ _ w. LearnedToken put x.1.0 w.0 × (w.1 ≡ x.1.1)) in
    let Q : Option Token → Type 0 =
    λ k. let e : Ledger = ledger_with d.slots d.next d.loans k in Allows Kept n 0 (held (Master e)) 0 (λ m. m)
    (λ _ w. LearnedToken put (Master e) w.0 × (w.1 ≡ [])) in
    subst P (λ i. (sym z i, sym is i)) (subst Q (sym some) (learns d.slots d.next d.loans t put n))

pub told : (v w : View) (d : Ledger) (t : Token) (put : Bool) → v ≡ Master d → d.kept ≡ Some t → LearnedToken put v w
    → IsTaken d.loans (as_loan t) (without_ticket t.ticket d.loans) × LoanFits d.slots (as_loan t) × (w ≡ Master (after_back d t put))
told v w d t put is some h =
    let P : Option Token → Type 0 = λ k. LearnedToken put (Master (ledger_with d.slots d.next d.loans k)) w in
    subst P some (subst (λ (u : View). LearnedToken put u w) is h)

pub reads_as : (id : ℕ) (me : Held) (t : Token) (word n : ℕ) → me ≡ held (Lent t)
    → Allows Kept n id me word (λ m. m) (λ m w. (w.0 ≡ me.0) × LoadsAt word me.0 m × (w.1 ≡ me.1))
reads_as id me t word n is =
    subst (λ (v : Held). Allows Kept n id v word (λ m. m) (λ m w. (w.0 ≡ v.0) × LoadsAt word v.0 m × (w.1 ≡ v.1))) (sym is) (reads id t word n)

pub puts_as : (id : ℕ) (me : Held) (t : Token) (word i v n : ℕ) → me ≡ held (Lent t) → i < width → t.writes ≡ true → word ≡ word_place t.slot i
    → Allows Kept n id me word (λ _. v) (λ _ w. StoresAt word v me.0 w.0 × (w.1 ≡ me.1))
puts_as id me t word i v n is small writes at =
    let P : Held × ℕ → Type 0 = λ x. Allows Kept n id x.0 x.1 (λ _. v) (λ _ w. StoresAt x.1 v x.0.0 w.0 × (w.1 ≡ x.0.1)) in
    subst P (λ i. (sym is i, sym at i)) (puts id t i v n small writes)

-- what a token knows of a slot that stands in the master's list
pub sealed_within : (d : Ledger) (slot : ℕ) → IsSealedSlot d slot → slot < length d.slots
sealed_within d slot h = slice_get_within d.slots slot h.0 h.1

-- a seat with a token's view meets the token's invariant
pub lent_ok : (b : Bool) (m : Held) (t : Token) → m ≡ held (Lent t) → t.writes ≡ b → t.slot < count
    → (m ≡ held (Lent (token_of m.0))) × ((token_of m.0).writes ≡ b) × ((token_of m.0).slot < count)
lent_ok b m t is w s =
    let P : Held → Type 0 = λ v. (v ≡ held (Lent (token_of v.0))) × ((token_of v.0).writes ≡ b) × ((token_of v.0).slot < count) in
    subst P (sym is) (refl, w, s)

-- the master's view after a return
pub came_back : (me them : Held) (d : Ledger) (t : Token) → me ≡ held (Master d) → them ≡ held (Lent t)
    → (let back : Held = (after_return_of_token me.0 them.0, me.1) in back) ≡ held (Master (ledger_with d.slots d.next d.loans (Some t)))
came_back me them d t is they =
    let R : Held → Held → Held = λ v u. (after_return_of_token v.0 u.0, v.1) in
    subst (λ (v : Held). R v them ≡ held (Master (ledger_with d.slots d.next d.loans (Some t)))) (sym is) (ap (R (held (Master d))) they)

-- what a put tells
pub was_put : (v w : View) (t : Token) (word i n : ℕ) → v ≡ Lent t → i < width → word ≡ word_place t.slot i → StoresAt word n v w
    → w ≡ Lent (put_words t (set t.words i n))
was_put v w t word i n is small at h = subst (λ (u : View). StoresAt word n u w) is h i small at

pub was_read : (v : View) (t : Token) (word i n : ℕ) → v ≡ Lent t → i < width → word ≡ word_place t.slot i → LoadsAt word v n → n ≡ slice_index t.words i
was_read v t word i n is small at h = subst (λ (u : View). LoadsAt word u n) is h i small at

pub some_of : (o : Option Token) → IsSome o → (t : Token) × (o ≡ Some t)
some_of None h = absurd (true≢false (sym h))
some_of (Some t) h = (t, refl)
