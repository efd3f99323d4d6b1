-- What was prepared stands in the slots that are kept, whatever is lent, taken back, put elsewhere, begun or given up.
use Rattle.std.proofs.Common.{◌≡◌, ◌≢◌, ℕ, zero, suc, ◌<◌, ◌==◌, Bool, true, false, cond, List, [], ◌∷◌, ◌++◌, length, remove, Option, None, Some, slice_get}
use Rattle.std.proofs.Common.{slice_set, get_or, ◌⊎◌, inl, inr, refl, sym, ap, ◌∙◌, subst, arith}
use Rattle.std.specs.List.{All}
use Rattle.std.specs.Option.{option_map}
use Rattle.std.proofs.lemmas.Bool.{cases_eq, eqb-true}
use Rattle.std.proofs.lemmas.List.Elements.{All-map, All-push}
use Rattle.cred_record.specs.Credential.{Credential}
use Rattle.cred_model.specs.State.{Prepared, Changed}
use Rattle.cred_model.specs.Moves.{altered_at, with_change}
use Rattle.cred_model.proofs.Lists.{All-remove}
use Rattle.cred_words.specs.Lists.{IsTaken}
use Rattle.cred_hold.specs.Tokens.{Loan, IsAlone}
use Rattle.cred_tables.specs.Out.{ArePut}

-- ---- a place that is set

pub set_there : {A : Type 0} (xs : List A) (n : ℕ) (x : A) → n < length xs → slice_get (slice_set xs n x) n ≡ Some x
set_there [] n x lt = absurd (omega arith)
set_there (y ∷ xs) zero x lt = refl
set_there (y ∷ xs) (suc n) x lt = set_there xs n x (omega arith)

pub set_other : {A : Type 0} (xs : List A) (n m : ℕ) (x : A) → m ≢ n → slice_get (slice_set xs n x) m ≡ slice_get xs m
set_other [] n m x ne = refl
set_other (y ∷ xs) zero zero x ne = absurd (ne refl)
set_other (y ∷ xs) zero (suc m) x ne = refl
set_other (y ∷ xs) (suc n) zero x ne = refl
set_other (y ∷ xs) (suc n) (suc m) x ne = set_other xs n m x (λ e. ne (ap suc e))

-- ---- a slot on which nothing is lent

pub alone_rest : (es out : List Loan) (slot : ℕ) → IsAlone (es ++ out) slot → IsAlone out slot
alone_rest [] out slot is = is
alone_rest (e ∷ es) out slot is = alone_rest es out slot is.1

alone_with : (before : List Loan) (e : Loan) (after : List Loan) (slot : ℕ) → e.slot ≢ slot → IsAlone (before ++ after) slot
    → IsAlone (before ++ e ∷ after) slot
alone_with [] e after slot ne is = (ne, is)
alone_with (x ∷ before) e after slot ne is = (is.0, alone_with before e after slot ne is.1)

-- nor was anything before a token of another slot came back
pub alone_back : (old : List Loan) (e : Loan) (new : List Loan) (slot : ℕ) → IsTaken old e new → e.slot ≢ slot → IsAlone new slot → IsAlone old slot
alone_back old e new slot (before, after, is, gone) ne alone =
    subst (λ es. IsAlone es slot) (sym is) (alone_with before e after slot ne (subst (λ es. IsAlone es slot) gone alone))

-- ---- what was prepared

-- the credential that was prepared, or none before the first change
abbrev pub was_put : Prepared → Option Credential
was_put p = option_map (λ (last : Changed). last.cred) p.changed

-- what a label keeps is what a slot is set to, or it is another slot, on which nothing was lent
abbrev pub IsSet : List Loan → List Loan → ℕ → Option Credential → Prepared → Type 0
IsSet old new slot value p =
    IsAlone new p.slot → ((p.slot ≡ slot) × (value ≡ was_put p)) ⊎ ((p.slot ≢ slot) × IsAlone old p.slot)

pub put_again : (prepared : List Prepared) (old new : List Loan) (places : List (Option Credential)) (slot : ℕ) (value : Option Credential)
    → slot < length places
    → ArePut prepared old places → All (IsSet old new slot value) prepared → ArePut prepared new (slice_set places slot value)
put_again prepared old new places slot value lt are sets k d within alone = by (sets k d within alone)
  where
    by : (((get_or prepared k d).slot ≡ slot) × (value ≡ was_put (get_or prepared k d)))
        ⊎ (((get_or prepared k d).slot ≢ slot) × IsAlone old (get_or prepared k d).slot)
        → slice_get (slice_set places slot value) (get_or prepared k d).slot ≡ Some (was_put (get_or prepared k d))
    by (inl (same, is)) = ap (λ n. slice_get (slice_set places slot value) n) same ∙ set_there places slot value lt ∙ ap Some is
    by (inr (ne, was)) = set_other places slot _ value ne ∙ are k d within was

-- a place is set that no label keeps
pub put_free : (prepared : List Prepared) (out : List Loan) (places : List (Option Credential)) (slot : ℕ) (value : Option Credential)
    → All (λ p. p.slot ≢ slot) prepared → ArePut prepared out places → ArePut prepared out (slice_set places slot value)
put_free prepared out places slot value free are k d lt alone = set_other places slot _ value (free k d lt) ∙ are k d lt alone

-- more is lent
pub put_lent : (prepared : List Prepared) (es out : List Loan) (places : List (Option Credential)) → ArePut prepared out places
    → ArePut prepared (es ++ out) places
put_lent prepared es out places are k d lt alone = are k d lt (alone_rest es out _ alone)

-- and a slot is lent to be written
pub put_written : (prepared : List Prepared) (es out : List Loan) (places : List (Option Credential)) (slot : ℕ) → (IsAlone (es ++ out) slot → ⊥)
    → ArePut prepared out places → ArePut prepared (es ++ out) (slice_set places slot None)
put_written prepared es out places slot lent are k d lt alone = by (cases_eq (get_or prepared k d).slot slot)
  where
    by : ((get_or prepared k d).slot ≡ slot) ⊎ ((get_or prepared k d).slot ≢ slot)
        → slice_get (slice_set places slot None) (get_or prepared k d).slot ≡ Some (was_put (get_or prepared k d))
    by (inl same) = absurd (lent (subst (λ n. IsAlone (es ++ out) n) same alone))
    by (inr ne) = set_other places slot _ None ne ∙ are k d lt (alone_rest es out _ alone)

-- a token comes back whose slot no label keeps
pub put_held : (prepared : List Prepared) (old : List Loan) (e : Loan) (new : List Loan) (places : List (Option Credential)) → IsTaken old e new
    → All (λ p. e.slot ≢ p.slot) prepared → ArePut prepared old places → ArePut prepared new places
put_held prepared old e new places taken apart are k d lt alone = are k d lt (alone_back old e new _ taken (apart k d lt) alone)

-- a writer comes back, by which what is prepared was put
pub put_back : (prepared : List Prepared) (old : List Loan) (e : Loan) (new : List Loan) (places : List (Option Credential)) (value : Option Credential)
    → e.slot < length places → IsTaken old e new → All (λ p. p.slot ≡ e.slot → value ≡ was_put p) prepared → ArePut prepared old places
    → ArePut prepared new (slice_set places e.slot value)
put_back prepared old e new places value lt taken own are =
    put_again prepared old new places e.slot value lt are (λ k d within alone. by k d within alone (cases_eq (get_or prepared k d).slot e.slot))
  where
    by : (k : ℕ) (d : Prepared) → k < length prepared → IsAlone new (get_or prepared k d).slot
        → ((get_or prepared k d).slot ≡ e.slot) ⊎ ((get_or prepared k d).slot ≢ e.slot)
        → (((get_or prepared k d).slot ≡ e.slot) × (value ≡ was_put (get_or prepared k d)))
        ⊎ (((get_or prepared k d).slot ≢ e.slot) × IsAlone old (get_or prepared k d).slot)
    by k d within alone (inl same) = inl (same, own k d within same)
    by k d within alone (inr ne) = inr (ne, alone_back old e new _ taken (λ is. ne (sym is)) alone)

-- a label gives up
pub put_less : (prepared : List Prepared) (place : ℕ) (out : List Loan) (places : List (Option Credential)) → ArePut prepared out places
    → ArePut (remove prepared place) out places
put_less prepared place out places are =
    All-remove (λ p. IsAlone out p.slot → slice_get places p.slot ≡ Some (was_put p)) prepared place are

-- one begins, in whose slot's words nothing is left
pub put_more : (prepared : List Prepared) (p : Prepared) (out : List Loan) (places : List (Option Credential)) → p.changed ≡ None → p.slot < length places
    → All (λ q. q.slot ≢ p.slot) prepared → ArePut prepared out places → ArePut (prepared ++ p ∷ []) out (slice_set places p.slot None)
put_more prepared p out places new lt free are =
    All-push (λ q. IsAlone out q.slot → slice_get (slice_set places p.slot None) q.slot ≡ Some (was_put q)) prepared p
    (put_free prepared out places p.slot None free are)
    (λ alone. set_there places p.slot None lt ∙ ap (λ (o : Option Changed). Some (option_map (λ (last : Changed). last.cred) o)) (sym new))

-- a label is changed whose slot is lent
pub put_changed : (prepared : List Prepared) (label : ℕ) (to : Changed) (out : List Loan) (places : List (Option Credential))
    → All (λ p. p.label ≡ label → IsAlone out p.slot → ⊥) prepared → ArePut prepared out places → ArePut (with_change prepared label to) out places
put_changed prepared label to out places lent are =
    All-map (λ p. IsAlone out p.slot → slice_get places p.slot ≡ Some (was_put p)) (altered_at label to) prepared
    (λ k d lt. by (get_or prepared k d) (are k d lt) (lent k d lt) ((get_or prepared k d).label == label) refl)
  where
    by : (p : Prepared) → (IsAlone out p.slot → slice_get places p.slot ≡ Some (was_put p)) → (p.label ≡ label → IsAlone out p.slot → ⊥)
        → (test : Bool) → (p.label == label) ≡ test
        → (let q : Prepared = cond test (record p { changed = Some to }) p in IsAlone out q.slot → slice_get places q.slot ≡ Some (was_put q))
    by p is lent true test = λ alone. absurd (lent (eqb-true p.label label test) alone)
    by p is lent false test = is
