-- The rule, point by point.
use Rattle.std.proofs.Common.{◌≡◌, ◌≢◌, ℕ, zero, suc, ◌<◌, inl, inr, List, [], ◌∷◌, Option, Some, None, Bool, true, false, if◌then◌else◌, refl, sym, ap, ◌∙◌}
use Rattle.std.proofs.Common.{subst}
use Rattle.std.specs.Prelude.{slice_get}
use Rattle.std.specs.List.{AllByRecursion}
use Rattle.std.proofs.lemmas.Option.{same_Some}
use mathlib.Core.Logic.{dite}
use native.Mathlib.Decide.{ℕ_discrete}
use Rattle.cred_record.specs.Words.{credential_in}
use Rattle.cred_record.proofs.WordLemmas.{words-are}
use Rattle.cred_words.specs.Lists.{Has}
use Rattle.cred_words.specs.Points.{tokens_of, AreDistinct, OneMaster, HaveLoans, FitSlots, SealedAreCredentials, HasPoints, RuleHasPoints}
use Rattle.cred_words.specs.Words.{slot_of, ledger_with, as_loan, tokens_out_of, token_aside, IsNoMaster, Apart, AllApart, OwnTickets, WordsStand, FitsAs}
use Rattle.cred_words.specs.Words.{LoanFits, NoWriterOn, KeepsWords}
use Rattle.cred_words.specs.declared.view.Slot.{Slot}
use Rattle.cred_words.specs.declared.view.Token.{Token}
use Rattle.cred_words.specs.declared.view.Ledger.{Ledger}
use Rattle.cred_words.specs.declared.view.View.{View}
use Rattle.cred_words.specs.declared.view.View.TheVariants.{Master, Lent, Spent}
use Rattle.cred_words.proofs.Lists.{has_all, apart_of, same_ticket}
use Rattle.cred_words.proofs.Steps.{none_writes}

at-has : {A : Type 0} (xs : List A) (i : ℕ) (x : A) → slice_get xs i ≡ Some x → Has xs x
at-has [] i x at = absurd (cc)
at-has (y ∷ xs) zero x at = inl (same_Some _ _ at)
at-has (y ∷ xs) (suc i) x at = inr (at-has xs i x at)

-- what holds of each that is in the list holds of all
all-from : {A : Type 0} (P : A → Type 0) (xs : List A) → ((x : A) → Has xs x → P x) → AllByRecursion P xs
all-from P [] f = tt
all-from P (x ∷ xs) f = (f x (inl refl), all-from P xs (λ y m. f y (inr m)))

own-distinct : (ts : List Token) → OwnTickets ts → AreDistinct ts
own-distinct [] o i j t u at at' same = absurd (cc)
own-distinct (q ∷ ts) o zero zero t u at at' same = refl
own-distinct (q ∷ ts) o zero (suc j) t u at at' same =
    let is : q ≡ t = same_Some _ _ at in
    absurd (has_all (λ v. v.ticket ≢ q.ticket) ts u o.0 (at-has ts j u at') (sym same ∙ ap (λ (z : Token). z.ticket) (sym is)))
own-distinct (q ∷ ts) o (suc i) zero t u at at' same =
    let is : q ≡ u = same_Some _ _ at' in
    absurd (has_all (λ v. v.ticket ≢ q.ticket) ts t o.0 (at-has ts i t at) (same ∙ ap (λ (z : Token). z.ticket) (sym is)))
own-distinct (q ∷ ts) o (suc i) (suc j) t u at at' same = ap suc (own-distinct ts o.1 i j t u at at' same)

apart-own : (es : List Token) → AllApart es → OwnTickets es
apart-own [] a = tt
apart-own (e ∷ es) a = (all-from (λ u. u.ticket ≢ e.ticket) es (λ u m. (has_all (Apart e) es u a.0 m).tickets), apart-own es a.1)

no-master-at : (vs : List View) (i : ℕ) (e : Ledger) → AllByRecursion IsNoMaster vs → slice_get vs i ≡ Some (Master e) → ⊥
no-master-at [] i e h at = absurd (cc)
no-master-at (Master d ∷ vs) zero e h at = h.0
no-master-at (Lent t ∷ vs) zero e h at = let same : Lent t ≡ Master e = same_Some _ _ at in absurd (cc)
no-master-at (Spent ∷ vs) zero e h at = let same : Spent ≡ Master e = same_Some _ _ at in absurd (cc)
no-master-at (v ∷ vs) (suc i) e h at = no-master-at vs i e h.1 at

hold-words : (t : Token) → t.writes ≡ false → (as_loan t).words ≡ t.words
hold-words t hold = ap (λ (b : Bool). if b then [] else t.words) hold

same-out : (o : Option Token) (d : Ledger) (others : List View) → tokens_out_of (token_aside o ∷ Master d ∷ others) ≡ tokens_out_of (token_aside o ∷ others)
same-out None d others = refl
same-out (Some t) d others = refl

no_other : (d : Ledger) (others : List View) → AllByRecursion IsNoMaster others → (i : ℕ) (e : Ledger) → slice_get (Master d ∷ others) i ≡ Some (Master e)
    → (i ≡ 0) × (e ≡ d)
no_other d others h zero e at = let same : Master d ≡ Master e = same_Some _ _ at in (refl, cc)
no_other d others h (suc i) e at = absurd (no-master-at others i e h at)

abbrev K : List ℕ → List View → Ledger → Type 0
K words others d = KeepsWords words (Master d ∷ others) d.slots d.next d.loans d.kept others

one-master : (words : List ℕ) (others : List View) (d : Ledger) → K words others d → OneMaster (Master d ∷ others) d
one-master words others d k = record {
  is_there = refl;
  no_other = no_other d others k.one_master;
  distinct = own-distinct d.loans (apart-own d.loans k.apart);
  below = λ e m. has_all (λ e. e.ticket < d.next) d.loans e k.below_next m;
}

mine : (words : List ℕ) (others : List View) (d : Ledger) → (t : Token) → Has (tokens_of d (Master d ∷ others)) t
    → Has (tokens_out_of (token_aside d.kept ∷ others)) t
mine words others d t m = subst (λ ts. Has ts t) (same-out d.kept d others) m

have-loans : (words : List ℕ) (others : List View) (d : Ledger) → K words others d → HaveLoans (Master d ∷ others) d
have-loans words others d k = record {
  has = λ t m. (
    as_loan t,
    has_all (λ u. Has d.loans (as_loan u)) (tokens_out_of (token_aside d.kept ∷ others)) t k.has_loan (mine words others d t m),
    record { ticket = refl; label = refl; slot = refl; kind = refl; words = hold-words t },
  );
  one = λ t e f m n a b. same_ticket d.loans e f k.apart m n (b.ticket ∙ sym a.ticket);
  distinct = own-distinct _ (subst OwnTickets (sym (same-out d.kept d others)) k.own_tickets);
}

writer-open : (slots : List Slot) (e : Token) → LoanFits slots e → e.writes ≡ true → (x : Slot) × (slice_get slots e.slot ≡ Some x) × (x.sealed ≡ false)
writer-open slots e h w =
    let f : FitsAs true slots e = subst (λ b. FitsAs b slots e) w h in
    (slot_of f.0 false, f.1, refl)

hold-sealed : (slots : List Slot) (e : Token) → LoanFits slots e → e.writes ≡ false
    → (x : Slot) × (slice_get slots e.slot ≡ Some x) × (x.sealed ≡ true) × (e.words ≡ x.words)
hold-sealed slots e h w =
    let f : FitsAs false slots e = subst (λ b. FitsAs b slots e) w h in
    (slot_of e.words true, f, refl, refl)

-- a writer's slot is its own
alone-on : (es : List Token) (e f : Token) → AllApart es → Has es e → Has es f → e.writes ≡ true → f.slot ≡ e.slot → f ≡ e
alone-on es e f a m n w same =
    dite (ℕ_discrete f.ticket e.ticket)
    (λ (is : f.ticket ≡ e.ticket). sym (same_ticket es e f a m n is))
    (λ ne. absurd ((apart_of es e f a m n ne).writer w same))

fit-slots : (words : List ℕ) (others : List View) (d : Ledger) → K words others d → FitSlots d
fit-slots words others d k = record {
  alone = λ e f m n w same. alone-on d.loans e f k.apart m n w same;
  unsealed = λ e m w. writer-open d.slots e (has_all (LoanFits d.slots) d.loans e k.fit m) w;
  sealed = λ e m w. hold-sealed d.slots e (has_all (LoanFits d.slots) d.loans e k.fit m) w;
}

sealed-are : (words : List ℕ) (others : List View) (d : Ledger) → K words others d → SealedAreCredentials words d
sealed-are words others d k s x at seal =
    let free = none_writes d.slots s x d.loans at seal k.fit in
    let h = words-are x.words (k.sealed s x at seal) in
    (credential_in x.words, h.0, subst (WordsStand words s) h.1 (k.masters s x at free))

has-points : (words : List ℕ) (others : List View) (d : Ledger) → K words others d → HasPoints words (Master d ∷ others) d
has-points words others d k = record {
  guide = k.guide;
  one_master = one-master words others d k;
  have_loans = have-loans words others d k;
  fit_slots = fit-slots words others d k;
  master_stands = λ s x at n. k.masters s x at (all-from (NoWriterOn s) d.loans n);
  tokens_stand = λ t m. has_all (λ u. WordsStand words u.slot u.words) (tokens_out_of (token_aside d.kept ∷ others)) t k.stand (mine words others d t m);
  sealed_are = sealed-are words others d k;
}

pub rule_has_points : RuleHasPoints
rule_has_points words views (slots, next, loans, kept, others, k) =
    let d : Ledger = ledger_with slots next loans kept in (
      d,
      subst (λ (vs : List View). HasPoints words vs d) (sym k.views_are)
          (has-points words others d (subst (λ (vs : List View). KeepsWords words vs slots next loans kept others) k.views_are k)),
    )
