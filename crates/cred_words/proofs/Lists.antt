-- Lists, tokens that are out, loans, and words by slot.
use Rattle.std.proofs.Common.{◌≡◌, ◌≢◌, ℕ, zero, suc, ◌+◌, ◌*◌, ◌/◌, ◌<◌, ◌⊎◌, inl, inr, ⊎_elim, List, [], ◌∷◌, ◌++◌, length, set, Some, Bool, true, false}
use Rattle.std.proofs.Common.{true≢false, refl, sym, ap, ◌∙◌, subst, arith}
use Rattle.std.specs.Prelude.{slice_get, slice_index, ◌==◌, if◌then◌else◌}
use Rattle.std.specs.List.{AllByRecursion}
use Rattle.std.proofs.lemmas.Option.{same_Some}
use Rattle.std.proofs.lemmas.Bool.{eqb-true, eq-eqb}
use Rattle.std.proofs.lemmas.List.{get_or-set_same, get_or-set_other}
use Rattle.std.proofs.Math.ListN.{length-set}
use Rattle.std.proofs.Math.Nat.{mul_comm}
use Rattle.std.proofs.lemmas.Nat.{div-mul-add, mul-add-lt}
use mathlib.Core.Option.{some}
use mathlib.Core.Logic.{dite}
use native.Mathlib.Decide.{ℕ_discrete}
use lib.ListN.{get_elem?}
use Rattle.cred_words.specs.Size.{width, count, total, word_place}
use Rattle.cred_words.specs.declared.view.Slot.{Slot}
use Rattle.cred_words.specs.declared.view.Token.{Token}
use Rattle.cred_words.specs.declared.view.View.{View}
use Rattle.cred_words.specs.declared.view.View.TheVariants.{Master, Lent, Spent}
use Rattle.cred_words.specs.Lists.{Has, IsTaken}
use Rattle.cred_words.specs.Words.{tokens_out_of, Apart, AllApart, OwnTickets, WordsStand, without_ticket, words_at}

module _ {A : Type 0} where
  pub all_snoc : (P : A → Type 0) (xs : List A) (y : A) → AllByRecursion P xs → P y → AllByRecursion P (xs ++ y ∷ [])
  all_snoc P [] y h p = (p, tt)
  all_snoc P (x ∷ xs) y h p = (h.0, all_snoc P xs y h.1 p)

  pub all_set : (P : A → Type 0) (xs : List A) (j : ℕ) (y : A) → AllByRecursion P xs → P y → AllByRecursion P (set xs j y)
  all_set P [] j y h p = tt
  all_set P (x ∷ xs) zero y h p = (p, h.1)
  all_set P (x ∷ xs) (suc j) y h p = (h.0, all_set P xs j y h.1 p)

  pub all_then : (P Q : A → Type 0) (xs : List A) → ((x : A) → P x → Q x) → AllByRecursion P xs → AllByRecursion Q xs
  all_then P Q [] f h = tt
  all_then P Q (x ∷ xs) f h = (f x h.0, all_then P Q xs f h.1)

  pub all_both : (P Q R : A → Type 0) (xs : List A) → ((x : A) → P x → Q x → R x) → AllByRecursion P xs → AllByRecursion Q xs → AllByRecursion R xs
  all_both P Q R [] f h i = tt
  all_both P Q R (x ∷ xs) f h i = (f x h.0 i.0, all_both P Q R xs f h.1 i.1)

  pub get_set_here : (xs : List A) (k : ℕ) (x y : A) → slice_get xs k ≡ Some x → slice_get (set xs k y) k ≡ Some y
  get_set_here [] k x y e = absurd (cc)
  get_set_here (z ∷ xs) zero x y e = refl
  get_set_here (z ∷ xs) (suc k) x y e = get_set_here xs k x y e

  pub get_set_else : (xs : List A) (k m : ℕ) (y : A) → k ≢ m → slice_get (set xs m y) k ≡ slice_get xs k
  get_set_else [] k m y n = refl
  get_set_else (z ∷ xs) zero zero y n = absurd (n refl)
  get_set_else (z ∷ xs) zero (suc m) y n = refl
  get_set_else (z ∷ xs) (suc k) zero y n = refl
  get_set_else (z ∷ xs) (suc k) (suc m) y n = get_set_else xs k m y (λ e. n (ap suc e))

  -- an element of a list that was written at m
  pub get_set : (xs : List A) (m k : ℕ) (y x : A) → slice_get (set xs m y) k ≡ Some x → ((k ≡ m) × (y ≡ x)) ⊎ ((k ≢ m) × (slice_get xs k ≡ Some x))
  get_set [] m k y x e = absurd (cc)
  get_set (z ∷ xs) zero zero y x e = inl (refl, same_Some _ _ e)
  get_set (z ∷ xs) zero (suc k) y x e = inr ((λ h. omega arith), e)
  get_set (z ∷ xs) (suc m) zero y x e = inr ((λ h. omega arith), e)
  get_set (z ∷ xs) (suc m) (suc k) y x e = ⊎_elim (λ t. inl (ap suc t.0, t.1)) (λ t. let n = t.0 in inr ((λ h. n (omega arith)), t.1)) (get_set xs m k y x e)

pub words_at-get : (slots : List Slot) (s : ℕ) (x : Slot) → slice_get slots s ≡ Some x → words_at slots s ≡ x.words
words_at-get [] s x e = absurd (cc)
words_at-get (y ∷ slots) zero x e = ap (λ (z : Slot). z.words) (same_Some _ _ e)
words_at-get (y ∷ slots) (suc s) x e = words_at-get slots s x e

-- Tokens that are out

abbrev pub Ticket : Token → Token → Type 0
Ticket t u = u.ticket ≢ t.ticket

pub out_of-snoc : (vs : List View) (t : Token) → tokens_out_of (vs ++ Lent t ∷ []) ≡ tokens_out_of vs ++ t ∷ []
out_of-snoc [] t = refl
out_of-snoc (Master d ∷ vs) t = out_of-snoc vs t
out_of-snoc (Lent q ∷ vs) t = ap (λ ts. q ∷ ts) (out_of-snoc vs t)
out_of-snoc (Spent ∷ vs) t = out_of-snoc vs t

pub own_snoc : (ts : List Token) (t : Token) → OwnTickets ts → AllByRecursion (Ticket t) ts → OwnTickets (ts ++ t ∷ [])
own_snoc [] t h i = (tt, tt)
own_snoc (q ∷ ts) t h i = (all_snoc (Ticket q) ts t h.0 (λ e. i.0 (sym e)), own_snoc ts t h.1 i.1)

-- what holds of each token that is out holds of the one at j
pub one_of : (P : Token → Type 0) (vs : List View) (j : ℕ) (t : Token) → get_elem? vs j ≡ some (Lent t) → AllByRecursion P (tokens_out_of vs) → P t
one_of P [] j t e h = absurd (cc)
one_of P (Master d ∷ vs) zero t e h = absurd (cc)
one_of P (Master d ∷ vs) (suc j) t e h = one_of P vs j t e h
one_of P (Lent q ∷ vs) zero t e h = let same : q ≡ t = cc in subst P same h.0
one_of P (Lent q ∷ vs) (suc j) t e h = one_of P vs j t e h.1
one_of P (Spent ∷ vs) zero t e h = absurd (cc)
one_of P (Spent ∷ vs) (suc j) t e h = one_of P vs j t e h

-- the token at j is spent
pub spent_all : (P : Token → Type 0) (vs : List View) (j : ℕ) → AllByRecursion P (tokens_out_of vs) → AllByRecursion P (tokens_out_of (set vs j Spent))
spent_all P [] j h = h
spent_all P (Master d ∷ vs) zero h = h
spent_all P (Master d ∷ vs) (suc j) h = spent_all P vs j h
spent_all P (Lent q ∷ vs) zero h = h.1
spent_all P (Lent q ∷ vs) (suc j) h = (h.0, spent_all P vs j h.1)
spent_all P (Spent ∷ vs) zero h = h
spent_all P (Spent ∷ vs) (suc j) h = spent_all P vs j h

pub spent_own : (vs : List View) (j : ℕ) (t : Token) → get_elem? vs j ≡ some (Lent t) → OwnTickets (tokens_out_of vs)
    → OwnTickets (t ∷ tokens_out_of (set vs j Spent))
spent_own [] j t e h = absurd (cc)
spent_own (Master d ∷ vs) zero t e h = absurd (cc)
spent_own (Master d ∷ vs) (suc j) t e h = spent_own vs j t e h
spent_own (Lent q ∷ vs) zero t e h = let same : q ≡ t = cc in subst (λ u. OwnTickets (u ∷ tokens_out_of vs)) same h
spent_own (Lent q ∷ vs) (suc j) t e h =
    let r = spent_own vs j t e h.1 in
    let n = one_of (Ticket q) vs j t e h.0 in
    (((λ same. n (sym same)), r.0), (spent_all (Ticket q) vs j h.0, r.1))
spent_own (Spent ∷ vs) zero t e h = absurd (cc)
spent_own (Spent ∷ vs) (suc j) t e h = spent_own vs j t e h

-- the token at j is exchanged
pub swap_all : (P Q : Token → Type 0) (vs : List View) (j : ℕ) (t u : Token) → get_elem? vs j ≡ some (Lent t) → OwnTickets (tokens_out_of vs)
    → ((q : Token) → q.ticket ≢ t.ticket → P q → Q q) → Q u → AllByRecursion P (tokens_out_of vs) → AllByRecursion Q (tokens_out_of (set vs j (Lent u)))
swap_all P Q [] j t u e o f here h = absurd (cc)
swap_all P Q (Master d ∷ vs) zero t u e o f here h = absurd (cc)
swap_all P Q (Master d ∷ vs) (suc j) t u e o f here h = swap_all P Q vs j t u e o f here h
swap_all P Q (Lent q ∷ vs) zero t u e o f here h =
    let same : t ≡ q = cc in
    (here, all_both (Ticket q) P Q (tokens_out_of vs) (λ p n. f p (λ e. n (e ∙ ap (λ (z : Token). z.ticket) same))) o.0 h.1)
swap_all P Q (Lent q ∷ vs) (suc j) t u e o f here h =
    let n = one_of (Ticket q) vs j t e o.0 in
    (f q (λ same. n (sym same)) h.0, swap_all P Q vs j t u e o.1 f here h.1)
swap_all P Q (Spent ∷ vs) zero t u e o f here h = absurd (cc)
swap_all P Q (Spent ∷ vs) (suc j) t u e o f here h = swap_all P Q vs j t u e o f here h

pub swap_own : (vs : List View) (j : ℕ) (t u : Token) → get_elem? vs j ≡ some (Lent t) → u.ticket ≡ t.ticket → OwnTickets (tokens_out_of vs)
    → OwnTickets (tokens_out_of (set vs j (Lent u)))
swap_own [] j t u e s o = absurd (cc)
swap_own (Master d ∷ vs) zero t u e s o = absurd (cc)
swap_own (Master d ∷ vs) (suc j) t u e s o = swap_own vs j t u e s o
swap_own (Lent q ∷ vs) zero t u e s o =
    let same : t ≡ q = cc in
    let k : u.ticket ≡ q.ticket = s ∙ ap (λ (z : Token). z.ticket) same in
    (subst (λ (n : ℕ). AllByRecursion (λ p. p.ticket ≢ n) (tokens_out_of vs)) (sym k) o.0, o.1)
swap_own (Lent q ∷ vs) (suc j) t u e s o =
    let n = one_of (Ticket q) vs j t e o.0 in
    (swap_all (Ticket q) (Ticket q) vs j t u e o.1 (λ p _ h. h) (λ same. n (sym s ∙ same)) o.0, swap_own vs j t u e s o.1)
swap_own (Spent ∷ vs) zero t u e s o = absurd (cc)
swap_own (Spent ∷ vs) (suc j) t u e s o = swap_own vs j t u e s o

-- Entries

pub has_all : (P : Token → Type 0) (es : List Token) (x : Token) → AllByRecursion P es → Has es x → P x
has_all P [] x h m = absurd m
has_all P (e ∷ es) x h m = ⊎_elim (λ same. subst P same h.0) (λ r. has_all P es x h.1 r) m

pub apart_sym : (e f : Token) → Apart e f → Apart f e
apart_sym e f h = record { tickets = λ s. h.tickets (sym s); writer = λ w s. h.other w (sym s); other = λ w s. h.writer w (sym s) }

pub apart_of : (es : List Token) (x y : Token) → AllApart es → Has es x → Has es y → y.ticket ≢ x.ticket → Apart x y
apart_of [] x y a m n ne = absurd m
apart_of (e ∷ es) x y a m n ne =
    ⊎_elim
    (λ (p : e ≡ x). ⊎_elim (λ (q : e ≡ y). absurd (ne (ap (λ (z : Token). z.ticket) (sym q ∙ p))))
    (λ q. subst (λ z. Apart z y) p (has_all (Apart e) es y a.0 q)) n)
    (λ p. ⊎_elim (λ (q : e ≡ y). subst (λ z. Apart x z) q (apart_sym e x (has_all (Apart e) es x a.0 p))) (λ q. apart_of es x y a.1 p q ne) n)
    m

pub same_ticket : (es : List Token) (x y : Token) → AllApart es → Has es x → Has es y → y.ticket ≡ x.ticket → x ≡ y
same_ticket [] x y a m n s = absurd m
same_ticket (e ∷ es) x y a m n s =
    ⊎_elim
    (λ (p : e ≡ x). ⊎_elim (λ (q : e ≡ y). sym p ∙ q) (λ q. absurd ((has_all (Apart e) es y a.0 q).tickets (s ∙ ap (λ (z : Token). z.ticket) (sym p)))) n)
    (λ p. ⊎_elim (λ (q : e ≡ y). absurd ((has_all (Apart e) es x a.0 p).tickets (sym s ∙ ap (λ (z : Token). z.ticket) (sym q))))
    (λ q. same_ticket es x y a.1 p q s) n)
    m

pick : {A : Type 0} (P : A → Type 0) (b : Bool) (x y : A) → (b ≡ true → P x) → (b ≡ false → P y) → P (if b then x else y)
pick P true x y f g = f refl
pick P false x y f g = g refl

differs : (a b : ℕ) → (a == b) ≡ false → a ≢ b
differs a b h e = true≢false (sym (eq-eqb a b e) ∙ h)

pub without_all : (P : Token → Type 0) (k : ℕ) (es : List Token) → AllByRecursion P es → AllByRecursion P (without_ticket k es)
without_all P k [] h = tt
without_all P k (e ∷ es) h = pick (AllByRecursion P) (e.ticket == k) es (e ∷ without_ticket k es) (λ _. h.1) (λ _. (h.0, without_all P k es h.1))

pub without_apart : (k : ℕ) (es : List Token) → AllApart es → AllApart (without_ticket k es)
without_apart k [] h = tt
without_apart k (e ∷ es) h =
    pick AllApart (e.ticket == k) es (e ∷ without_ticket k es) (λ _. h.1) (λ _. (without_all (Apart e) k es h.0, without_apart k es h.1))

pub has_without : (k : ℕ) (es : List Token) (x : Token) → Has es x → x.ticket ≢ k → Has (without_ticket k es) x
has_without k [] x m n = m
has_without k (e ∷ es) x m n =
    ⊎_elim
    (λ (p : e ≡ x). pick (λ l. Has l x) (e.ticket == k) es (e ∷ without_ticket k es)
    (λ b. absurd (n (ap (λ (z : Token). z.ticket) (sym p) ∙ eqb-true e.ticket k b))) (λ _. inl p))
    (λ p. pick (λ l. Has l x) (e.ticket == k) es (e ∷ without_ticket k es) (λ _. p) (λ _. inr (has_without k es x p n)))
    m

-- a loan is what its ticket strikes out
pub without-taken : (es : List Token) (x : Token) → AllApart es → Has es x → IsTaken es x (without_ticket x.ticket es)
without-taken [] x a m = absurd m
without-taken (e ∷ es) x a m =
    ⊎_elim
    (λ (p : e ≡ x). pick (λ l. IsTaken (e ∷ es) x l) (e.ticket == x.ticket) es (e ∷ without_ticket x.ticket es) (λ _. ([], es, ap (λ z. z ∷ es) p, refl))
    (λ b. absurd (differs e.ticket x.ticket b (ap (λ (z : Token). z.ticket) p))))
    (λ p.
    let ex = has_all (Apart e) es x a.0 p in
    let r = without-taken es x a.1 p in
    pick (λ l. IsTaken (e ∷ es) x l) (e.ticket == x.ticket) es (e ∷ without_ticket x.ticket es) (λ b. absurd (ex.tickets (sym (eqb-true e.ticket x.ticket b))))
    (λ _. (e ∷ r.0, r.1, ap (λ l. e ∷ l) r.2, ap (λ l. e ∷ l) r.3)))
    m

-- all other loans are apart from one that is taken away
pub without_others : (es : List Token) (x : Token) → AllApart es → Has es x → AllByRecursion (Apart x) (without_ticket x.ticket es)
without_others [] x a m = tt
without_others (e ∷ es) x a m =
    ⊎_elim
    (λ (p : e ≡ x). pick (AllByRecursion (Apart x)) (e.ticket == x.ticket) es (e ∷ without_ticket x.ticket es)
    (λ _. subst (λ z. AllByRecursion (Apart z) es) p a.0) (λ b. absurd (differs e.ticket x.ticket b (ap (λ (z : Token). z.ticket) p))))
    (λ p.
    let ex = has_all (Apart e) es x a.0 p in
    pick (AllByRecursion (Apart x)) (e.ticket == x.ticket) es (e ∷ without_ticket x.ticket es) (λ b. absurd (ex.tickets (sym (eqb-true e.ticket x.ticket b))))
    (λ _. (apart_sym e x ex, without_others es x a.1 p)))
    m

-- what holds of the others, and of the one that is taken away, holds of all
pub all_with : (P : Token → Type 0) (k : ℕ) (es : List Token) → ((e : Token) → Has es e → e.ticket ≡ k → P e) → AllByRecursion P (without_ticket k es)
    → AllByRecursion P es
all_with P k [] f h = tt
all_with P k (e ∷ es) f h =
    pick (λ l. AllByRecursion P l → AllByRecursion P (e ∷ es)) (e.ticket == k) es (e ∷ without_ticket k es) (λ b r. (f e (inl refl) (eqb-true e.ticket k b), r))
    (λ _ r. (r.0, all_with P k es (λ x m. f x (inr m)) r.1)) h

-- Words by slot

pub same_slot : (s t i j : ℕ) → i < width → j < width → word_place s i ≡ word_place t j → s ≡ t
same_slot s t i j a b e =
    let x : s * width + i ≡ t * width + j = omega arith in
    sym (div-mul-add s width i a) ∙ ap (λ (n : ℕ). n / width) x ∙ div-mul-add t width j b

pub same_word : (s i j : ℕ) → i < width → j < width → word_place s i ≡ word_place s j → i ≡ j
same_word s i j a b e = omega arith

pub place_within : (s i : ℕ) → s < count → i < width → word_place s i < total
place_within s i a b = let h = mul-add-lt s width i count a b in omega (arith, mul_comm width count)

pub stands_other : (words : List ℕ) (s t i n : ℕ) (ws : List ℕ) → s ≢ t → i < width → WordsStand words t ws → WordsStand (set words (word_place s i) n) t ws
stands_other words s t i n ws apart small h =
    record {
      within = h.within;
      wide = h.wide;
      each = λ j b. get_or-set_other words (word_place s i) (word_place t j) n 0 (λ e. apart (sym (same_slot t s j i b small e))) ∙ h.each j b;
    }

pub stands_here : (words : List ℕ) (s i n : ℕ) (ws : List ℕ) → length words ≡ total → i < width → WordsStand words s ws
    → WordsStand (set words (word_place s i) n) s (set ws i n)
stands_here words s i n ws size small h =
    let far = place_within s i h.within small in
    let wide = h.wide in
    record {
      within = h.within;
      wide = length-set ws i n ∙ h.wide;
      each = λ j b.
          dite (ℕ_discrete j i)
          (λ (e : j ≡ i).
          let P : ℕ → Type 0 = λ k. slice_index (set words (word_place s i) n) (word_place s k) ≡ slice_index (set ws i n) k in
          subst P (sym e) (get_or-set_same words (word_place s i) n 0 (omega arith) ∙ sym (get_or-set_same ws i n 0 (omega arith))))
          (λ (ne : j ≢ i). get_or-set_other words (word_place s i) (word_place s j) n 0 (λ e. ne (same_word s j i b small e)) ∙ h.each j b
          ∙ sym (get_or-set_other ws i j n 0 ne));
    }
