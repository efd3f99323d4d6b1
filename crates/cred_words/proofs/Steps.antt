-- Each of the seven kinds of step keeps the rule.
use Rattle.std.proofs.Common.{◌≡◌, ◌≢◌, ℕ, zero, suc, ◌+◌, ◌<◌, inl, inr, ⊎_elim, List, [], ◌∷◌, ◌++◌, length, set, Option, Some, None, Bool, true, false}
use Rattle.std.proofs.Common.{true≢false, refl, sym, ap, ◌∙◌, subst, arith}
use Rattle.std.specs.Prelude.{slice_get, slice_index, slice_set, ◌&&◌, if◌then◌else◌}
use Rattle.std.specs.List.{AllByRecursion}
use Rattle.std.proofs.lemmas.Option.{same_Some}
use Rattle.std.proofs.lemmas.List.{set-get_or, get_or-set_other}
use Rattle.std.proofs.Math.ListN.{length-set}
use mathlib.Core.Option.{some, some-injective}
use lib.ListN.{get_elem?}
use Rattle.atomic_table.specs.Table.{State, Allows, Splits, Joins, keeps}
use Rattle.atomic_table.proofs.Lists.{set_again}
use Rattle.cred_words.specs.Size.{width, count, word_place}
use Rattle.cred_record.specs.Words.{are_words}
use Rattle.cred_words.specs.declared.view.Slot.{Slot}
use Rattle.cred_words.specs.declared.view.Token.{Token}
use Rattle.cred_words.specs.declared.view.Ledger.{Ledger}
use Rattle.cred_words.specs.declared.view.View.{View}
use Rattle.cred_words.specs.declared.view.View.TheVariants.{Master, Lent, Spent}
use Rattle.cred_words.specs.Lists.{Has}
use Rattle.cred_words.specs.Words.{slot_of, ledger_with, token, as_loan, put_words, tokens_out_of, token_aside}
use Rattle.cred_words.specs.Words.{IsNoMaster, Apart, OwnTickets, WordsStand, FitsAs, LoanFits}
use Rattle.cred_words.specs.Words.{NoWriterOn, KeepsWords, WordRuleHolds, words_at, lent_token}
use Rattle.cred_words.specs.Words.{after_lend, after_lending_token, lends, after_return_of_token, without_ticket, slots_back}
use Rattle.cred_words.specs.Words.{after_back, LearnedToken, LoadsAt, StoresAt}
use Rattle.cred_words.proofs.Lists.{all_snoc, all_set, all_then, all_both, get_set_here, get_set_else, get_set, words_at-get, Ticket, out_of-snoc, own_snoc}
use Rattle.cred_words.proofs.Lists.{one_of, spent_all, spent_own, swap_all, swap_own, has_all, apart_of, same_ticket, without_all, without_apart, has_without}
use Rattle.cred_words.proofs.Lists.{without_others, without-taken, all_with, same_word, stands_other, stands_here}

abbrev pub Held : Type 0
Held = View × List (ℕ × Unit {0})

abbrev pub Kept : State (Unit {0}) View → Type 0
Kept s = WordRuleHolds s.words s.views

-- The parts of the rule at a seat that has the master's view
others_kept : (words : List ℕ) (views : List View) (d : Ledger) → get_elem? views 0 ≡ some (Master d) → WordRuleHolds words views
    → (others : List View) × KeepsWords words views d.slots d.next d.loans d.kept others
others_kept words views d at (slots, next, loans, kept, others, k) =
    let whole : Master (ledger_with slots next loans kept) ≡ Master d = some-injective _ _ (ap (λ (vs : List View). get_elem? vs 0) (sym k.views_are) ∙ at) in
    let same : ledger_with slots next loans kept ≡ d = cc in
    (others, subst (λ (e : Ledger). KeepsWords words views e.slots e.next e.loans e.kept others) same k)

-- and at one that has a token's
record Behind (words : List ℕ) (views : List View) (id : ℕ) (t : Token) : Type 0 where
  slots : List Slot
  next : ℕ
  loans : List Token
  kept : Option Token
  others : List View
  j : ℕ
  place : id ≡ suc j
  here : get_elem? others j ≡ some (Lent t)
  keeps : KeepsWords words views slots next loans kept others

behind : (words : List ℕ) (views : List View) (id : ℕ) (t : Token) → get_elem? views id ≡ some (Lent t) → WordRuleHolds words views → Behind words views id t
behind words views zero t at (slots, next, loans, kept, others, k) =
    let whole : Master (ledger_with slots next loans kept) ≡ Lent t =
    some-injective _ _ (ap (λ (vs : List View). get_elem? vs 0) (sym k.views_are) ∙ at) in absurd (cc)
behind words views (suc j) t at (slots, next, loans, kept, others, k) =
    record {
      slots = slots;
      next = next;
      loans = loans;
      kept = kept;
      others = others;
      j = j;
      place = refl;
      here = ap (λ (vs : List View). get_elem? vs (suc j)) (sym k.views_are)
          ∙ at;
      keeps = k;
    }

-- Entries and slots

old_fits : (slots : List Slot) (s : ℕ) (y : Slot) (e : Token) → LoanFits slots e → e.slot ≢ s → LoanFits (set slots s y) e
old_fits slots s y e h n = by e.writes h
  where
    by : (b : Bool) → FitsAs b slots e → FitsAs b (set slots s y) e
    by true f = (f.0, get_set_else slots e.slot s y n ∙ f.1)
    by false f = get_set_else slots e.slot s y n ∙ f

-- a writer's slot isn't sealed
unsealed : (slots : List Slot) (e : Token) (x : Slot) → LoanFits slots e → e.writes ≡ true → slice_get slots e.slot ≡ Some x → x.sealed ≡ true → ⊥
unsealed slots e x h w at seal =
    let f : FitsAs true slots e = subst (λ b. FitsAs b slots e) w h in
    let same : slot_of f.0 false ≡ x = same_Some _ _ (sym f.1 ∙ at) in
    true≢false (sym seal ∙ ap (λ (z : Slot). z.sealed) (sym same))

-- no writer is out on a sealed slot
pub none_writes : (slots : List Slot) (s : ℕ) (x : Slot) (es : List Token) → slice_get slots s ≡ Some x → x.sealed ≡ true
    → AllByRecursion (LoanFits slots) es → AllByRecursion (NoWriterOn s) es
none_writes slots s x es at seal h = all_then (LoanFits slots) (NoWriterOn s) es (λ e f w same. unsealed slots e x f w (ap (slice_get slots) same ∙ at) seal) h

module _ {words : List ℕ} {views : List View} {slots : List Slot} {next : ℕ} {loans : List Token} {kept : Option Token} {others : List View} where
  -- the tokens that are out are older than the next ticket
  older : KeepsWords words views slots next loans kept others → AllByRecursion (λ t. t.ticket < next) (tokens_out_of (token_aside kept ∷ others))
  older k =
      all_then (λ t. Has loans (as_loan t)) (λ t. t.ticket < next) (tokens_out_of (token_aside kept ∷ others))
      (λ t m. has_all (λ e. e.ticket < next) loans (as_loan t) k.below_next m) k.has_loan

-- 1. Lend a hold: the slot is sealed

pub lends_hold : (d : Ledger) (label slot : ℕ) (x : Slot) → slice_get d.slots slot ≡ Some x → x.sealed ≡ true
    → Splits {S = Unit {0}} Kept 0 (Master d) (after_lending_token label slot false (Master d)) (lends label slot false (Master d))
lends_hold d label slot x is seal s h at =
    let f = others_kept s.words s.views d at h in
    let k = f.1 in
    let t : Token = lent_token d label slot false in
    let ws : words_at d.slots slot ≡ x.words = words_at-get d.slots slot x is in
    let free = none_writes d.slots slot x d.loans is seal k.fit in
    let new : AllByRecursion (Apart (as_loan t)) d.loans =
    all_both (λ e. e.ticket < d.next) (NoWriterOn slot) (Apart (as_loan t)) d.loans
    (λ e o w. record { tickets = λ m. let o' : e.ticket < d.next = o in omega arith; writer = λ b. absurd (true≢false (sym b)); other = w }) k.below_next
    free in
    let fits : FitsAs false d.slots (as_loan t) = is ∙ (λ i. Some (slot_of (sym ws i) (seal i))) in
    let all = tokens_out_of (token_aside d.kept ∷ f.0) in
    let more = sym (out_of-snoc (token_aside d.kept ∷ f.0) t) in
    let lower = older k in (
      d.slots,
      d.next + 1,
      as_loan t ∷ d.loans,
      d.kept,
      f.0 ++ Lent t ∷ [],
      record {
        guide = k.guide;
        size = k.size;
        slot_count = k.slot_count;
        views_are = ap (λ (vs : List View). slice_set vs 0 (Master (after_lend d label slot false)) ++ Lent t ∷ []) k.views_are;
        one_master = all_snoc IsNoMaster f.0 (Lent t) k.one_master tt;
        below_next =
            (omega arith, all_then (λ e. e.ticket < d.next) (λ e. e.ticket < d.next + 1) d.loans (λ e (o : e.ticket < d.next). omega arith) k.below_next);
        has_loan =
            subst (AllByRecursion (λ u. Has (as_loan t ∷ d.loans) (as_loan u))) more (all_snoc _ all t (all_then _ _ all (λ u m. inr m) k.has_loan) (inl refl));
        own_tickets =
            subst OwnTickets more
            (own_snoc all t k.own_tickets (all_then (λ u. u.ticket < d.next) (Ticket t) all (λ u (o : u.ticket < d.next) e. omega arith) lower));
        apart = (new, k.apart);
        fit = (fits, k.fit);
        masters = λ n y g w. k.masters n y g w.1;
        stand =
            subst (AllByRecursion (λ u. WordsStand s.words u.slot u.words)) more
            (all_snoc _ all t k.stand (subst (WordsStand s.words slot) (sym ws) (k.masters slot x is free)));
        sealed = k.sealed;
      },
    )

-- 2. Lend a writer: no token is out on the slot

pub lends_writer : (d : Ledger) (label slot : ℕ) (x : Slot) → slice_get d.slots slot ≡ Some x → AllByRecursion (λ e. e.slot ≢ slot) d.loans
    → Splits {S = Unit {0}} Kept 0 (Master d) (after_lending_token label slot true (Master d)) (lends label slot true (Master d))
lends_writer d label slot x is alone s h at =
    let f = others_kept s.words s.views d at h in
    let k = f.1 in
    let t : Token = lent_token d label slot true in
    let ws : words_at d.slots slot ≡ x.words = words_at-get d.slots slot x is in
    let y : Slot = slot_of (words_at d.slots slot) false in
    let slots' = set d.slots slot y in
    let free = all_then (λ e. e.slot ≢ slot) (NoWriterOn slot) d.loans (λ e n w. n) alone in
    let new : AllByRecursion (Apart (as_loan t)) d.loans =
    all_both (λ e. e.ticket < d.next) (λ e. e.slot ≢ slot) (Apart (as_loan t)) d.loans
    (λ e o w. record { tickets = λ m. let o' : e.ticket < d.next = o in omega arith; writer = λ _. w; other = λ _. w }) k.below_next alone in
    let fits : FitsAs true slots' (as_loan t) = (words_at d.slots slot, get_set_here d.slots slot x y is) in
    let all = tokens_out_of (token_aside d.kept ∷ f.0) in
    let more = sym (out_of-snoc (token_aside d.kept ∷ f.0) t) in
    let lower = older k in (
      slots',
      d.next + 1,
      as_loan t ∷ d.loans,
      d.kept,
      f.0 ++ Lent t ∷ [],
      record {
        guide = k.guide;
        size = k.size;
        slot_count = length-set d.slots slot y ∙ k.slot_count;
        views_are = ap (λ (vs : List View). slice_set vs 0 (Master (after_lend d label slot true)) ++ Lent t ∷ []) k.views_are;
        one_master = all_snoc IsNoMaster f.0 (Lent t) k.one_master tt;
        below_next =
            (omega arith, all_then (λ e. e.ticket < d.next) (λ e. e.ticket < d.next + 1) d.loans (λ e (o : e.ticket < d.next). omega arith) k.below_next);
        has_loan =
            subst (AllByRecursion (λ u. Has (as_loan t ∷ d.loans) (as_loan u))) more (all_snoc _ all t (all_then _ _ all (λ u m. inr m) k.has_loan) (inl refl));
        own_tickets =
            subst OwnTickets more
            (own_snoc all t k.own_tickets (all_then (λ u. u.ticket < d.next) (Ticket t) all (λ u (o : u.ticket < d.next) e. omega arith) lower));
        apart = (new, k.apart);
        fit = (fits, all_both (LoanFits d.slots) (λ e. e.slot ≢ slot) (LoanFits slots') d.loans (λ e g n. old_fits d.slots slot y e g n) k.fit alone);
        masters = λ n z g w. ⊎_elim (λ r. absurd (w.0 refl (sym r.0))) (λ r. k.masters n z r.1 w.1) (get_set d.slots slot n y z g);
        stand =
            subst (AllByRecursion (λ u. WordsStand s.words u.slot u.words)) more
            (all_snoc _ all t k.stand (subst (WordsStand s.words slot) (sym ws) (k.masters slot x is free)));
        sealed =
            λ n z g b. ⊎_elim (λ (r : (n ≡ slot) × (y ≡ z)). absurd (true≢false (sym b ∙ ap (λ (v : Slot). v.sealed) (sym r.1)))) (λ r. k.sealed n z r.1 b)
            (get_set d.slots slot n y z g);
      },
    )

-- 3. Return a hold or a writer

pub returns : (slots : List Slot) (next : ℕ) (loans : List Token) (other : ℕ) (t : Token)
    → (let d : Ledger = ledger_with slots next loans None in Joins {S = Unit {0}} Kept 0 (Master d) other (Lent t) (after_return_of_token (Master d) (Lent t))
    Spent)
returns slots next loans zero t s h at ne there = absurd (ne refl)
returns slots next loans (suc j) t s h at ne there =
    let d : Ledger = ledger_with slots next loans None in
    let e : Ledger = ledger_with slots next loans (Some t) in
    let f = others_kept s.words s.views d at h in
    let k = f.1 in
    let here : get_elem? f.0 j ≡ some (Lent t) = ap (λ (vs : List View). get_elem? (slice_set vs 0 (Master e)) (suc j)) (sym k.views_are) ∙ there in (
      slots,
      next,
      loans,
      Some t,
      set f.0 j Spent,
      record {
        guide = k.guide;
        size = k.size;
        slot_count = k.slot_count;
        views_are = ap (λ (vs : List View). slice_set (slice_set vs 0 (Master e)) (suc j) Spent) k.views_are;
        one_master = all_set IsNoMaster f.0 j Spent k.one_master tt;
        below_next = k.below_next;
        has_loan = (one_of (λ u. Has loans (as_loan u)) f.0 j t here k.has_loan, spent_all (λ u. Has loans (as_loan u)) f.0 j k.has_loan);
        own_tickets = spent_own f.0 j t here k.own_tickets;
        apart = k.apart;
        fit = k.fit;
        masters = k.masters;
        stand = (one_of (λ u. WordsStand s.words u.slot u.words) f.0 j t here k.stand, spent_all (λ u. WordsStand s.words u.slot u.words) f.0 j k.stand);
        sealed = k.sealed;
      },
    )

-- 4. The load after a return

both_true : (a b : Bool) → (a && b) ≡ true → b ≡ true
both_true true b e = e
both_true false b e = absurd (true≢false (sym e))

-- what the slots are afterwards, and what is asked of them
record Back (words : List ℕ) (slots : List Slot) (loans : List Token) : Type 0 where
  slot_count : length slots ≡ count
  fit : AllByRecursion (LoanFits slots) loans
  masters : (s : ℕ) (x : Slot) → slice_get slots s ≡ Some x → AllByRecursion (NoWriterOn s) loans → WordsStand words s x.words
  sealed : (s : ℕ) (x : Slot) → slice_get slots s ≡ Some x → x.sealed ≡ true → are_words x.words ≡ true

comes_back : (words : List ℕ) (views : List View) (slots : List Slot) (next : ℕ) (loans : List Token) (t : Token) (others : List View) (put : Bool)
    → KeepsWords words views slots next loans (Some t) others
    → (b : Bool) → t.writes ≡ b → Back words (slots_back slots t put b) (without_ticket t.ticket loans)
comes_back words views slots next loans t others put k b is = by b is
  where
    mine : Has loans (as_loan t)
    mine = k.has_loan.0

    -- the loan that is taken away is the token's
    all : (P : Token → Type 0) → P (as_loan t) → AllByRecursion P (without_ticket t.ticket loans) → AllByRecursion P loans
    all P p = all_with P t.ticket loans (λ e m s. subst P (same_ticket loans (as_loan t) e k.apart mine m s) p)

    by : (b : Bool) → t.writes ≡ b → Back words (slots_back slots t put b) (without_ticket t.ticket loans)
    by false w =
        record {
          slot_count = k.slot_count;
          fit = without_all (LoanFits slots) t.ticket loans k.fit;
          masters = λ s x g n. k.masters s x g (all (NoWriterOn s) (λ v. absurd (true≢false (sym v ∙ w))) n);
          sealed = k.sealed;
        }
    by true w =
        let y : Slot = slot_of t.words (put && are_words t.words) in
        let f : FitsAs true slots (as_loan t) = subst (λ b. FitsAs b slots (as_loan t)) w (has_all (LoanFits slots) loans (as_loan t) k.fit mine) in
        let apart = without_others loans (as_loan t) k.apart mine in
        record {
          slot_count = length-set slots t.slot y ∙ k.slot_count;
          fit =
              all_both (LoanFits slots) (Apart (as_loan t)) (LoanFits (set slots t.slot y)) (without_ticket t.ticket loans)
              (λ e g a. old_fits slots t.slot y e g (a.writer w)) (without_all (LoanFits slots) t.ticket loans k.fit) apart;
          masters = λ s x g n.
              ⊎_elim
              (λ (r : (s ≡ t.slot) × (y ≡ x)). subst (λ (z : ℕ × Slot). WordsStand words z.0 z.1.words) (λ i. (sym r.0 i, r.1 i)) k.stand.0)
              (λ r. k.masters s x r.1 (all (NoWriterOn s) (λ _ same. r.0 (sym same)) n))
              (get_set slots t.slot s y x g);
          sealed = λ s x g b.
              ⊎_elim
              (λ (r : (s ≡ t.slot) × (y ≡ x)). subst (λ (z : Slot). z.sealed ≡ true → are_words z.words ≡ true) r.1 (both_true put (are_words t.words)) b)
              (λ r. k.sealed s x r.1 b)
              (get_set slots t.slot s y x g);
        }

pub learns : (slots : List Slot) (next : ℕ) (loans : List Token) (t : Token) (put : Bool) (n : ℕ)
    → (let d : Ledger = ledger_with slots next loans (Some t) in Allows {S = Unit {0}} Kept n 0 (Master d, []) 0 (λ m. m)
    (λ _ w. LearnedToken put (Master d) w.0 × (w.1 ≡ [])))
learns slots next loans t put n s h homes at range =
    let d : Ledger = ledger_with slots next loans (Some t) in
    let f = others_kept s.words s.views d at h in
    let k = f.1 in
    let e : Ledger = after_back d t put in
    let r = comes_back s.words s.views slots next loans t f.0 put k t.writes refl in
    let rest = k.own_tickets.0 in (
      Master e,
      keeps,
      tt,
      (
        e.slots,
        next,
        e.loans,
        None,
        f.0,
        subst (λ ws. KeepsWords ws (slice_set s.views 0 (Master e)) e.slots next e.loans None f.0) (sym (set-get_or s.words 0 0))
            record {
              guide = k.guide;
              size = k.size;
              slot_count = r.slot_count;
              views_are = ap (λ (vs : List View). slice_set vs 0 (Master e)) k.views_are;
              one_master = k.one_master;
              below_next = without_all (λ e. e.ticket < next) t.ticket loans k.below_next;
              has_loan =
                  all_both (λ u. Has loans (as_loan u)) (Ticket t) (λ u. Has (without_ticket t.ticket loans) (as_loan u)) (tokens_out_of f.0)
                  (λ u m ne. has_without t.ticket loans (as_loan u) m ne) k.has_loan.1 rest;
              own_tickets = k.own_tickets.1;
              apart = without_apart t.ticket loans k.apart;
              fit = r.fit;
              masters = r.masters;
              stand = k.stand.1;
              sealed = r.sealed;
            },
      ),
      ((without-taken loans (as_loan t) k.apart k.has_loan.0, has_all (LoanFits slots) loans (as_loan t) k.fit k.has_loan.0, refl), refl),
    )

-- 5. Read a word

pub reads : (id : ℕ) (t : Token) (word n : ℕ)
    → Allows {S = Unit {0}} Kept n id (Lent t, []) word (λ m. m) (λ m w. (w.0 ≡ Lent t) × LoadsAt word (Lent t) m × (w.1 ≡ []))
reads id t word n s h homes at range =
    let b = behind s.words s.views id t at h in
    let stands = one_of (λ u. WordsStand s.words u.slot u.words) (token_aside b.kept ∷ b.others) (suc b.j) t b.here b.keeps.stand in (
      Lent t,
      keeps,
      tt,
      subst (λ ws. WordRuleHolds ws (slice_set s.views id (Lent t))) (sym (set-get_or s.words word 0))
          (subst (WordRuleHolds s.words) (sym (set_again s.views id (Lent t) at)) h),
      (refl, (λ i small is. ap (slice_index s.words) is ∙ stands.each i small), refl),
    )

-- 6. Put a word

loan_put : (t : Token) (ws : List ℕ) → t.writes ≡ true → as_loan t ≡ as_loan (put_words t ws)
loan_put t ws w = ap (λ (l : List ℕ). token t.ticket t.label t.slot t.writes l) (by t.writes w)
  where
    by : (b : Bool) → b ≡ true → (if b then [] else t.words) ≡ (if b then [] else ws)
    by true e = refl
    by false e = absurd (true≢false (sym e))

pub puts : (id : ℕ) (t : Token) (i v n : ℕ) → i < width → t.writes ≡ true
    → Allows {S = Unit {0}} Kept n id (Lent t, []) (word_place t.slot i) (λ _. v) (λ _ w. StoresAt (word_place t.slot i) v (Lent t) w.0 × (w.1 ≡ []))
puts id t i v n small writes s h homes at range =
    let b = behind s.words s.views id t at h in
    let k = b.keeps in
    let all : List View = token_aside b.kept ∷ b.others in
    let u : Token = put_words t (set t.words i v) in
    let mine = one_of (λ q. Has b.loans (as_loan q)) all (suc b.j) t b.here k.has_loan in
    let stands = one_of (λ q. WordsStand s.words q.slot q.words) all (suc b.j) t b.here k.stand in
    let now = set s.words (word_place t.slot i) v in
    let same_loan : as_loan t ≡ as_loan u = loan_put t (set t.words i v) writes in
    let apart_from =
    λ (q : Token) (m : Has b.loans (as_loan q)) (ne : q.ticket ≢ t.ticket). (apart_of b.loans (as_loan t) (as_loan q) k.apart mine m ne).writer writes in
    let both : AllByRecursion (λ q. Has b.loans (as_loan q) × WordsStand s.words q.slot q.words) (tokens_out_of all) =
    all_both _ _ _ (tokens_out_of all) (λ q m g. (m, g)) k.has_loan k.stand in (
      Lent u,
      keeps,
      tt,
      (
        b.slots,
        b.next,
        b.loans,
        b.kept,
        set b.others b.j (Lent u),
        record {
          guide = get_or-set_other s.words (word_place t.slot i) 0 v 0 (λ e. omega arith) ∙ k.guide;
          size = length-set s.words (word_place t.slot i) v ∙ k.size;
          slot_count = k.slot_count;
          views_are =
              subst (λ (m : ℕ). slice_set s.views m (Lent u) ≡ Master (ledger_with b.slots b.next b.loans b.kept) ∷ set b.others b.j (Lent u)) (sym b.place)
              (ap (λ (vs : List View). slice_set vs (suc b.j) (Lent u)) k.views_are);
          one_master = all_set IsNoMaster b.others b.j (Lent u) k.one_master tt;
          below_next = k.below_next;
          has_loan =
              swap_all (λ q. Has b.loans (as_loan q)) (λ q. Has b.loans (as_loan q)) all (suc b.j) t u b.here k.own_tickets (λ q _ m. m)
              (subst (Has b.loans) same_loan mine) k.has_loan;
          own_tickets = swap_own all (suc b.j) t u b.here refl k.own_tickets;
          apart = k.apart;
          fit = k.fit;
          masters = λ m x g w. stands_other s.words t.slot m i v x.words (has_all (NoWriterOn m) b.loans (as_loan t) w mine writes) small (k.masters m x g w);
          stand =
              swap_all (λ q. Has b.loans (as_loan q) × WordsStand s.words q.slot q.words) (λ q. WordsStand now q.slot q.words) all (suc b.j) t u b.here
              k.own_tickets (λ q ne g. stands_other s.words t.slot q.slot i v q.words (λ e. apart_from q g.0 ne (sym e)) small g.1)
              (stands_here s.words t.slot i v t.words k.size small stands) both;
          sealed = k.sealed;
        },
      ),
      ((λ j b is. ap (λ (m : ℕ). Lent (put_words t (set t.words m v))) (same_word t.slot i j small b is)), refl),
    )
