-- The table at the start keeps the rule, and the numbers of a kit's build.
use Rattle.std.proofs.Common.{◌≡◌, ℕ, zero, suc, ◌+◌, ◌*◌, ◌<◌, [], ◌∷◌, replicate, Some, None, false, true≢false, refl, sym, ap, ◌∙◌, subst, arith}
use Rattle.std.specs.Prelude.{slice_get}
use Rattle.std.proofs.lemmas.Option.{same_Some}
use Rattle.std.proofs.lemmas.List.{length-replicate, get_or-replicate}
use Rattle.cred_ids.specs.Limits.{SLOTS}
use Rattle.cred_record.specs.declared.layout.TheConstants.{WORDS}
use Rattle.cred_words.specs.Size.{width, count, total, word_place}
use Rattle.cred_words.specs.declared.view.Slot.{Slot}
use Rattle.cred_words.specs.Words.{slot_of, WordsStand, WordRuleHolds, first_master}
use Rattle.cred_words.proofs.Lists.{place_within}

pub width_is : width ≡ WORDS
unfolding width
width_is = refl

pub count_is : count ≡ SLOTS
unfolding count
count_is = refl

pub total_is : total ≡ 1 + SLOTS * WORDS
unfolding width count
total_is = refl

get_replicate : {A : Type 0} (n k : ℕ) (x y : A) → slice_get (replicate n x) k ≡ Some y → (k < n) × (x ≡ y)
get_replicate zero k x y e = absurd (cc)
get_replicate (suc n) zero x y e = (omega arith, same_Some _ _ e)
get_replicate (suc n) (suc k) x y e = let r = get_replicate n k x y e in let b = r.0 in (omega arith, r.1)

blank : ℕ → Slot
blank n = slot_of (replicate n 0) false

pub opens : WordRuleHolds (replicate total 0) (first_master ∷ [])
opens = (
  replicate count (slot_of (replicate width 0) false),
  0,
  [],
  None,
  [],
  record {
    guide = get_or-replicate total 0 0 0 (omega arith);
    size = length-replicate total 0;
    slot_count = length-replicate count _;
    views_are = refl;
    one_master = tt;
    below_next = tt;
    has_loan = tt;
    own_tickets = tt;
    apart = tt;
    fit = tt;
    masters = λ s x g w.
        let r = get_replicate count s (slot_of (replicate width 0) false) x g in
        subst (λ (y : Slot). WordsStand (replicate total 0) s y.words) r.1
        record {
          within = r.0;
          wide = length-replicate width 0;
          each = λ i b. get_or-replicate total (word_place s i) 0 0 (place_within s i r.0 b) ∙ sym (get_or-replicate width i 0 0 b);
        };
    stand = tt;
    sealed = λ s x g b. absurd (true≢false (sym b ∙ ap (λ (y : Slot). y.sealed) (sym (get_replicate count s (slot_of (replicate width 0) false) x g).1)));
  },
)
