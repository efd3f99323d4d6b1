-- All the words of a credential, read or put one after another.
use Rattle.std.proofs.Common.{◌≡◌, ℕ, zero, suc, false, replicate, ◌+◌, ◌*◌, ◌<◌, ◌≤◌, ◌/◌, ◌%◌, List, length, take, min, set, slice_index, ⊎_elim, true, refl}
use Rattle.std.proofs.Common.{sym, ap, ◌∙◌, subst, arith, length-set}
use Rattle.std.proofs.lemmas.Bool.{cases_lt}
use Rattle.std.proofs.lemmas.Grind.{div_ceil_times}
use Rattle.std.proofs.lemmas.Option.{same_Some}
use Rattle.std.proofs.lemmas.List.{get_or-set_same, get_or-set_other, take-set-le}
use Rattle.cred_ids.specs.Ordered.{in_order}
use Rattle.cred_record.specs.Words.{are_words, is_credential, words_of, credential_in, group_count}
use Rattle.cred_record.specs.declared.layout.TheConstants.{WORDS, FLAGS, GROUPS}
use Rattle.cred_record.proofs.WordLemmas.{words-are, length-words_of, count-is, filled}
use Rattle.cred_record.proofs.Blank.{Blank, blank-words_of, past}
use Rattle.cred_words.specs.Size.{width}
use Rattle.cred_words.specs.Words.{put_words, slot_of}
use Rattle.cred_words.specs.declared.view.Slot.{Slot}
use Rattle.cred_words.specs.declared.view.Token.{Token}
use Rattle.cred_hold.specs.Tokens.{AreSlots, AreZeros}

pub length-known : (ws : List ℕ) → are_words ws ≡ true → length ws ≡ WORDS
length-known ws is = ap length (words-are ws is).1 ∙ length-words_of (credential_in ws)

-- the words of a slot that nothing was ever put in: those of a credential whose numbers are all 0
zeros-known : are_words (replicate width 0) ≡ true
unfolding are_words is_credential words_of credential_in in_order width
zeros-known = refl

-- so are the slots of a new table
pub slots_none : (n : ℕ) → AreSlots (replicate n (slot_of (replicate width 0) false))
slots_none zero s x at = absurd (cc)
slots_none (suc n) zero x at = subst (λ (y : Slot). are_words y.words ≡ true) (same_Some _ _ at) zeros-known
slots_none (suc n) (suc s) x at = slots_none n s x at

blank-known : (ws : List ℕ) (i : ℕ) → are_words ws ≡ true → group_count (slice_index ws FLAGS) ≤ 2 * i → Blank (GROUPS + i) ws
blank-known ws i is few =
    subst (Blank (GROUPS + i)) (sym (words-are ws is).1) (blank-words_of (credential_in ws) i (omega (arith, count-is ws is)))

-- the words past those of so many groups are 0
pub end-blank : (ws : List ℕ) (n end : ℕ) → are_words ws ≡ true → n ≡ group_count (slice_index ws FLAGS) → end ≡ n / 2 + min 1 (n % 2) → Blank (GROUPS + end) ws
end-blank ws n end is same end_is =
    let half = div_ceil_times n 2 (omega arith) in
    blank-known ws end is (omega arith)

pub blank-zeros : (ws : List ℕ) (first : ℕ) → length ws ≡ width → AreZeros first ws → Blank first ws
blank-zeros ws first wide zeros k from =
    ⊎_elim
    (λ (small : k < width). zeros k from small)
    (λ (large : width ≤ k). past ws k (omega arith))
    (cases_lt k width)

-- ---- words that are put one after another

-- so many words of the token are these, and all else is as it was
pub record PutTo (t u : Token) (ws : List ℕ) (place : ℕ) : Type 0 where
  pub token : u ≡ put_words t u.words
  pub wide : length u.words ≡ WORDS
  pub same : take place u.words ≡ take place ws
  pub rest : (k : ℕ) → place ≤ k → slice_index u.words k ≡ slice_index t.words k

pub put_start : (t u : Token) (ws : List ℕ) → u ≡ t → length t.words ≡ WORDS → PutTo t u ws 0
put_start t u ws is wide =
    let start : PutTo t t ws 0 = record { token = refl; wide = wide; same = refl; rest = λ k from. refl } in
    subst (λ (y : Token). PutTo t y ws 0) (sym is) start

pub put_more : (t u v : Token) (ws : List ℕ) (place x : ℕ) → place < WORDS → length ws ≡ WORDS → x ≡ slice_index ws place
    → v ≡ put_words u (set u.words place x) → PutTo t u ws place → PutTo t v ws (place + 1)
put_more t u v ws place x small long is put h =
    let wide = h.wide in
    let w : Token = put_words u (set u.words place x) in
    let more : PutTo t w ws (place + 1) = record {
      token = ap (λ (y : Token). put_words y (set u.words place x)) h.token;
      wide = length-set u.words place x ∙ h.wide;
      same = filled u.words ws place x (omega arith) (omega arith) h.same is;
      rest = λ k from. get_or-set_other u.words place k x 0 (λ same. omega (arith, same)) ∙ h.rest k (omega arith);
    } in
    subst (λ (y : Token). PutTo t y ws (place + 1)) (sym put) more

-- the words of the token are 0 from the first on and up to i, and past both i and the last; those
-- before the first are as they were
pub record Cleared (t u : Token) (first last i : ℕ) : Type 0 where
  pub from : first ≤ i
  pub token : u ≡ put_words t u.words
  pub wide : length u.words ≡ width
  pub same : take first u.words ≡ take first t.words
  pub zeros : (k : ℕ) → first ≤ k → k < i → slice_index u.words k ≡ 0
  pub rest : (k : ℕ) → i ≤ k → last ≤ k → slice_index u.words k ≡ 0

pub clear_start : (t : Token) (first last : ℕ) → length t.words ≡ width → ((k : ℕ) → first ≤ k → last ≤ k → slice_index t.words k ≡ 0)
    → Cleared t t first last first
clear_start t first last wide rest = record {
  from = omega arith;
  token = refl;
  wide = wide;
  same = refl;
  zeros = λ k a b. absurd (omega arith);
  rest = rest;
}

pub clear_more : (t u v : Token) (first last i : ℕ) → i < width → v ≡ put_words u (set u.words i 0) → Cleared t u first last i → Cleared t v first last (i + 1)
clear_more t u v first last i small put h =
    let a = h.from in
    let wide = h.wide in
    let w : Token = put_words u (set u.words i 0) in
    let more : Cleared t w first last (i + 1) = record {
      from = omega arith;
      token = ap (λ (y : Token). put_words y (set u.words i 0)) h.token;
      wide = length-set u.words i 0 ∙ h.wide;
      same = take-set-le first u.words i 0 h.from ∙ h.same;
      zeros = λ k from below.
          ⊎_elim
          (λ (before : k < i). get_or-set_other u.words i k 0 0 (λ same. omega (arith, same)) ∙ h.zeros k from before)
          (λ (at : i ≤ k). let same : k ≡ i = omega arith in ap (λ (n : ℕ). slice_index (set u.words i 0) n) same ∙ get_or-set_same u.words i 0 0 (omega arith))
          (cases_lt k i);
      rest = λ k from past. get_or-set_other u.words i k 0 0 (λ same. omega (arith, same)) ∙ h.rest k (omega arith) past;
    } in
    subst (λ (y : Token). Cleared t y first last (i + 1)) (sym put) more

pub cleared : (t u : Token) (first last i : ℕ) → last ≤ i → Cleared t u first last i → AreZeros first u.words
cleared t u first last i past h k from small =
    ⊎_elim
    (λ (before : k < i). h.zeros k from before)
    (λ (at : i ≤ k). h.rest k at (omega arith))
    (cases_lt k i)
