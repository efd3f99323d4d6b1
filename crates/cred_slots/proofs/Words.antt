-- The flags of four words.
use Rattle.std.proofs.Common.{◌≡◌, ◌≢◌, ℕ, zero, suc, ◌+◌, ◌*◌, ◌/◌, ◌%◌, ◌<◌, ◌≤◌, ◌==◌, ◌||◌, Bool, true, false, not, cond, List, [], ◌∷◌, length, get_or}
use Rattle.std.proofs.Common.{map, max, refl, sym, ap, ◌∙◌, inl, inr, bit_or, arith, Some, None, slice_set, find}
use Rattle.std.specs.Int.{bit_at}
use Rattle.std.specs.List.{range_with_len}
use Rattle.std.proofs.lemmas.List.FromFn.{length-map-range_with_len, get_or-map-range_with_len, fill_by_all}
use Rattle.std.proofs.lemmas.Nat.Bits.{bit_at_or, bit_at-lt}
use Rattle.std.proofs.lemmas.Bool.{cases_lt, cases_eq}
use Rattle.std.proofs.Common.{length-set, get_or-set_same, get_or-set_other}
use Rattle.cred_ids.specs.Limits.{SLOTS, slots}
use Rattle.cred_slots.specs.Flags.{FLAG_WORDS, flag_at, flags_of, in_either, first_unset}

pub length-flags_of : (words : List ℕ) → length (flags_of words) ≡ SLOTS
unfolding flags_of slots
length-flags_of words = length-map-range_with_len (flag_at words) 0 SLOTS

pub get_or-flags_of : (words : List ℕ) (slot : ℕ) → slot < SLOTS → get_or (flags_of words) slot false ≡ flag_at words slot
unfolding flags_of slots
get_or-flags_of words slot within = get_or-map-range_with_len (flag_at words) 0 SLOTS slot slot false within (omega arith)

-- flags that are right at each place
pub flags_of-is : (words : List ℕ) (flags : List Bool) → length flags ≡ SLOTS → ((k : ℕ) → k < SLOTS → get_or flags k false ≡ flag_at words k)
    → flags_of words ≡ flags
unfolding flags_of slots
flags_of-is words flags long each = sym (fill_by_all (flag_at words) flags SLOTS false long each)

one_is : (flag : Bool) (bit : ℕ) → bit ≡ cond flag 1 0 → (bit == 1) ≡ flag
one_is true bit e = rw e refl
one_is false bit e = rw e refl

put_at : (words : List ℕ) (slot word : ℕ) (flag : Bool) → length words ≡ FLAG_WORDS → slot < SLOTS → bit_at word (slot % 64) ≡ cond flag 1 0
    → ((i : ℕ) → i < 64 → i ≢ slot % 64 → bit_at word i ≡ bit_at (get_or words (slot / 64) 0) i)
    → (k : ℕ) → k < SLOTS → get_or (slice_set (flags_of words) slot flag) k false ≡ flag_at (slice_set words (slot / 64) word) k
put_at words slot word flag four within same others k h =
    let long = length-flags_of words in
    elim (cases_eq k slot) [
      | inl e ↦
          let q : slot / 64 < length words = omega arith in
          let p : slot < length (flags_of words) = omega arith in
          rw e (rw (get_or-set_same (flags_of words) slot flag false p, get_or-set_same words (slot / 64) word 0 q) (sym (one_is flag _ same)))
      | inr ne ↦
          rw (get_or-set_other (flags_of words) slot k flag false ne, get_or-flags_of words k h)
          (ap (λ b. b == 1) (sym (elim (cases_eq (k / 64) (slot / 64)) [
            | inl e ↦
                let q : slot / 64 < length words = omega arith in
                rw (e, get_or-set_same words (slot / 64) word 0 q) (others (k % 64) (omega arith) (omega arith))
            | inr off ↦ rw (get_or-set_other words (slot / 64) (k / 64) word 0 off) refl
          ])))
    ]

pub flags_of-put : (words : List ℕ) (slot word : ℕ) (flag : Bool) → length words ≡ FLAG_WORDS → slot < SLOTS → bit_at word (slot % 64) ≡ cond flag 1 0
    → ((i : ℕ) → i < 64 → i ≢ slot % 64 → bit_at word i ≡ bit_at (get_or words (slot / 64) 0) i)
    → flags_of (slice_set words (slot / 64) word) ≡ slice_set (flags_of words) slot flag
flags_of-put words slot word flag four within same others =
    flags_of-is (slice_set words (slot / 64) word) (slice_set (flags_of words) slot flag) (omega (arith, length-set {A = Bool}, length-flags_of words))
    (λ k h. put_at words slot word flag four within same others k h)

either_bit : (a b : ℕ) → a < 2 → b < 2 → (max a b == 1) ≡ (a == 1 || b == 1)
either_bit zero zero p q = refl
either_bit zero (suc zero) p q = refl
either_bit (suc zero) zero p q = refl
either_bit (suc zero) (suc zero) p q = refl
either_bit (suc (suc a)) b p q = absurd (omega arith)
either_bit a (suc (suc b)) p q = absurd (omega arith)

-- the words of both, one by one
abbrev pub or_words : List ℕ → List ℕ → List ℕ
or_words xs ys =
    bit_or (get_or xs 0 0) (get_or ys 0 0) ∷ bit_or (get_or xs 1 0) (get_or ys 1 0) ∷ bit_or (get_or xs 2 0) (get_or ys 2 0)
    ∷ bit_or (get_or xs 3 0) (get_or ys 3 0) ∷ []

or_word : (xs ys : List ℕ) (q : ℕ) → q < 4 → get_or (or_words xs ys) q 0 ≡ bit_or (get_or xs q 0) (get_or ys q 0)
or_word xs ys zero h = refl
or_word xs ys (suc zero) h = refl
or_word xs ys (suc (suc zero)) h = refl
or_word xs ys (suc (suc (suc zero))) h = refl
or_word xs ys (suc (suc (suc (suc q)))) h = absurd (omega arith)

pub flag_at-or_words : (xs ys : List ℕ) (k : ℕ) → k < SLOTS → flag_at (or_words xs ys) k ≡ (flag_at xs k || flag_at ys k)
flag_at-or_words xs ys k h =
    rw (or_word xs ys (k / 64) (omega arith), bit_at_or (get_or xs (k / 64) 0) (get_or ys (k / 64) 0) (k % 64))
    (either_bit _ _ (bit_at-lt _ _) (bit_at-lt _ _))

pub flags_of-or_words : (xs ys : List ℕ) → flags_of (or_words xs ys) ≡ map (in_either (flags_of xs) (flags_of ys)) slots
unfolding slots
flags_of-or_words xs ys =
    flags_of-is (or_words xs ys) (map (in_either (flags_of xs) (flags_of ys)) slots)
    (length-map-range_with_len (in_either (flags_of xs) (flags_of ys)) 0 SLOTS)
    (λ k h. get_or-map-range_with_len (in_either (flags_of xs) (flags_of ys)) 0 SLOTS k k false h (omega arith)
    ∙ rw (get_or-flags_of xs k h, get_or-flags_of ys k h) (sym (flag_at-or_words xs ys k h)))

pub find_first : (test : ℕ → Bool) (a n s : ℕ) → a ≤ s → s < a + n → test s ≡ true → ((k : ℕ) → a ≤ k → k < s → test k ≡ false)
    → find test (range_with_len a n) ≡ Some s
find_first test a zero s low high here before = absurd (omega arith)
find_first test a (suc n) s low high here before = elim (cases_lt a s) [
  | inl lt ↦ rw (before a (omega arith) lt) (find_first test (a + 1) n s (omega arith) (omega arith) here (λ k l h. before k (omega arith) h))
  | inr ge ↦ let same : a ≡ s = omega arith in rw (same, here) refl
]

pub find_none : (test : ℕ → Bool) (a n : ℕ) → ((k : ℕ) → a ≤ k → k < a + n → test k ≡ false) → find test (range_with_len a n) ≡ None
find_none test a zero each = refl
find_none test a (suc n) each = rw (each a (omega arith) (omega arith)) (find_none test (a + 1) n (λ k l h. each k (omega arith) (omega arith)))

pub first_unset-is : (flags : List Bool) (s : ℕ) → s < SLOTS → get_or flags s false ≡ false → ((k : ℕ) → k < s → get_or flags k false ≡ true)
    → first_unset flags ≡ Some s
unfolding slots
first_unset-is flags s within here before =
    find_first (λ slot. not (get_or flags slot false)) 0 SLOTS s (omega arith) within (ap not here) (λ k l h. ap not (before k h))

pub first_unset-none : (flags : List Bool) → ((k : ℕ) → k < SLOTS → get_or flags k false ≡ true) → first_unset flags ≡ None
unfolding slots
first_unset-none flags each = find_none (λ slot. not (get_or flags slot false)) 0 SLOTS (λ k l h. ap not (each k h))

pub unset_here : (words : List ℕ) (index bit : ℕ) → bit < 64 → bit_at (get_or words index 0) bit ≡ 0 → flag_at words (index * 64 + bit) ≡ false
unset_here words index bit within clear =
    let word : (index * 64 + bit) / 64 ≡ index = omega arith in
    let place : (index * 64 + bit) % 64 ≡ bit = omega arith in
    rw (word, place, clear) refl

-- the flags of the words before, and of the lower bits of this one
pub set_below : (words : List ℕ) (index bit : ℕ) → bit ≤ 64 → ((k : ℕ) → k < index * 64 → flag_at words k ≡ true)
    → ((i : ℕ) → i < bit → bit_at (get_or words index 0) i ≡ 1) → (k : ℕ) → k < index * 64 + bit → flag_at words k ≡ true
set_below words index bit within before here k h = elim (cases_lt k (index * 64)) [
  | inl lt ↦ before k lt
  | inr ge ↦
      let word : k / 64 ≡ index = omega arith in
      rw (word, here (k % 64) (omega arith)) refl
]

pub first_unset-at : (words : List ℕ) (index bit : ℕ) → index < FLAG_WORDS → bit < 64 → ((k : ℕ) → k < index * 64 → flag_at words k ≡ true)
    → bit_at (get_or words index 0) bit ≡ 0 → ((i : ℕ) → i < bit → bit_at (get_or words index 0) i ≡ 1)
    → first_unset (flags_of words) ≡ Some (index * 64 + bit)
first_unset-at words index bit word within before here lower =
    first_unset-is (flags_of words) (index * 64 + bit) (omega arith)
    (get_or-flags_of words _ (omega arith) ∙ unset_here words index bit within here)
    (λ k h. get_or-flags_of words k (omega arith) ∙ set_below words index bit (omega arith) before lower k h)

pub first_unset-nowhere : (words : List ℕ) → ((k : ℕ) → k < SLOTS → flag_at words k ≡ true) → first_unset (flags_of words) ≡ None
first_unset-nowhere words each = first_unset-none (flags_of words) (λ k h. get_or-flags_of words k h ∙ each k h)
