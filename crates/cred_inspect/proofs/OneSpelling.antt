-- Bytes that spell the same, with no other bit and each below 256, are the same bytes.
use Rattle.std.proofs.Common.{◌≡◌, inl, inr, ℕ, ◌+◌, ◌*◌, ◌/◌, ◌%◌, ◌^◌, ◌<◌, ◌≤◌, ◌==◌, false, List, length}
use Rattle.std.proofs.Common.{slice_index, All, sym, ap, subst, ◌∙◌, arith}
use Rattle.std.specs.Int.{bit_at}
use Rattle.std.proofs.lemmas.Bool.{cases_lt}
use Rattle.std.proofs.lemmas.Bool.Decides.{nat_tests}
use Rattle.std.proofs.lemmas.List.{get_or_past}
use Rattle.std.proofs.lemmas.Grind.{same_number_lists}
use Rattle.std.proofs.lemmas.Nat.Bits.{same_from_bits_below, bit_at-lt, bit_at_cat_low}
use Rattle.cred_rules.specs.Attribute.{Attribute, word_at, high_in, SpellsSet, IsVersion1, IsVersion2, IsVersion3, perm_low, inh_low, perm_high, inh_high, magic}
use Rattle.cred_rules.specs.Bits.{has_bit}
use Rattle.cred_capdata.specs.declared.data.CapData.{CapData}
use Rattle.cred_inspect.specs.Encoding.{AreBytesOf}
use Rattle.cred_inspect.specs.Records.{AreBytesAs3}

-- ---- a word and its four bytes

abbrev AreBytes : List ℕ → Type 0
AreBytes bytes = All (λ byte. byte < 256) bytes

byte-at : (bytes : List ℕ) → AreBytes bytes → (i : ℕ) → slice_index bytes i < 256
byte-at bytes each i =
    elim (cases_lt i (length bytes)) [
      | inl within ↦ each i 0 within
      | inr past ↦ omega (arith, get_or_past bytes i 0 past)
    ]

word-fits : (bytes : List ℕ) (i : ℕ) → AreBytes bytes → word_at bytes i < 2 ^ 32
unfolding word_at
word-fits bytes i each =
    omega (arith, byte-at bytes each i, byte-at bytes each (i + 1), byte-at bytes each (i + 2), byte-at bytes each (i + 3))

-- the bytes from a place on are the same four
record AreSame (xs ys : List ℕ) (i : ℕ) : Type 0 where
  first : slice_index xs i ≡ slice_index ys i
  second : slice_index xs (i + 1) ≡ slice_index ys (i + 1)
  third : slice_index xs (i + 2) ≡ slice_index ys (i + 2)
  fourth : slice_index xs (i + 3) ≡ slice_index ys (i + 3)

same-four : (a b c d p q r s : ℕ) → a < 256 → b < 256 → c < 256 → d < 256 → p < 256 → q < 256 → r < 256 → s < 256
    → a + 256 * b + 256 ^ 2 * c + 256 ^ 3 * d ≡ p + 256 * q + 256 ^ 2 * r + 256 ^ 3 * s
    → (a ≡ p) × (b ≡ q) × (c ≡ r) × (d ≡ s)
same-four a b c d p q r s a_fits b_fits c_fits d_fits p_fits q_fits r_fits s_fits same =
    (omega arith, omega arith, omega arith, omega arith)

-- two words that are the same have the same bytes
same-bytes : (xs ys : List ℕ) (i : ℕ) → AreBytes xs → AreBytes ys → word_at xs i ≡ word_at ys i → AreSame xs ys i
unfolding word_at
same-bytes xs ys i one other same =
    let four = same-four (slice_index xs i) (slice_index xs (i + 1)) (slice_index xs (i + 2)) (slice_index xs (i + 3))
    (slice_index ys i) (slice_index ys (i + 1)) (slice_index ys (i + 2)) (slice_index ys (i + 3))
    (byte-at xs one i) (byte-at xs one (i + 1)) (byte-at xs one (i + 2)) (byte-at xs one (i + 3))
    (byte-at ys other i) (byte-at ys other (i + 1)) (byte-at ys other (i + 2)) (byte-at ys other (i + 3)) same in
    record { first = four.0; second = four.1; third = four.2; fourth = four.3 }

-- ---- lists of words

one-of-four : (xs ys : List ℕ) (i j : ℕ) → AreSame xs ys i → i ≤ j → j < i + 4 → slice_index xs j ≡ slice_index ys j
one-of-four xs ys i j same from to =
    elim (cases_lt j (i + 1)) [
      | inl first ↦ let e : i ≡ j = omega arith in subst (λ k. slice_index xs k ≡ slice_index ys k) e same.first
      | inr more ↦ elim (cases_lt j (i + 2)) [
        | inl second ↦ let e : i + 1 ≡ j = omega arith in subst (λ k. slice_index xs k ≡ slice_index ys k) e same.second
        | inr more ↦ elim (cases_lt j (i + 3)) [
          | inl third ↦ let e : i + 2 ≡ j = omega arith in subst (λ k. slice_index xs k ≡ slice_index ys k) e same.third
          | inr fourth ↦ let e : i + 3 ≡ j = omega arith in subst (λ k. slice_index xs k ≡ slice_index ys k) e same.fourth
        ]
      ]
    ]

-- n words that are the same are the same bytes
same-words : (xs ys : List ℕ) (n : ℕ) → length xs ≡ 4 * n → length ys ≡ 4 * n → AreBytes xs → AreBytes ys
    → ((k : ℕ) → k < n → word_at xs (4 * k) ≡ word_at ys (4 * k)) → xs ≡ ys
same-words xs ys n size size' one other same =
    same_number_lists xs ys (size ∙ sym size') (λ j within.
    one-of-four xs ys (4 * (j / 4)) j
    (same-bytes xs ys (4 * (j / 4)) one other (same (j / 4) (omega arith)))
    (omega arith) (omega arith))

-- ---- the words of a set

same-bit : (m n : ℕ) → m < 2 → n < 2 → (m == 1) ≡ (n == 1) → m ≡ n
same-bit m n m_small n_small same = grind (arith, nat_tests)

-- two words with the same bits
same-word : (x y : ℕ) → x < 2 ^ 32 → y < 2 ^ 32 → ((i : ℕ) → i < 32 → has_bit x i ≡ has_bit y i) → x ≡ y
same-word x y x_fits y_fits same =
    same_from_bits_below 32 x y x_fits y_fits
    (λ i low. same-bit (bit_at x i) (bit_at y i) (bit_at-lt x i) (bit_at-lt y i) (same i low))

same-low : (low high low' high' : ℕ) (s : ℕ) → SpellsSet low high s → SpellsSet low' high' s → low < 2 ^ 32 → low' < 2 ^ 32 → low ≡ low'
same-low low high low' high' s one other fits fits' =
    same-word low low' fits fits' (λ i within. sym (one.below i within) ∙ other.below i within)

abbrev HasNoOther : ℕ → Type 0
HasNoOther high = (i : ℕ) → 40 < 32 + i → i < 32 → has_bit high i ≡ false

same-high : (low high low' high' : ℕ) (s : ℕ) → SpellsSet low high s → SpellsSet low' high' s → high < 2 ^ 32 → high' < 2 ^ 32
    → HasNoOther high → HasNoOther high' → high ≡ high'
same-high low high low' high' s one other fits fits' none none' =
    same-word high high' fits fits' (λ i within.
    elim (cases_lt 40 (32 + i)) [
      | inl above ↦ none i above within ∙ sym (none' i above within)
      | inr cap ↦ sym (one.above i (omega arith)) ∙ other.above i (omega arith)
    ])

-- ---- the first word of an attribute

-- the bits of a word below one are those of what it leaves
cut-bits : (x n : ℕ) → n < 24 → bit_at (x % 2 ^ 24) n ≡ bit_at x n
cut-bits x n low =
    let parts : x ≡ x / 2 ^ 24 * 2 ^ 24 + x % 2 ^ 24 = omega arith in
    sym (ap (λ y. bit_at y n) parts ∙ bit_at_cat_low (x / 2 ^ 24) 24 (x % 2 ^ 24) n low)

abbrev HasNoFlag : ℕ → Type 0
HasNoFlag word = (i : ℕ) → 0 < i → i < 24 → has_bit word i ≡ false

same-flags : (x y : ℕ) → has_bit x 0 ≡ has_bit y 0 → HasNoFlag x → HasNoFlag y → (i : ℕ) → i < 24 → has_bit x i ≡ has_bit y i
same-flags x y same none none' i low =
    elim (cases_lt 0 i) [
      | inl above ↦ none i above low ∙ sym (none' i above low)
      | inr lowest ↦ let e : 0 ≡ i = omega arith in subst (λ k. has_bit x k ≡ has_bit y k) e same
    ]

same-rest : (x y : ℕ) → has_bit x 0 ≡ has_bit y 0 → HasNoFlag x → HasNoFlag y → x % 2 ^ 24 ≡ y % 2 ^ 24
same-rest x y same none none' =
    same_from_bits_below 24 (x % 2 ^ 24) (y % 2 ^ 24) (omega arith) (omega arith)
    (λ i low. cut-bits x i low
    ∙ same-bit (bit_at x i) (bit_at y i) (bit_at-lt x i) (bit_at-lt y i) (same-flags x y same none none' i low)
    ∙ sym (cut-bits y i low))

rest-of : (bytes : List ℕ) → AreBytes bytes → magic bytes ≡ slice_index bytes 3 * 2 ^ 24 + magic bytes % 2 ^ 24
unfolding word_at
rest-of bytes each = omega (arith, byte-at bytes each 0, byte-at bytes each 1, byte-at bytes each 2)

-- the same flag and the same revision are the same word
same-magic : (xs ys : List ℕ) → AreBytes xs → AreBytes ys → has_bit (magic xs) 0 ≡ has_bit (magic ys) 0
    → HasNoFlag (magic xs) → HasNoFlag (magic ys) → slice_index xs 3 ≡ slice_index ys 3 → magic xs ≡ magic ys
same-magic xs ys one other same none none' revision =
    let rest = same-rest (magic xs) (magic ys) same none none' in
    omega (arith, rest-of xs one, rest-of ys other)

-- ---- attributes

-- what is the same in each version
record SameLow (xs ys : List ℕ) : Type 0 where
  magic : word_at xs 0 ≡ word_at ys 0
  perm : word_at xs 4 ≡ word_at ys 4
  inh : word_at xs 8 ≡ word_at ys 8

same-lows : (a : Attribute) (xs ys : List ℕ) → AreBytesOf a xs → AreBytesOf a ys → slice_index xs 3 ≡ slice_index ys 3 → SameLow xs ys
same-lows a xs ys x y revision = record {
  magic = same-magic xs ys x.each y.each (sym x.spelled.effective ∙ y.spelled.effective) x.canonical.flags y.canonical.flags revision;
  perm = same-low (perm_low xs) _ (perm_low ys) _ a.perm x.spelled.perm y.spelled.perm (word-fits xs 4 x.each) (word-fits ys 4 y.each);
  inh = same-low (inh_low xs) _ (inh_low ys) _ a.inh x.spelled.inh y.spelled.inh (word-fits xs 8 x.each) (word-fits ys 8 y.each);
}

-- the high words, in the versions that have them
record SameHigh (xs ys : List ℕ) : Type 0 where
  perm : word_at xs 12 ≡ word_at ys 12
  inh : word_at xs 16 ≡ word_at ys 16

high-spelled : (version low word : ℕ) (s : ℕ) → high_in version word ≡ word → SpellsSet low (high_in version word) s → SpellsSet low word s
high-spelled version low word s is spelled = subst (λ high. SpellsSet low high s) is spelled

same-highs : (a : Attribute) (xs ys : List ℕ) → AreBytesOf a xs → AreBytesOf a ys → ((word : ℕ) → high_in a.version word ≡ word) → SameHigh xs ys
same-highs a xs ys x y all = record {
  perm = same-high _ (perm_high xs) _ (perm_high ys) a.perm
      (high-spelled a.version _ _ a.perm (all (perm_high xs)) x.spelled.perm)
      (high-spelled a.version _ _ a.perm (all (perm_high ys)) y.spelled.perm)
      (word-fits xs 12 x.each) (word-fits ys 12 y.each) x.canonical.perm y.canonical.perm;
  inh = same-high _ (inh_high xs) _ (inh_high ys) a.inh
      (high-spelled a.version _ _ a.inh (all (inh_high xs)) x.spelled.inh)
      (high-spelled a.version _ _ a.inh (all (inh_high ys)) y.spelled.inh)
      (word-fits xs 16 x.each) (word-fits ys 16 y.each) x.canonical.inh y.canonical.inh;
}

abbrev SameWord : List ℕ → List ℕ → ℕ → Type 0
SameWord xs ys k = word_at xs (4 * k) ≡ word_at ys (4 * k)

-- a fact of each number below n, from those that it comes to
below-one : (P : ℕ → Type 0) → P 0 → (k : ℕ) → k < 1 → P k
below-one P here k low = let e : 0 ≡ k = omega arith in subst P e here

below-next : (P : ℕ → Type 0) (n : ℕ) → ((k : ℕ) → k < n → P k) → P n → (k : ℕ) → k < n + 1 → P k
below-next P n before here k low =
    elim (cases_lt k n) [
      | inl lower ↦ before k lower
      | inr last ↦ let e : n ≡ k = omega arith in subst P e here
    ]

low-words : (xs ys : List ℕ) → SameLow xs ys → (k : ℕ) → k < 3 → SameWord xs ys k
low-words xs ys low =
    below-next (SameWord xs ys) 2
    (below-next (SameWord xs ys) 1 (below-one (SameWord xs ys) low.magic) low.perm) low.inh

five-words : (xs ys : List ℕ) → SameLow xs ys → SameHigh xs ys → (k : ℕ) → k < 5 → SameWord xs ys k
five-words xs ys low high =
    below-next (SameWord xs ys) 4
    (below-next (SameWord xs ys) 3 (low-words xs ys low) high.perm) high.inh

same-1 : (a : Attribute) (xs ys : List ℕ) → AreBytesOf a xs → AreBytesOf a ys → IsVersion1 xs a → IsVersion1 ys a → xs ≡ ys
same-1 a xs ys x y one other =
    same-words xs ys 3 one.size other.size x.each y.each
    (low-words xs ys (same-lows a xs ys x y (one.revision ∙ sym other.revision)))

same-2 : (a : Attribute) (xs ys : List ℕ) → AreBytesOf a xs → AreBytesOf a ys → IsVersion2 xs a → IsVersion2 ys a → xs ≡ ys
same-2 a xs ys x y one other =
    same-words xs ys 5 one.size other.size x.each y.each
    (five-words xs ys (same-lows a xs ys x y (one.revision ∙ sym other.revision))
    (same-highs a xs ys x y (λ word. ap (λ v. high_in v word) one.version)))

same-3 : (a : Attribute) (xs ys : List ℕ) → AreBytesOf a xs → AreBytesOf a ys → IsVersion3 xs a → IsVersion3 ys a → xs ≡ ys
same-3 a xs ys x y one other =
    same-words xs ys 6 one.size other.size x.each y.each
    (below-next (SameWord xs ys) 5
    (five-words xs ys (same-lows a xs ys x y (one.revision ∙ sym other.revision))
    (same-highs a xs ys x y (λ word. ap (λ v. high_in v word) one.version)))
    (sym one.root ∙ other.root))

-- an attribute has one list of bytes
pub one_bytes : (a : Attribute) (one other : List ℕ) → AreBytesOf a one → AreBytesOf a other → one ≡ other
one_bytes a one other x y =
    elim x.spelled.version [
      | inl first ↦ elim y.spelled.version [
        | inl again ↦ same-1 a one other x y first again
        | inr (inl two) ↦ absurd (omega (arith, first.version, two.version))
        | inr (inr three) ↦ absurd (omega (arith, first.version, three.version))
      ]
      | inr (inl two) ↦ elim y.spelled.version [
        | inl first ↦ absurd (omega (arith, first.version, two.version))
        | inr (inl again) ↦ same-2 a one other x y two again
        | inr (inr three) ↦ absurd (omega (arith, two.version, three.version))
      ]
      | inr (inr three) ↦ elim y.spelled.version [
        | inl first ↦ absurd (omega (arith, first.version, three.version))
        | inr (inl two) ↦ absurd (omega (arith, two.version, three.version))
        | inr (inr again) ↦ same-3 a one other x y three again
      ]
    ]

-- ---- records

same-record_words : (d : CapData) (xs ys : List ℕ) → AreBytesAs3 d xs → AreBytesAs3 d ys → (k : ℕ) → k < 8 → SameWord xs ys k
same-record_words d xs ys x y =
    let S : ℕ → Type 0 = SameWord xs ys in
    let one = x.spelled in
    let other = y.spelled in
    let two = below-next S 1 (below-one S (one.word ∙ sym other.word)) (sym one.target ∙ other.target) in
    let three = below-next S 2 two
    (same-low _ _ _ _ d.eff one.eff other.eff (word-fits xs 8 x.each) (word-fits ys 8 y.each)) in
    let four = below-next S 3 three
    (same-low _ _ _ _ d.perm one.perm other.perm (word-fits xs 12 x.each) (word-fits ys 12 y.each)) in
    let five = below-next S 4 four
    (same-low _ _ _ _ d.inh one.inh other.inh (word-fits xs 16 x.each) (word-fits ys 16 y.each)) in
    let six = below-next S 5 five
    (same-high _ _ _ _ d.eff one.eff other.eff (word-fits xs 20 x.each) (word-fits ys 20 y.each) x.canonical.eff y.canonical.eff) in
    let seven = below-next S 6 six
    (same-high _ _ _ _ d.perm one.perm other.perm (word-fits xs 24 x.each) (word-fits ys 24 y.each) x.canonical.perm y.canonical.perm) in
    below-next S 7 seven
    (same-high _ _ _ _ d.inh one.inh other.inh (word-fits xs 28 x.each) (word-fits ys 28 y.each) x.canonical.inh y.canonical.inh)

-- what a record says has one list of bytes in version 3
pub one_record : (d : CapData) (one other : List ℕ) → AreBytesAs3 d one → AreBytesAs3 d other → one ≡ other
one_record d one other x y =
    same-words one other 8 x.spelled.size y.spelled.size x.each y.each (same-record_words d one other x y)
