-- A set of capabilities in two words.
use Rattle.std.proofs.Common.{◌≡◌, ℕ, ◌+◌, ◌-◌, ◌*◌, ◌/◌, ◌%◌, ◌^◌, ◌<◌, ◌≤◌, ◌==◌, ◌&&◌, nat_lt, true, false, refl, sym, ap, subst, ◌∙◌, arith}
use Rattle.std.specs.Int.RustNames.{bit_and, bit_or}
use Rattle.std.specs.Int.{bit_at}
use Rattle.std.proofs.Math.Bool.{and-true}
use Rattle.std.proofs.lemmas.Bool.{ltb-true, ltb-false}
use Rattle.std.proofs.lemmas.Nat.{and_le_r, or_shifted, shl_whole, shr-shr}
use Rattle.std.proofs.lemmas.Nat.Bits.{bit_at_and, bit_at_cat_low, bit_at_cat_high, bit_at_ones, bit_at_above, bit_at-lt}
use Rattle.cred_caps.specs.Caps.{IsCap, IsCaps, full, has, meet}
use Rattle.cred_caps.proofs.SetLaws.{has-meet, has-full, same_caps}
use Rattle.cred_rules.specs.Attribute.{SpellsSet}
use Rattle.cred_rules.specs.Bits.{has_bit}

-- ---- two words as a set

-- cut to the capabilities, a number has the members that it had
has-cut : (x n : ℕ) → IsCap n → has (meet x full) n ≡ has x n
has-cut x n cap = has-meet x full n ∙ ap (λ b. has x n && b) (has-full n cap) ∙ and-true (has x n)

pub set-spells : (low high x : ℕ) → low < 2 ^ 32 → x ≡ high * 2 ^ 32 + low → SpellsSet low high (meet x full)
set-spells low high x small is = record {
  below = λ n lt.
      has-cut x n (omega arith) ∙
      ap (λ y. has y n) is ∙
      ap (λ d. d == 1) (bit_at_cat_low high 32 low n lt);
  above = λ n cap.
      has-cut x (32 + n) cap ∙
      ap (λ y. has y (32 + n)) is ∙
      ap (λ d. d == 1) (bit_at_cat_high high 32 low (32 + n) small (omega arith)) ∙
      ap (λ k. bit_at high k == 1) (omega arith);
  others = omega (arith, and_le_r x full);
}

-- what the shift and the `|` of the two words compute
pub or-words : (low high : ℕ) → low < 2 ^ 32 → high < 2 ^ 32 → bit_or (high * 2 ^ 32 % 2 ^ 64) low ≡ high * 2 ^ 32 + low
or-words low high small small' =
    ap (λ y. bit_or y low) (shl_whole high 32 32 64 small' (omega arith)) ∙ or_shifted high 32 low small

-- ---- a set as two words

low-word : (s n : ℕ) → n < 32 → has s n ≡ has_bit (bit_and s (2 ^ 32 - 1)) n
low-word s n lt =
    let one : bit_at (2 ^ 32 - 1) n ≡ 1 = bit_at_ones 32 n lt in
    let same : bit_at (bit_and s (2 ^ 32 - 1)) n ≡ bit_at s n = bit_at_and s (2 ^ 32 - 1) n ∙ omega (arith, bit_at-lt s n) in
    ap (λ d. d == 1) (sym same)

high-word : (s n : ℕ) → has s (32 + n) ≡ has_bit (s / 2 ^ 32) n
high-word s n = ap (λ d. d % 2 == 1) (sym (shr-shr s 32 n))

pub words-spell : (s : ℕ) → IsCaps s → SpellsSet (bit_and s (2 ^ 32 - 1)) (s / 2 ^ 32) s
words-spell s caps = record { below = low-word s; above = λ n _. high-word s n; others = caps }

-- the bits of a word that is below 2 ^ 9
pub high-canonical : (w i : ℕ) → w < 2 ^ 9 → 40 < 32 + i → has_bit w i ≡ false
high-canonical w i small above = ap (λ d. d == 1) (bit_at_above w 9 i small (omega arith))

-- ---- a set in one word

no-more : (s n : ℕ) → IsCaps s → 40 < n → has s n ≡ false
no-more s n caps above = ap (λ d. d == 1) (bit_at_above s 41 n caps (omega arith))

-- the bits of a word are those of its lowest 32
pub low-bits : (low n : ℕ) → n < 32 → bit_at (low % 2 ^ 32) n ≡ bit_at low n
low-bits low n lt =
    let parts : low ≡ low / 2 ^ 32 * 2 ^ 32 + low % 2 ^ 32 = omega arith in
    sym (ap (λ x. bit_at x n) parts ∙ bit_at_cat_low (low / 2 ^ 32) 32 (low % 2 ^ 32) n lt)

no-bit : (n : ℕ) → has_bit 0 n ≡ false
no-bit n = ap (λ d. d == 1) (bit_at_above 0 0 n (omega arith) (omega arith))

cut-above : (low s n : ℕ) → SpellsSet low 0 s → 32 ≤ n → has (s % 2 ^ 32) n ≡ has s n
cut-above low s n is from =
    let small : s % 2 ^ 32 < 2 ^ 32 = omega arith in
    let none : has (s % 2 ^ 32) n ≡ false = ap (λ d. d == 1) (bit_at_above (s % 2 ^ 32) 32 n small from) in
    elim (nat_lt 40 n) as (λ t. nat_lt 40 n ≡ t → has (s % 2 ^ 32) n ≡ has s n) [
      | true ↦ λ t. let above : 40 < n = ltb-true 40 n t in none ∙ sym (no-more s n is.others above)
      | false ↦ λ t.
          let last : n ≤ 40 = ltb-false 40 n t in
          let cap : IsCap (32 + (n - 32)) = omega arith in
          let place : 32 + (n - 32) ≡ n = omega arith in
          none ∙ sym (ap (has s) (sym place) ∙ is.above (n - 32) cap ∙ no-bit (n - 32))
    ] refl

-- a set whose high word is 0 is below 2 ^ 32
pub one-word : (low s : ℕ) → SpellsSet low 0 s → s < 2 ^ 32
one-word low s is =
    let same : s % 2 ^ 32 ≡ s = same_caps (s % 2 ^ 32) s (λ n.
    elim (nat_lt n 32) as (λ t. nat_lt n 32 ≡ t → has (s % 2 ^ 32) n ≡ has s n) [
      | true ↦ λ t. let lt : n < 32 = ltb-true n 32 t in ap (λ d. d == 1) (low-bits s n lt)
      | false ↦ λ t. let from : 32 ≤ n = ltb-false n 32 t in cut-above low s n is from
    ] refl) in
    omega (arith, same)

-- ---- two words say one set

same-above : (low high a b : ℕ) → SpellsSet low high a → SpellsSet low high b → (n : ℕ) → 32 ≤ n → has a n ≡ has b n
same-above low high a b one other n from =
    elim (nat_lt 40 n) as (λ t. nat_lt 40 n ≡ t → has a n ≡ has b n) [
      | true ↦ λ is. let above : 40 < n = ltb-true 40 n is in no-more a n one.others above ∙ sym (no-more b n other.others above)
      | false ↦ λ is.
          let last : n ≤ 40 = ltb-false 40 n is in
          let cap : IsCap (32 + (n - 32)) = omega arith in
          let place : 32 + (n - 32) ≡ n = omega arith in
          subst (λ k. has a k ≡ has b k) place (one.above (n - 32) cap ∙ sym (other.above (n - 32) cap))
    ] refl

pub same-set : (low high a b : ℕ) → SpellsSet low high a → SpellsSet low high b → a ≡ b
same-set low high a b one other = same_caps a b (λ n.
    elim (nat_lt n 32) as (λ t. nat_lt n 32 ≡ t → has a n ≡ has b n) [
      | true ↦ λ is. let lt : n < 32 = ltb-true n 32 is in one.below n lt ∙ sym (other.below n lt)
      | false ↦ λ is. same-above low high a b one other n (ltb-false n 32 is)
    ] refl)
