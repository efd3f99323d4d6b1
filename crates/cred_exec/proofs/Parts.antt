-- A set in parts.
use Rattle.std.proofs.Common.{◌≡◌, ◌-◌, ◌^◌, ◌<◌, inl, inr, sym, ap, ◌∙◌, arith}
use Rattle.std.specs.Int.{bit_at, w64}
use Rattle.std.proofs.lemmas.Bool.{cases_lt}
use Rattle.std.proofs.lemmas.Nat.{and_le_l, and_le_r}
use Rattle.std.proofs.lemmas.Nat.Bits.{bit_at_and, bit_at_or, bit_at-lt, bit_at-zero, bit_at_above, bit_at_not, same_from_bits}
use Rattle.cred_caps.specs.Caps.{Caps, empty, union, meet, less, IsWithin}
use Rattle.cred_caps.proofs.SetLaws.{within_itself, less-within}

-- ---- the empty set

pub empty-within : (s : Caps) → IsWithin empty s
empty-within s = omega (arith, and_le_l 0 s)

pub meet-empty : (s : Caps) → meet s empty ≡ empty
meet-empty s = omega (arith, and_le_r s 0)

pub less-empty : (s : Caps) → less empty s ≡ empty
less-empty s = omega (arith, and_le_l 0 (2 ^ 64 - 1 - s))

pub empty-union : (s : Caps) → union empty s ≡ s
empty-union s = same_from_bits _ _ (λ n. bit_at_or empty s n ∙ omega (arith, bit_at-zero n))

-- ---- a set within two

pub within-both : (s t u : Caps) → IsWithin s t → IsWithin s u → IsWithin s (meet t u)
within-both s t u st su = same_from_bits _ _ (λ n.
    let st_n = sym (bit_at_and s t n) ∙ ap (λ x. bit_at x n) st in
    let su_n = sym (bit_at_and s u n) ∙ ap (λ x. bit_at x n) su in
    bit_at_and s (meet t u) n ∙ omega (arith, bit_at_and t u n))

-- ---- a part of a set, and the rest

-- what is left of a set without a part has nothing of that part
pub parts-apart : (s part : Caps) → meet part (less s part) ≡ empty
parts-apart s part = same_from_bits _ _ (λ n.
    let others = 2 ^ 64 - 1 - part in
    let empty_n = ap (λ x. bit_at x n) (less-within part part (within_itself part)) ∙ bit_at-zero n in
    let none = sym (bit_at_and part others n) ∙ empty_n in
    bit_at_and part (less s part) n ∙ omega (arith, bit_at_and s others n, bit_at-zero n))

-- a set without another has bits below 64 alone
pub less-small : (a b : Caps) → less a b < 2 ^ 64
less-small a b = omega (arith, and_le_r a (2 ^ 64 - 1 - b))

-- the two parts are all of it
pub parts-all : (s t : Caps) → s < 2 ^ 64 → union (meet s t) (union (less s (meet s t)) empty) ≡ s
parts-all s t small = same_from_bits _ _ (λ n.
    let part = meet s t in
    let rest = less s part in
    let whole = bit_at_or part (union rest empty) n in
    let right = bit_at_or rest empty n in
    let rest_n = bit_at_and s (2 ^ 64 - 1 - part) n in
    elim (cases_lt n 64) [
      | inl low ↦
          let part_small : part < 2 ^ 64 = omega (arith, and_le_l s t) in
          let other = bit_at_not w64 part n part_small low in
          whole ∙ omega (arith, bit_at_and s t n, bit_at-zero n, bit_at-lt s n, bit_at-lt t n)
      | inr high ↦
          whole ∙ omega (arith, bit_at_and s t n, bit_at-zero n, bit_at_above s 64 n small high)
    ])
