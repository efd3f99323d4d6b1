-- The laws of sets, at the numbers that stand for them.
use Rattle.std.proofs.Common.{◌≡◌, ◌↔◌, ℕ, zero, suc, ◌-◌, ◌^◌, ◌<◌, ◌&&◌, ◌||◌, ◌==◌, not, Bool, true, false, refl, sym, ap, subst, ◌∙◌, arith, inl, inr, min}
use Rattle.std.proofs.Common.{max}
use Rattle.std.specs.Int.{bit_at, w64}
use Rattle.std.proofs.lemmas.Bool.{cases_lt, eqb-true, eqb-false}
use Rattle.std.proofs.lemmas.Nat.{pow_below}
use Rattle.std.proofs.lemmas.Nat.Bits.{bit_at_and, bit_at_or, bit_at-lt, bit_at-zero, bit_at_ones, bit_at-pow_same, bit_at-pow_other, bit_at_above, bit_at_not}
use Rattle.std.proofs.lemmas.Nat.Bits.{same_from_bits}
use Rattle.cred_caps.specs.Caps.{Caps, IsCap, IsCaps, empty, full, has, union, meet, less, with, without, IsWithin}
use Rattle.cred_caps.specs.Sets.{AreSets}

-- ---- membership

either : (d e : ℕ) → d < 2 → e < 2 → (max d e == 1) ≡ ((d == 1) || (e == 1))
either zero zero small small' = refl
either zero (suc zero) small small' = refl
either (suc zero) zero small small' = refl
either (suc zero) (suc zero) small small' = refl
either (suc (suc d)) e small small' = absurd (omega arith)
either d (suc (suc e)) small small' = absurd (omega arith)

both : (d e : ℕ) → d < 2 → e < 2 → (min d e == 1) ≡ ((d == 1) && (e == 1))
both zero zero small small' = refl
both zero (suc zero) small small' = refl
both (suc zero) zero small small' = refl
both (suc zero) (suc zero) small small' = refl
both (suc (suc d)) e small small' = absurd (omega arith)
both d (suc (suc e)) small small' = absurd (omega arith)

pub has-union : (a b : Caps) (n : ℕ) → has (union a b) n ≡ (has a n || has b n)
has-union a b n = ap (λ d. d == 1) (bit_at_or a b n) ∙ either _ _ (bit_at-lt a n) (bit_at-lt b n)

pub has-meet : (a b : Caps) (n : ℕ) → has (meet a b) n ≡ (has a n && has b n)
has-meet a b n = ap (λ d. d == 1) (bit_at_and a b n) ∙ both _ _ (bit_at-lt a n) (bit_at-lt b n)

digit_of_test : (d e : ℕ) → d < 2 → e < 2 → (d == 1) ≡ (e == 1) → d ≡ e
digit_of_test zero zero small small' same = refl
digit_of_test (suc zero) (suc zero) small small' same = refl
digit_of_test zero (suc zero) small small' same = cc
digit_of_test (suc zero) zero small small' same = cc
digit_of_test (suc (suc d)) e small small' same = absurd (omega arith)
digit_of_test d (suc (suc e)) small small' same = absurd (omega arith)

-- two sets with the same members are one
pub same_caps : (a b : Caps) → ((n : ℕ) → has a n ≡ has b n) → a ≡ b
same_caps a b same = same_from_bits a b (λ n. digit_of_test _ _ (bit_at-lt a n) (bit_at-lt b n) (same n))

-- ---- a set within another

pub within_itself : (a : Caps) → IsWithin a a
within_itself a = same_from_bits _ _ (λ n. bit_at_and a a n ∙ omega arith)

pub meet-left : (a b : Caps) → IsWithin (meet a b) a
meet-left a b = same_from_bits _ _ (λ n. bit_at_and (meet a b) a n ∙ omega (arith, bit_at_and a b n))

pub meet-right : (a b : Caps) → IsWithin (meet a b) b
meet-right a b = same_from_bits _ _ (λ n. bit_at_and (meet a b) b n ∙ omega (arith, bit_at_and a b n))

pub meet-middle : (a b c : Caps) → IsWithin (meet (meet a b) c) b
meet-middle a b c = same_from_bits _ _ (λ n. bit_at_and (meet (meet a b) c) b n ∙ omega (arith, bit_at_and (meet a b) c n, bit_at_and a b n))

pub within-trans : (a b c : Caps) → IsWithin a b → IsWithin b c → IsWithin a c
within-trans a b c ab bc = same_from_bits _ _ (λ n.
    let ab_n = sym (bit_at_and a b n) ∙ ap (λ s. bit_at s n) ab in
    let bc_n = sym (bit_at_and b c n) ∙ ap (λ s. bit_at s n) bc in
    bit_at_and a c n ∙ omega arith)

pub within-union_left : (a b : Caps) → IsWithin a (union a b)
within-union_left a b = same_from_bits _ _ (λ n. bit_at_and a (union a b) n ∙ omega (arith, bit_at_or a b n))

pub within-union_right : (a b : Caps) → IsWithin b (union a b)
within-union_right a b = same_from_bits _ _ (λ n. bit_at_and b (union a b) n ∙ omega (arith, bit_at_or a b n))

pub union-within : (a b c : Caps) → IsWithin a c → IsWithin b c → IsWithin (union a b) c
union-within a b c ac bc = same_from_bits _ _ (λ n.
    let ac_n = sym (bit_at_and a c n) ∙ ap (λ s. bit_at s n) ac in
    let bc_n = sym (bit_at_and b c n) ∙ ap (λ s. bit_at s n) bc in
    bit_at_and (union a b) c n ∙ omega (arith, bit_at_or a b n))

-- a part of a is within what a is within; `less` is such a part
pub meet-within_left : (a b c : Caps) → IsWithin a c → IsWithin (meet a b) c
meet-within_left a b c ac = within-trans (meet a b) a c (meet-left a b) ac

pub meet-within_right : (a b c : Caps) → IsWithin b c → IsWithin (meet a b) c
meet-within_right a b c bc = within-trans (meet a b) b c (meet-right a b) bc

-- what the invariant of a credential needs
pub ruleset within =
    (within_itself, meet-left, meet-right, meet-middle, within-union_left, within-union_right, union-within, meet-within_left, meet-within_right)

-- ---- members of each operation

pub has-empty : (n : ℕ) → has empty n ≡ false
has-empty n = ap (λ d. d == 1) (bit_at-zero n)

pub has-full : (n : ℕ) → IsCap n → has full n ≡ true
has-full n last = ap (λ d. d == 1) (bit_at_ones 41 n (omega (arith, last)))

-- the set of one capability
has-one : (c n : ℕ) → has (2 ^ c) n ≡ (c == n)
has-one c n =
    elim (c == n) as (λ b. (c == n) ≡ b → has (2 ^ c) n ≡ b) [
      | true ↦ λ is. ap (λ d. d == 1) (subst (λ k. bit_at (2 ^ c) k ≡ 1) (eqb-true c n is) (bit_at-pow_same c))
      | false ↦ λ is. ap (λ d. d == 1) (bit_at-pow_other c n (λ same. eqb-false c n is (sym same)))
    ] refl

opposite : (e : ℕ) → e < 2 → (1 - e == 1) ≡ not (e == 1)
opposite zero small = refl
opposite (suc zero) small = refl
opposite (suc (suc e)) small = absurd (omega arith)

pub has-less : (a b : Caps) (n : ℕ) → IsCaps b → IsCap n → has (less a b) n ≡ (has a n && not (has b n))
has-less a b n caps last =
    has-meet a (2 ^ 64 - 1 - b) n ∙
    ap (λ x. has a n && x) (ap (λ d. d == 1) (bit_at_not w64 b n (omega (arith, caps)) (omega (arith, last))) ∙ opposite _ (bit_at-lt b n))

pub has-with : (s : Caps) (c n : ℕ) → has (with s c) n ≡ (has s n || (c == n))
has-with s c n = has-union s (2 ^ c) n ∙ ap (λ x. has s n || x) (has-one c n)

pub has-without : (s : Caps) (c n : ℕ) → IsCap c → IsCap n → has (without s c) n ≡ (has s n && not (c == n))
has-without s c n cap last = has-less s (2 ^ c) n (pow_below c 41 (omega (arith, cap))) last ∙ ap (λ x. has s n && not x) (has-one c n)

and-with : (x y : Bool) → (x && y) ≡ x → x ≡ true → y ≡ true
and-with true y both is = both
and-with false y both is = cc

and-from : (x y : Bool) → (x ≡ true → y ≡ true) → (x && y) ≡ x
and-from true y one = one refl
and-from false y one = refl

pub within-members : (a b : Caps) → IsWithin a b ↔ ((n : ℕ) → has a n ≡ true → has b n ≡ true)
within-members a b = (
  λ within n. and-with _ _ (sym (has-meet a b n) ∙ ap (λ s. has s n) within),
  λ each. same_caps (meet a b) a (λ n. has-meet a b n ∙ and-from _ _ (each n)),
)

-- a capability of a set may be added to any part of it
one-within : (s : Caps) (n : ℕ) → has s n ≡ true → IsWithin (2 ^ n) s
one-within s n member =
    (within-members (2 ^ n) s).1 (λ k same. subst (λ m. has s m ≡ true) (eqb-true n k (sym (has-one n k) ∙ same)) member)

pub with_within : (a s : Caps) (n : ℕ) → has s n ≡ true → IsWithin a s → IsWithin (with a n) s
with_within a s n member inside = union-within a (2 ^ n) s inside (one-within s n member)

pub are_sets : AreSets
are_sets = record {
  same_members = same_caps;
  in_empty = has-empty;
  in_full = has-full;
  in_union = has-union;
  in_meet = has-meet;
  in_less = has-less;
  in_with = has-with;
  in_without = has-without;
  in_other = within-members;
}

-- ---- what is within a set has nothing that isn't in the set

not_bit : (b n : ℕ) → bit_at b n ≡ 1 → bit_at (2 ^ 64 - 1 - b) n ≡ 0
not_bit b n member =
    elim (cases_lt n 64) [
      | inl low ↦ elim (cases_lt b (2 ^ 64)) [
        | inl small ↦ bit_at_not w64 b n small low ∙ omega arith
        | inr large ↦ let none : 2 ^ 64 - 1 - b ≡ 0 = omega arith in ap (λ s. bit_at s n) none ∙ bit_at-zero n
      ]
      | inr high ↦ bit_at_above (2 ^ 64 - 1 - b) 64 n (omega arith) high
    ]

none_left : (d e f : ℕ) → d < 2 → e < 2 → min d e ≡ d → (e ≡ 1 → f ≡ 0) → min d f ≡ 0
none_left zero e f small small' within none = omega arith
none_left (suc zero) zero f small small' within none = absurd (omega arith)
none_left (suc zero) (suc zero) f small small' within none = let zero_f = none refl in omega arith
none_left (suc (suc d)) e f small small' within none = absurd (omega arith)
none_left d (suc (suc e)) f small small' within none = absurd (omega arith)

pub less-within : (a b : Caps) → IsWithin a b → less a b ≡ empty
less-within a b within = same_from_bits _ _ (λ n.
    bit_at_and a (2 ^ 64 - 1 - b) n
    ∙ none_left _ _ _ (bit_at-lt a n) (bit_at-lt b n) (sym (bit_at_and a b n) ∙ ap (λ s. bit_at s n) within) (not_bit b n)
    ∙ sym (bit_at-zero n))
