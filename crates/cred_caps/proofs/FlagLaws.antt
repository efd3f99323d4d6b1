-- The laws of flags, at the numbers that stand for them.
use Rattle.std.proofs.Common.{◌≡◌, ◌≢◌, ℕ, ◌+◌, ◌-◌, ◌*◌, ◌^◌, ◌<◌, ◌==◌, Bool, true, false, refl, ap, ◌∙◌, min, max, arith}
use Rattle.std.specs.Int.{bit_at, w8}
use Rattle.std.proofs.lemmas.Nat.{pow_below}
use Rattle.std.proofs.lemmas.Nat.Bits.{bit_at_and, bit_at_or, bit_at-lt, bit_at-pow_same, bit_at-pow_other, bit_at_not}
use Rattle.cred_caps.specs.declared.secure.Flag.{Flag}
use Rattle.cred_caps.specs.declared.secure.Flag.TheVariants.{NoRoot, NoSetuidFixup, KeepCaps, NoAmbientRaise}
use Rattle.cred_caps.specs.Flags.{SetsFlag, AreFlags}
use Rattle.cred_caps.specs.Secure.{LAST_BITS, flag_place, is_set, is_locked, with_secure_flag}

-- a flag stands at an even place below 8
record Stands (n : ℕ) : Type 0 where
  half : ℕ
  even : n ≡ 2 * half
  small : n < 8

stands : (f : Flag) → Stands (flag_place f)
stands NoRoot = record { half = 0; even = refl; small = omega arith }
stands NoSetuidFixup = record { half = 1; even = refl; small = omega arith }
stands KeepCaps = record { half = 2; even = refl; small = omega arith }
stands NoAmbientRaise = record { half = 3; even = refl; small = omega arith }

-- bit n of all bits but that of the flag
bit_at-all_but : (f : Flag) (n : ℕ) → n < 8 → bit_at (LAST_BITS - 2 ^ flag_place f) n ≡ 1 - bit_at (2 ^ flag_place f) n
bit_at-all_but f n small = bit_at_not w8 (2 ^ flag_place f) n (pow_below (flag_place f) 8 (stands f).small) small

-- bit n once the flag is set, and once it is unset
bit_at-set : (bits : ℕ) (f : Flag) (n : ℕ) → bit_at (with_secure_flag bits f true) n ≡ max (bit_at bits n) (bit_at (2 ^ flag_place f) n)
bit_at-set bits f n = bit_at_or bits (2 ^ flag_place f) n

bit_at-unset : (bits : ℕ) (f : Flag) (n : ℕ) → n < 8 → bit_at (with_secure_flag bits f false) n ≡ min (bit_at bits n) (1 - bit_at (2 ^ flag_place f) n)
bit_at-unset bits f n small =
    bit_at_and bits (LAST_BITS - 2 ^ flag_place f) n ∙ ap (min (bit_at bits n)) (bit_at-all_but f n small)

itself : (bits : ℕ) (f : Flag) (on : Bool) → is_set (with_secure_flag bits f on) f ≡ on
itself bits f true =
    let bit : bit_at (with_secure_flag bits f true) (flag_place f) ≡ 1 =
    omega (arith, bit_at-set bits f (flag_place f), bit_at-pow_same (flag_place f), bit_at-lt bits (flag_place f)) in
    ap (λ d. d == 1) bit
itself bits f false =
    let bit : bit_at (with_secure_flag bits f false) (flag_place f) ≡ 0 =
    omega (arith, bit_at-unset bits f (flag_place f) (stands f).small, bit_at-pow_same (flag_place f)) in
    ap (λ d. d == 1) bit

others : (bits : ℕ) (f : Flag) (on : Bool) (n : ℕ) → n < 8 → n ≢ flag_place f → bit_at (with_secure_flag bits f on) n ≡ bit_at bits n
others bits f true n small other = omega (arith, bit_at-set bits f n, bit_at-pow_other (flag_place f) n other)
others bits f false n small other =
    omega (arith, bit_at-unset bits f n small, bit_at-pow_other (flag_place f) n other, bit_at-lt bits n)

-- a lock stands at an odd place, so it is no flag
lock-apart : (f g : Flag) → flag_place g + 1 ≢ flag_place f
lock-apart f g same = let a = stands f in let b = stands g in omega (arith, a.even, b.even, same)

locks : (bits : ℕ) (f : Flag) (on : Bool) (g : Flag) → is_locked (with_secure_flag bits f on) g ≡ is_locked bits g
locks bits f on g =
    let a = stands g in
    ap (λ d. d == 1) (others bits f on (flag_place g + 1) (omega (arith, a.small, a.even)) (lock-apart f g))

pub sets_flag : (bits : ℕ) (f : Flag) (on : Bool) → SetsFlag bits (with_secure_flag bits f on) f on
sets_flag bits f on = record { itself = itself bits f on; others = others bits f on; locks = locks bits f on }

pub are_flags : AreFlags
are_flags = record { set_one = sets_flag }
