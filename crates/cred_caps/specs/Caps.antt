-- A capability, and a set of capabilities as the number whose bit n is 1 where capability n is in
-- the set, as capget(2) and capabilities(7) write one.
use Rattle.std.specs.Prelude.{◌≡◌, ◌==◌, ℕ, ◌-◌, ◌^◌, ◌<◌, ◌≤◌, Bool, List, [], ◌∷◌}
use Rattle.std.specs.Int.RustNames.{bit_and, bit_or}
use Rattle.std.specs.Int.{bit_at}
use Rattle.cred_caps.specs.Numbers.{LAST}

-- n is a capability
abbrev pub IsCap : ℕ → Type 0
IsCap n = n ≤ LAST

abbrev pub Caps : Type 0
Caps = ℕ

-- each number in it is a capability
abbrev pub IsCaps : ℕ → Type 0
IsCaps s = s < 2 ^ 41

-- no capability
abbrev pub empty : Caps
empty = 0

-- all 41 capabilities
abbrev pub full : Caps
full = 2 ^ 41 - 1

-- capability n is in s
abbrev pub has : Caps → ℕ → Bool
has s n = bit_at s n == 1

-- what is in one or the other
abbrev pub union : Caps → Caps → Caps
union a b = bit_or a b

-- what is in both
abbrev pub meet : Caps → Caps → Caps
meet a b = bit_and a b

-- what is in a and not in b
abbrev pub less : Caps → Caps → Caps
less a b = bit_and a (2 ^ 64 - 1 - b)

-- s and capability n
abbrev pub with : Caps → ℕ → Caps
with s n = union s (2 ^ n)

-- s less capability n
abbrev pub without : Caps → ℕ → Caps
without s n = less s (2 ^ n)

-- each capability of a is in b
abbrev pub IsWithin : Caps → Caps → Type 0
IsWithin a b = meet a b ≡ a

-- the same, as a test
abbrev pub is_within : Caps → Caps → Bool
is_within a b = meet a b == a

-- the set of the numbers of a list
abbrev pub caps_of : List ℕ → Caps
caps_of [] = empty
caps_of (n ∷ ns) = with (caps_of ns) n
