-- Why numbers may stand for sets of capabilities: a set is its members, and each operation does to
-- them what its name says.
use Rattle.std.specs.Prelude.{◌≡◌, ◌==◌, ◌↔◌, ◌&&◌, ◌||◌, not, ℕ, true, false}
use Rattle.cred_caps.specs.Caps.{Caps, IsCap, IsCaps, empty, full, has, union, meet, less, with}
use Rattle.cred_caps.specs.Caps.{without, IsWithin}

pub record AreSets : Type 0 where
  pub same_members : (a b : Caps) → ((n : ℕ) → has a n ≡ has b n) → a ≡ b
  pub in_empty : (n : ℕ) → has empty n ≡ false
  pub in_full : (n : ℕ) → IsCap n → has full n ≡ true
  pub in_union : (a b : Caps) (n : ℕ) → has (union a b) n ≡ (has a n || has b n)
  pub in_meet : (a b : Caps) (n : ℕ) → has (meet a b) n ≡ (has a n && has b n)
  pub in_less : (a b : Caps) (n : ℕ) → IsCaps b → IsCap n
      → has (less a b) n ≡ (has a n && not (has b n))
  pub in_with : (s : Caps) (c n : ℕ) → has (with s c) n ≡ (has s n || (c == n))
  pub in_without : (s : Caps) (c n : ℕ) → IsCap c → IsCap n
      → has (without s c) n ≡ (has s n && not (c == n))
  pub in_other : (a b : Caps) → IsWithin a b ↔ ((n : ℕ) → has a n ≡ true → has b n ≡ true)
