-- When a count of faults rises.
use Rattle.std.specs.Prelude.{◌≡◌, ℕ, ◌+◌, ◌-◌, ◌^◌, ◌≤◌, min}

-- a count after one more, which saturates at the greatest u64
abbrev pub next_count : ℕ → ℕ
next_count count = min (count + 1) (2 ^ 64 - 1)

-- a count of faults is greater than before, or saturated
abbrev pub Rose : ℕ → ℕ → Type 0
Rose before now = next_count before ≤ now

-- A count of faults rose where this failed, and stayed where it didn't; it never falls.
pub record CountsFaults (failed : Type 0) (before now : ℕ) : Type 0 where
  pub rose : failed → Rose before now
  pub stayed : ¬ failed → now ≡ before
  pub later : before ≤ now
