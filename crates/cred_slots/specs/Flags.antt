-- A flag for each slot, as the bits of words.
use Rattle.std.specs.Prelude.{ℕ, ◌/◌, ◌%◌, ◌==◌, Bool, false, not, ◌||◌, List, map, find}
use Rattle.std.specs.Prelude.{slice_index, slice_index_or}
use Rattle.std.specs.declared.option.Option.{Option}
use Rattle.std.specs.Int.{bit_at}
use Rattle.cred_ids.specs.Limits.{SLOTS, slots}

-- how many words that are, of 64 flags each
abbrev pub FLAG_WORDS : ℕ
FLAG_WORDS = SLOTS / 64

-- The flag of a slot is one bit of the word that it falls in.
abbrev pub flag_at : List ℕ → ℕ → Bool
flag_at words slot = bit_at (slice_index words (slot / 64)) (slot % 64) == 1

-- the flags of all slots
unfoldable pub flags_of : List ℕ → List Bool
flags_of words = map (flag_at words) slots

-- a flag is set in one or the other
abbrev pub in_either : List Bool → List Bool → ℕ → Bool
in_either xs ys slot = slice_index_or xs slot false || slice_index_or ys slot false

-- the least slot whose flag isn't set
abbrev pub first_unset : List Bool → Option ℕ
first_unset flags = find (λ slot. not (slice_index_or flags slot false)) slots
