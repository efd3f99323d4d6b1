-- How many words a slot has, and how many slots there are. No proof unfolds either but where the
-- table is made.
use Rattle.std.specs.Prelude.{ℕ, ◌+◌, ◌*◌}
use Rattle.cred_ids.specs.Limits.{SLOTS}
use Rattle.cred_record.specs.declared.layout.TheConstants.{WORDS}

-- the words of a credential
unfoldable pub width : ℕ
width = WORDS

-- the slots of the table
unfoldable pub count : ℕ
count = SLOTS

-- a guide, and the words of each slot
abbrev pub total : ℕ
total = 1 + count * width

-- where the word i of a slot stands
abbrev pub word_place : ℕ → ℕ → ℕ
word_place slot i = 1 + (slot * width + i)
