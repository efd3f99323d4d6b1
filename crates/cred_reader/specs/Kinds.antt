-- The words of entries that scripts spell otherwise: the numbers of tasks, processes, labels and
-- descriptors may be any, and there are numbers of credentials and of slots, and flags.
use Rattle.std.specs.Prelude.{ℕ, Bool, true, false, ◌==◌, nat_le, List, [], ◌∷◌, codes, Some, None}
use Rattle.std.specs.Prelude.{if◌then◌else◌}
use Rattle.std.specs.declared.option.Option.{Option}
use Rattle.std.specs.Option.{option_and_then}
use Rattle.cred_caps.specs.Secure.{LAST_BITS}
use Rattle.cred_spelling.specs.Spellings.{letter, number_of, long_of}
use Rattle.cred_spelling.specs.Table.{named}

-- a letter, and what the word after it spells
abbrev pub number_after : ℕ → (List ℕ → Option ℕ) → List ℕ → Option ℕ
number_after letter spelled [] = None
number_after letter spelled (first ∷ digits) = if first == letter then spelled digits else None

-- a task, as `t1`
abbrev pub task_word : List ℕ → Option ℕ
task_word word = number_after (letter (codes "t")) number_of word

-- a process, as `p1`
abbrev pub process_word : List ℕ → Option ℕ
process_word word = number_after (letter (codes "p")) number_of word

-- a label, as `h100030`
abbrev pub label_word : List ℕ → Option ℕ
label_word word = number_after (letter (codes "h")) number_of word

-- a descriptor, as `f1`
abbrev pub fd_of : List ℕ → Option ℕ
fd_of word = number_after (letter (codes "f")) number_of word

-- a slot, as `s1`
abbrev pub slot_word : List ℕ → Option ℕ
slot_word word = number_after (letter (codes "s")) number_of word

-- a sealed credential, as `c1`
abbrev pub cred_of : List ℕ → Option ℕ
cred_of word = number_after (letter (codes "c")) long_of word

-- a flag
unfoldable pub flags : List (List ℕ × Bool)
flags = (codes "0", false) ∷ (codes "1", true) ∷ []

abbrev pub flag_of : List ℕ → Option Bool
flag_of word = named flags word

-- securebits
abbrev pub bits_of : List ℕ → Option ℕ
bits_of word =
    option_and_then (λ bits. if nat_le bits LAST_BITS then Some bits else None) (number_of word)
