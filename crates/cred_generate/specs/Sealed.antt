-- How the answers of a journal tell the number of credentials that it sealed: each of them has the
-- next number, and the answer to the event that seals it names it.
use Rattle.std.specs.Prelude.{ℕ, ◌+◌, ◌==◌, Bool, false, List, fold, Some, None}
use Rattle.std.specs.Prelude.{if◌then◌else◌}
use Rattle.std.specs.declared.option.Option.{Option}
use Rattle.std.specs.Option.{option_map_or}
use Rattle.cred_event.specs.declared.answer.Answer.{Answer}
use Rattle.cred_event.specs.declared.answer.Answer.TheVariants.{Sealed, Executed, Began, Acted}
use Rattle.cred_event.specs.declared.entry.Entry.{Entry}

-- the number of the one credential that an answer of success names
abbrev pub number_named : Answer → Option ℕ
number_named (Sealed number slot) = Some number
number_named (Executed number slot ended gains) = Some number
number_named (Began number slot left) = Some number
number_named (Acted task number slot left) = Some number
number_named answer = None

-- the answer names the credential that is sealed next, where `count` are
abbrev pub is_next : ℕ → Answer → Bool
is_next count answer = option_map_or (λ number. number == count) (number_named answer) false

-- how many are sealed after an event with this answer
abbrev pub count_with : ℕ → Answer → ℕ
count_with count answer = if is_next count answer then count + 1 else count

-- how many are sealed after the entries
abbrev pub count_sealed : List Entry → ℕ
count_sealed journal = fold (λ count entry. count_with count entry.answer) 0 journal
