-- The four ids of a kind that a task has (credentials(7)).
use Rattle.std.specs.Prelude.{ℕ}
use Rattle.cred_ids.specs.declared.id.Ids4.{Ids4}

-- one id in all four places
abbrev pub all_four : ℕ → Ids4
all_four n = record { real = n; effective = n; saved = n; fs = n }
