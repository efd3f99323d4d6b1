-- Ids that were read, before those that are still to be read.
use Rattle.std.proofs.Common.{ℕ, List, ◌++◌, Result, Ok}
use Rattle.cred_spelling.specs.declared.reason.Reason.{Reason}
use Rattle.cred_ids.specs.Tests.{◌>>=◌}

abbrev pub with_ids : List ℕ → Result (List ℕ) Reason → Result (List ℕ) Reason
with_ids before given = given >>= λ ids. Ok (before ++ ids)
