-- What is kept stays kept where the table of slots is reserved room, and where it is swept.
use Rattle.std.proofs.Common.{◌≡◌, ℕ, List, Option, refl, sym, subst}
use Rattle.cred_record.specs.Credential.{Credential}
use Rattle.cred_slots.specs.Table.{Table, swept_table}
use Rattle.cred_tables.specs.Kept.{StateLists, IsKept}
use Rattle.cred_tables.proofs.Filled.{filled_same, no_more_swept}

pub kept_spare : {parts : StateLists} {store : List (Option Credential)} {t r : Table} {m : ℕ} → IsKept parts store t → r ≡ record t { spare = m }
    → IsKept parts store r
kept_spare {parts = parts} {store = store} is made =
    subst (λ (x : Table). IsKept parts store x) (sym made)
    (record {
      counted = record { counts = is.counted.counts; keeps = is.counted.keeps };
      filled = record { each = is.filled.each };
    })

pub kept_swept : {parts : StateLists} {store : List (Option Credential)} {t r : Table} → IsKept parts store t → r ≡ swept_table t → IsKept parts store r
kept_swept {parts = parts} {store = store} {t = t} is made =
    subst (λ (x : Table). IsKept parts store x) (sym made)
    (record {
      counted = record { counts = is.counted.counts; keeps = is.counted.keeps };
      filled = filled_same refl (no_more_swept t) is.filled;
    })
