-- A law of the record of capset(2): what bytes spell is one record.
use Rattle.std.specs.Prelude.{◌≡◌, ℕ, List}
use Rattle.cred_capdata.specs.declared.data.CapData.{CapData}
use Rattle.cred_capdata.specs.Record.{SpellsData}

-- no bytes spell two records
abbrev pub NoBytesSpellTwoRecords : Type 0
NoBytesSpellTwoRecords =
    (bytes : List ℕ) (a b : CapData) → SpellsData bytes a → SpellsData bytes b → a ≡ b
