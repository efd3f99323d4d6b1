-- What is written of the bytes of a record of capset(2).
use Rattle.std.specs.Prelude.{◌≡◌, ◌<◌, ℕ, List, ◌++◌, codes, decimal, All}
use Rattle.std.specs.declared.option.Option.{Option}
use Rattle.hex.specs.Hex.{encode_lower}
use Rattle.cred_report.specs.Numbers.{set_text}
use Rattle.cred_capdata.specs.Record.{SpellsData, IsCanonicalData, data_refusal_of}
use Rattle.cred_capdata.specs.declared.data.CapData.{CapData}
use Rattle.cred_capdata.specs.declared.refusal.DataRefusal.{DataRefusal}
use Rattle.cred_capdata.specs.declared.refusal.DataRefusal.TheVariants.{BadLength, BadVersion}
use Rattle.cred_output.specs.declared.status.Status.{Status}
use Rattle.cred_inspect.specs.Operands.{LeavesEither, SaysEither}

-- the bytes spell a record
abbrev pub IsRecord : List ℕ → Type 0
IsRecord bytes = (d : CapData) × SpellsData bytes d

-- what a record of version 3 says of the same task, with the same sets
abbrev pub as_version_3 : CapData → CapData
as_version_3 d = record d { version = 3 }

-- the bytes are those that capset(2) takes for what this says, by a record of version 3: each
-- number is a byte
pub record AreBytesAs3 (d : CapData) (bytes : List ℕ) : Type 0 where
  pub spelled : SpellsData bytes (as_version_3 d)
  pub canonical : IsCanonicalData bytes
  pub each : All (λ byte. byte < 256) bytes

-- of what a record says, and of the bytes that say it by version 3
abbrev pub record_text : CapData → List ℕ → List ℕ
record_text d third =
    codes "version " ++ decimal d.version ++ codes " target " ++ decimal d.target
    ++ codes " perm" ++ set_text d.perm ++ codes " inh" ++ set_text d.inh
    ++ codes " eff" ++ set_text d.eff ++ codes " v3 " ++ encode_lower third ++ codes "\n"

-- the text of what a record says
abbrev pub IsTextOf : CapData → List ℕ → Type 0
IsTextOf d text = (third : List ℕ) × AreBytesAs3 d third × (text ≡ record_text d third)

-- the bytes spell a record, and this is its text
abbrev pub IsRecordText : List ℕ → List ℕ → Type 0
IsRecordText bytes text = (d : CapData) × SpellsData bytes d × IsTextOf d text

-- to bytes that are no record, for this reason
abbrev pub record_refusal : DataRefusal → List ℕ
record_refusal (BadLength n) = codes "bad length " ++ decimal n ++ codes "\n"
record_refusal (BadVersion n) = codes "bad version " ++ decimal n ++ codes "\n"

-- they spell none, and this says why
abbrev pub IsRecordFault : List ℕ → List ℕ → Type 0
IsRecordFault bytes text = ¬ IsRecord bytes × (text ≡ record_refusal (data_refusal_of bytes))

-- what is said of the bytes, with this status
abbrev pub SaysRecord : List ℕ → Status → List ℕ → Type 0
SaysRecord bytes answer text =
    SaysEither (IsRecordText bytes) (IsRecordFault bytes) answer text

-- What `capdata` leaves: the bytes decide whether it is Done or Bad, and its text.
abbrev pub LeavesRecord : List ℕ → Status → Option (List ℕ) → Option (List ℕ) → Type 0
LeavesRecord bytes answer written now =
    LeavesEither (IsRecordText bytes) (IsRecordFault bytes) answer written now
