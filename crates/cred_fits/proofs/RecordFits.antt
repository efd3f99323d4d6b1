-- The sets of a record that a word of a script spells are in range.
use Rattle.std.proofs.Common.{◌≡◌, ℕ, List, Option, Some, None, refl}
use Rattle.cred_caps.specs.Caps.{IsCaps}
use Rattle.cred_spelling.specs.Spellings.{bytes_of}
use Rattle.cred_capdata.specs.declared.data.CapData.{CapData}
use Rattle.cred_capdata.specs.Record.{data_of}
use Rattle.cred_capdata.proofs.DataOf.{spelled}
use Rattle.cred_grammar.specs.Records.{own_data, record_of}
use Rattle.cred_reader.proofs.Spelled.{HoldsSome, OfAll}
use Rattle.cred_reader.proofs.KindsFit.{if_holds, then_some}

abbrev pub FitsData : CapData → Type 0
FitsData d = IsCaps d.perm × IsCaps d.inh × IsCaps d.eff

data_fits : (bytes : List ℕ) (o : Option CapData) → data_of bytes ≡ o → HoldsSome FitsData o
data_fits bytes None is = tt
data_fits bytes (Some d) is =
    let spells = spelled bytes d is in
    (spells.perm.others, spells.inh.others, spells.eff.others)

own_fits : (task : ℕ) (d : CapData) → FitsData d → HoldsSome FitsData (own_data task d)
own_fits task d fits = if_holds FitsData _ d (λ t. fits)

any_bytes : (o : Option (List ℕ)) → HoldsSome (λ bytes. Unit {0}) o
any_bytes (Some bytes) = tt
any_bytes None = tt

pub record_fits : (task : ℕ) → OfAll FitsData (record_of task)
record_fits task word =
    then_some (λ bytes. Unit {0}) FitsData (bytes_of word) _ (any_bytes (bytes_of word)) (λ bytes u.
    then_some FitsData FitsData (data_of bytes) (own_data task) (data_fits bytes (data_of bytes) refl) (own_fits task))
