-- The text of a question about a credential, and of what it names.
use Rattle.std.specs.Prelude.{ℕ, List, [], ◌++◌, slice_get, None, Some, codes, decimal}
use Rattle.std.specs.Prelude.{if◌then◌else◌}
use Rattle.std.specs.declared.option.Option.{Option}
use Rattle.cred_record.specs.declared.want.Want.{Want}
use Rattle.cred_event.specs.declared.event.Query.{Query}
use Rattle.cred_event.specs.declared.event.Query.TheVariants.{Ids, Caps, Groups, Bits, Capable}
use Rattle.cred_event.specs.declared.event.Query.TheVariants.{Bset, AmbIs, Check}
use Rattle.cred_model.specs.Script.{Script, NamedFile}

-- Where there is no file there is no name. An entry of a script names only the files that it
-- declares.
abbrev pub name_text : Option NamedFile → List ℕ
name_text None = []
name_text (Some file) = file.name

-- the name of the file at this place among the script's files
abbrev pub file_text : Script → ℕ → List ℕ
file_text script place = name_text (slice_get script.files place)

-- the letters of what is wanted, in this order
abbrev pub want_text : Want → List ℕ
want_text want =
    (if want.r then codes "r" else []) ++ (if want.w then codes "w" else []) ++
    (if want.x then codes "x" else [])

abbrev pub query_text : Script → Query → List ℕ
query_text script Ids = codes "ids"
query_text script Caps = codes "caps"
query_text script Groups = codes "groups"
query_text script Bits = codes "bits"
query_text script (Capable cap) = codes "capable " ++ decimal cap
query_text script (Bset cap) = codes "bset " ++ decimal cap
query_text script (AmbIs cap) = codes "ambis " ++ decimal cap
query_text script (Check file want) =
    codes "check " ++ file_text script file ++ codes " " ++ want_text want
