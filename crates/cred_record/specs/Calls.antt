-- Which calls hold a list.
use Rattle.std.specs.Prelude.{⊤}
use Rattle.cred_record.specs.declared.id_call.IdCall.{IdCall}
use Rattle.cred_record.specs.declared.id_call.IdCall.TheVariants.{SetGroups}

-- the call is setgroups: it holds the list of its groups
abbrev pub IsSetGroups : IdCall → Type 0
IsSetGroups (SetGroups list) = ⊤
IsSetGroups call = ⊥
