-- The text of the calls that set ids, and of the changes of a prepared credential.
use Rattle.std.specs.Prelude.{ℕ, List, ◌++◌, codes, decimal}
use Rattle.cred_ids.specs.declared.id.Kind.TheVariants.{User, Group}
use Rattle.cred_record.specs.declared.id_call.IdCall.{IdCall}
use Rattle.cred_record.specs.declared.id_call.IdCall.TheVariants.{SetUid, SetEuid, SetReuid}
use Rattle.cred_record.specs.declared.id_call.IdCall.TheVariants.{SetResuid, SetGid, SetEgid}
use Rattle.cred_record.specs.declared.id_call.IdCall.TheVariants.{SetRegid, SetResgid, SetGroups}
use Rattle.cred_record.specs.declared.adj_call.AdjCall.{AdjCall}
use Rattle.cred_record.specs.declared.adj_call.AdjCall.TheVariants.{Capset, BoundDrop, AmbRaise}
use Rattle.cred_record.specs.declared.adj_call.AdjCall.TheVariants.{AmbLower, AmbClear, Bits}
use Rattle.cred_record.specs.declared.adj_call.AdjCall.TheVariants.{KeepCaps, NoNewPrivs}
use Rattle.cred_event.specs.declared.event.Change.{Change}
use Rattle.cred_event.specs.declared.event.Change.TheVariants.{SetFs, Adjust, Exec, Access}
use Rattle.cred_model.specs.Script.{Script}
use Rattle.cred_report.specs.Numbers.{arg_text, ids_text, set_text}
use Rattle.cred_report.specs.Questions.{file_text}

-- real, effective and saved in this order; the groups as the script gives them
abbrev pub call_text : IdCall → List ℕ
call_text (SetUid id) = codes "setuid" ++ arg_text id
call_text (SetEuid id) = codes "seteuid" ++ arg_text id
call_text (SetReuid real effective) = codes "setreuid" ++ arg_text real ++ arg_text effective
call_text (SetResuid real effective saved) =
    codes "setresuid" ++ arg_text real ++ arg_text effective ++ arg_text saved
call_text (SetGid id) = codes "setgid" ++ arg_text id
call_text (SetEgid id) = codes "setegid" ++ arg_text id
call_text (SetRegid real effective) = codes "setregid" ++ arg_text real ++ arg_text effective
call_text (SetResgid real effective saved) =
    codes "setresgid" ++ arg_text real ++ arg_text effective ++ arg_text saved
call_text (SetGroups groups) = codes "setgroups" ++ ids_text groups

abbrev pub adjust_text : AdjCall → List ℕ
adjust_text (Capset perm inh eff) = codes "capset" ++ set_text perm ++ set_text inh ++ set_text eff
adjust_text (BoundDrop cap) = codes "capdrop " ++ decimal cap
adjust_text (AmbRaise cap) = codes "ambraise " ++ decimal cap
adjust_text (AmbLower cap) = codes "amblower " ++ decimal cap
adjust_text AmbClear = codes "ambclear"
adjust_text (Bits bits) = codes "securebits " ++ decimal bits
adjust_text (KeepCaps value) = codes "keepcaps " ++ decimal value
adjust_text (NoNewPrivs value) = codes "nonewprivs " ++ decimal value

abbrev pub change_text : Script → Change → List ℕ
change_text script (SetFs User id) = codes "setfsuid" ++ arg_text id
change_text script (SetFs Group id) = codes "setfsgid" ++ arg_text id
change_text script (Adjust call) = adjust_text call
change_text script (Exec file) = codes "exec " ++ file_text script file
change_text script Access = codes "access"
