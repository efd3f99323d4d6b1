-- Which answers an id call and a change of sets or securebits may be given, by their arguments:
-- what their rules answer to some caller, and what to none.
use Rattle.std.specs.Prelude.{Bool, true, false, ◌==◌, ◌&&◌, ◌||◌, not, nat_le, nat_lt, length}
use Rattle.cred_ids.specs.Limits.{GROUP_LIMIT}
use Rattle.cred_caps.specs.Caps.{empty, is_within}
use Rattle.cred_record.specs.declared.id_call.IdCall.{IdCall}
use Rattle.cred_record.specs.declared.id_call.IdCall.TheVariants.{SetUid, SetEuid, SetReuid}
use Rattle.cred_record.specs.declared.id_call.IdCall.TheVariants.{SetResuid, SetGid, SetEgid}
use Rattle.cred_record.specs.declared.id_call.IdCall.TheVariants.{SetRegid, SetResgid, SetGroups}
use Rattle.cred_record.specs.declared.adj_call.AdjCall.{AdjCall}
use Rattle.cred_record.specs.declared.adj_call.AdjCall.TheVariants.{Capset, BoundDrop, AmbRaise}
use Rattle.cred_record.specs.declared.adj_call.AdjCall.TheVariants.{AmbLower, AmbClear, Bits}
use Rattle.cred_record.specs.declared.adj_call.AdjCall.TheVariants.{KeepCaps, NoNewPrivs}
use Rattle.cred_rules.specs.SetId.{is_given}
use Rattle.cred_caps.specs.Secure.{LAST_BITS}
use Rattle.cred_rules.specs.Adjust.{is_no_cap}
use Rattle.cred_event.specs.declared.answer.Named.TheVariants.{Broadcast}
use Rattle.cred_event.specs.declared.answer.Answer.{Answer}
use Rattle.cred_event.specs.declared.answer.Answer.TheVariants.{Done, Began, Eperm, Einval, NoTask}
use Rattle.cred_event.specs.declared.answer.Answer.TheVariants.{NoPrepared, Busy, Exists}
use Rattle.cred_event.specs.declared.answer.Answer.TheVariants.{Overridden, TableFull, Sealed}

-- The call is invalid, whoever makes it: the one id that it sets is -1, or there are more groups
-- than a task may have. The calls of two and of three ids never are.
abbrev pub is_invalid : IdCall → Bool
is_invalid (SetUid id) = not (is_given id)
is_invalid (SetEuid id) = not (is_given id)
is_invalid (SetReuid real effective) = false
is_invalid (SetResuid real effective saved) = false
is_invalid (SetGid id) = not (is_given id)
is_invalid (SetEgid id) = not (is_given id)
is_invalid (SetRegid real effective) = false
is_invalid (SetResgid real effective saved) = false
is_invalid (SetGroups groups) = nat_lt GROUP_LIMIT (length groups)

-- Some caller may not make the call: it gives an id, or it is setgroups(2), which asks for the
-- capability whatever the groups are.
abbrev pub may_be_denied : IdCall → Bool
may_be_denied (SetUid id) = is_given id
may_be_denied (SetEuid id) = is_given id
may_be_denied (SetReuid real effective) = is_given real || is_given effective
may_be_denied (SetResuid real effective saved) =
    is_given real || is_given effective || is_given saved
may_be_denied (SetGid id) = is_given id
may_be_denied (SetEgid id) = is_given id
may_be_denied (SetRegid real effective) = is_given real || is_given effective
may_be_denied (SetResgid real effective saved) =
    is_given real || is_given effective || is_given saved
may_be_denied (SetGroups groups) = true

-- an id call
abbrev pub begin_row : IdCall → Answer → Bool
begin_row call (NoTask task) = true
begin_row call (Busy broadcast) = true
begin_row call (Exists Broadcast number) = true
begin_row call (Overridden depth) = true
begin_row call Eperm = may_be_denied call
begin_row call Einval = is_invalid call
begin_row call TableFull = not (is_invalid call)
begin_row call (Began cred slot left) = not (is_invalid call)
begin_row call answer = false

-- an id call of one thread alone
abbrev pub raw_row : IdCall → Answer → Bool
raw_row call (NoTask task) = true
raw_row call (Busy broadcast) = true
raw_row call (Overridden depth) = true
raw_row call Eperm = may_be_denied call
raw_row call Einval = is_invalid call
raw_row call TableFull = not (is_invalid call)
raw_row call (Sealed cred slot) = not (is_invalid call)
raw_row call answer = false

-- The number isn't one that the change takes.
abbrev pub is_wrong : AdjCall → Bool
is_wrong (Capset perm inh eff) = false
is_wrong (BoundDrop cap) = is_no_cap cap
is_wrong (AmbRaise cap) = is_no_cap cap
is_wrong (AmbLower cap) = is_no_cap cap
is_wrong AmbClear = false
is_wrong (Bits bits) = false
is_wrong (KeepCaps value) = nat_lt 1 value
is_wrong (NoNewPrivs value) = not (value == 1)

-- Some caller may not make the change, and gets EPERM. Three empty sets anybody may give to
-- capset(2). PR_CAPBSET_DROP tests CAP_SETPCAP before the number; PR_CAP_AMBIENT_RAISE and
-- PR_SET_KEEPCAPS test the number first.
abbrev pub may_be_refused : AdjCall → Bool
may_be_refused (Capset perm inh eff) = not ((perm == empty) && (inh == empty) && (eff == empty))
may_be_refused (BoundDrop cap) = true
may_be_refused (AmbRaise cap) = not (is_no_cap cap)
may_be_refused (AmbLower cap) = false
may_be_refused AmbClear = false
may_be_refused (Bits bits) = true
may_be_refused (KeepCaps value) = not (nat_lt 1 value)
may_be_refused (NoNewPrivs value) = false

-- Some caller may make the change.
abbrev pub may_be_done : AdjCall → Bool
may_be_done (Capset perm inh eff) = is_within eff perm
may_be_done (BoundDrop cap) = not (is_no_cap cap)
may_be_done (AmbRaise cap) = not (is_no_cap cap)
may_be_done (AmbLower cap) = not (is_no_cap cap)
may_be_done AmbClear = true
may_be_done (Bits bits) = nat_le bits LAST_BITS
may_be_done (KeepCaps value) = not (nat_lt 1 value)
may_be_done (NoNewPrivs value) = value == 1

-- capset(2) and the calls of prctl(2)
abbrev pub adjust_row : AdjCall → Answer → Bool
adjust_row call (NoPrepared label) = true
adjust_row call Eperm = may_be_refused call
adjust_row call Einval = is_wrong call
adjust_row call Done = may_be_done call
adjust_row call answer = false
