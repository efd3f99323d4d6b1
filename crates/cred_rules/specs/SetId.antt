-- The calls that set ids (setuid(2), seteuid(2), setreuid(2), setresuid(2), their group forms,
-- setgroups(2)). One rule serves user ids and group ids. In it `able` says whether the caller has
-- the capability of the kind: CAP_SETUID for user ids, CAP_SETGID for group ids.
use Rattle.std.specs.Prelude.{ℕ, Bool, true, false, List, [], ◌∷◌, ◌==◌, ◌&&◌, ◌||◌, not, nat_lt}
use Rattle.std.specs.Prelude.{length, Result, Ok, Err, if◌then◌else◌}
use Rattle.std.specs.List.{list_any}
use Rattle.cred_ids.specs.declared.id.Ids4.{Ids4}
use Rattle.cred_ids.specs.declared.arg.Arg.{Arg}
use Rattle.cred_ids.specs.declared.arg.Arg.TheVariants.{Keep, Set}
use Rattle.cred_ids.specs.Ids4.{all_four}
use Rattle.cred_ids.specs.Ordered.{in_order}
use Rattle.cred_ids.specs.Limits.{GROUP_LIMIT}
use Rattle.cred_caps.specs.Numbers.{SETGID, SETUID}
use Rattle.cred_record.specs.declared.id_call.IdCall.{IdCall}
use Rattle.cred_record.specs.declared.id_call.IdCall.TheVariants.{SetUid, SetEuid, SetReuid}
use Rattle.cred_record.specs.declared.id_call.IdCall.TheVariants.{SetResuid, SetGid, SetEgid}
use Rattle.cred_record.specs.declared.id_call.IdCall.TheVariants.{SetRegid, SetResgid, SetGroups}
use Rattle.cred_record.specs.declared.refusal.Denial.{Denial}
use Rattle.cred_record.specs.declared.refusal.Denial.TheVariants.{Perm, Invalid}
use Rattle.cred_record.specs.Credential.{Credential, capable}
use Rattle.cred_rules.specs.Fix.{with_user_ids}

-- the id that is given, or the old one where it is to be kept
abbrev pub id_or : Arg → ℕ → ℕ
id_or Keep old = old
id_or (Set n) old = n

-- an id is given
abbrev pub is_given : Arg → Bool
is_given Keep = false
is_given (Set n) = true

-- an id is given, and it is not this one
abbrev pub is_other : Arg → ℕ → Bool
is_other Keep id = false
is_other (Set n) id = not (n == id)

-- the id that is given is one of these, or none is given
abbrev pub is_one_of : Arg → List ℕ → Bool
is_one_of Keep ids = true
is_one_of (Set n) ids = list_any (λ id. id == n) ids

-- the real, effective and saved id
abbrev pub three : Ids4 → List ℕ
three ids = ids.real ∷ ids.effective ∷ ids.saved ∷ []

-- these ids if the call is permitted, else EPERM
abbrev pub permitted : Bool → Ids4 → Result Ids4 Denial
permitted may ids = if may then Ok ids else Err Perm

-- setuid(2), setgid(2): with the capability all four ids become n; without it n has to be the real
-- or the saved id, and the effective id becomes n. The filesystem id follows the effective one
unfoldable pub after_setuid : Bool → Ids4 → Arg → Result Ids4 Denial
after_setuid able ids Keep = Err Invalid
after_setuid true ids (Set n) = Ok (all_four n)
after_setuid false ids (Set n) =
    permitted ((ids.real == n) || (ids.saved == n)) (record ids { effective = n; fs = n })

-- setreuid(2), setregid(2): without the capability the real id may become the real or the effective
-- id, and the effective id one of the three. The saved id becomes the new effective one if a real
-- id is given, or an effective one other than the old real id
unfoldable pub after_setreuid : Bool → Ids4 → Arg → Arg → Result Ids4 Denial
after_setreuid able ids real effective =
    let e = id_or effective ids.effective in
    permitted
    (able || is_one_of real (ids.real ∷ ids.effective ∷ []) && is_one_of effective (three ids))
    (record {
      real = id_or real ids.real;
      effective = e;
      saved = if is_given real || is_other effective ids.real then e else ids.saved;
      fs = e;
    })

-- setresuid(2), setresgid(2): without the capability each id that is given has to be one of the
-- three
unfoldable pub after_setresuid : Bool → Ids4 → Arg → Arg → Arg → Result Ids4 Denial
after_setresuid able ids real effective saved =
    let e = id_or effective ids.effective in
    permitted
    (able ||
    is_one_of real (three ids) && is_one_of effective (three ids) && is_one_of saved (three ids))
    (record { real = id_or real ids.real; effective = e; saved = id_or saved ids.saved; fs = e })

-- seteuid(2), setegid(2): the effective id alone, by the rule of setresuid(2)
unfoldable pub after_seteuid : Bool → Ids4 → Arg → Result Ids4 Denial
after_seteuid able ids Keep = Err Invalid
after_seteuid able ids (Set n) = after_setresuid able ids Keep (Set n) Keep

-- the credential with these user ids, and the sets that follow from them; or why there are none
abbrev pub for_users : Credential → Result Ids4 Denial → Result Credential Denial
for_users c (Ok ids) = Ok (with_user_ids c ids)
for_users c (Err e) = Err e

-- the credential with these group ids, which leave the sets alone; or why there are none
abbrev pub for_groups : Credential → Result Ids4 Denial → Result Credential Denial
for_groups c (Ok ids) = Ok (record c { gid = ids })
for_groups c (Err e) = Err e

-- setgroups(2): with CAP_SETGID at most 1024 groups, in order, duplicates too. All ids stay
unfoldable pub after_setgroups : Credential → List ℕ → Result Credential Denial
after_setgroups c list =
    if not (capable c SETGID) then Err Perm
    else if nat_lt GROUP_LIMIT (length list) then Err Invalid
    else Ok (record c { groups = in_order list })

-- the credential after a call, or why the call is refused
abbrev pub set_id : Credential → IdCall → Result Credential Denial
set_id c (SetUid a) = for_users c (after_setuid (capable c SETUID) c.uid a)
set_id c (SetEuid a) = for_users c (after_seteuid (capable c SETUID) c.uid a)
set_id c (SetReuid a b) = for_users c (after_setreuid (capable c SETUID) c.uid a b)
set_id c (SetResuid a b d) = for_users c (after_setresuid (capable c SETUID) c.uid a b d)
set_id c (SetGid a) = for_groups c (after_setuid (capable c SETGID) c.gid a)
set_id c (SetEgid a) = for_groups c (after_seteuid (capable c SETGID) c.gid a)
set_id c (SetRegid a b) = for_groups c (after_setreuid (capable c SETGID) c.gid a b)
set_id c (SetResgid a b d) = for_groups c (after_setresuid (capable c SETGID) c.gid a b d)
set_id c (SetGroups list) = after_setgroups c list
