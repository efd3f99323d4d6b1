-- What a call that sets ids leaves of ids and groups, and what no change of a prepared credential
-- but an execve touches.
use Rattle.std.proofs.Common.{◌≡◌, ℕ, ◌==◌, not, nat_lt, Bool, true, false, List, Option, Result, Ok, refl, sym, ap, ◌∙◌, subst}
use Rattle.cred_ids.specs.declared.arg.Arg.{Arg}
use Rattle.cred_ids.specs.declared.arg.Arg.TheVariants.{Keep, Set}
use Rattle.cred_ids.specs.declared.id.Ids4.{Ids4}
use Rattle.cred_ids.specs.declared.id.Kind.{Kind}
use Rattle.cred_ids.specs.declared.id.Kind.TheVariants.{User, Group}
use Rattle.cred_ids.specs.Ids4.{all_four}
use Rattle.cred_caps.specs.Caps.{Caps, empty}
use Rattle.cred_caps.specs.Numbers.{SETGID, SETUID, SETPCAP}
use Rattle.cred_caps.specs.declared.secure.Flag.TheVariants.{KeepCaps}
use Rattle.cred_caps.specs.Secure.{is_locked}
use Rattle.cred_record.specs.declared.adj_call.AdjCall.{AdjCall}
use Rattle.cred_record.specs.declared.adj_call.AdjCall.TheVariants as adj
use Rattle.cred_record.specs.declared.id_call.IdCall.{IdCall}
use Rattle.cred_record.specs.declared.id_call.IdCall.TheVariants.{SetUid, SetEuid, SetReuid, SetResuid, SetGid, SetEgid, SetRegid, SetResgid, SetGroups}
use Rattle.cred_record.specs.declared.refusal.Denial.{Denial}
use Rattle.cred_record.specs.declared.refusal.Denial.TheVariants.{Perm, Invalid}
use Rattle.cred_record.specs.Credential.{Credential, capable}
use Rattle.cred_record.specs.File.{File}
use Rattle.cred_rules.specs.Access.{access_credential}
use Rattle.cred_rules.specs.Adjust.{is_no_cap, may_capset, may_raise, may_set_bits, after_capset, after_bound_drop, after_amb_raise, after_amb_lower}
use Rattle.cred_rules.specs.Adjust.{after_bits, after_keep_caps, after_no_new_privs, adjust}
use Rattle.cred_rules.specs.SetFs.{set_fs, old_fs}
use Rattle.cred_rules.specs.SetId.{for_users, for_groups, id_or, three, after_setuid, after_seteuid, after_setreuid, after_setresuid, set_id}
use Rattle.cred_setid.proofs.SetIdLaws.{for_users-gives, for_groups-gives, permitted-gives, setgroups-gives}
use Rattle.cred_event.specs.declared.answer.Answer.TheVariants as answer
use Rattle.cred_event.specs.declared.event.Change.{Change}
use Rattle.cred_event.specs.declared.event.Change.TheVariants.{SetFs, Adjust, Exec, Access}
use Rattle.cred_model.specs.Change.{Made, made, by_change}
use Rattle.cred_laws.specs.Broadcast.{Names, NamesIds, HasNamed, call_kind, three_ids, is_able}
use Rattle.cred_laws.proofs.CallLaws.{one-test, two-tests, by_rule}

-- ---- the ids that a call names

id_or-named : (a : Arg) (old : ℕ) → Names a (id_or a old)
id_or-named Keep old = tt
id_or-named (Set n) old = refl

setuid-named : (able : Bool) (ids new : Ids4) (a : Arg) → after_setuid able ids a ≡ Ok new → NamesIds Keep a Keep new
unfolding after_setuid
setuid-named able ids new Keep same = cc
setuid-named true ids new (Set n) same =
    let is : all_four n ≡ new = cc in subst (NamesIds Keep (Set n) Keep) is (tt, refl, tt)
setuid-named false ids new (Set n) same = permitted-gives (NamesIds Keep (Set n) Keep) _ _ new (λ may. (tt, refl, tt)) same

setresuid-named : (able : Bool) (ids new : Ids4) (real effective saved : Arg) → after_setresuid able ids real effective saved ≡ Ok new
    → NamesIds real effective saved new
unfolding after_setresuid
setresuid-named able ids new real effective saved same =
    permitted-gives (NamesIds real effective saved) _ _ new
    (λ may. (id_or-named real ids.real, id_or-named effective ids.effective, id_or-named saved ids.saved)) same

seteuid-named : (able : Bool) (ids new : Ids4) (a : Arg) → after_seteuid able ids a ≡ Ok new → NamesIds Keep a Keep new
unfolding after_seteuid
seteuid-named able ids new Keep same = cc
seteuid-named able ids new (Set n) same = setresuid-named able ids new Keep (Set n) Keep same

setreuid-named : (able : Bool) (ids new : Ids4) (real effective : Arg) → after_setreuid able ids real effective ≡ Ok new
    → NamesIds real effective Keep new
unfolding after_setreuid
setreuid-named able ids new real effective same =
    permitted-gives (NamesIds real effective Keep) _ _ new
    (λ may. (id_or-named real ids.real, id_or-named effective ids.effective, tt)) same

-- the credential after a call has what the call names
pub named : (c d : Credential) (call : IdCall) → set_id c call ≡ Ok d → HasNamed call d
named c d (SetUid a) same =
    for_users-gives (NamesIds Keep a Keep) c d _ (λ new is. setuid-named (capable c SETUID) c.uid new a is) same
named c d (SetEuid a) same =
    for_users-gives (NamesIds Keep a Keep) c d _ (λ new is. seteuid-named (capable c SETUID) c.uid new a is) same
named c d (SetReuid a b) same =
    for_users-gives (NamesIds a b Keep) c d _ (λ new is. setreuid-named (capable c SETUID) c.uid new a b is) same
named c d (SetResuid a b s) same =
    for_users-gives (NamesIds a b s) c d _ (λ new is. setresuid-named (capable c SETUID) c.uid new a b s is) same
named c d (SetGid a) same =
    for_groups-gives (NamesIds Keep a Keep) c d _ (λ new is. setuid-named (capable c SETGID) c.gid new a is) same
named c d (SetEgid a) same =
    for_groups-gives (NamesIds Keep a Keep) c d _ (λ new is. seteuid-named (capable c SETGID) c.gid new a is) same
named c d (SetRegid a b) same =
    for_groups-gives (NamesIds a b Keep) c d _ (λ new is. setreuid-named (capable c SETGID) c.gid new a b is) same
named c d (SetResgid a b s) same =
    for_groups-gives (NamesIds a b s) c d _ (λ new is. setresuid-named (capable c SETGID) c.gid new a b s is) same
named c d (SetGroups list) same = setgroups-gives (HasNamed (SetGroups list)) c d list refl same

ids_named : (real effective saved : Arg) (old new : Ids4) → three new ≡ three old → NamesIds real effective saved old
    → NamesIds real effective saved new
ids_named real effective saved old new same names =
    let r : old.real ≡ new.real = cc in
    let e : old.effective ≡ new.effective = cc in
    let s : old.saved ≡ new.saved = cc in
    (subst (Names real) r names.0, subst (Names effective) e names.1, subst (Names saved) s names.2)

-- ---- the same three ids lead to the same

-- the rule doesn't see the filesystem id
abbrev IgnoresFs : (Ids4 → Result Ids4 Denial) → Type 0
IgnoresFs rule = (ids : Ids4) (fs : ℕ) → rule (record ids { fs = fs }) ≡ rule ids

setuid-ignores : (able : Bool) (a : Arg) → IgnoresFs (λ ids. after_setuid able ids a)
unfolding after_setuid
setuid-ignores able Keep ids fs = refl
setuid-ignores true (Set n) ids fs = refl
setuid-ignores false (Set n) ids fs = refl

setresuid-ignores : (able : Bool) (real effective saved : Arg) → IgnoresFs (λ ids. after_setresuid able ids real effective saved)
unfolding after_setresuid
setresuid-ignores able real effective saved ids fs = refl

seteuid-ignores : (able : Bool) (a : Arg) → IgnoresFs (λ ids. after_seteuid able ids a)
unfolding after_seteuid
seteuid-ignores able Keep ids fs = refl
seteuid-ignores able (Set n) ids fs = setresuid-ignores able Keep (Set n) Keep ids fs

setreuid-ignores : (able : Bool) (real effective : Arg) → IgnoresFs (λ ids. after_setreuid able ids real effective)
unfolding after_setreuid
setreuid-ignores able real effective ids fs = refl

same_but_fs : (a b : Ids4) → three a ≡ three b → record a { fs = b.fs } ≡ b
same_but_fs a b same =
    let real : a.real ≡ b.real = cc in
    let effective : a.effective ≡ b.effective = cc in
    let saved : a.saved ≡ b.saved = cc in
    λ i. record { real = real i; effective = effective i; saved = saved i; fs = b.fs }

-- what the rule gives of two that have the same three ids
same_three : (rule : Bool → Ids4 → Result Ids4 Denial) (able other : Bool) (a b x y : Ids4) → ((able : Bool) → IgnoresFs (rule able))
    → able ≡ other → three a ≡ three b → rule able a ≡ Ok x → rule other b ≡ Ok y → three x ≡ three y
same_three rule able other a b x y ignores alike same gives_x gives_y =
    let one : rule able a ≡ rule other b
    = sym (ignores able a b.fs) ∙ ap (rule able) (same_but_fs a b same) ∙ ap (λ able. rule able b) alike in
    let both : Ok x ≡ Ok y = sym gives_x ∙ one ∙ gives_y in
    let ids : x ≡ y = cc in
    ap three ids

users : (c d : Credential) (r : Result Ids4 Denial) → for_users c r ≡ Ok d → r ≡ Ok d.uid
users c d r = for_users-gives (λ new. r ≡ Ok new) c d r (λ new is. is)

groups : (c d : Credential) (r : Result Ids4 Denial) → for_groups c r ≡ Ok d → r ≡ Ok d.gid
groups c d r = for_groups-gives (λ new. r ≡ Ok new) c d r (λ new is. is)

-- Two credentials that have the same three ids of the call's kind, and both have or lack the
-- capability, have the same three ids after the call.
pub alike : (c d e f : Credential) (call : IdCall) → is_able (call_kind call) c ≡ is_able (call_kind call) e
    → three_ids (call_kind call) c ≡ three_ids (call_kind call) e → set_id c call ≡ Ok d → set_id e call ≡ Ok f
    → three_ids (call_kind call) d ≡ three_ids (call_kind call) f
alike c d e f (SetUid a) able same one other =
    same_three (λ able ids. after_setuid able ids a) _ _ c.uid e.uid d.uid f.uid (λ able. setuid-ignores able a) able same
    (users c d _ one) (users e f _ other)
alike c d e f (SetEuid a) able same one other =
    same_three (λ able ids. after_seteuid able ids a) _ _ c.uid e.uid d.uid f.uid (λ able. seteuid-ignores able a) able same
    (users c d _ one) (users e f _ other)
alike c d e f (SetReuid a b) able same one other =
    same_three (λ able ids. after_setreuid able ids a b) _ _ c.uid e.uid d.uid f.uid (λ able. setreuid-ignores able a b) able same
    (users c d _ one) (users e f _ other)
alike c d e f (SetResuid a b s) able same one other =
    same_three (λ able ids. after_setresuid able ids a b s) _ _ c.uid e.uid d.uid f.uid (λ able. setresuid-ignores able a b s) able same
    (users c d _ one) (users e f _ other)
alike c d e f (SetGid a) able same one other =
    same_three (λ able ids. after_setuid able ids a) _ _ c.gid e.gid d.gid f.gid (λ able. setuid-ignores able a) able same
    (groups c d _ one) (groups e f _ other)
alike c d e f (SetEgid a) able same one other =
    same_three (λ able ids. after_seteuid able ids a) _ _ c.gid e.gid d.gid f.gid (λ able. seteuid-ignores able a) able same
    (groups c d _ one) (groups e f _ other)
alike c d e f (SetRegid a b) able same one other =
    same_three (λ able ids. after_setreuid able ids a b) _ _ c.gid e.gid d.gid f.gid (λ able. setreuid-ignores able a b) able same
    (groups c d _ one) (groups e f _ other)
alike c d e f (SetResgid a b s) able same one other =
    same_three (λ able ids. after_setresuid able ids a b s) _ _ c.gid e.gid d.gid f.gid (λ able. setresuid-ignores able a b s) able same
    (groups c d _ one) (groups e f _ other)
alike c d e f (SetGroups list) able same one other =
    setgroups-gives (λ x. three x.gid ≡ three f.gid) c d list
    (same ∙ setgroups-gives (λ x. three e.gid ≡ three x.gid) e f list refl other) one

-- ---- what a broadcast sets, and no other change but an execve

-- the real, effective and saved ids of both kinds, and the groups
pub record AreSame (c d : Credential) : Type 0 where
  pub users : three d.uid ≡ three c.uid
  pub groups : three d.gid ≡ three c.gid
  pub list : d.groups ≡ c.groups

same_itself : (c : Credential) → AreSame c c
same_itself c = record { users = refl; groups = refl; list = refl }

capset-same : (c d : Credential) (perm inh eff : Caps) → after_capset c perm inh eff ≡ Ok d → AreSame c d
unfolding after_capset
capset-same c d perm inh eff is =
    one-test (AreSame c) (not (may_capset c perm inh eff)) Perm _ d (λ may. record { users = refl; groups = refl; list = refl }) is

bound_drop-same : (c d : Credential) (n : ℕ) → after_bound_drop c n ≡ Ok d → AreSame c d
unfolding after_bound_drop
bound_drop-same c d n is =
    two-tests (AreSame c) (not (capable c SETPCAP)) (is_no_cap n) Perm Invalid _ d
    (λ may. record { users = refl; groups = refl; list = refl }) is

amb_lower-same : (c d : Credential) (n : ℕ) → after_amb_lower c n ≡ Ok d → AreSame c d
unfolding after_amb_lower
amb_lower-same c d n is =
    one-test (AreSame c) (is_no_cap n) Invalid _ d (λ may. record { users = refl; groups = refl; list = refl }) is

amb_raise-same : (c d : Credential) (n : ℕ) → after_amb_raise c n ≡ Ok d → AreSame c d
unfolding after_amb_raise
amb_raise-same c d n is =
    two-tests (AreSame c) (is_no_cap n) (not (may_raise c n)) Invalid Perm _ d
    (λ may. record { users = refl; groups = refl; list = refl }) is

bits-same : (c d : Credential) (n : ℕ) → after_bits c n ≡ Ok d → AreSame c d
unfolding after_bits
bits-same c d n is =
    one-test (AreSame c) (not (may_set_bits c n)) Perm _ d (λ may. record { users = refl; groups = refl; list = refl }) is

keep_caps-same : (c d : Credential) (n : ℕ) → after_keep_caps c n ≡ Ok d → AreSame c d
unfolding after_keep_caps
keep_caps-same c d n is =
    two-tests (AreSame c) (nat_lt 1 n) (is_locked c.bits KeepCaps) Invalid Perm _ d
    (λ may. record { users = refl; groups = refl; list = refl }) is

no_new_privs-same : (c d : Credential) (n : ℕ) → after_no_new_privs c n ≡ Ok d → AreSame c d
unfolding after_no_new_privs
no_new_privs-same c d n is =
    one-test (AreSame c) (not (n == 1)) Invalid (record c { nnp = true }) d
    (λ may. record { users = refl; groups = refl; list = refl }) is

adjust-same : (c d : Credential) (call : AdjCall) → adjust c call ≡ Ok d → AreSame c d
adjust-same c d (adj.Capset perm inh eff) is = capset-same c d perm inh eff is
adjust-same c d (adj.BoundDrop n) is = bound_drop-same c d n is
adjust-same c d (adj.AmbRaise n) is = amb_raise-same c d n is
adjust-same c d (adj.AmbLower n) is = amb_lower-same c d n is
adjust-same c d adj.AmbClear is =
    let one : record c { amb = empty } ≡ d = cc in subst (AreSame c) one (record { users = refl; groups = refl; list = refl })
adjust-same c d (adj.Bits n) is = bits-same c d n is
adjust-same c d (adj.KeepCaps n) is = keep_caps-same c d n is
adjust-same c d (adj.NoNewPrivs n) is = no_new_privs-same c d n is

set_fs-same : (c : Credential) (kind : Kind) (a : Arg) → AreSame c (set_fs c kind a)
set_fs-same c User a = record { users = refl; groups = refl; list = refl }
set_fs-same c Group a = record { users = refl; groups = refl; list = refl }

access-same : (c : Credential) → AreSame c (access_credential c)
unfolding access_credential
access-same c = record { users = refl; groups = refl; list = refl }

abbrev pub is_exec : Change → Bool
is_exec (Exec file) = true
is_exec change = false

-- they stay as they were over each change but an execve
pub change-same : (file : Option File) (chain : List ℕ) (c : Credential) (change : Change) (to : Made) → is_exec change ≡ false
    → by_change file chain c change ≡ Ok to → AreSame c to.cred
change-same file chain c (SetFs kind a) to plain is =
    let one : made (answer.Was (old_fs c kind)) (set_fs c kind a) ≡ to = cc in
    subst (λ (m : Made). AreSame c m.cred) one (set_fs-same c kind a)
change-same file chain c (Adjust call) to plain is =
    by_rule (AreSame c) to (adjust c call) (λ d. adjust-same c d call) is
change-same file chain c (Exec place) to plain is = cc
change-same file chain c Access to plain is =
    let one : made answer.Done (access_credential c) ≡ to = cc in
    subst (λ (m : Made). AreSame c m.cred) one (access-same c)

-- what a call names is among them
pub named_same : (call : IdCall) (c d : Credential) → AreSame c d → HasNamed call c → HasNamed call d
named_same (SetUid a) c d same has = ids_named Keep a Keep c.uid d.uid same.users has
named_same (SetEuid a) c d same has = ids_named Keep a Keep c.uid d.uid same.users has
named_same (SetReuid a b) c d same has = ids_named a b Keep c.uid d.uid same.users has
named_same (SetResuid a b s) c d same has = ids_named a b s c.uid d.uid same.users has
named_same (SetGid a) c d same has = ids_named Keep a Keep c.gid d.gid same.groups has
named_same (SetEgid a) c d same has = ids_named Keep a Keep c.gid d.gid same.groups has
named_same (SetRegid a b) c d same has = ids_named a b Keep c.gid d.gid same.groups has
named_same (SetResgid a b s) c d same has = ids_named a b s c.gid d.gid same.groups has
named_same (SetGroups list) c d same has = same.list ∙ has

pub three_same : (kind : Kind) (ids : List ℕ) (c d : Credential) → AreSame c d → three_ids kind c ≡ ids → three_ids kind d ≡ ids
three_same User ids c d same has = same.users ∙ has
three_same Group ids c d same has = same.groups ∙ has
