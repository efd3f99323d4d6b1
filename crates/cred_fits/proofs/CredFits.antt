-- The credentials that calls make have ids, sets and securebits in range.
use Rattle.std.proofs.Common.{ℕ, ◌≤◌, ◌-◌, ◌^◌, ◌==◌, not, ◌&&◌, ◌||◌, nat_lt, Bool, true, false, cond, List, length, Result, Ok, Err, arith}
use Rattle.std.specs.List.{All, list_any}
use Rattle.std.proofs.lemmas.Nat.{and_le_l, and_le_r}
use Rattle.cred_ids.specs.declared.id.Ids4.{Ids4}
use Rattle.cred_ids.specs.declared.id.Kind.{Kind}
use Rattle.cred_ids.specs.declared.id.Kind.TheVariants.{User, Group}
use Rattle.cred_ids.specs.declared.arg.Arg.{Arg}
use Rattle.cred_ids.specs.declared.arg.Arg.TheVariants.{Keep, Set}
use Rattle.cred_ids.specs.Id.{IsId}
use Rattle.cred_ids.specs.Ids4.{all_four}
use Rattle.cred_ids.specs.Ordered.{in_order}
use Rattle.cred_ids.specs.Limits.{GROUP_LIMIT}
use Rattle.cred_caps.specs.declared.secure.Flag.TheVariants.{NoSetuidFixup}
use Rattle.cred_caps.specs.Caps.{Caps, IsCaps, empty, union, meet, less}
use Rattle.cred_caps.specs.Numbers.{SETGID, SETUID}
use Rattle.cred_caps.specs.Secure.{is_set}
use Rattle.cred_caps.proofs.CapsLemmas.{IsCaps-union}
use Rattle.cred_caps.specs.Secure.{LAST_BITS}
use Rattle.cred_record.specs.Credential.{Credential, capable, is_root}
use Rattle.cred_record.specs.declared.id_call.IdCall.{IdCall}
use Rattle.cred_record.specs.declared.id_call.IdCall.TheVariants as call
use Rattle.cred_record.specs.declared.refusal.Denial.{Denial}
use Rattle.cred_record.specs.declared.refusal.Denial.TheVariants.{Perm, Invalid}
use Rattle.cred_rules.specs.Fix.{clears_permitted, loses_root, leaves_root, enters_root, fixed, with_user_ids}
use Rattle.cred_rules.specs.SetFs.{FILE_CAPS, own_ids, fs_after, fs_effective, set_fs}
use Rattle.cred_rules.specs.SetId.{id_or, is_given, is_other, permitted, after_setuid, after_setreuid, after_setresuid, after_seteuid, after_setgroups}
use Rattle.cred_rules.specs.SetId.{for_users, for_groups, set_id}
use Rattle.cred_model.proofs.Rising.{All-in_order}
use Rattle.cred_reader.specs.Fits.{IsArg, FitsCall, FitsIds}
use Rattle.cred_reader.proofs.Spelled.{Holds}

-- ids, groups, sets and securebits are in range
pub record FitsCred (c : Credential) : Type 0 where
  pub uid : FitsIds c.uid
  pub gid : FitsIds c.gid
  pub groups : All IsId c.groups
  pub perm : IsCaps c.perm
  pub inh : IsCaps c.inh
  pub eff : IsCaps c.eff
  pub bound : IsCaps c.bound
  pub amb : IsCaps c.amb
  pub bits : c.bits ≤ LAST_BITS

pub either : {A : Type 0} (P : A → Type 0) (b : Bool) (x y : A) → P x → P y → P (cond b x y)
either P true x y px py = px
either P false x y px py = py

pub none : IsCaps empty
none = omega arith

pub left_meet : (a b : Caps) → IsCaps a → IsCaps (meet a b)
left_meet a b small = omega (arith, and_le_l a b, small)

pub right_meet : (a b : Caps) → IsCaps b → IsCaps (meet a b)
right_meet a b small = omega (arith, and_le_r a b, small)

pub fewer : (a b : Caps) → IsCaps a → IsCaps (less a b)
fewer a b small = omega (arith, and_le_l a (2 ^ 64 - 1 - b), small)

pub four : (n : ℕ) → IsId n → FitsIds (all_four n)
four n h = (h, h, h, h)

-- ---- id calls

id_fits : (a : Arg) (old : ℕ) → IsArg a → IsId old → IsId (id_or a old)
id_fits Keep old h o = o
id_fits (Set n) old h o = h

if_permitted : (may : Bool) (ids : Ids4) → FitsIds ids → Holds FitsIds (permitted may ids)
if_permitted true ids h = h
if_permitted false ids h = tt

setuid_fits : (able : Bool) (ids : Ids4) (a : Arg) → FitsIds ids → IsArg a → Holds FitsIds (after_setuid able ids a)
unfolding after_setuid
setuid_fits able ids Keep old h = tt
setuid_fits true ids (Set n) old h = four n h
setuid_fits false ids (Set n) old h = if_permitted _ _ (old.0, h, old.2, h)

setreuid_fits : (able : Bool) (ids : Ids4) (a b : Arg) → FitsIds ids → IsArg a → IsArg b → Holds FitsIds (after_setreuid able ids a b)
unfolding after_setreuid
setreuid_fits able ids a b old x y =
    let e = id_fits b ids.effective y old.1 in
    if_permitted _ _ (id_fits a ids.real x old.0, e, either IsId (is_given a || is_other b ids.real) (id_or b ids.effective) ids.saved e old.2, e)

setresuid_fits : (able : Bool) (ids : Ids4) (a b d : Arg) → FitsIds ids → IsArg a → IsArg b → IsArg d → Holds FitsIds (after_setresuid able ids a b d)
unfolding after_setresuid
setresuid_fits able ids a b d old x y z =
    let e = id_fits b ids.effective y old.1 in
    if_permitted _ _ (id_fits a ids.real x old.0, e, id_fits d ids.saved z old.2, e)

seteuid_fits : (able : Bool) (ids : Ids4) (a : Arg) → FitsIds ids → IsArg a → Holds FitsIds (after_seteuid able ids a)
unfolding after_seteuid
seteuid_fits able ids Keep old h = tt
seteuid_fits able ids (Set n) old h = setresuid_fits able ids Keep (Set n) Keep old tt h tt

fixed_fits : (c : Credential) (new : Ids4) → FitsCred c → FitsIds new → FitsCred (fixed c new)
fixed_fits c new old ids =
    let perm = either IsCaps (clears_permitted c new) empty c.perm none old.perm in
    record {
      uid = ids;
      gid = old.gid;
      groups = old.groups;
      perm = perm;
      inh = old.inh;
      eff = either IsCaps (clears_permitted c new || leaves_root c new) empty _ none
          (either IsCaps (enters_root c new) (cond (clears_permitted c new) empty c.perm) c.eff perm old.eff);
      bound = old.bound;
      amb = either IsCaps (loses_root c new) empty c.amb none old.amb;
      bits = old.bits;
    }

with_ids : (c : Credential) (new : Ids4) → FitsCred c → FitsIds new → FitsCred (record c { uid = new })
with_ids c new old ids = record {
  uid = ids;
  gid = old.gid;
  groups = old.groups;
  perm = old.perm;
  inh = old.inh;
  eff = old.eff;
  bound = old.bound;
  amb = old.amb;
  bits = old.bits;
}

user_ids_fit : (c : Credential) (new : Ids4) → FitsCred c → FitsIds new → FitsCred (with_user_ids c new)
unfolding with_user_ids
user_ids_fit c new old ids =
    either FitsCred (is_set c.bits NoSetuidFixup) (record c { uid = new }) (fixed c new) (with_ids c new old ids) (fixed_fits c new old ids)

users : (c : Credential) (r : Result Ids4 Denial) → FitsCred c → Holds FitsIds r → Holds FitsCred (for_users c r)
users c (Ok ids) old h = user_ids_fit c ids old h
users c (Err denial) old h = tt

groups : (c : Credential) (r : Result Ids4 Denial) → FitsCred c → Holds FitsIds r → Holds FitsCred (for_groups c r)
groups c (Ok ids) old h = record {
  uid = old.uid;
  gid = h;
  groups = old.groups;
  perm = old.perm;
  inh = old.inh;
  eff = old.eff;
  bound = old.bound;
  amb = old.amb;
  bits = old.bits;
}
groups c (Err denial) old h = tt

setgroups_fits : (c : Credential) (list : List ℕ) → FitsCred c → All IsId list → Holds FitsCred (after_setgroups c list)
unfolding after_setgroups
setgroups_fits c list old h = by (not (capable c SETGID)) (nat_lt GROUP_LIMIT (length list))
  where
    made : FitsCred (record c { groups = in_order list })
    made = record {
      uid = old.uid;
      gid = old.gid;
      groups = All-in_order IsId list h;
      perm = old.perm;
      inh = old.inh;
      eff = old.eff;
      bound = old.bound;
      amb = old.amb;
      bits = old.bits;
    }

    by : (denied many : Bool)
        → Holds FitsCred (let r : Result Credential Denial = cond denied (Err Perm) (cond many (Err Invalid) (Ok (record c { groups = in_order list }))) in r)
    by true many = tt
    by false true = tt
    by false false = made

pub call_made_fits : (c : Credential) (call : IdCall) → FitsCred c → FitsCall call → Holds FitsCred (set_id c call)
call_made_fits c (call.SetUid a) old h = users c _ old (setuid_fits (capable c SETUID) c.uid a old.uid h)
call_made_fits c (call.SetEuid a) old h = users c _ old (seteuid_fits (capable c SETUID) c.uid a old.uid h)
call_made_fits c (call.SetReuid a b) old h = users c _ old (setreuid_fits (capable c SETUID) c.uid a b old.uid h.0 h.1)
call_made_fits c (call.SetResuid a b d) old h = users c _ old (setresuid_fits (capable c SETUID) c.uid a b d old.uid h.0 h.1 h.2)
call_made_fits c (call.SetGid a) old h = groups c _ old (setuid_fits (capable c SETGID) c.gid a old.gid h)
call_made_fits c (call.SetEgid a) old h = groups c _ old (seteuid_fits (capable c SETGID) c.gid a old.gid h)
call_made_fits c (call.SetRegid a b) old h = groups c _ old (setreuid_fits (capable c SETGID) c.gid a b old.gid h.0 h.1)
call_made_fits c (call.SetResgid a b d) old h = groups c _ old (setresuid_fits (capable c SETGID) c.gid a b d old.gid h.0 h.1 h.2)
call_made_fits c (call.SetGroups list) old h = setgroups_fits c list old h

-- ---- filesystem ids

fs_fits : (able : Bool) (ids : Ids4) (a : Arg) → FitsIds ids → IsArg a → IsId (fs_after able ids a)
fs_fits able ids Keep old h = old.3
fs_fits able ids (Set n) old h = either IsId (able || list_any (λ id. id == n) (own_ids ids)) n ids.fs h old.3

fs_effective_fits : (c : Credential) (old new : ℕ) → FitsCred c → IsCaps (fs_effective c old new)
fs_effective_fits c old new h =
    either IsCaps (is_root c old && not (is_root c new)) (less c.eff FILE_CAPS) _ (fewer c.eff FILE_CAPS h.eff)
    (either IsCaps (not (is_root c old) && is_root c new) (union c.eff (meet FILE_CAPS c.perm)) c.eff
    (IsCaps-union c.eff (meet FILE_CAPS c.perm) h.eff (right_meet FILE_CAPS c.perm h.perm)) h.eff)

pub set_fs_fits : (c : Credential) (kind : Kind) (a : Arg) → FitsCred c → IsArg a → FitsCred (set_fs c kind a)
set_fs_fits c User a old h =
    let n = fs_after (capable c SETUID) c.uid a in
    record {
      uid = (old.uid.0, old.uid.1, old.uid.2, fs_fits (capable c SETUID) c.uid a old.uid h);
      gid = old.gid;
      groups = old.groups;
      perm = old.perm;
      inh = old.inh;
      eff = either IsCaps (is_set c.bits NoSetuidFixup) c.eff (fs_effective c c.uid.fs n) old.eff (fs_effective_fits c c.uid.fs n old);
      bound = old.bound;
      amb = old.amb;
      bits = old.bits;
    }
set_fs_fits c Group a old h = record {
  uid = old.uid;
  gid = (old.gid.0, old.gid.1, old.gid.2, fs_fits (capable c SETGID) c.gid a old.gid h);
  groups = old.groups;
  perm = old.perm;
  inh = old.inh;
  eff = old.eff;
  bound = old.bound;
  amb = old.amb;
  bits = old.bits;
}
