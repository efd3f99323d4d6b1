-- What changes make of a credential, and gain, is in range.
use Rattle.std.proofs.Common.{◌≡◌, ℕ, ◌-◌, ◌≤◌, ◌^◌, ◌==◌, not, nat_le, nat_lt, Bool, true, false, cond, List, Option, Some, None, Result, Ok, Err, refl}
use Rattle.std.proofs.Common.{arith}
use Rattle.std.specs.Option.{IfSome}
use Rattle.std.proofs.lemmas.Bool.Decides.{nat_tests}
use Rattle.std.proofs.lemmas.List.Elements.{All-nil}
use Rattle.std.proofs.lemmas.Nat.{and_le_l, or_lt}
use Rattle.cred_ids.specs.declared.id.Kind.{Kind}
use Rattle.cred_ids.specs.declared.id.Kind.TheVariants.{User, Group}
use Rattle.cred_ids.specs.Id.{IsId}
use Rattle.cred_caps.specs.declared.secure.Flag.TheVariants.{NoSetuidFixup, KeepCaps}
use Rattle.cred_caps.specs.Caps.{Caps, IsCaps, empty, full, union, meet, with}
use Rattle.cred_caps.specs.Numbers.{LAST, SETPCAP}
use Rattle.cred_caps.specs.Secure.{LAST_BITS, flag_place, is_set, is_locked, with_secure_flag}
use Rattle.cred_caps.proofs.CapsLemmas.{IsCaps-union, IsCaps-one}
use Rattle.cred_record.specs.Credential.{Credential, capable, first_credential, is_root}
use Rattle.cred_record.specs.File.{File}
use Rattle.cred_record.specs.declared.adj_call.AdjCall.{AdjCall}
use Rattle.cred_record.specs.declared.adj_call.AdjCall.TheVariants as adj
use Rattle.cred_record.specs.declared.refusal.Denial.{Denial}
use Rattle.cred_record.specs.declared.refusal.Denial.TheVariants.{Perm, Invalid}
use Rattle.cred_rules.specs.Access.{access_credential}
use Rattle.cred_rules.specs.Adjust.{is_no_cap, may_capset, may_raise, may_set_bits, adjust, after_capset, after_bound_drop, after_amb_raise}
use Rattle.cred_rules.specs.Adjust.{after_amb_lower, after_bits, after_keep_caps, after_no_new_privs}
use Rattle.cred_rules.specs.Attribute.{Attribute}
use Rattle.cred_rules.specs.Exec.NoExec.{MayNotExecute, SpellsNothing, GivesTooLittle}
use Rattle.cred_rules.specs.Exec.{Executed, NoExec, FileSets, sets_user, sets_group, sets_of, sets_taken, given_by, is_privileged, amb_after, perm_after}
use Rattle.cred_rules.specs.Exec.{may_execute, attribute_for, gives_all, is_by_root, gained, gained_by_file, after_exec, gains_of, executed_by, exec}
use Rattle.cred_rules.specs.SetFs.{old_fs}
use Rattle.cred_event.specs.declared.answer.Answer.{Answer}
use Rattle.cred_event.specs.declared.event.Change.{Change}
use Rattle.cred_event.specs.declared.event.Change.TheVariants as change
use Rattle.cred_model.specs.Change as model
use Rattle.cred_model.specs.Change.{Made, no_gains, made_by_rule, made_by_exec, by_change}
use Rattle.cred_reader.specs.Fits.{FitsAdjust, FitsAnswer, FitsChange, FitsGains}
use Rattle.cred_reader.proofs.Spelled.{Holds}
use Rattle.cred_fits.specs.Content.{FitsFile}
use Rattle.cred_fits.proofs.CredFits.{FitsCred, either, none, left_meet, right_meet, fewer, four, set_fs_fits}
use Rattle.cred_fits.proofs.RuleRows.{Changes, of_bits}

all : IsCaps full
all = omega arith

pub first_fits : (user group ns root : ℕ) → IsId user → IsId group → FitsCred (first_credential user group ns root)
first_fits user group ns root u g = record {
  uid = four user u;
  gid = four group g;
  groups = All-nil IsId;
  perm = either IsCaps (user == root) full empty all none;
  inh = none;
  eff = either IsCaps (user == root) full empty all none;
  bound = all;
  amb = none;
  bits = omega arith;
}

-- ---- changes of sets and securebits

-- the credential with these sets and securebits
adjusted : (c new : Credential) → FitsCred c → new.uid ≡ c.uid → new.gid ≡ c.gid → new.groups ≡ c.groups
    → IsCaps new.perm → IsCaps new.inh → IsCaps new.eff → IsCaps new.bound → IsCaps new.amb → new.bits ≤ LAST_BITS → FitsCred new
adjusted c new old u g groups perm inh eff bound amb bits = record {
  uid = rw u old.uid;
  gid = rw g old.gid;
  groups = rw groups old.groups;
  perm = perm;
  inh = inh;
  eff = eff;
  bound = bound;
  amb = amb;
  bits = bits;
}

-- a last test
tested : (denied : Bool) (denial : Denial) (r : Result Credential Denial) → Holds FitsCred r → Holds FitsCred (cond denied (Err denial) r)
tested true denial r h = tt
tested false denial r h = h

is_cap : (n : ℕ) → is_no_cap n ≡ false → n ≤ LAST
is_cap n h = grind (arith, nat_tests)

flag_fits : (bits : ℕ) (on : Bool) → bits ≤ LAST_BITS → with_secure_flag bits KeepCaps on ≤ LAST_BITS
flag_fits bits true small = let fits = or_lt 8 bits (2 ^ flag_place KeepCaps) (omega (arith, small)) (omega arith) in omega (arith, fits)
flag_fits bits false small = omega (arith, and_le_l bits (LAST_BITS - 2 ^ flag_place KeepCaps), small)

capset_fits : (c : Credential) (perm inh eff : Caps) → FitsCred c → IsCaps perm → IsCaps inh → IsCaps eff → Holds FitsCred (after_capset c perm inh eff)
unfolding after_capset
capset_fits c perm inh eff old p i e =
    tested (not (may_capset c perm inh eff)) Perm _
    (adjusted c _ old refl refl refl p i e old.bound (right_meet (meet c.amb perm) inh i) old.bits)

bound_drop_fits : (c : Credential) (n : ℕ) → FitsCred c → Holds FitsCred (after_bound_drop c n)
unfolding after_bound_drop
bound_drop_fits c n old =
    tested (not (capable c SETPCAP)) Perm _ (tested (is_no_cap n) Invalid _
    (adjusted c _ old refl refl refl old.perm old.inh old.eff (fewer c.bound (2 ^ n) old.bound) old.amb old.bits))

amb_raise_fits : (c : Credential) (n : ℕ) → FitsCred c → Holds FitsCred (after_amb_raise c n)
unfolding after_amb_raise
amb_raise_fits c n old = by (is_no_cap n) refl
  where
    by : (no : Bool) → is_no_cap n ≡ no
        → Holds FitsCred
        (let r : Result Credential Denial = cond no (Err Invalid) (cond (not (may_raise c n)) (Err Perm) (Ok (record c { amb = with c.amb n }))) in r)
    by true is = tt
    by false is =
        tested (not (may_raise c n)) Perm _
        (adjusted c _ old refl refl refl old.perm old.inh old.eff old.bound (IsCaps-union c.amb (2 ^ n) old.amb (IsCaps-one n (is_cap n is))) old.bits)

amb_lower_fits : (c : Credential) (n : ℕ) → FitsCred c → Holds FitsCred (after_amb_lower c n)
unfolding after_amb_lower
amb_lower_fits c n old =
    tested (is_no_cap n) Invalid _ (adjusted c _ old refl refl refl old.perm old.inh old.eff old.bound (fewer c.amb (2 ^ n) old.amb) old.bits)

few_bits : (n : ℕ) → nat_le n LAST_BITS ≡ true → n ≤ LAST_BITS
few_bits n h = grind (arith, nat_tests)

bits_fit : (c : Credential) (n : ℕ) → FitsCred c → Holds FitsCred (after_bits c n)
unfolding after_bits
bits_fit c n old = by (may_set_bits c n) refl (of_bits c n)
  where
    by : (may : Bool) → may_set_bits c n ≡ may
        → Changes (nat_le n LAST_BITS) true false (let r : Result Credential Denial = cond (not may) (Err Perm) (Ok (record c { bits = n })) in r)
        → Holds FitsCred (let r : Result Credential Denial = cond (not may) (Err Perm) (Ok (record c { bits = n })) in r)
    by true is within = adjusted c _ old refl refl refl old.perm old.inh old.eff old.bound old.amb (few_bits n within)
    by false is within = tt

keep_caps_fits : (c : Credential) (n : ℕ) → FitsCred c → Holds FitsCred (after_keep_caps c n)
unfolding after_keep_caps
keep_caps_fits c n old =
    tested (nat_lt 1 n) Invalid _ (tested (is_locked c.bits KeepCaps) Perm _
    (adjusted c _ old refl refl refl old.perm old.inh old.eff old.bound old.amb (flag_fits c.bits (n == 1) old.bits)))

no_new_privs_fits : (c : Credential) (n : ℕ) → FitsCred c → Holds FitsCred (after_no_new_privs c n)
unfolding after_no_new_privs
no_new_privs_fits c n old =
    tested (not (n == 1)) Invalid _ (adjusted c _ old refl refl refl old.perm old.inh old.eff old.bound old.amb old.bits)

adjust_fits : (c : Credential) (call : AdjCall) → FitsCred c → FitsAdjust call → Holds FitsCred (adjust c call)
adjust_fits c (adj.Capset perm inh eff) old h = capset_fits c perm inh eff old h.0 h.1 h.2
adjust_fits c (adj.BoundDrop n) old h = bound_drop_fits c n old
adjust_fits c (adj.AmbRaise n) old h = amb_raise_fits c n old
adjust_fits c (adj.AmbLower n) old h = amb_lower_fits c n old
adjust_fits c adj.AmbClear old h = adjusted c _ old refl refl refl old.perm old.inh old.eff old.bound none old.bits
adjust_fits c (adj.Bits n) old h = bits_fit c n old
adjust_fits c (adj.KeepCaps n) old h = keep_caps_fits c n old
adjust_fits c (adj.NoNewPrivs n) old h = no_new_privs_fits c n old

-- ---- execve(2)

given_fits : (c : Credential) (s : FileSets) → FitsCred c → IsCaps (given_by c s)
given_fits c s old = IsCaps-union (meet c.inh s.inh) (meet s.perm c.bound) (left_meet c.inh s.inh old.inh) (right_meet s.perm c.bound old.bound)

amb_fits : (c : Credential) (f : File) (a : Option Attribute) → FitsCred c → IsCaps (amb_after c f a)
amb_fits c f a old = either IsCaps (is_privileged c f a) empty c.amb none old.amb

perm_fits : (c : Credential) (f : File) (a : Option Attribute) → FitsCred c → IsCaps (perm_after c f a)
perm_fits c f a old =
    let given = given_by c (sets_taken c f a) in
    let s = union given (amb_after c f a) in
    let small : IsCaps s = IsCaps-union given (amb_after c f a) (given_fits c (sets_taken c f a) old) (amb_fits c f a old) in
    either IsCaps c.nnp (meet s c.perm) s (left_meet s c.perm small) small

exec_cred_fits : (c : Credential) (f : File) (a : Option Attribute) → FitsCred c → FitsFile f → FitsCred (after_exec c f a)
unfolding after_exec
exec_cred_fits c f a old file =
    let user = either IsId (sets_user c f) f.owner c.uid.effective file.owner old.uid.1 in
    let group = either IsId (sets_group c f) f.group c.gid.effective file.group old.gid.1 in
    record {
      uid = (old.uid.0, user, user, user);
      gid = (old.gid.0, group, group, group);
      groups = old.groups;
      perm = perm_fits c f a old;
      inh = old.inh;
      eff = either IsCaps (sets_taken c f a).effective (perm_after c f a) (amb_after c f a) (perm_fits c f a old) (amb_fits c f a old);
      bound = old.bound;
      amb = amb_fits c f a old;
      bits = flag_fits c.bits false old.bits;
    }

gains_fit : (c : Credential) (f : File) (a : Option Attribute) → FitsCred c → FitsGains (gains_of c f a)
unfolding gains_of
gains_fit c f a old =
    let g : IsCaps (gained c f a) = fewer (perm_after c f a) c.perm (perm_fits c f a old) in
    let by_file : IsCaps (gained_by_file c f a) = left_meet (gained c f a) (meet (sets_of a).perm c.bound) g in
    either FitsGains (is_by_root c f a) _ _ (none, none, g) (by_file, fewer (gained c f a) (gained_by_file c f a) g, none)

abbrev FitsExecuted : Executed → Type 0
FitsExecuted e = FitsCred e.cred × FitsGains e.gains

exec_fits : (c : Credential) (f : File) (chain : List ℕ) → FitsCred c → FitsFile f → Holds FitsExecuted (exec c f chain)
unfolding exec
exec_fits c f chain old file = by (may_execute c f) (attribute_for c f chain)
  where
    made : (a : Option Attribute) (b : Bool)
        → Holds FitsExecuted
        (let r : Result Executed NoExec = cond b (Ok (record { cred = after_exec c f a; gains = gains_of c f a })) (Err GivesTooLittle) in r)
    made a true = (exec_cred_fits c f a old file, gains_fit c f a old)
    made a false = tt

    by : (b : Bool) (r : Result (Option Attribute) NoExec)
        → Holds FitsExecuted (let e : Result Executed NoExec = cond b (executed_by c f r) (Err MayNotExecute) in e)
    by false r = tt
    by true (Ok a) = made a (gives_all c a)
    by true (Err e) = tt

-- ---- changes

access_fits : (c : Credential) → FitsCred c → FitsCred (access_credential c)
unfolding access_credential
access_fits c old = record {
  uid = (old.uid.0, old.uid.1, old.uid.2, old.uid.0);
  gid = (old.gid.0, old.gid.1, old.gid.2, old.gid.0);
  groups = old.groups;
  perm = old.perm;
  inh = old.inh;
  eff = either IsCaps (is_set c.bits NoSetuidFixup) c.eff _ old.eff (either IsCaps (is_root c c.uid.real) c.perm empty old.perm none);
  bound = old.bound;
  amb = old.amb;
  bits = old.bits;
}

-- what a change made, or the answer by which it is refused
abbrev pub FitsMade : Result Made Answer → Type 0
FitsMade (Ok made) = FitsAnswer made.answer × FitsCred made.cred × FitsGains made.gains
FitsMade (Err refused) = FitsAnswer refused

nothing_gained : FitsGains no_gains
nothing_gained = (none, none, none)

by_rule_fits : (r : Result Credential Denial) → Holds FitsCred r → FitsMade (made_by_rule r)
by_rule_fits (Ok c) h = (tt, h, nothing_gained)
by_rule_fits (Err Perm) h = tt
by_rule_fits (Err Invalid) h = tt

by_exec_fits : (r : Result Executed NoExec) → Holds FitsExecuted r → FitsMade (made_by_exec r)
by_exec_fits (Ok e) h = (tt, h.0, h.1)
by_exec_fits (Err MayNotExecute) h = tt
by_exec_fits (Err SpellsNothing) h = tt
by_exec_fits (Err GivesTooLittle) h = tt

executed_fits : (file : Option File) (chain : List ℕ) (c : Credential) → FitsCred c → IfSome file FitsFile → FitsMade (model.made_by_execve file chain c)
executed_fits None chain c old of = tt
executed_fits (Some file) chain c old of = by_exec_fits (exec c file chain) (exec_fits c file chain old of)

old_fits : (c : Credential) (kind : Kind) → FitsCred c → IsId (old_fs c kind)
old_fits c User old = old.uid.3
old_fits c Group old = old.gid.3

pub change_made_fits : (file : Option File) (chain : List ℕ) (c : Credential) (to : Change) → FitsCred c → IfSome file FitsFile → FitsChange to
    → FitsMade (by_change file chain c to)
change_made_fits file chain c (change.SetFs kind id) old of h = (old_fits c kind old, set_fs_fits c kind id old h, nothing_gained)
change_made_fits file chain c (change.Adjust call) old of h = by_rule_fits (adjust c call) (adjust_fits c call old h)
change_made_fits file chain c (change.Exec place) old of h = executed_fits file chain c old of
change_made_fits file chain c change.Access old of h = (tt, access_fits c old, nothing_gained)
