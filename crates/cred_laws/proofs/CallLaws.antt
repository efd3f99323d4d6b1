-- The laws of the calls on a credential: first what each call gives, then each law by cases on it.
use Rattle.std.proofs.Common.{◌≡◌, ℕ, ◌==◌, ◌&&◌, ◌||◌, not, nat_lt, Bool, true, false, List, length, Option, Some, None, Result, Ok, Err, if◌then◌else◌, refl}
use Rattle.std.proofs.Common.{sym, ap, subst, ◌∙◌, arith}
use Rattle.std.specs.List.{list_all}
use Rattle.std.proofs.lemmas.Bool.{eqb-true}
use Rattle.cred_ids.specs.declared.arg.Arg.{Arg}
use Rattle.cred_ids.specs.declared.id.Ids4.{Ids4}
use Rattle.cred_ids.specs.declared.id.Kind.{Kind}
use Rattle.cred_ids.specs.declared.id.Kind.TheVariants.{User, Group}
use Rattle.cred_ids.specs.Ordered.{in_order}
use Rattle.cred_ids.specs.Limits.{GROUP_LIMIT}
use Rattle.cred_caps.specs.declared.secure.Flag.{Flag}
use Rattle.cred_caps.specs.declared.secure.Flag.TheVariants.{NoRoot, NoSetuidFixup, KeepCaps, NoAmbientRaise}
use Rattle.cred_caps.specs.Caps.{Caps, empty, meet, less, IsWithin}
use Rattle.cred_caps.specs.Numbers.{SETGID, SETPCAP}
use Rattle.cred_caps.specs.Flags.{SetsFlag}
use Rattle.cred_caps.specs.Secure.{is_set, is_locked, with_secure_flag}
use Rattle.cred_caps.proofs.FlagLaws.{sets_flag}
use Rattle.cred_caps.proofs.SetLaws.{within_itself, meet-left, less-within}
use Rattle.cred_record.specs.declared.adj_call.AdjCall.{AdjCall}
use Rattle.cred_record.specs.declared.adj_call.AdjCall.TheVariants as adj
use Rattle.cred_record.specs.declared.id_call.IdCall.{IdCall}
use Rattle.cred_record.specs.declared.id_call.IdCall.TheVariants.{SetUid, SetEuid, SetReuid, SetResuid, SetGid, SetEgid, SetRegid, SetResgid, SetGroups}
use Rattle.cred_record.specs.declared.refusal.Denial.{Denial}
use Rattle.cred_record.specs.declared.refusal.Denial.TheVariants.{Perm, Invalid}
use Rattle.cred_record.specs.Credential.{Credential, capable}
use Rattle.cred_record.specs.File.{File}
use Rattle.cred_rules.specs.Access.{access_credential}
use Rattle.cred_rules.specs.Adjust.{is_no_cap, may_capset, may_raise, may_set_bits, after_capset, after_bound_drop, after_amb_raise, after_amb_lower, FLAGS}
use Rattle.cred_rules.specs.Adjust.{keeps_lock, after_bits, after_keep_caps, after_no_new_privs, adjust}
use Rattle.cred_rules.specs.Exec.{Executed, NoExec, exec}
use Rattle.cred_rules.specs.Fix.{fixed, with_user_ids}
use Rattle.cred_rules.specs.SetFs.{set_fs, old_fs}
use Rattle.cred_rules.specs.SetId.{after_setgroups, for_users, for_groups, set_id}
use Rattle.cred_setid.proofs.SetIdLaws as setid
use Rattle.cred_exec.proofs.ExecLaws.{gains_are_what_is_gained, inheritable_and_bounding_stay, other_securebits_stay, real_ids_and_groups_stay}
use Rattle.cred_event.specs.declared.answer.Answer.TheVariants as answer
use Rattle.cred_event.specs.declared.event.Change.TheVariants.{SetFs, Adjust, Exec, Access}
use Rattle.cred_model.specs.Change.{Made, made, made_by_rule, made_by_exec}
use Rattle.cred_laws.specs.Calls.{Call, SetIds, Changes, after_call, added, clears, KeepsLocked, LocksStaySet, BoundingNeverGrows, PermittedGrowsByExecve}
use Rattle.cred_laws.specs.Calls.{NoNewPrivsStays}

-- ---- the calls that set ids leave all that the laws speak of but the permitted set

-- the securebits, the bounding set and no_new_privs are as they were
record Leaves (c d : Credential) : Type 0 where
  bits : d.bits ≡ c.bits
  bound : d.bound ≡ c.bound
  nnp : d.nnp ≡ c.nnp

with_user_ids-leaves : (c : Credential) (ids : Ids4) → Leaves c (with_user_ids c ids)
unfolding with_user_ids
with_user_ids-leaves c ids =
    elim (is_set c.bits NoSetuidFixup) as (λ b. Leaves c (if b then record c { uid = ids } else fixed c ids)) [
      | true ↦ record { bits = refl; bound = refl; nnp = refl }
      | false ↦ record { bits = refl; bound = refl; nnp = refl }
    ]

for_users-leaves : (c d : Credential) (r : Result Ids4 Denial) → for_users c r ≡ Ok d → Leaves c d
for_users-leaves c d (Ok ids) same = let is : with_user_ids c ids ≡ d = cc in subst (Leaves c) is (with_user_ids-leaves c ids)
for_users-leaves c d (Err e) same = cc

for_groups-leaves : (c d : Credential) (r : Result Ids4 Denial) → for_groups c r ≡ Ok d → Leaves c d
for_groups-leaves c d (Ok ids) same =
    let is : record c { gid = ids } ≡ d = cc in subst (Leaves c) is (record { bits = refl; bound = refl; nnp = refl })
for_groups-leaves c d (Err e) same = cc

-- ---- what a call gives that one test, or two, may refuse

pub one-test : (P : Credential → Type 0) (refused : Bool) (e : Denial) (new d : Credential) → (refused ≡ false → P new)
    → (if refused then Err e else Ok new) ≡ Ok d → P d
one-test P true e new d holds same = cc
one-test P false e new d holds same = let is : new ≡ d = cc in subst P is (holds refl)

pub two-tests : (P : Credential → Type 0) (first second : Bool) (e e' : Denial) (new d : Credential) → (second ≡ false → P new)
    → (if first then Err e else if second then Err e' else Ok new) ≡ Ok d → P d
two-tests P true second e e' new d holds same = cc
two-tests P false second e e' new d holds same = one-test P second e' new d holds same

not-false : (b : Bool) → not b ≡ false → b ≡ true
not-false true is = refl
not-false false is = cc

setgroups-leaves : (c d : Credential) (list : List ℕ) → after_setgroups c list ≡ Ok d → Leaves c d
unfolding after_setgroups
setgroups-leaves c d list same =
    two-tests (Leaves c) (not (capable c SETGID)) (nat_lt GROUP_LIMIT (length list)) Perm Invalid (record c { groups = in_order list }) d
    (λ _. record { bits = refl; bound = refl; nnp = refl }) same

set_id-leaves : (c d : Credential) (call : IdCall) → set_id c call ≡ Ok d → Leaves c d
set_id-leaves c d (SetUid a) same = for_users-leaves c d _ same
set_id-leaves c d (SetEuid a) same = for_users-leaves c d _ same
set_id-leaves c d (SetReuid a b) same = for_users-leaves c d _ same
set_id-leaves c d (SetResuid a b s) same = for_users-leaves c d _ same
set_id-leaves c d (SetGid a) same = for_groups-leaves c d _ same
set_id-leaves c d (SetEgid a) same = for_groups-leaves c d _ same
set_id-leaves c d (SetRegid a b) same = for_groups-leaves c d _ same
set_id-leaves c d (SetResgid a b s) same = for_groups-leaves c d _ same
set_id-leaves c d (SetGroups list) same = setgroups-leaves c d list same

set_fs-leaves : (c : Credential) (kind : Kind) (a : Arg) → Leaves c (set_fs c kind a)
set_fs-leaves c User a = record { bits = refl; bound = refl; nnp = refl }
set_fs-leaves c Group a = record { bits = refl; bound = refl; nnp = refl }

set_fs-perm : (c : Credential) (kind : Kind) (a : Arg) → IsWithin (set_fs c kind a).perm c.perm
set_fs-perm c User a = within_itself c.perm
set_fs-perm c Group a = within_itself c.perm

-- ---- what a call on the sets and the bits gives

-- nothing that is locked changes
record StaysLocked (old new : ℕ) : Type 0 where
  lock : (f : Flag) → is_locked old f ≡ true → is_locked new f ≡ true
  flag : (f : Flag) → is_locked old f ≡ true → is_set new f ≡ is_set old f

-- all that the laws speak of, from one credential to the next
record Follows (c d : Credential) : Type 0 where
  locked : StaysLocked c.bits d.bits
  bound : IsWithin d.bound c.bound
  perm : IsWithin d.perm c.perm
  nnp : c.nnp ≡ true → d.nnp ≡ true

StaysLocked-itself : (bits : ℕ) → StaysLocked bits bits
StaysLocked-itself bits = record { lock = λ f set. set; flag = λ f set. refl }

Leaves-follows : (c d : Credential) → Leaves c d → IsWithin d.perm c.perm → Follows c d
Leaves-follows c d leaves perm = record {
  locked = subst (StaysLocked c.bits) (sym leaves.bits) (StaysLocked-itself c.bits);
  bound = subst (λ s. IsWithin s c.bound) (sym leaves.bound) (within_itself c.bound);
  perm = perm;
  nnp = λ set. leaves.nnp ∙ set;
}

and-left : (a b : Bool) → (a && b) ≡ true → a ≡ true
and-left true b both = refl
and-left false b both = cc

and-right : (a b : Bool) → (a && b) ≡ true → b ≡ true
and-right true b both = both
and-right false b both = cc

may_capset-perm : (c : Credential) (perm inh eff : Caps) → may_capset c perm inh eff ≡ true → IsWithin perm c.perm
may_capset-perm c perm inh eff may =
    eqb-true (meet perm c.perm) perm (and-right _ _ (and-left _ _ may))

capset-follows : (c d : Credential) (perm inh eff : Caps) → after_capset c perm inh eff ≡ Ok d → Follows c d
unfolding after_capset
capset-follows c d perm inh eff same =
    one-test (Follows c) (not (may_capset c perm inh eff)) Perm _ d
    (λ may. Leaves-follows c _ (record { bits = refl; bound = refl; nnp = refl }) (may_capset-perm c perm inh eff (not-false _ may)))
    same

bound_drop-follows : (c d : Credential) (n : ℕ) → after_bound_drop c n ≡ Ok d → Follows c d
unfolding after_bound_drop
bound_drop-follows c d n same =
    two-tests (Follows c) (not (capable c SETPCAP)) (is_no_cap n) Perm Invalid _ d
    (λ _. record {
      locked = StaysLocked-itself c.bits;
      bound = meet-left c.bound _;
      perm = within_itself c.perm;
      nnp = λ set. set;
    })
    same

-- every member of a credential but the ambient set is kept where the ambient set alone changes
amb-follows : (c : Credential) (amb : Caps) → Follows c (record c { amb = amb })
amb-follows c amb = Leaves-follows c _ (record { bits = refl; bound = refl; nnp = refl }) (within_itself c.perm)

amb_lower-follows : (c d : Credential) (n : ℕ) → after_amb_lower c n ≡ Ok d → Follows c d
unfolding after_amb_lower
amb_lower-follows c d n same = one-test (Follows c) (is_no_cap n) Invalid _ d (λ _. amb-follows c _) same

amb_raise-follows : (c d : Credential) (n : ℕ) → after_amb_raise c n ≡ Ok d → Follows c d
unfolding after_amb_raise
amb_raise-follows c d n same =
    two-tests (Follows c) (is_no_cap n) (not (may_raise c n)) Invalid Perm _ d (λ _. amb-follows c _) same

-- each flag is one of the four
all-flags : (t : Flag → Bool) (f : Flag) → list_all t FLAGS ≡ true → t f ≡ true
all-flags t NoRoot each = and-left _ _ each
all-flags t NoSetuidFixup each = and-left _ _ (and-right _ _ each)
all-flags t KeepCaps each = and-left _ _ (and-right _ _ (and-right _ _ each))
all-flags t NoAmbientRaise each =
    and-left (t NoAmbientRaise) true (and-right (t KeepCaps) _ (and-right (t NoSetuidFixup) _ (and-right (t NoRoot) _ each)))

-- what the test of a lock says where the lock is set
of-lock : (locked : Bool) (b : Bool) → (not locked || b) ≡ true → locked ≡ true → b ≡ true
of-lock true b test is = test
of-lock false b test is = cc

StaysLocked-from_test : (old new : ℕ) → ((f : Flag) → keeps_lock old new f ≡ true) → StaysLocked old new
StaysLocked-from_test old new keeps = record {
  lock = λ f set. and-left _ _ (of-lock _ _ (keeps f) set);
  flag = λ f set. ap (λ d. d == 1) (sym (eqb-true _ _ (and-right _ _ (of-lock _ _ (keeps f) set))));
}

-- where the securebits alone change, what is locked has to stay
bits-follow : (c : Credential) (new : ℕ) → StaysLocked c.bits new → Follows c (record c { bits = new })
bits-follow c new locked = record {
  locked = locked;
  bound = within_itself c.bound;
  perm = within_itself c.perm;
  nnp = λ set. set;
}

bits-follows : (c d : Credential) (n : ℕ) → after_bits c n ≡ Ok d → Follows c d
unfolding after_bits
bits-follows c d n same =
    one-test (Follows c) (not (may_set_bits c n)) Perm _ d
    (λ may. bits-follow c n (StaysLocked-from_test c.bits n (λ f. all-flags (keeps_lock c.bits n) f (and-right _ _ (not-false (may_set_bits c n) may)))))
    same

-- KEEP_CAPS may change where it is not locked, and no other flag does
keep_caps-flags : (bits : ℕ) (on : Bool) (f : Flag) → is_locked bits KeepCaps ≡ false → is_locked bits f ≡ true
    → is_set (with_secure_flag bits KeepCaps on) f ≡ is_set bits f
keep_caps-flags bits on NoRoot free set = ap (λ d. d == 1) ((sets_flag bits KeepCaps on).others 0 (omega arith) (λ same. omega (arith, same)))
keep_caps-flags bits on NoSetuidFixup free set = ap (λ d. d == 1) ((sets_flag bits KeepCaps on).others 2 (omega arith) (λ same. omega (arith, same)))
keep_caps-flags bits on KeepCaps free set = cc
keep_caps-flags bits on NoAmbientRaise free set = ap (λ d. d == 1) ((sets_flag bits KeepCaps on).others 6 (omega arith) (λ same. omega (arith, same)))

keep_caps-follows : (c d : Credential) (n : ℕ) → after_keep_caps c n ≡ Ok d → Follows c d
unfolding after_keep_caps
keep_caps-follows c d n same =
    two-tests (Follows c) (nat_lt 1 n) (is_locked c.bits KeepCaps) Invalid Perm _ d
    (λ free. bits-follow c _ (record {
      lock = λ f set. (sets_flag c.bits KeepCaps (n == 1)).locks f ∙ set;
      flag = λ f set. keep_caps-flags c.bits (n == 1) f free set;
    }))
    same

no_new_privs-follows : (c d : Credential) (n : ℕ) → after_no_new_privs c n ≡ Ok d → Follows c d
unfolding after_no_new_privs
no_new_privs-follows c d n same =
    one-test (Follows c) (not (n == 1)) Invalid (record c { nnp = true }) d
    (λ _. record {
      locked = StaysLocked-itself c.bits;
      bound = within_itself c.bound;
      perm = within_itself c.perm;
      nnp = λ set. refl;
    })
    same

adjust-follows : (c d : Credential) (call : AdjCall) → adjust c call ≡ Ok d → Follows c d
adjust-follows c d (adj.Capset perm inh eff) same = capset-follows c d perm inh eff same
adjust-follows c d (adj.BoundDrop n) same = bound_drop-follows c d n same
adjust-follows c d (adj.AmbRaise n) same = amb_raise-follows c d n same
adjust-follows c d (adj.AmbLower n) same = amb_lower-follows c d n same
adjust-follows c d adj.AmbClear same = let is : record c { amb = empty } ≡ d = cc in subst (Follows c) is (amb-follows c empty)
adjust-follows c d (adj.Bits n) same = bits-follows c d n same
adjust-follows c d (adj.KeepCaps n) same = keep_caps-follows c d n same
adjust-follows c d (adj.NoNewPrivs n) same = no_new_privs-follows c d n same

-- ---- what any call gives

-- all that the laws speak of, over one call
record Keeps (c : Credential) (call : Call) (next : Made) : Type 0 where
  locked : KeepsLocked call c.bits next.cred.bits
  bound : IsWithin next.cred.bound c.bound
  perm : less next.cred.perm c.perm ≡ added call next
  nnp : c.nnp ≡ true → next.cred.nnp ≡ true

adds_nothing : (c : Credential) (call : Call) (next : Made) → added call next ≡ empty → Follows c next.cred → Keeps c call next
adds_nothing c call next none follows = record {
  locked = record { lock = follows.locked.lock; flag = λ f set stays. follows.locked.flag f set };
  bound = follows.bound;
  perm = less-within next.cred.perm c.perm follows.perm ∙ sym none;
  nnp = follows.nnp;
}

-- a fact of what a rule gives holds of what is made by the rule
pub by_rule : (P : Credential → Type 0) (next : Made) (r : Result Credential Denial) → ((d : Credential) → r ≡ Ok d → P d) → made_by_rule r ≡ Ok next
    → P next.cred
by_rule P next (Ok d) holds is = let same : made answer.Done d ≡ next = cc in subst (λ (m : Made). P m.cred) same (holds d refl)
by_rule P next (Err e) holds is = cc

set_id-follows : (c d : Credential) (call : IdCall) → set_id c call ≡ Ok d → Follows c d
set_id-follows c d call same = Leaves-follows c d (set_id-leaves c d call same) (setid.permitted_never_grows c d call same)

set_fs-follows : (c : Credential) (kind : Kind) (a : Arg) → Follows c (set_fs c kind a)
set_fs-follows c kind a = Leaves-follows c _ (set_fs-leaves c kind a) (set_fs-perm c kind a)

access-follows : (c : Credential) → Follows c (access_credential c)
unfolding access_credential
access-follows c = Leaves-follows c _ (record { bits = refl; bound = refl; nnp = refl }) (within_itself c.perm)

-- execve clears KEEP_CAPS, and leaves each other flag and every lock
exec-flags : (old new : ℕ) (call : Call) (f : Flag) → SetsFlag old new KeepCaps false → clears call KeepCaps ≡ true
    → clears call f ≡ false → is_set new f ≡ is_set old f
exec-flags old new call NoRoot sets clear stays = ap (λ d. d == 1) (sets.others 0 (omega arith) (λ same. omega (arith, same)))
exec-flags old new call NoSetuidFixup sets clear stays = ap (λ d. d == 1) (sets.others 2 (omega arith) (λ same. omega (arith, same)))
exec-flags old new call KeepCaps sets clear stays = let both = sym clear ∙ stays in cc
exec-flags old new call NoAmbientRaise sets clear stays = ap (λ d. d == 1) (sets.others 6 (omega arith) (λ same. omega (arith, same)))

by_exec : (c : Credential) (next : Made) (found : Option File) (file : File) (chain : List ℕ) (place : ℕ) (r : Result Executed NoExec)
    → exec c file chain ≡ r → made_by_exec r ≡ Ok next → Keeps c (Changes found chain (Exec place)) next
by_exec c next found file chain place (Err why) is made = cc
by_exec c next found file chain place (Ok e) is made =
    let call = Changes found chain (Exec place) in
    let same : record { answer = answer.Done; cred = e.cred; gains = e.gains } ≡ next = cc in
    let sets = other_securebits_stay c file chain e is in
    subst (Keeps c call) same (record {
      locked = record {
        lock = λ f set. sets.locks f ∙ set;
        flag = λ f set stays. exec-flags c.bits e.cred.bits call f sets refl stays;
      };
      bound = subst (λ s. IsWithin s c.bound) (sym (inheritable_and_bounding_stay c file chain e is).bounding) (within_itself c.bound);
      perm = sym (gains_are_what_is_gained c file chain e is).all;
      nnp = λ set. (real_ids_and_groups_stay c file chain e is).no_new_privs ∙ set;
    })

keeps : (c : Credential) (next : Made) (call : Call) → after_call c call ≡ Ok next → Keeps c call next
keeps c next (SetIds call) is =
    adds_nothing c (SetIds call) next refl (by_rule (Follows c) next (set_id c call) (λ d. set_id-follows c d call) is)
keeps c next (Changes file chain (SetFs kind a)) is =
    let same : made (answer.Was (old_fs c kind)) (set_fs c kind a) ≡ next = cc in
    adds_nothing c (Changes file chain (SetFs kind a)) next refl (subst (λ (m : Made). Follows c m.cred) same (set_fs-follows c kind a))
keeps c next (Changes file chain (Adjust call)) is =
    adds_nothing c (Changes file chain (Adjust call)) next refl (by_rule (Follows c) next (adjust c call) (λ d. adjust-follows c d call) is)
keeps c next (Changes (Some file) chain (Exec place)) is = by_exec c next (Some file) file chain place (exec c file chain) refl is
keeps c next (Changes None chain (Exec place)) is = cc
keeps c next (Changes file chain Access) is =
    let same : made answer.Done (access_credential c) ≡ next = cc in
    adds_nothing c (Changes file chain Access) next refl (subst (λ (m : Made). Follows c m.cred) same (access-follows c))

-- ---- the laws

pub locks_stay_set : LocksStaySet
locks_stay_set c next call is = (keeps c next call is).locked

pub bounding_never_grows : BoundingNeverGrows
bounding_never_grows c next is = (keeps c next is.call is.made).bound

pub permitted_grows_by_execve : PermittedGrowsByExecve
permitted_grows_by_execve c next call is = (keeps c next call is).perm

pub no_new_privs_stays : NoNewPrivsStays
no_new_privs_stays c next is = (keeps c next is.call is.made).nnp
