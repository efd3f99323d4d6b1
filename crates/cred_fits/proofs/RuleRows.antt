-- What the rules of calls answer, by the calls' arguments.
use Rattle.std.proofs.Common.{◌≡◌, ℕ, ◌==◌, ◌&&◌, ◌||◌, not, nat_le, nat_lt, Bool, true, false, cond, List, length, Result, Ok, Err, refl, ap, ◌∙◌, arith}
use Rattle.std.specs.List.{list_all}
use Rattle.std.proofs.lemmas.Bool.Decides.{nat_tests}
use Rattle.std.proofs.lemmas.Nat.{and_le_l}
use Rattle.cred_ids.specs.declared.id.Ids4.{Ids4}
use Rattle.cred_ids.specs.declared.arg.Arg.{Arg}
use Rattle.cred_ids.specs.declared.arg.Arg.TheVariants.{Keep, Set}
use Rattle.cred_ids.specs.Limits.{GROUP_LIMIT}
use Rattle.cred_caps.specs.declared.secure.Flag.TheVariants.{KeepCaps}
use Rattle.cred_caps.specs.Caps.{Caps, meet, union, is_within}
use Rattle.cred_caps.specs.Numbers.{SETGID, SETPCAP, SETUID}
use Rattle.cred_caps.specs.Secure.{is_locked}
use Rattle.cred_record.specs.Credential.{Credential, capable}
use Rattle.cred_record.specs.declared.adj_call.AdjCall.{AdjCall}
use Rattle.cred_record.specs.declared.adj_call.AdjCall.TheVariants as adj
use Rattle.cred_record.specs.declared.id_call.IdCall.{IdCall}
use Rattle.cred_record.specs.declared.id_call.IdCall.TheVariants as call
use Rattle.cred_record.specs.declared.refusal.Denial.{Denial}
use Rattle.cred_record.specs.declared.refusal.Denial.TheVariants.{Perm, Invalid}
use Rattle.cred_caps.specs.Secure.{LAST_BITS}
use Rattle.cred_rules.specs.Adjust.{FLAGS, is_no_cap, may_capset, may_raise, keeps_lock, may_set_bits, adjust, after_capset, after_bound_drop}
use Rattle.cred_rules.specs.Adjust.{after_amb_raise, after_amb_lower, after_bits, after_keep_caps, after_no_new_privs}
use Rattle.cred_rules.specs.SetId.{is_given, permitted, after_setuid, after_setreuid, after_setresuid, after_seteuid, after_setgroups, for_users, for_groups}
use Rattle.cred_rules.specs.SetId.{set_id}
use Rattle.cred_answers.specs.CallRows.{is_invalid, may_be_denied, is_wrong, may_be_refused, may_be_done}

-- ---- id calls

-- what a rule answers, where some caller is denied the call or none, and where it is invalid or not
abbrev pub Answers : {A : Type 0} → Bool → Bool → Result A Denial → Type 0
Answers denied invalid (Ok x) = invalid ≡ false
Answers denied invalid (Err Perm) = denied ≡ true
Answers denied invalid (Err Invalid) = invalid ≡ true

of_permitted : (may : Bool) (ids : Ids4) → Answers true false (permitted may ids)
of_permitted true ids = refl
of_permitted false ids = refl

of_setuid : (able : Bool) (ids : Ids4) (a : Arg) → Answers (is_given a) (not (is_given a)) (after_setuid able ids a)
unfolding after_setuid
of_setuid able ids Keep = refl
of_setuid true ids (Set n) = refl
of_setuid false ids (Set n) = of_permitted _ _

of_setreuid : (able : Bool) (ids : Ids4) (a b : Arg) → Answers (is_given a || is_given b) false (after_setreuid able ids a b)
unfolding after_setreuid
of_setreuid true ids Keep Keep = refl
of_setreuid false ids Keep Keep = refl
of_setreuid able ids Keep (Set n) = of_permitted _ _
of_setreuid able ids (Set n) b = of_permitted _ _

of_setresuid : (able : Bool) (ids : Ids4) (a b d : Arg) → Answers (is_given a || is_given b || is_given d) false (after_setresuid able ids a b d)
unfolding after_setresuid
of_setresuid true ids Keep Keep Keep = refl
of_setresuid false ids Keep Keep Keep = refl
of_setresuid able ids Keep Keep (Set n) = of_permitted _ _
of_setresuid able ids Keep (Set n) d = of_permitted _ _
of_setresuid able ids (Set n) b d = of_permitted _ _

of_seteuid : (able : Bool) (ids : Ids4) (a : Arg) → Answers (is_given a) (not (is_given a)) (after_seteuid able ids a)
unfolding after_seteuid
of_seteuid able ids Keep = refl
of_seteuid able ids (Set n) = of_setresuid able ids Keep (Set n) Keep

of_setgroups : (c : Credential) (groups : List ℕ) → Answers true (nat_lt GROUP_LIMIT (length groups)) (after_setgroups c groups)
unfolding after_setgroups
of_setgroups c groups = by (capable c SETGID) (nat_lt GROUP_LIMIT (length groups)) _
  where
    by : (able many : Bool) (made : Credential)
        → Answers true many (let r : Result Credential Denial = cond (not able) (Err Perm) (cond many (Err Invalid) (Ok made)) in r)
    by true true made = refl
    by true false made = refl
    by false many made = refl

users : (denied invalid : Bool) (c : Credential) (r : Result Ids4 Denial) → Answers denied invalid r → Answers denied invalid (for_users c r)
users denied invalid c (Ok ids) h = h
users denied invalid c (Err Perm) h = h
users denied invalid c (Err Invalid) h = h

groups : (denied invalid : Bool) (c : Credential) (r : Result Ids4 Denial) → Answers denied invalid r → Answers denied invalid (for_groups c r)
groups denied invalid c (Ok ids) h = h
groups denied invalid c (Err Perm) h = h
groups denied invalid c (Err Invalid) h = h

pub of_call : (c : Credential) (call : IdCall) → Answers (may_be_denied call) (is_invalid call) (set_id c call)
of_call c (call.SetUid a) = users _ _ c _ (of_setuid (capable c SETUID) c.uid a)
of_call c (call.SetEuid a) = users _ _ c _ (of_seteuid (capable c SETUID) c.uid a)
of_call c (call.SetReuid a b) = users _ _ c _ (of_setreuid (capable c SETUID) c.uid a b)
of_call c (call.SetResuid a b d) = users _ _ c _ (of_setresuid (capable c SETUID) c.uid a b d)
of_call c (call.SetGid a) = groups _ _ c _ (of_setuid (capable c SETGID) c.gid a)
of_call c (call.SetEgid a) = groups _ _ c _ (of_seteuid (capable c SETGID) c.gid a)
of_call c (call.SetRegid a b) = groups _ _ c _ (of_setreuid (capable c SETGID) c.gid a b)
of_call c (call.SetResgid a b d) = groups _ _ c _ (of_setresuid (capable c SETGID) c.gid a b d)
of_call c (call.SetGroups list) = of_setgroups c list

-- ---- changes of sets and securebits

-- what a rule answers, where it may be done or not, refused to some caller or none, and where the
-- number is wrong or not
abbrev pub Changes : {A : Type 0} → Bool → Bool → Bool → Result A Denial → Type 0
Changes done refused wrong (Ok x) = done ≡ true
Changes done refused wrong (Err Perm) = refused ≡ true
Changes done refused wrong (Err Invalid) = wrong ≡ true

last : (a b : Bool) → (a && b) ≡ true → b ≡ true
last true b h = h
last false b h = absurd (cc)

-- no capability is within every set
none_within : (s : Caps) → is_within 0 s ≡ true
none_within s = let none : meet 0 s ≡ 0 = omega (arith, and_le_l 0 s) in ap (λ n. n == 0) none

all_pass : (has a b c d : Bool) → a ≡ true → b ≡ true → c ≡ true → d ≡ true → (a && (has || b) && c && d) ≡ true
all_pass true true true true true h k l m = refl
all_pass false true true true true h k l m = refl
all_pass has false b c d h k l m = absurd (cc)
all_pass has true false c d h k l m = absurd (cc)
all_pass has true true false d h k l m = absurd (cc)
all_pass has true true true false h k l m = absurd (cc)

of_empty : (c : Credential) → may_capset c 0 0 0 ≡ true
of_empty c =
    all_pass (capable c SETPCAP) _ _ _ _ (none_within (union c.inh c.bound)) (none_within (union c.inh c.perm)) (none_within c.perm) (none_within 0)

of_zero : (n : ℕ) → (n == 0) ≡ true → n ≡ 0
of_zero n h = grind (arith, nat_tests)

three : (a b c : Bool) → (not (a && b && c) ≡ true → ⊥) → (a ≡ true) × (b ≡ true) × (c ≡ true)
three true true true h = (refl, refl, refl)
three true true false h = absurd (h refl)
three true false c h = absurd (h refl)
three false b c h = absurd (h refl)

of_capset : (c : Credential) (perm inh eff : Caps)
    → Changes (is_within eff perm) (not ((perm == 0) && (inh == 0) && (eff == 0))) false (after_capset c perm inh eff)
unfolding after_capset
of_capset c perm inh eff = by (may_capset c perm inh eff) refl (not ((perm == 0) && (inh == 0) && (eff == 0))) refl _
  where
    by : (may : Bool) → may_capset c perm inh eff ≡ may → (some : Bool) → not ((perm == 0) && (inh == 0) && (eff == 0)) ≡ some → (made : Credential)
        → Changes (is_within eff perm) some false (let r : Result Credential Denial = cond (not may) (Err Perm) (Ok made) in r)
    by true is some none made = last _ (is_within eff perm) is
    by false is true none made = refl
    by false is false none made =
        let all = three (perm == 0) (inh == 0) (eff == 0) (λ h. cc) in
        let p = of_zero perm all.0 in
        let i = of_zero inh all.1 in
        let e = of_zero eff all.2 in
        let may : may_capset c perm inh eff ≡ true
        = ap (λ n. may_capset c n inh eff) p ∙ ap (λ n. may_capset c 0 n eff) i ∙ ap (λ n. may_capset c 0 0 n) e ∙ of_empty c in
        absurd (cc)

of_bound_drop : (c : Credential) (n : ℕ) → Changes (not (is_no_cap n)) true (is_no_cap n) (after_bound_drop c n)
unfolding after_bound_drop
of_bound_drop c n = by (capable c SETPCAP) (is_no_cap n) _
  where
    by : (able wrong : Bool) (made : Credential)
        → Changes (not wrong) true wrong (let r : Result Credential Denial = cond (not able) (Err Perm) (cond wrong (Err Invalid) (Ok made)) in r)
    by true true made = refl
    by true false made = refl
    by false wrong made = refl

-- first the number, and then the caller
of_number : (wrong may : Bool) (made : Credential)
    → Changes (not wrong) (not wrong) wrong (let r : Result Credential Denial = cond wrong (Err Invalid) (cond may (Err Perm) (Ok made)) in r)
of_number true may made = refl
of_number false true made = refl
of_number false false made = refl

of_amb_raise : (c : Credential) (n : ℕ) → Changes (not (is_no_cap n)) (not (is_no_cap n)) (is_no_cap n) (after_amb_raise c n)
unfolding after_amb_raise
of_amb_raise c n = of_number (is_no_cap n) (not (may_raise c n)) _

of_keep_caps : (c : Credential) (n : ℕ) → Changes (not (nat_lt 1 n)) (not (nat_lt 1 n)) (nat_lt 1 n) (after_keep_caps c n)
unfolding after_keep_caps
of_keep_caps c n = of_number (nat_lt 1 n) (is_locked c.bits KeepCaps) _

-- the number alone
of_number_alone : (wrong : Bool) (made : Credential)
    → Changes (not wrong) false wrong (let r : Result Credential Denial = cond wrong (Err Invalid) (Ok made) in r)
of_number_alone true made = refl
of_number_alone false made = refl

of_amb_lower : (c : Credential) (n : ℕ) → Changes (not (is_no_cap n)) false (is_no_cap n) (after_amb_lower c n)
unfolding after_amb_lower
of_amb_lower c n = of_number_alone (is_no_cap n) _

of_no_new_privs : (c : Credential) (n : ℕ) → Changes (n == 1) false (not (n == 1)) (after_no_new_privs c n)
unfolding after_no_new_privs
of_no_new_privs c n = by (n == 1) _
  where
    by : (one : Bool) (made : Credential) → Changes one false (not one) (let r : Result Credential Denial = cond (not one) (Err Invalid) (Ok made) in r)
    by true made = refl
    by false made = refl

middle : (a b c : Bool) → (a && b && c) ≡ true → b ≡ true
middle true true c h = refl
middle true false c h = absurd (cc)
middle false b c h = absurd (cc)

pub of_bits : (c : Credential) (n : ℕ) → Changes (nat_le n LAST_BITS) true false (after_bits c n)
unfolding after_bits
of_bits c n = by (may_set_bits c n) refl _
  where
    by : (may : Bool) → may_set_bits c n ≡ may → (made : Credential)
        → Changes (nat_le n LAST_BITS) true false (let r : Result Credential Denial = cond (not may) (Err Perm) (Ok made) in r)
    by true is made = middle (capable c SETPCAP) (nat_le n LAST_BITS) (list_all (keeps_lock c.bits n) FLAGS) is
    by false is made = refl

pub of_adjust : (c : Credential) (call : AdjCall) → Changes (may_be_done call) (may_be_refused call) (is_wrong call) (adjust c call)
of_adjust c (adj.Capset perm inh eff) = of_capset c perm inh eff
of_adjust c (adj.BoundDrop n) = of_bound_drop c n
of_adjust c (adj.AmbRaise n) = of_amb_raise c n
of_adjust c (adj.AmbLower n) = of_amb_lower c n
of_adjust c adj.AmbClear = refl
of_adjust c (adj.Bits n) = of_bits c n
of_adjust c (adj.KeepCaps n) = of_keep_caps c n
of_adjust c (adj.NoNewPrivs n) = of_no_new_privs c n
