-- The sets of each sealed credential are those of a credential.
use Rattle.std.proofs.Common.{◌≡◌, ◌==◌, ◌<◌, ◌&&◌, ◌||◌, not, nat_lt, ℕ, List, [], ◌∷◌, fold, length, Option, Some, None, Result, Ok, Err, Bool, true, false}
use Rattle.std.proofs.Common.{cond, refl, sym, ◌∙◌, subst, arith}
use Rattle.std.specs.List.{All}
use Rattle.std.specs.Option.{IfSome}
use Rattle.std.proofs.lemmas.Bool.{eqb-true}
use Rattle.std.proofs.lemmas.List.Elements.{All-push}
use Rattle.cred_ids.specs.declared.arg.Arg.{Arg}
use Rattle.cred_ids.specs.declared.id.Ids4.{Ids4}
use Rattle.cred_ids.specs.declared.id.Kind.{Kind}
use Rattle.cred_ids.specs.declared.id.Kind.TheVariants.{User, Group}
use Rattle.cred_ids.specs.Limits.{GROUP_LIMIT}
use Rattle.cred_caps.specs.declared.secure.Flag.TheVariants.{NoSetuidFixup, KeepCaps}
use Rattle.cred_caps.specs.Caps.{Caps, empty, full, has, meet, less, union, IsWithin}
use Rattle.cred_caps.specs.Numbers.{SETGID, SETPCAP}
use Rattle.cred_caps.specs.Secure.{is_set, is_locked}
use Rattle.cred_caps.proofs.SetLaws.{within_itself, meet-right, meet-middle, union-within, meet-within_left, with_within}
use Rattle.cred_record.specs.declared.adj_call.AdjCall.{AdjCall}
use Rattle.cred_record.specs.declared.adj_call.AdjCall.TheVariants as adj
use Rattle.cred_record.specs.declared.id_call.IdCall.{IdCall}
use Rattle.cred_record.specs.declared.id_call.IdCall.TheVariants.{SetUid, SetEuid, SetReuid, SetResuid, SetGid, SetEgid, SetRegid, SetResgid, SetGroups}
use Rattle.cred_record.specs.declared.refusal.Denial.{Denial}
use Rattle.cred_record.specs.declared.refusal.Denial.TheVariants.{Perm, Invalid}
use Rattle.cred_record.specs.Credential.{Credential, AreValidSets, capable, first_credential, is_root}
use Rattle.cred_record.specs.File.{File}
use Rattle.cred_rules.specs.Access.{access_credential}
use Rattle.cred_rules.specs.Adjust.{is_no_cap, may_capset, may_raise, may_set_bits, after_capset, after_bound_drop, after_amb_raise, after_amb_lower}
use Rattle.cred_rules.specs.Adjust.{after_bits, after_keep_caps, after_no_new_privs, adjust}
use Rattle.cred_rules.specs.Attribute.{Attribute}
use Rattle.cred_rules.specs.Exec.{Executed, NoExec, exec, executed_by, after_exec, gains_of, gives_all, may_execute, attribute_for}
use Rattle.cred_rules.specs.Exec as rule
use Rattle.cred_rules.specs.Exec.NoExec.{MayNotExecute, GivesTooLittle}
use Rattle.cred_rules.specs.Fix.{fixed, loses_root, leaves_root, enters_root, with_user_ids}
use Rattle.cred_rules.specs.SetFs.{FILE_CAPS, fs_effective, set_fs, old_fs}
use Rattle.cred_rules.specs.SetId.{after_setgroups, for_users, for_groups, set_id}
use Rattle.cred_exec.proofs.Parts.{empty-within}
use Rattle.cred_exec.proofs.Valid.{valid_after}
use Rattle.cred_event.specs.declared.answer.Answer.TheVariants as answer
use Rattle.cred_event.specs.declared.event.Change.{Change}
use Rattle.cred_event.specs.declared.event.Change.TheVariants as change
use Rattle.cred_event.specs.declared.event.Event.{Event}
use Rattle.cred_event.specs.declared.entry.Entry.{Entry}
use Rattle.cred_model.specs.Script.{Script, chain_of}
use Rattle.cred_model.specs.State.{State, SealedCred, Prepared, Numbered, numbered, opening}
use Rattle.cred_model.specs.Change.{Made, made, made_by_exec, by_change}
use Rattle.cred_model.specs.Step.{step}
use Rattle.cred_model.proofs.Lists.{All-at}
use Rattle.cred_model.proofs.Numbers.{numbered_is, current_is, at_owner, sealed_cred_of}
use Rattle.cred_sound.specs.Sound.{IsSound}
use Rattle.cred_sound.proofs.Parts.{CredsChange, Origin, SameCreds, Seals, OfFirst, OfCall, OfLabel}
use Rattle.cred_sound.proofs.Events.{changes}
use Rattle.cred_sound.proofs.Sound.{step_sound, opening_sound}
use Rattle.cred_laws.specs.Made.{IsChangedFrom, IsMade, AreMade}
use Rattle.cred_laws.specs.Valid.{IsValid, AreValid, SealedAreValid}
use Rattle.cred_laws.proofs.CallLaws.{one-test, two-tests, by_rule}
use Rattle.cred_laws.proofs.ExecveLaws.{numbered_at}
use Rattle.cred_laws.proofs.MadeLaws.{bases_sealed, step_made}

-- ---- the rules

-- a set that is kept or emptied
emptied : (b : Bool) (s t : Caps) → IsWithin s t → IsWithin (cond b empty s) t
emptied true s t within = empty-within t
emptied false s t within = within

fixed_valid : (c : Credential) (ids : Ids4) → IsValid c → IsValid (fixed c ids)
fixed_valid c ids valid = by (loses_root c ids) (not (is_set c.bits KeepCaps))
  where
    entered : (b : Bool) → IsWithin (cond b c.perm c.eff) c.perm
    entered true = within_itself c.perm
    entered false = valid.effective

    by : (loses drops : Bool)
        → AreValidSets (cond (loses && drops) empty c.perm) c.inh
        (cond ((loses && drops) || leaves_root c ids) empty (cond (enters_root c ids) (cond (loses && drops) empty c.perm) c.eff))
        (cond loses empty c.amb)
    by true true = record { effective = empty-within empty; ambient = empty-within empty; inheritable = empty-within c.inh }
    by true false = record {
      effective = emptied (leaves_root c ids) _ c.perm (entered (enters_root c ids));
      ambient = empty-within c.perm;
      inheritable = empty-within c.inh;
    }
    by false drops = record {
      effective = emptied (leaves_root c ids) _ c.perm (entered (enters_root c ids));
      ambient = valid.ambient;
      inheritable = valid.inheritable;
    }

with_user_ids_valid : (c : Credential) (ids : Ids4) → IsValid c → IsValid (with_user_ids c ids)
unfolding with_user_ids
with_user_ids_valid c ids valid =
    elim (is_set c.bits NoSetuidFixup) as (λ b. IsValid (cond b (record c { uid = ids }) (fixed c ids))) [
      | true ↦ valid
      | false ↦ fixed_valid c ids valid
    ]

for_users_valid : (c d : Credential) (r : Result Ids4 Denial) → IsValid c → for_users c r ≡ Ok d → IsValid d
for_users_valid c d (Ok ids) valid same = let is : with_user_ids c ids ≡ d = cc in subst IsValid is (with_user_ids_valid c ids valid)
for_users_valid c d (Err e) valid same = cc

for_groups_valid : (c d : Credential) (r : Result Ids4 Denial) → IsValid c → for_groups c r ≡ Ok d → IsValid d
for_groups_valid c d (Ok ids) valid same = let is : record c { gid = ids } ≡ d = cc in subst IsValid is valid
for_groups_valid c d (Err e) valid same = cc

setgroups_valid : (c d : Credential) (list : List ℕ) → IsValid c → after_setgroups c list ≡ Ok d → IsValid d
unfolding after_setgroups
setgroups_valid c d list valid same =
    two-tests IsValid (not (capable c SETGID)) (nat_lt GROUP_LIMIT (length list)) Perm Invalid _ d (λ _. valid) same

set_id_valid : (c d : Credential) (call : IdCall) → IsValid c → set_id c call ≡ Ok d → IsValid d
set_id_valid c d (SetUid a) valid same = for_users_valid c d _ valid same
set_id_valid c d (SetEuid a) valid same = for_users_valid c d _ valid same
set_id_valid c d (SetReuid a b) valid same = for_users_valid c d _ valid same
set_id_valid c d (SetResuid a b s) valid same = for_users_valid c d _ valid same
set_id_valid c d (SetGid a) valid same = for_groups_valid c d _ valid same
set_id_valid c d (SetEgid a) valid same = for_groups_valid c d _ valid same
set_id_valid c d (SetRegid a b) valid same = for_groups_valid c d _ valid same
set_id_valid c d (SetResgid a b s) valid same = for_groups_valid c d _ valid same
set_id_valid c d (SetGroups list) valid same = setgroups_valid c d list valid same

fs_within : (c : Credential) (old new : ℕ) → IsValid c → IsWithin (fs_effective c old new) c.perm
fs_within c old new valid =
    elim (is_root c old && not (is_root c new)) as
    (λ b. IsWithin (cond b (less c.eff FILE_CAPS) (cond (not (is_root c old) && is_root c new) (union c.eff (meet FILE_CAPS c.perm)) c.eff)) c.perm) [
      | true ↦ meet-within_left c.eff _ c.perm valid.effective
      | false ↦ elim (not (is_root c old) && is_root c new) as (λ b. IsWithin (cond b (union c.eff (meet FILE_CAPS c.perm)) c.eff) c.perm) [
        | true ↦ union-within c.eff (meet FILE_CAPS c.perm) c.perm valid.effective (meet-right FILE_CAPS c.perm)
        | false ↦ valid.effective
      ]
    ]

-- the effective set that is kept, or another
kept_or : (b : Bool) (s t u : Caps) → IsWithin s u → IsWithin t u → IsWithin (cond b s t) u
kept_or true s t u one other = one
kept_or false s t u one other = other

set_fs_valid : (c : Credential) (kind : Kind) (a : Arg) → IsValid c → IsValid (set_fs c kind a)
set_fs_valid c User a valid = record {
  effective = kept_or (is_set c.bits NoSetuidFixup) c.eff _ c.perm valid.effective (fs_within c c.uid.fs _ valid);
  ambient = valid.ambient;
  inheritable = valid.inheritable;
}
set_fs_valid c Group a valid = valid

and_left : (a b : Bool) → (a && b) ≡ true → a ≡ true
and_left true b both = refl
and_left false b both = cc

and_right : (a b : Bool) → (a && b) ≡ true → b ≡ true
and_right true b both = both
and_right false b both = cc

not_false : (b : Bool) → not b ≡ false → b ≡ true
not_false true is = refl
not_false false is = cc

capset_valid : (c d : Credential) (perm inh eff : Caps) → after_capset c perm inh eff ≡ Ok d → IsValid d
unfolding after_capset
capset_valid c d perm inh eff same =
    one-test IsValid (not (may_capset c perm inh eff)) Perm _ d
    (λ may. record {
      effective = eqb-true (meet eff perm) eff (and_right _ _ (not_false (may_capset c perm inh eff) may));
      ambient = meet-middle c.amb perm inh;
      inheritable = meet-right (meet c.amb perm) inh;
    })
    same

amb_raise_valid : (c d : Credential) (n : ℕ) → IsValid c → after_amb_raise c n ≡ Ok d → IsValid d
unfolding after_amb_raise
amb_raise_valid c d n valid same =
    two-tests IsValid (is_no_cap n) (not (may_raise c n)) Invalid Perm _ d
    (λ may.
    let both = and_left _ _ (not_false (may_raise c n) may) in
    record {
      effective = valid.effective;
      ambient = with_within c.amb c.perm n (and_left (has c.perm n) (has c.inh n) both) valid.ambient;
      inheritable = with_within c.amb c.inh n (and_right (has c.perm n) (has c.inh n) both) valid.inheritable;
    })
    same

amb_lower_valid : (c d : Credential) (n : ℕ) → IsValid c → after_amb_lower c n ≡ Ok d → IsValid d
unfolding after_amb_lower
amb_lower_valid c d n valid same =
    one-test IsValid (is_no_cap n) Invalid _ d
    (λ _. record {
      effective = valid.effective;
      ambient = meet-within_left c.amb _ c.perm valid.ambient;
      inheritable = meet-within_left c.amb _ c.inh valid.inheritable;
    })
    same

bound_drop_valid : (c d : Credential) (n : ℕ) → IsValid c → after_bound_drop c n ≡ Ok d → IsValid d
unfolding after_bound_drop
bound_drop_valid c d n valid same =
    two-tests IsValid (not (capable c SETPCAP)) (is_no_cap n) Perm Invalid _ d (λ _. valid) same

bits_valid : (c d : Credential) (n : ℕ) → IsValid c → after_bits c n ≡ Ok d → IsValid d
unfolding after_bits
bits_valid c d n valid same = one-test IsValid (not (may_set_bits c n)) Perm _ d (λ _. valid) same

keep_caps_valid : (c d : Credential) (n : ℕ) → IsValid c → after_keep_caps c n ≡ Ok d → IsValid d
unfolding after_keep_caps
keep_caps_valid c d n valid same = two-tests IsValid (nat_lt 1 n) (is_locked c.bits KeepCaps) Invalid Perm _ d (λ _. valid) same

no_new_privs_valid : (c d : Credential) (n : ℕ) → IsValid c → after_no_new_privs c n ≡ Ok d → IsValid d
unfolding after_no_new_privs
no_new_privs_valid c d n valid same = one-test IsValid (not (n == 1)) Invalid _ d (λ _. valid) same

adjust_valid : (c d : Credential) (call : AdjCall) → IsValid c → adjust c call ≡ Ok d → IsValid d
adjust_valid c d (adj.Capset perm inh eff) valid same = capset_valid c d perm inh eff same
adjust_valid c d (adj.BoundDrop n) valid same = bound_drop_valid c d n valid same
adjust_valid c d (adj.AmbRaise n) valid same = amb_raise_valid c d n valid same
adjust_valid c d (adj.AmbLower n) valid same = amb_lower_valid c d n valid same
adjust_valid c d adj.AmbClear valid same =
    let is : record c { amb = empty } ≡ d = cc in
    subst IsValid is (record { effective = valid.effective; ambient = empty-within c.perm; inheritable = empty-within c.inh })
adjust_valid c d (adj.Bits n) valid same = bits_valid c d n valid same
adjust_valid c d (adj.KeepCaps n) valid same = keep_caps_valid c d n valid same
adjust_valid c d (adj.NoNewPrivs n) valid same = no_new_privs_valid c d n valid same

access_valid : (c : Credential) → IsValid c → IsValid (access_credential c)
unfolding access_credential
access_valid c valid = record {
  effective = kept_or (is_set c.bits NoSetuidFixup) c.eff _ c.perm valid.effective
      (kept_or (is_root c c.uid.real) c.perm empty c.perm (within_itself c.perm) (empty-within c.perm));
  ambient = valid.ambient;
  inheritable = valid.inheritable;
}

after_exec_valid : (c : Credential) (f : File) (a : Option Attribute) → IsValid c → IsValid (after_exec c f a)
unfolding after_exec
after_exec_valid c f a valid = valid_after c f a valid

executed_valid : (c : Credential) (f : File) (a : Option Attribute) (e : Executed) → IsValid c → rule.executed c f a ≡ Ok e → IsValid e.cred
executed_valid c f a e valid same = by (gives_all c a) same
  where
    by : (b : Bool) → cond b (Ok (record { cred = after_exec c f a; gains = gains_of c f a })) (Err GivesTooLittle) ≡ Ok e → IsValid e.cred
    by true is =
        let one : record { cred = after_exec c f a; gains = gains_of c f a } ≡ e = cc in
        subst (λ (x : Executed). IsValid x.cred) one (after_exec_valid c f a valid)
    by false is = cc

executed_by_valid : (c : Credential) (f : File) (r : Result (Option Attribute) NoExec) (e : Executed) → IsValid c → executed_by c f r ≡ Ok e
    → IsValid e.cred
executed_by_valid c f (Ok a) e valid same = executed_valid c f a e valid same
executed_by_valid c f (Err why) e valid same = cc

exec_valid : (c : Credential) (f : File) (chain : List ℕ) (e : Executed) → IsValid c → exec c f chain ≡ Ok e → IsValid e.cred
unfolding exec
exec_valid c f chain e valid same = by (may_execute c f) same
  where
    by : (b : Bool) → cond b (executed_by c f (attribute_for c f chain)) (Err MayNotExecute) ≡ Ok e → IsValid e.cred
    by true is = executed_by_valid c f (attribute_for c f chain) e valid is
    by false is = cc

-- ---- a change of a prepared credential

by_exec_valid : (c : Credential) (f : File) (chain : List ℕ) (m : Made) (r : Result Executed NoExec) → IsValid c → exec c f chain ≡ r
    → made_by_exec r ≡ Ok m → IsValid m.cred
by_exec_valid c f chain m (Ok e) valid is same =
    let one : record { answer = answer.Done; cred = e.cred; gains = e.gains } ≡ m = cc in
    subst (λ (m : Made). IsValid m.cred) one (exec_valid c f chain e valid is)
by_exec_valid c f chain m (Err why) valid is same = cc

pub change_valid : (found : Option File) (chain : List ℕ) (c : Credential) (to : Change) (m : Made) → IsValid c → by_change found chain c to ≡ Ok m
    → IsValid m.cred
change_valid found chain c (change.SetFs kind a) m valid is =
    let one : made (answer.Was (old_fs c kind)) (set_fs c kind a) ≡ m = cc in
    subst (λ (m : Made). IsValid m.cred) one (set_fs_valid c kind a valid)
change_valid found chain c (change.Adjust call) m valid is = by_rule IsValid m (adjust c call) (λ d. adjust_valid c d call valid) is
change_valid (Some f) chain c (change.Exec place) m valid is = by_exec_valid c f chain m (exec c f chain) valid refl is
change_valid None chain c (change.Exec place) m valid is = cc
change_valid found chain c change.Access m valid is =
    let one : made answer.Done (access_credential c) ≡ m = cc in subst (λ (m : Made). IsValid m.cred) one (access_valid c valid)

-- ---- what an event seals

first_valid : (user group ns root : ℕ) → IsValid (first_credential user group ns root)
first_valid user group ns root =
    elim (user == root) as (λ b. AreValidSets (cond b full empty) empty (cond b full empty) empty) [
      | true ↦ record { effective = within_itself full; ambient = empty-within full; inheritable = empty-within empty }
      | false ↦ record { effective = within_itself empty; ambient = empty-within empty; inheritable = empty-within empty }
    ]

abbrev OfSealed : SealedCred → Type 0
OfSealed x = IsValid x.cred

pub numbered_valid : (creds : List SealedCred) (n : ℕ) (c : Numbered) → All OfSealed creds → numbered creds n ≡ Some c → IsValid c.cred
numbered_valid creds n c valid is = All-at OfSealed creds n (sealed_cred_of c) (numbered_is creds n c is).1 valid

origin_valid : (script : Script) (s : State) (c : Credential) → IsSound s → AreMade script s → AreValid s → Origin s c → IsValid c
origin_valid script s c sound are valid (OfFirst user group ns root is) = subst IsValid (sym is) (first_valid user group ns root)
origin_valid script s c sound are valid (OfCall task before call is ruled) =
    let at = current_is s task before is in
    set_id_valid before.cred c call (numbered_valid s.creds at.owner.current before valid (at_owner s task before at is)) ruled
origin_valid script s c sound are valid (OfLabel place p last is changed cred) =
    let base = numbered_at s.creds p.base (All-at (λ (p : Prepared). p.base < length s.creds) s.prepared place p is (bases_sealed s sound)) in
    let made_of = subst (λ o. IfSome o (IsChangedFrom script (numbered s.creds p.base))) changed (All-at (IsMade script s.creds) s.prepared place p is are) in
    let by = subst (λ found. IsChangedFrom script found last) base.1 made_of in
    subst IsValid (sym cred)
    (change_valid by.0 (chain_of script base.0.cred.ns) base.0.cred last.change (record { answer = by.1; cred = last.cred; gains = last.gains })
    (numbered_valid s.creds p.base base.0 valid base.1) by.2)

creds_valid : (script : Script) (s : State) (event : Event) (left : List ℕ) (t : State) → IsSound s → AreMade script s → AreValid s
    → CredsChange s event left t → AreValid t
creds_valid script s event left t sound are valid (SameCreds same) = subst (All OfSealed) (sym same) valid
creds_valid script s event left t sound are valid (Seals c slot creds fits origin) =
    subst (All OfSealed) (sym creds) (All-push OfSealed s.creds _ valid (origin_valid script s c sound are valid origin))

pub step_valid : (script : Script) (s : State) (line : ℕ) (event : Event) → IsSound s → AreMade script s → AreValid s
    → AreValid (step script s line event).1
step_valid script s line event sound are valid =
    let c = changes script s line event in creds_valid script s event c.left (step script s line event).1 sound are valid c.creds

valid_from : (script : Script) (journal : List Entry) (s : State) → IsSound s → AreMade script s → AreValid s
    → AreValid (fold (λ (state : State) (entry : Entry). (step script state entry.line entry.event).1) s journal)
valid_from script [] s sound are valid = valid
valid_from script (entry ∷ journal) s sound are valid =
    valid_from script journal (step script s entry.line entry.event).1 (step_sound script s entry.line entry.event sound)
    (step_made script s entry.line entry.event sound are) (step_valid script s entry.line entry.event sound are valid)

pub valid_journal : SealedAreValid
valid_journal script journal =
    valid_from script journal (opening script) (opening_sound script) (λ k d lt. absurd (omega arith)) (λ k d lt. absurd (omega arith))
