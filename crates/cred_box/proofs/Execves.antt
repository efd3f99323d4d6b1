-- No execve of a file that leaves in a tight box leads out of it.
use Rattle.std.proofs.Common.{◌≡◌, inl, inr, ℕ, ◌==◌, ◌||◌, true, false, List, Result, Ok, Err, if◌then◌else◌, refl, ap, subst, ◌∙◌}
use Rattle.std.proofs.lemmas.Bool.{eqb-true}
use Rattle.cred_caps.specs.declared.secure.Flag.TheVariants.{NoRoot}
use Rattle.cred_caps.specs.Caps.{Caps, IsWithin}
use Rattle.cred_caps.specs.Secure.{is_set}
use Rattle.cred_caps.specs.Caps.{union, meet}
use Rattle.cred_caps.proofs.SetLaws.{within-trans}
use Rattle.std.specs.Prelude.{Option, Some, None}
use Rattle.cred_caps.specs.Caps.{empty, full}
use Rattle.cred_caps.specs.declared.secure.Flag.TheVariants.{KeepCaps}
use Rattle.cred_caps.specs.Secure.{with_secure_flag, flag_place}
use Rattle.cred_caps.proofs.FlagLaws.{sets_flag}
use Rattle.std.proofs.Common.{arith}
use Rattle.cred_caps.proofs.SetLaws.{meet-left, meet-right, union-within, within-union_left, within-union_right}
use Rattle.cred_record.specs.File.{File}
use Rattle.cred_record.specs.Credential.{is_root}
use Rattle.cred_rules.specs.Attribute.{Attribute}
use Rattle.cred_rules.specs.Exec.{Executed, NoExec, exec, executed, executed_by, may_execute, attribute_for, attribute_in, after_exec, has_effect, sets_user, user_after, gives_all, gains_of, is_by_root, sets_of, sets_taken, given_by, amb_after, perm_after, is_privileged}
use Rattle.cred_rules.specs.Exec.NoExec.{MayNotExecute, GivesTooLittle}
use Rattle.cred_record.specs.Credential.{Credential, AreValidSets}
use Rattle.cred_box.specs.Boxes.{is_in, Box, IsIn, IsTight, LeavesIn, ExecvesLeaveIn}
use Rattle.cred_box.proofs.Bounds.{or-cases, and-both, not-true, none-in, meet-swap, meet-keep}

executed-gives : (P : Credential → Type 0) (c : Credential) (f : File) (a : Option Attribute) (e : Executed) → P (after_exec c f a)
    → executed c f a ≡ Ok e → P e.cred
executed-gives P c f a e holds same =
    elim (gives_all c a) as (λ b. (if b then Ok (record { cred = after_exec c f a; gains = gains_of c f a }) else Err GivesTooLittle) ≡ Ok e → P e.cred) [
      | true ↦ λ same. let is : after_exec c f a ≡ e.cred = cc in subst P is holds
      | false ↦ λ same. cc
    ] same

executed_by-gives : (P : Credential → Type 0) (c : Credential) (f : File) (r : Result (Option Attribute) NoExec) (e : Executed)
    → ((a : Option Attribute) → r ≡ Ok a → P (after_exec c f a)) → executed_by c f r ≡ Ok e → P e.cred
executed_by-gives P c f (Ok a) e holds same = executed-gives P c f a e (holds a refl) same
executed_by-gives P c f (Err why) e holds same = cc

exec-gives : (P : Credential → Type 0) (c : Credential) (f : File) (chain : List ℕ) (e : Executed)
    → ((a : Option Attribute) → attribute_for c f chain ≡ Ok a → P (after_exec c f a)) → exec c f chain ≡ Ok e → P e.cred
unfolding exec
exec-gives P c f chain e holds same =
    elim (may_execute c f) as (λ b. (if b then executed_by c f (attribute_for c f chain) else Err MayNotExecute) ≡ Ok e → P e.cred) [
      | true ↦ λ same. executed_by-gives P c f (attribute_for c f chain) e holds same
      | false ↦ λ same. cc
    ] same

-- where the box doesn't ask for no_new_privs and the task hasn't it
box-free : (box : Box) (c : Credential) → IsIn box c → c.nnp ≡ false → box.nnp ≡ false
box-free box c inside free =
    elim box.nnp as (λ b. (b ≡ true → c.nnp ≡ true) → b ≡ false) [
      | true ↦ λ asks. let is : c.nnp ≡ true = asks refl in cc
      | false ↦ λ asks. refl
    ] inside.nnp

user-in : (box : Box) (c : Credential) (f : File) (chain : List ℕ) → IsIn box c → LeavesIn box chain f → is_in box.users (user_after c f) ≡ true
user-in box c f chain inside leaves =
    elim (sets_user c f) as (λ b. sets_user c f ≡ b → is_in box.users (if b then f.owner else c.uid.effective) ≡ true) [
      | true ↦ λ sets.
          let two = and-both _ _ sets in
          let effect = and-both _ _ two.0 in
          leaves.owner (box-free box c inside (not-true c.nnp effect.0)) (not-true f.nosuid effect.1) two.1
      | false ↦ λ sets. inside.effective
    ] refl

root-in : (box : Box) (c : Credential) (id : ℕ) → IsIn box c → is_root c id ≡ true → is_in box.users id ≡ true → is_in box.users box.root ≡ true
root-in box c id inside root there = subst (λ n. is_in box.users n ≡ true) (eqb-true id c.root root ∙ inside.root) there

amb-in : (box : Box) (c : Credential) (f : File) (a : Option Attribute) → IsIn box c → AreValidSets c.perm c.inh c.eff c.amb
    → (none : IsWithin empty box.perm) → IsWithin (amb_after c f a) box.perm
amb-in box c f a inside valid none =
    elim (is_privileged c f a) as (λ b. IsWithin (if b then empty else c.amb) box.perm) [
      | true ↦ none
      | false ↦ within-trans c.amb c.perm box.perm valid.ambient inside.perm
    ]

attribute-is : (c : Credential) (f : File) (chain : List ℕ) (x : Attribute) → attribute_for c f chain ≡ Ok (Some x)
    → (has_effect c f ≡ true) × (attribute_in chain f.attr ≡ Ok (Some x))
unfolding attribute_for
attribute-is c f chain x same =
    elim (has_effect c f) as (λ b. (if b then attribute_in chain f.attr else Ok None) ≡ Ok (Some x) → (b ≡ true) × (attribute_in chain f.attr ≡ Ok (Some x))) [
      | true ↦ λ same. (refl, same)
      | false ↦ λ same. cc
    ] same

own-sets-in : (box : Box) (c : Credential) (f : File) (chain : List ℕ) (a : Option Attribute) → IsIn box c → LeavesIn box chain f → c.nnp ≡ false
    → attribute_for c f chain ≡ Ok a → IsWithin (given_by c (sets_of a)) box.perm
own-sets-in box c f chain None inside leaves free is =
    union-within (meet c.inh empty) (meet empty c.bound) box.perm
    (within-trans (meet c.inh empty) empty box.perm (meet-right c.inh empty) (none-in box.perm))
    (within-trans (meet empty c.bound) empty box.perm (meet-left empty c.bound) (none-in box.perm))
own-sets-in box c f chain (Some x) inside leaves free is =
    let found = attribute-is c f chain x is in
    let effect = and-both _ _ found.0 in
    let all = leaves.sets (box-free box c inside free) (not-true f.nosuid effect.1) x found.1 in
    let large : Caps = union (meet x.perm box.bound) (meet x.inh box.inh) in
    union-within (meet c.inh x.inh) (meet x.perm c.bound) box.perm
    (within-trans (meet c.inh x.inh) large box.perm
    (within-trans (meet c.inh x.inh) (meet x.inh box.inh) large (meet-swap c.inh box.inh x.inh inside.inh) (within-union_right (meet x.perm box.bound) (meet x.inh box.inh)))
    all)
    (within-trans (meet x.perm c.bound) large box.perm
    (within-trans (meet x.perm c.bound) (meet x.perm box.bound) large (meet-keep c.bound box.bound x.perm inside.bound) (within-union_left (meet x.perm box.bound) (meet x.inh box.inh)))
    all)

rooted-is : (box : Box) (c : Credential) → IsIn box c → is_set c.bits NoRoot ≡ false → box.rooted ≡ true
rooted-is box c inside unset =
    elim box.rooted as (λ b. (b ≡ false → is_set c.bits NoRoot ≡ true) → b ≡ true) [
      | true ↦ λ asks. refl
      | false ↦ λ asks. let is : is_set c.bits NoRoot ≡ true = asks refl in cc
    ] inside.noroot

root-sets-in : (box : Box) (c : Credential) (f : File) (chain : List ℕ) (a : Option Attribute) → IsTight box → IsIn box c → LeavesIn box chain f
    → c.nnp ≡ false → is_by_root c f a ≡ true → IsWithin (union (meet c.inh full) (meet full c.bound)) box.perm
root-sets-in box c f chain a tight inside leaves free by =
    let one = and-both _ _ by in
    let two = and-both _ _ one.0 in
    let root : is_in box.users box.root ≡ true = elim (or-cases (is_root c c.uid.real) (is_root c (user_after c f)) two.1) [
      | inl real ↦ root-in box c c.uid.real inside real inside.real
      | inr after ↦ root-in box c (user_after c f) inside after (user-in box c f chain inside leaves)
    ] in
    let all = tight.root_gives (box-free box c inside free) (rooted-is box c inside (not-true (is_set c.bits NoRoot) two.0)) root in
    union-within (meet c.inh full) (meet full c.bound) box.perm
    (within-trans (meet c.inh full) c.inh box.perm (meet-left c.inh full)
    (within-trans c.inh box.inh box.perm inside.inh (within-trans box.inh (union box.bound box.inh) box.perm (within-union_right box.bound box.inh) all)))
    (within-trans (meet full c.bound) c.bound box.perm (meet-right full c.bound)
    (within-trans c.bound box.bound box.perm inside.bound (within-trans box.bound (union box.bound box.inh) box.perm (within-union_left box.bound box.inh) all)))

perm-in : (box : Box) (c : Credential) (f : File) (chain : List ℕ) (a : Option Attribute) → IsTight box → IsIn box c
    → AreValidSets c.perm c.inh c.eff c.amb → LeavesIn box chain f → attribute_for c f chain ≡ Ok a → IsWithin (perm_after c f a) box.perm
perm-in box c f chain a tight inside valid leaves is =
    elim c.nnp as (λ b. c.nnp ≡ b → IsWithin (if b then meet (union (given_by c (sets_taken c f a)) (amb_after c f a)) c.perm else union (given_by c (sets_taken c f a)) (amb_after c f a)) box.perm) [
      | true ↦ λ set. within-trans (meet (union (given_by c (sets_taken c f a)) (amb_after c f a)) c.perm) c.perm box.perm
          (meet-right (union (given_by c (sets_taken c f a)) (amb_after c f a)) c.perm) inside.perm
      | false ↦ λ free. union-within (given_by c (sets_taken c f a)) (amb_after c f a) box.perm
          (elim (is_by_root c f a) as (λ b. is_by_root c f a ≡ b → IsWithin (given_by c (if b then record {
            perm = full;
            inh = full;
            effective = (sets_of a).effective || is_root c (user_after c f);
          } else sets_of a)) box.perm) [
            | true ↦ λ by. root-sets-in box c f chain a tight inside leaves free by
            | false ↦ λ by. own-sets-in box c f chain a inside leaves free is
          ] refl)
          (amb-in box c f a inside valid (none-in box.perm))
    ] refl

noroot-stays : (bits : ℕ) → is_set (with_secure_flag bits KeepCaps false) NoRoot ≡ is_set bits NoRoot
noroot-stays bits = ap (λ d. d == 1) ((sets_flag bits KeepCaps false).others (flag_place NoRoot) (omega arith) (λ same. omega (arith, same)))

left-in : (box : Box) (c : Credential) (f : File) (chain : List ℕ) (a : Option Attribute) → IsTight box → IsIn box c
    → AreValidSets c.perm c.inh c.eff c.amb → LeavesIn box chain f → attribute_for c f chain ≡ Ok a → IsIn box (after_exec c f a)
unfolding after_exec
left-in box c f chain a tight inside valid leaves is =
    let user = user-in box c f chain inside leaves in
    record {
      ns = inside.ns;
      root = inside.root;
      real = inside.real;
      effective = user;
      saved = user;
      fs = tight.fs_has (user_after c f) user;
      perm = perm-in box c f chain a tight inside valid leaves is;
      inh = inside.inh;
      bound = inside.bound;
      nnp = inside.nnp;
      noroot = λ free. noroot-stays c.bits ∙ inside.noroot free;
      locked = λ free may. (sets_flag c.bits KeepCaps false).locks NoRoot ∙ inside.locked free may;
    }

pub execves_leave_in : ExecvesLeaveIn
execves_leave_in box c f chain e tight inside valid leaves same =
    exec-gives (IsIn box) c f chain e (λ a is. left-in box c f chain a tight inside valid leaves is) same
