-- The laws of execve, by the parts of its rule.
use Rattle.std.proofs.Common.{◌≡◌, ℕ, Bool, true, false, List, Option, Result, Ok, Err, if◌then◌else◌, refl, sym, ap, subst, ◌∙◌}
use Rattle.cred_caps.specs.declared.secure.Flag.TheVariants.{KeepCaps}
use Rattle.cred_caps.specs.Caps.{Caps, empty, union, meet, less, IsWithin}
use Rattle.cred_caps.specs.Flags.{SetsFlag}
use Rattle.cred_caps.proofs.FlagLaws.{sets_flag}
use Rattle.cred_caps.proofs.SetLaws.{meet-right, less-within}
use Rattle.cred_record.specs.declared.gains.Gains.{Gains}
use Rattle.cred_record.specs.Credential.{Credential}
use Rattle.cred_record.specs.File.{File}
use Rattle.cred_rules.specs.Attribute.{Attribute}
use Rattle.cred_rules.specs.Exec.{Executed, NoExec, MayNotExecute, GivesTooLittle, exec, may_execute, attribute_for, executed_by, gives_all, after_exec}
use Rattle.cred_rules.specs.Exec.{gains_of, is_by_root, is_privileged, given_by, sets_taken, sets_of, amb_after, limited, perm_after}
use Rattle.cred_exec.specs.Laws.{AreGains, GainsNothing, KeepsSets, KeepsIdentity, GainsAreWhatIsGained, NoNewPrivsGainsNothing, PlainFilesKeepAmbient}
use Rattle.cred_exec.specs.Laws.{PrivilegedFilesEmptyAmbient, InheritableAndBoundingStay, OtherSecurebitsStay, RealIdsAndGroupsStay}
use Rattle.cred_exec.proofs.Parts.{empty-within, meet-empty, less-empty, empty-union, parts-apart, parts-all, less-small}

-- ---- what an execve gives

-- it is what the rule makes of the attribute that it reads
record IsMade (c : Credential) (f : File) (chain : List ℕ) (e : Executed) : Type 0 where
  attr : Option Attribute
  read : attribute_for c f chain ≡ Ok attr
  cred : after_exec c f attr ≡ e.cred
  gains : gains_of c f attr ≡ e.gains

if-ok :
    (b : Bool) (x e : Executed) (reason : NoExec) → (if b then Ok x else Err reason) ≡ Ok e → x ≡ e
if-ok true x e reason same = cc
if-ok false x e reason same = cc

made-by :
    (c : Credential) (f : File) (chain : List ℕ) (e : Executed)
    (r : Result (Option Attribute) NoExec) → attribute_for c f chain ≡ r
    → executed_by c f r ≡ Ok e → IsMade c f chain e
made-by c f chain e (Err reason) read same = cc
made-by c f chain e (Ok a) read same =
    let given : Executed = record { cred = after_exec c f a; gains = gains_of c f a } in
    let is = if-ok (gives_all c a) given e GivesTooLittle same in
    record { attr = a; read = read; cred = ap (λ x. x.cred) is; gains = ap (λ x. x.gains) is }

may-by :
    (b : Bool) (r : Result Executed NoExec) (e : Executed)
    → (if b then r else Err MayNotExecute) ≡ Ok e → r ≡ Ok e
may-by true r e same = same
may-by false r e same = cc

made :
    (c : Credential) (f : File) (chain : List ℕ) (e : Executed) → exec c f chain ≡ Ok e
    → IsMade c f chain e
unfolding exec
made c f chain e same =
    made-by c f chain e (attribute_for c f chain) refl
    (may-by (may_execute c f) (executed_by c f (attribute_for c f chain)) e same)

-- ---- the gains

-- all of them by root; and a part by the permitted set of the file, the rest by the inheritable one
abbrev all_by_root : Caps → Gains
all_by_root n = record { file = empty; inherit = empty; root = n }

abbrev in_parts : Caps → Caps → Gains
in_parts n part = record { file = part; inherit = less n part; root = empty }

by_root : (p q : Caps) → AreGains q p (all_by_root (less p q))
by_root p q =
    let n = less p q in
    record {
      file_inherit = refl;
      file_root = empty-within n;
      inherit_root = empty-within n;
      all = ap (union empty) (empty-union n) ∙ empty-union n;
    }

by_file : (p q given : Caps) → AreGains q p (in_parts (less p q) (meet (less p q) given))
by_file p q given =
    let n = less p q in
    let part = meet n given in
    record {
      file_inherit = parts-apart n part;
      file_root = meet-empty part;
      inherit_root = meet-empty (less n part);
      all = parts-all n given (less-small p q);
    }

each-way :
    (p q given : Caps) (b : Bool)
    → AreGains q p
    (if b then all_by_root (less p q) else in_parts (less p q) (meet (less p q) given))
each-way p q given true = by_root p q
each-way p q given false = by_file p q given

gains-are :
    (c : Credential) (f : File) (a : Option Attribute)
    → AreGains c.perm (perm_after c f a) (gains_of c f a)
unfolding gains_of
gains-are c f a =
    each-way (perm_after c f a) c.perm (meet (sets_of a).perm c.bound) (is_by_root c f a)

-- what holds of the permitted set and the gains of the rule holds of those that an execve gives
of_made :
    (P : Caps → Gains → Type 0) (c : Credential) (f : File) (chain : List ℕ) (e : Executed)
    (m : IsMade c f chain e) → P (perm_after c f m.attr) (gains_of c f m.attr)
    → P e.cred.perm e.gains
unfolding after_exec
of_made P c f chain e m holds =
    subst (P e.cred.perm) m.gains
    (subst (λ p. P p (gains_of c f m.attr)) (ap (λ d. d.perm) m.cred) holds)

pub gains_are_what_is_gained : GainsAreWhatIsGained
gains_are_what_is_gained c f chain e same =
    let m = made c f chain e same in
    of_made (AreGains c.perm) c f chain e m (gains-are c f m.attr)

-- ---- no_new_privs

limited-within : (c : Credential) (s : Caps) → c.nnp ≡ true → IsWithin (limited c s) c.perm
limited-within c s set =
    subst (λ b. IsWithin (if b then meet s c.perm else s) c.perm) (sym set) (meet-right s c.perm)

-- of no set the parts are none
nothing :
    (p q given : Caps) (b : Bool) → IsWithin p q
    → GainsNothing q p
    (if b then all_by_root (less p q) else in_parts (less p q) (meet (less p q) given))
nothing p q given true within =
    record { permitted = within; file = refl; inherit = refl; root = less-within p q within }
nothing p q given false within =
    let n = less p q in
    let none : n ≡ empty = less-within p q within in
    record {
      permitted = within;
      file = ap (λ s. meet s given) none ∙ empty-within given;
      inherit = ap (λ s. less s (meet n given)) none ∙ less-empty (meet n given);
      root = refl;
    }

gains-nothing :
    (c : Credential) (f : File) (a : Option Attribute)
    → IsWithin (perm_after c f a) c.perm
    → GainsNothing c.perm (perm_after c f a) (gains_of c f a)
unfolding gains_of
gains-nothing c f a within =
    let given = meet (sets_of a).perm c.bound in
    nothing (perm_after c f a) c.perm given (is_by_root c f a) within

pub no_new_privs_gains_nothing : NoNewPrivsGainsNothing
no_new_privs_gains_nothing c f chain e same set =
    let m = made c f chain e same in
    let given = given_by c (sets_taken c f m.attr) in
    let within = limited-within c (union given (amb_after c f m.attr)) set in
    of_made (GainsNothing c.perm) c f chain e m (gains-nothing c f m.attr within)

-- ---- the ambient set

after-amb :
    (c : Credential) (f : File) (a : Option Attribute) (b : Bool) → is_privileged c f a ≡ b
    → (after_exec c f a).amb ≡ (if b then empty else c.amb)
unfolding after_exec
after-amb c f a b is = ap (λ p. if p then empty else c.amb) is

-- the attribute that is read is one
same-ok :
    (r : Result (Option Attribute) NoExec) (a b : Option Attribute) → r ≡ Ok a → r ≡ Ok b → b ≡ a
same-ok r a b one other = cc

ambient :
    (c : Credential) (f : File) (chain : List ℕ) (e : Executed) (a : Option Attribute) (b : Bool)
    → IsMade c f chain e → attribute_for c f chain ≡ Ok a → is_privileged c f a ≡ b
    → e.cred.amb ≡ (if b then empty else c.amb)
ambient c f chain e a b m read is =
    let one = same-ok (attribute_for c f chain) a m.attr read m.read in
    ap (λ d. d.amb) (sym m.cred) ∙
    ap (λ x. (after_exec c f x).amb) one ∙
    after-amb c f a b is

pub plain_files_keep_ambient : PlainFilesKeepAmbient
plain_files_keep_ambient c f chain e same a read is =
    ambient c f chain e a false (made c f chain e same) read is

pub privileged_files_empty_ambient : PrivilegedFilesEmptyAmbient
privileged_files_empty_ambient c f chain e same a read is =
    ambient c f chain e a true (made c f chain e same) read is

-- ---- what stays

keeps-sets :
    (c : Credential) (f : File) (a : Option Attribute) → KeepsSets c (after_exec c f a)
unfolding after_exec
keeps-sets c f a = record { inheritable = refl; bounding = refl }

pub inheritable_and_bounding_stay : InheritableAndBoundingStay
inheritable_and_bounding_stay c f chain e same =
    let m = made c f chain e same in subst (KeepsSets c) m.cred (keeps-sets c f m.attr)

keeps-bits :
    (c : Credential) (f : File) (a : Option Attribute)
    → SetsFlag c.bits (after_exec c f a).bits KeepCaps false
unfolding after_exec
keeps-bits c f a = sets_flag c.bits KeepCaps false

pub other_securebits_stay : OtherSecurebitsStay
other_securebits_stay c f chain e same =
    let m = made c f chain e same in
    subst (λ d. SetsFlag c.bits d.bits KeepCaps false) m.cred (keeps-bits c f m.attr)

keeps-identity :
    (c : Credential) (f : File) (a : Option Attribute) → KeepsIdentity c (after_exec c f a)
unfolding after_exec
keeps-identity c f a = record {
  user = refl;
  group = refl;
  groups = refl;
  namespace = refl;
  root = refl;
  no_new_privs = refl;
}

pub real_ids_and_groups_stay : RealIdsAndGroupsStay
real_ids_and_groups_stay c f chain e same =
    let m = made c f chain e same in subst (KeepsIdentity c) m.cred (keeps-identity c f m.attr)
