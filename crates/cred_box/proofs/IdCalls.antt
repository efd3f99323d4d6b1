-- No id call leads out of a tight box, nor setfsuid or setfsgid.
use Rattle.std.proofs.Common.{◌≡◌, Contains, ◌⊎◌, inl, inr, ℕ, ◌==◌, ◌||◌, Bool, true, false, [], ◌∷◌, Result, Ok, Err, if◌then◌else◌, refl, sym, ap, subst, ◌∙◌}
use Rattle.std.proofs.lemmas.Bool.{eqb-true}
use Rattle.std.proofs.lemmas.List.Elements.{All-nil, All-cons, All-contains}
use Rattle.cred_ids.specs.declared.id.Ids4.{Ids4}
use Rattle.cred_ids.specs.Ids4.{all_four}
use Rattle.cred_ids.specs.declared.arg.Arg.{Arg}
use Rattle.cred_ids.specs.declared.arg.Arg.TheVariants.{Keep, Set}
use Rattle.cred_caps.specs.declared.secure.Flag.TheVariants.{NoSetuidFixup, NoRoot}
use Rattle.cred_caps.specs.Caps.{IsWithin}
use Rattle.cred_caps.specs.Numbers.{SETUID}
use Rattle.cred_caps.specs.Secure.{is_set, is_locked}
use Rattle.cred_caps.proofs.SetLaws.{within-trans}
use Rattle.std.specs.List.{list_any}
use Rattle.cred_ids.specs.declared.id.Kind.TheVariants.{User, Group}
use Rattle.cred_rules.specs.SetFs.{fs_after, own_ids}
use Rattle.cred_record.specs.declared.id_call.IdCall.{IdCall}
use Rattle.cred_record.specs.declared.id_call.IdCall.TheVariants.{SetUid, SetEuid, SetReuid, SetResuid, SetGid, SetEgid, SetRegid, SetResgid, SetGroups}
use Rattle.cred_record.specs.declared.refusal.Denial.{Denial}
use Rattle.cred_record.specs.Credential.{Credential, capable}
use Rattle.cred_rules.specs.Fix.{fixed, with_user_ids}
use Rattle.cred_rules.specs.SetId.{three, set_id, after_setuid, after_setreuid, after_setresuid, after_seteuid, for_users, for_groups}
use Rattle.cred_setid.specs.Laws.{AreOwn}
use Rattle.cred_setid.proofs.SetIdLaws as setid
use Rattle.cred_box.specs.Boxes.{is_in, Box, IsIn, IsTight, IdCallsLeaveIn, FsCallsLeaveIn}
use Rattle.cred_box.proofs.Bounds.{has-not, or-cases, or-false}

-- what of a credential an id call doesn't change, and where the filesystem id is
pub record Kept (c d : Credential) : Type 0 where
  pub ns : d.ns ≡ c.ns
  pub root : d.root ≡ c.root
  pub inh : d.inh ≡ c.inh
  pub bound : d.bound ≡ c.bound
  pub nnp : d.nnp ≡ c.nnp
  pub bits_are : d.bits ≡ c.bits

kept-itself : (c : Credential) → Kept c c
kept-itself c = record { ns = refl; root = refl; inh = refl; bound = refl; nnp = refl; bits_are = refl }

with_user_ids-keeps : (c : Credential) (ids : Ids4) → Kept c (with_user_ids c ids)
unfolding with_user_ids
with_user_ids-keeps c ids =
    elim (is_set c.bits NoSetuidFixup) as (λ b. Kept c (if b then record c { uid = ids } else fixed c ids)) [
      | true ↦ record { ns = refl; root = refl; inh = refl; bound = refl; nnp = refl; bits_are = refl }
      | false ↦ record { ns = refl; root = refl; inh = refl; bound = refl; nnp = refl; bits_are = refl }
    ]

for_users-keeps : (c d : Credential) (r : Result Ids4 Denial) → for_users c r ≡ Ok d → Kept c d
for_users-keeps c d (Ok ids) same = let is : with_user_ids c ids ≡ d = cc in subst (Kept c) is (with_user_ids-keeps c ids)
for_users-keeps c d (Err e) same = cc

for_groups-keeps : (c d : Credential) (r : Result Ids4 Denial) → for_groups c r ≡ Ok d → Kept c d
for_groups-keeps c d (Ok ids) same =
    let is : record c { gid = ids } ≡ d = cc in
    subst (Kept c) is (record { ns = refl; root = refl; inh = refl; bound = refl; nnp = refl; bits_are = refl })
for_groups-keeps c d (Err e) same = cc

keeps : (c d : Credential) (call : IdCall) → set_id c call ≡ Ok d → Kept c d
keeps c d (SetUid a) same = for_users-keeps c d _ same
keeps c d (SetEuid a) same = for_users-keeps c d _ same
keeps c d (SetReuid a b) same = for_users-keeps c d _ same
keeps c d (SetResuid a b s) same = for_users-keeps c d _ same
keeps c d (SetGid a) same = for_groups-keeps c d _ same
keeps c d (SetEgid a) same = for_groups-keeps c d _ same
keeps c d (SetRegid a b) same = for_groups-keeps c d _ same
keeps c d (SetResgid a b s) same = for_groups-keeps c d _ same
keeps c d (SetGroups list) same = setid.setgroups-gives (Kept c) c d list (record { ns = refl; root = refl; inh = refl; bound = refl; nnp = refl; bits_are = refl }) same

-- the filesystem id is the effective one
fs-follows : (able : Bool) (ids new : Ids4) (a : Arg) → after_setuid able ids a ≡ Ok new → new.fs ≡ new.effective
unfolding after_setuid
fs-follows able ids new Keep same = cc
fs-follows true ids new (Set n) same = let is : all_four n ≡ new = cc in subst (λ i. i.fs ≡ i.effective) is refl
fs-follows false ids new (Set n) same = setid.permitted-gives (λ i. i.fs ≡ i.effective) _ _ new (λ may. refl) same

fs-follows_re : (able : Bool) (ids new : Ids4) (a b : Arg) → after_setreuid able ids a b ≡ Ok new → new.fs ≡ new.effective
unfolding after_setreuid
fs-follows_re able ids new a b same = setid.permitted-gives (λ i. i.fs ≡ i.effective) _ _ new (λ may. refl) same

fs-follows_res : (able : Bool) (ids new : Ids4) (a b s : Arg) → after_setresuid able ids a b s ≡ Ok new → new.fs ≡ new.effective
unfolding after_setresuid
fs-follows_res able ids new a b s same = setid.permitted-gives (λ i. i.fs ≡ i.effective) _ _ new (λ may. refl) same

fs-follows_e : (able : Bool) (ids new : Ids4) (a : Arg) → after_seteuid able ids a ≡ Ok new → new.fs ≡ new.effective
unfolding after_seteuid
fs-follows_e able ids new Keep same = cc
fs-follows_e able ids new (Set n) same = fs-follows_res able ids new Keep (Set n) Keep same

-- what holds of the three holds of an id that is one of them
one-of : (P : ℕ → Type 0) (ids : Ids4) (n : ℕ) → P ids.real → P ids.effective → P ids.saved → Contains (three ids) n → P n
one-of P ids n real effective saved own =
    All-contains P (three ids) n
    (All-cons P ids.real (ids.effective ∷ ids.saved ∷ []) real (All-cons P ids.effective (ids.saved ∷ []) effective (All-cons P ids.saved [] saved (All-nil P)))) own

-- the filesystem id after a call is the effective one, or the ids are as they were
for_users-follows : (c d : Credential) (r : Result Ids4 Denial) → ((new : Ids4) → r ≡ Ok new → new.fs ≡ new.effective)
    → for_users c r ≡ Ok d → (d.uid.fs ≡ d.uid.effective) ⊎ (d.uid ≡ c.uid)
for_users-follows c d r each same = inl (setid.for_users-gives (λ i. i.fs ≡ i.effective) c d r each same)

for_groups-stay : (c d : Credential) (r : Result Ids4 Denial) → for_groups c r ≡ Ok d → (d.uid.fs ≡ d.uid.effective) ⊎ (d.uid ≡ c.uid)
for_groups-stay c d (Ok ids) same = let is : record c { gid = ids } ≡ d = cc in inr (sym (ap (λ e. e.uid) is))
for_groups-stay c d (Err e) same = cc

follows : (c d : Credential) (call : IdCall) → set_id c call ≡ Ok d → (d.uid.fs ≡ d.uid.effective) ⊎ (d.uid ≡ c.uid)
follows c d (SetUid a) same = for_users-follows c d _ (λ new is. fs-follows (capable c SETUID) c.uid new a is) same
follows c d (SetEuid a) same = for_users-follows c d _ (λ new is. fs-follows_e (capable c SETUID) c.uid new a is) same
follows c d (SetReuid a b) same = for_users-follows c d _ (λ new is. fs-follows_re (capable c SETUID) c.uid new a b is) same
follows c d (SetResuid a b s) same = for_users-follows c d _ (λ new is. fs-follows_res (capable c SETUID) c.uid new a b s is) same
follows c d (SetGid a) same = for_groups-stay c d _ same
follows c d (SetEgid a) same = for_groups-stay c d _ same
follows c d (SetRegid a b) same = for_groups-stay c d _ same
follows c d (SetResgid a b s) same = for_groups-stay c d _ same
follows c d (SetGroups list) same = setid.setgroups-gives (λ e. (e.uid.fs ≡ e.uid.effective) ⊎ (e.uid ≡ c.uid)) c d list (inr refl) same

pub id_calls_leave_in : IdCallsLeaveIn
id_calls_leave_in box c d call tight inside valid same =
    let unable : capable c SETUID ≡ false = has-not c.eff box.perm SETUID (within-trans c.eff c.perm box.perm valid.effective inside.perm) tight.no_setuid in
    let own : AreOwn c.uid d.uid = setid.user_ids_stay_own c d call unable same in
    let kept : Kept c d = keeps c d call same in
    let In : ℕ → Type 0 = λ n. is_in box.users n ≡ true in
    let effective : In d.uid.effective = one-of In c.uid d.uid.effective inside.real inside.effective inside.saved own.effective in
    record {
      ns = kept.ns ∙ inside.ns;
      root = kept.root ∙ inside.root;
      real = one-of In c.uid d.uid.real inside.real inside.effective inside.saved own.real;
      effective = effective;
      saved = one-of In c.uid d.uid.saved inside.real inside.effective inside.saved own.saved;
      fs = elim (follows c d call same) [
        | inl fs ↦ subst (λ n. is_in box.fs n ≡ true) (sym fs) (tight.fs_has d.uid.effective effective)
        | inr stays ↦ subst (λ (i : Ids4). is_in box.fs i.fs ≡ true) (sym stays) inside.fs
      ];
      perm = within-trans d.perm c.perm box.perm (setid.permitted_never_grows c d call same) inside.perm;
      inh = subst (λ s. IsWithin s box.inh) (sym kept.inh) inside.inh;
      bound = subst (λ s. IsWithin s box.bound) (sym kept.bound) inside.bound;
      nnp = λ set. kept.nnp ∙ inside.nnp set;
      noroot = λ free. subst (λ b. is_set b NoRoot ≡ true) (sym kept.bits_are) (inside.noroot free);
      locked = λ free may. subst (λ b. is_locked b NoRoot ≡ true) (sym kept.bits_are) (inside.locked free may);
    }

-- ---- setfsuid, setfsgid

fs-in : (box : Box) (c : Credential) (a : Arg) (able : Bool) → IsTight box → IsIn box c → able ≡ false
    → is_in box.fs (fs_after able c.uid a) ≡ true
fs-in box c Keep able tight inside unable = inside.fs
fs-in box c (Set n) able tight inside unable =
    elim (able || list_any (λ id. id == n) (own_ids c.uid)) as
    (λ b. (able || list_any (λ id. id == n) (own_ids c.uid)) ≡ b → is_in box.fs (if b then n else c.uid.fs) ≡ true) [
      | true ↦ λ may.
          let own : list_any (λ id. id == n) (own_ids c.uid) ≡ true = ap (λ v. v || list_any (λ id. id == n) (own_ids c.uid)) (sym unable) ∙ may in
          let at : (id : ℕ) → is_in box.fs id ≡ true → (id == n) ≡ true → is_in box.fs n ≡ true =
          λ id there same. subst (λ m. is_in box.fs m ≡ true) (eqb-true id n same) there
          in
          elim (or-cases (c.uid.real == n) _ own) [
            | inl is ↦ at c.uid.real (tight.fs_has c.uid.real inside.real) is
            | inr rest ↦ elim (or-cases (c.uid.effective == n) _ rest) [
              | inl is ↦ at c.uid.effective (tight.fs_has c.uid.effective inside.effective) is
              | inr rest ↦ elim (or-cases (c.uid.saved == n) _ rest) [
                | inl is ↦ at c.uid.saved (tight.fs_has c.uid.saved inside.saved) is
                | inr rest ↦ at c.uid.fs inside.fs (or-false (c.uid.fs == n) rest)
              ]
            ]
          ]
      | false ↦ λ may. inside.fs
    ] refl

pub fs_calls_leave_in : FsCallsLeaveIn
fs_calls_leave_in box c User a tight inside valid =
    let unable : capable c SETUID ≡ false = has-not c.eff box.perm SETUID (within-trans c.eff c.perm box.perm valid.effective inside.perm) tight.no_setuid in
    record {
      ns = inside.ns;
      root = inside.root;
      real = inside.real;
      effective = inside.effective;
      saved = inside.saved;
      fs = fs-in box c a (capable c SETUID) tight inside unable;
      perm = inside.perm;
      inh = inside.inh;
      bound = inside.bound;
      nnp = inside.nnp;
      noroot = inside.noroot;
      locked = inside.locked;
    }
fs_calls_leave_in box c Group a tight inside valid = record {
  ns = inside.ns;
  root = inside.root;
  real = inside.real;
  effective = inside.effective;
  saved = inside.saved;
  fs = inside.fs;
  perm = inside.perm;
  inh = inside.inh;
  bound = inside.bound;
  nnp = inside.nnp;
  noroot = inside.noroot;
  locked = inside.locked;
}
