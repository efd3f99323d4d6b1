-- The laws of the calls that set ids, by cases on the call.
use Rattle.std.proofs.Common.{◌≡◌, ℕ, ◌==◌, ◌&&◌, ◌||◌, not, nat_lt, length, Bool, true, false, List, [], ◌∷◌, Contains, Result, Ok, Err, if◌then◌else◌, refl}
use Rattle.std.proofs.Common.{sym, ap, subst, ◌∙◌, arith}
use Rattle.std.proofs.lemmas.Bool.{eqb-true}
use Rattle.std.proofs.lemmas.Nat.{and_le_l}
use Rattle.std.proofs.lemmas.Map.Views.{Contains-from_any}
use Rattle.std.proofs.lemmas.List.Elements.{Contains-append_left}
use Rattle.cred_ids.specs.declared.id.Ids4.{Ids4}
use Rattle.cred_ids.specs.declared.arg.Arg.{Arg}
use Rattle.cred_ids.specs.declared.arg.Arg.TheVariants.{Keep, Set}
use Rattle.cred_caps.specs.declared.secure.Flag.TheVariants.{NoSetuidFixup}
use Rattle.cred_ids.specs.Ordered.{in_order}
use Rattle.cred_ids.specs.Limits.{GROUP_LIMIT}
use Rattle.cred_caps.specs.Caps.{Caps, empty, IsWithin}
use Rattle.cred_caps.specs.Numbers.{SETGID}
use Rattle.cred_caps.specs.Secure.{is_set}
use Rattle.cred_caps.proofs.SetLaws.{within_itself}
use Rattle.cred_record.specs.declared.id_call.IdCall.TheVariants.{SetUid, SetEuid, SetReuid, SetResuid, SetGid, SetEgid, SetRegid, SetResgid, SetGroups}
use Rattle.cred_record.specs.declared.refusal.Denial.{Denial}
use Rattle.cred_record.specs.declared.refusal.Denial.TheVariants.{Perm, Invalid}
use Rattle.cred_record.specs.Credential.{Credential, capable}
use Rattle.cred_rules.specs.Fix.{clears_permitted, fixed, with_user_ids}
use Rattle.cred_rules.specs.SetId.{id_or, is_one_of, is_given, is_other, three, permitted, after_setuid, after_setreuid, after_setresuid, after_seteuid}
use Rattle.cred_rules.specs.SetId.{after_setgroups, for_users, for_groups}
use Rattle.cred_setid.specs.Laws.{AreOwn, UserIdsStayOwn, GroupIdsStayOwn, PermittedNeverGrows}

-- ---- the ids of a caller

own-real : (ids : Ids4) → Contains (three ids) ids.real
own-real ids = (0, omega arith, refl)

own-effective : (ids : Ids4) → Contains (three ids) ids.effective
own-effective ids = (1, omega arith, refl)

own-saved : (ids : Ids4) → Contains (three ids) ids.saved
own-saved ids = (2, omega arith, refl)

AreOwn-itself : (ids : Ids4) → AreOwn ids ids
AreOwn-itself ids = record { real = own-real ids; effective = own-effective ids; saved = own-saved ids }

-- an id that passes the test is in the list
Contains-from_test : (ids : List ℕ) (n : ℕ) → is_one_of (Set n) ids ≡ true → Contains ids n
Contains-from_test ids n found = Contains-from_any {eq = λ x y. y == x} (λ x y same. sym (eqb-true y x same)) n ids found

-- an argument that names one of the three, or none, gives one of the three
own-id_or : (ids : Ids4) (a : Arg) (old : ℕ) → Contains (three ids) old → is_one_of a (three ids) ≡ true → Contains (three ids) (id_or a old)
own-id_or ids Keep old own may = own
own-id_or ids (Set n) old own may = Contains-from_test (three ids) n may

-- so does one that names the real or the effective id
own-id_or_two : (ids : Ids4) (a : Arg) → is_one_of a (ids.real ∷ ids.effective ∷ []) ≡ true → Contains (three ids) (id_or a ids.real)
own-id_or_two ids Keep may = own-real ids
own-id_or_two ids (Set n) may =
    Contains-append_left (ids.real ∷ ids.effective ∷ []) (ids.saved ∷ []) n (Contains-from_test (ids.real ∷ ids.effective ∷ []) n may)

own-either : (ids : Ids4) (n : ℕ) → ((ids.real == n) || (ids.saved == n)) ≡ true → Contains (three ids) n
own-either ids n may =
    elim (ids.real == n) as (λ b. (ids.real == n) ≡ b → (b || (ids.saved == n)) ≡ true → Contains (three ids) n) [
      | true ↦ λ is _. subst (Contains (three ids)) (eqb-true ids.real n is) (own-real ids)
      | false ↦ λ _ is. subst (Contains (three ids)) (eqb-true ids.saved n is) (own-saved ids)
    ] refl may

own-if : (ids : Ids4) (b : Bool) (x y : ℕ) → Contains (three ids) x → Contains (three ids) y → Contains (three ids) (if b then x else y)
own-if ids true x y own own' = own
own-if ids false x y own own' = own'

and-left : (a b : Bool) → (a && b) ≡ true → a ≡ true
and-left true b both = refl
and-left false b both = cc

and-right : (a b : Bool) → (a && b) ≡ true → b ≡ true
and-right true b both = both
and-right false b both = cc

-- ---- what a rule gives

-- a fact of the ids that a permitted call gives
pub permitted-gives : (P : Ids4 → Type 0) (may : Bool) (ids new : Ids4) → (may ≡ true → P ids) → permitted may ids ≡ Ok new → P new
permitted-gives P true ids new holds same = let is : ids ≡ new = cc in subst P is (holds refl)
permitted-gives P false ids new holds same = cc

setuid-own : (ids new : Ids4) (a : Arg) → after_setuid false ids a ≡ Ok new → AreOwn ids new
unfolding after_setuid
setuid-own ids new Keep same = cc
setuid-own ids new (Set n) same =
    permitted-gives (AreOwn ids) _ _ new
    (λ may. record { real = own-real ids; effective = own-either ids n may; saved = own-saved ids }) same

setreuid-own : (ids new : Ids4) (real effective : Arg) → after_setreuid false ids real effective ≡ Ok new → AreOwn ids new
unfolding after_setreuid
setreuid-own ids new real effective same =
    permitted-gives (AreOwn ids) _ _ new
    (λ may.
    let e : Contains (three ids) (id_or effective ids.effective) = own-id_or ids effective ids.effective (own-effective ids) (and-right _ _ may) in
    record {
      real = own-id_or_two ids real (and-left _ _ may);
      effective = e;
      saved = own-if ids (is_given real || is_other effective ids.real) _ _ e (own-saved ids);
    })
    same

setresuid-own : (ids new : Ids4) (real effective saved : Arg) → after_setresuid false ids real effective saved ≡ Ok new → AreOwn ids new
unfolding after_setresuid
setresuid-own ids new real effective saved same =
    permitted-gives (AreOwn ids) _ _ new
    (λ may. record {
      real = own-id_or ids real ids.real (own-real ids) (and-left _ _ (and-left _ _ may));
      effective = own-id_or ids effective ids.effective (own-effective ids) (and-right _ _ (and-left _ _ may));
      saved = own-id_or ids saved ids.saved (own-saved ids) (and-right _ _ may);
    })
    same

seteuid-own : (ids new : Ids4) (a : Arg) → after_seteuid false ids a ≡ Ok new → AreOwn ids new
unfolding after_seteuid
seteuid-own ids new Keep same = cc
seteuid-own ids new (Set n) same = setresuid-own ids new Keep (Set n) Keep same

-- ---- from the ids to the credential

with_user_ids-uid : (c : Credential) (ids : Ids4) → (with_user_ids c ids).uid ≡ ids
unfolding with_user_ids
with_user_ids-uid c ids =
    elim (is_set c.bits NoSetuidFixup) as (λ b. (if b then record c { uid = ids } else fixed c ids).uid ≡ ids) [
      | true ↦ refl
      | false ↦ refl
    ]

with_user_ids-gid : (c : Credential) (ids : Ids4) → (with_user_ids c ids).gid ≡ c.gid
unfolding with_user_ids
with_user_ids-gid c ids =
    elim (is_set c.bits NoSetuidFixup) as (λ b. (if b then record c { uid = ids } else fixed c ids).gid ≡ c.gid) [
      | true ↦ refl
      | false ↦ refl
    ]

-- the user ids are those that the rule gave
pub for_users-gives : (P : Ids4 → Type 0) (c d : Credential) (r : Result Ids4 Denial) → ((new : Ids4) → r ≡ Ok new → P new)
    → for_users c r ≡ Ok d → P d.uid
for_users-gives P c d (Ok ids) holds same =
    let is : with_user_ids c ids ≡ d = cc in
    subst P (sym (with_user_ids-uid c ids) ∙ ap (λ e. e.uid) is) (holds ids refl)
for_users-gives P c d (Err e) holds same = cc

for_users-gid : (c d : Credential) (r : Result Ids4 Denial) → for_users c r ≡ Ok d → c.gid ≡ d.gid
for_users-gid c d (Ok ids) same =
    let is : with_user_ids c ids ≡ d = cc in sym (with_user_ids-gid c ids) ∙ ap (λ e. e.gid) is
for_users-gid c d (Err e) same = cc

pub for_groups-gives : (P : Ids4 → Type 0) (c d : Credential) (r : Result Ids4 Denial) → ((new : Ids4) → r ≡ Ok new → P new)
    → for_groups c r ≡ Ok d → P d.gid
for_groups-gives P c d (Ok ids) holds same =
    let is : record c { gid = ids } ≡ d = cc in subst P (ap (λ e. e.gid) is) (holds ids refl)
for_groups-gives P c d (Err e) holds same = cc

for_groups-uid : (c d : Credential) (r : Result Ids4 Denial) → for_groups c r ≡ Ok d → c.uid ≡ d.uid
for_groups-uid c d (Ok ids) same = let is : record c { gid = ids } ≡ d = cc in ap (λ e. e.uid) is
for_groups-uid c d (Err e) same = cc

setgroups-cases : (P : Credential → Type 0) (able many : Bool) (new d : Credential) → P new
    → (if not able then Err Perm else if many then Err Invalid else Ok new) ≡ Ok d → P d
setgroups-cases P false many new d holds same = cc
setgroups-cases P true true new d holds same = cc
setgroups-cases P true false new d holds same = let is : new ≡ d = cc in subst P is holds

-- what setgroups gives is the credential with other groups
pub setgroups-gives : (P : Credential → Type 0) (c d : Credential) (list : List ℕ) → P (record c { groups = in_order list }) → after_setgroups c list ≡ Ok d
    → P d
unfolding after_setgroups
setgroups-gives P c d list holds same =
    setgroups-cases P (capable c SETGID) (nat_lt GROUP_LIMIT (length list)) (record c { groups = in_order list }) d holds same

-- ---- the laws

pub user_ids_stay_own : UserIdsStayOwn
user_ids_stay_own c d (SetUid a) without same =
    for_users-gives (AreOwn c.uid) c d _ (λ new is. setuid-own c.uid new a (ap (λ able. after_setuid able c.uid a) (sym without) ∙ is)) same
user_ids_stay_own c d (SetEuid a) without same =
    for_users-gives (AreOwn c.uid) c d _ (λ new is. seteuid-own c.uid new a (ap (λ able. after_seteuid able c.uid a) (sym without) ∙ is)) same
user_ids_stay_own c d (SetReuid a b) without same =
    for_users-gives (AreOwn c.uid) c d _ (λ new is. setreuid-own c.uid new a b (ap (λ able. after_setreuid able c.uid a b) (sym without) ∙ is)) same
user_ids_stay_own c d (SetResuid a b s) without same =
    for_users-gives (AreOwn c.uid) c d _ (λ new is. setresuid-own c.uid new a b s (ap (λ able. after_setresuid able c.uid a b s) (sym without) ∙ is)) same
user_ids_stay_own c d (SetGid a) without same = subst (AreOwn c.uid) (for_groups-uid c d _ same) (AreOwn-itself c.uid)
user_ids_stay_own c d (SetEgid a) without same = subst (AreOwn c.uid) (for_groups-uid c d _ same) (AreOwn-itself c.uid)
user_ids_stay_own c d (SetRegid a b) without same = subst (AreOwn c.uid) (for_groups-uid c d _ same) (AreOwn-itself c.uid)
user_ids_stay_own c d (SetResgid a b s) without same = subst (AreOwn c.uid) (for_groups-uid c d _ same) (AreOwn-itself c.uid)
user_ids_stay_own c d (SetGroups list) without same = setgroups-gives (λ e. AreOwn c.uid e.uid) c d list (AreOwn-itself c.uid) same

pub group_ids_stay_own : GroupIdsStayOwn
group_ids_stay_own c d (SetUid a) without same = subst (AreOwn c.gid) (for_users-gid c d _ same) (AreOwn-itself c.gid)
group_ids_stay_own c d (SetEuid a) without same = subst (AreOwn c.gid) (for_users-gid c d _ same) (AreOwn-itself c.gid)
group_ids_stay_own c d (SetReuid a b) without same = subst (AreOwn c.gid) (for_users-gid c d _ same) (AreOwn-itself c.gid)
group_ids_stay_own c d (SetResuid a b s) without same = subst (AreOwn c.gid) (for_users-gid c d _ same) (AreOwn-itself c.gid)
group_ids_stay_own c d (SetGid a) without same =
    for_groups-gives (AreOwn c.gid) c d _ (λ new is. setuid-own c.gid new a (ap (λ able. after_setuid able c.gid a) (sym without) ∙ is)) same
group_ids_stay_own c d (SetEgid a) without same =
    for_groups-gives (AreOwn c.gid) c d _ (λ new is. seteuid-own c.gid new a (ap (λ able. after_seteuid able c.gid a) (sym without) ∙ is)) same
group_ids_stay_own c d (SetRegid a b) without same =
    for_groups-gives (AreOwn c.gid) c d _ (λ new is. setreuid-own c.gid new a b (ap (λ able. after_setreuid able c.gid a b) (sym without) ∙ is)) same
group_ids_stay_own c d (SetResgid a b s) without same =
    for_groups-gives (AreOwn c.gid) c d _ (λ new is. setresuid-own c.gid new a b s (ap (λ able. after_setresuid able c.gid a b s) (sym without) ∙ is)) same
group_ids_stay_own c d (SetGroups list) without same = setgroups-gives (λ e. AreOwn c.gid e.gid) c d list (AreOwn-itself c.gid) same

-- ---- the permitted set

within-if : (b : Bool) (s : Caps) → IsWithin (if b then empty else s) s
within-if true s = omega (arith, and_le_l 0 s)
within-if false s = within_itself s

with_user_ids-perm : (c : Credential) (ids : Ids4) → IsWithin (with_user_ids c ids).perm c.perm
unfolding with_user_ids
with_user_ids-perm c ids =
    elim (is_set c.bits NoSetuidFixup) as (λ b. IsWithin (if b then record c { uid = ids } else fixed c ids).perm c.perm) [
      | true ↦ within_itself c.perm
      | false ↦ within-if (clears_permitted c ids) c.perm
    ]

for_users-perm : (c d : Credential) (r : Result Ids4 Denial) → for_users c r ≡ Ok d → IsWithin d.perm c.perm
for_users-perm c d (Ok ids) same =
    let is : with_user_ids c ids ≡ d = cc in subst (λ e. IsWithin e.perm c.perm) is (with_user_ids-perm c ids)
for_users-perm c d (Err e) same = cc

for_groups-perm : (c d : Credential) (r : Result Ids4 Denial) → for_groups c r ≡ Ok d → IsWithin d.perm c.perm
for_groups-perm c d (Ok ids) same =
    let is : record c { gid = ids } ≡ d = cc in subst (λ e. IsWithin e.perm c.perm) is (within_itself c.perm)
for_groups-perm c d (Err e) same = cc

pub permitted_never_grows : PermittedNeverGrows
permitted_never_grows c d (SetUid a) same = for_users-perm c d _ same
permitted_never_grows c d (SetEuid a) same = for_users-perm c d _ same
permitted_never_grows c d (SetReuid a b) same = for_users-perm c d _ same
permitted_never_grows c d (SetResuid a b s) same = for_users-perm c d _ same
permitted_never_grows c d (SetGid a) same = for_groups-perm c d _ same
permitted_never_grows c d (SetEgid a) same = for_groups-perm c d _ same
permitted_never_grows c d (SetRegid a b) same = for_groups-perm c d _ same
permitted_never_grows c d (SetResgid a b s) same = for_groups-perm c d _ same
permitted_never_grows c d (SetGroups list) same = setgroups-gives (λ e. IsWithin e.perm c.perm) c d list (within_itself c.perm) same
