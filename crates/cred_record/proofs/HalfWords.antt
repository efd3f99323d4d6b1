-- Words read in parts: a half of a word of groups, and the words before those of groups.
use Rattle.std.proofs.Common.{◌≡◌, ℕ, zero, suc, ◌+◌, ◌/◌, ◌%◌, ◌^◌, ◌<◌, ◌≤◌, Bool, true, false, ◌==◌, List, [], take, drop, slice_index, ⊎_elim, refl, sym}
use Rattle.std.proofs.Common.{ap, ◌∙◌, subst, arith}
use Rattle.std.specs.Prelude.{if◌then◌else◌}
use Rattle.std.proofs.lemmas.Bool.{cases_lt, eqb-true, eq-eqb}
use Rattle.std.proofs.lemmas.List.{get_or-drop, get_or-take, drop-take}
use Rattle.cred_ids.specs.Ordered.{in_order}
use Rattle.cred_record.specs.Credential.{Credential}
use Rattle.cred_record.specs.Words.{low, high, half, unpaired, ids_of, group_count, credential_in, IsCredential, are_words}
use Rattle.cred_record.specs.declared.layout.TheConstants.{USER, SAVED_USER, GROUP, SAVED_GROUP, PERMITTED, INHERITABLE, EFFECTIVE, BOUNDING, AMBIENT, FLAGS}
use Rattle.cred_record.specs.declared.layout.TheConstants.{NAMESPACE, ROOT, GROUPS}
use Rattle.cred_record.proofs.WordLemmas.{unpaired-low, unpaired-high, AllGroups, IsValid, credential-is, credential-test, words-are}

-- ---- a half of a word

pub half-even : (word place : ℕ) → place % 2 ≡ 0 → half word place ≡ low word
half-even word place even = ap (λ (b : Bool). if b then low word else high word) (eq-eqb (place % 2) 0 even)

pub half-odd : (word place : ℕ) → 1 ≤ place % 2 → half word place ≡ high word
half-odd word place odd = by (place % 2 == 0) refl
  where
    by : (b : Bool) → (place % 2 == 0) ≡ b → half word place ≡ high word
    by true is = let none = eqb-true (place % 2) 0 is in absurd (omega arith)
    by false is = ap (λ (b : Bool). if b then low word else high word) is

-- the number at a place among those of the words of groups
pub half-at : (ws : List ℕ) (place : ℕ) → half (slice_index ws (GROUPS + place / 2)) place ≡ slice_index (unpaired (drop GROUPS ws)) place
half-at ws place =
    ⊎_elim
    (λ (even : place % 2 < 1). half-even (slice_index ws (GROUPS + place / 2)) place (omega arith) ∙ ap low (sym (get_or-drop GROUPS ws (place / 2) 0))
    ∙ sym (unpaired-low (drop GROUPS ws) (place / 2) place (omega arith)))
    (λ (odd : 1 ≤ place % 2). half-odd (slice_index ws (GROUPS + place / 2)) place odd ∙ ap high (sym (get_or-drop GROUPS ws (place / 2) 0))
    ∙ sym (unpaired-high (drop GROUPS ws) (place / 2) place (omega arith)))
    (cases_lt (place % 2) 1)

-- ---- the words before those of groups

head-at : (ws : List ℕ) (i : ℕ) → i < GROUPS → slice_index (take GROUPS ws) i ≡ slice_index ws i
head-at ws i small = get_or-take GROUPS ws i 0 small

-- they have all but the groups
head-but : (ws gs : List ℕ) → record (credential_in (take GROUPS ws)) { groups = gs } ≡ record (credential_in ws) { groups = gs }
unfolding credential_in
head-but ws gs k = record {
  uid = ids_of (head-at ws USER (omega arith) k) (head-at ws SAVED_USER (omega arith) k);
  gid = ids_of (head-at ws GROUP (omega arith) k) (head-at ws SAVED_GROUP (omega arith) k);
  groups = gs;
  perm = head-at ws PERMITTED (omega arith) k;
  inh = head-at ws INHERITABLE (omega arith) k;
  eff = head-at ws EFFECTIVE (omega arith) k;
  bound = head-at ws BOUNDING (omega arith) k;
  amb = head-at ws AMBIENT (omega arith) k;
  bits = head-at ws FLAGS (omega arith) k % 2 ^ 8;
  nnp = (head-at ws FLAGS (omega arith) k / 2 ^ 8 % 2 == 1);
  ns = head-at ws NAMESPACE (omega arith) k;
  root = head-at ws ROOT (omega arith) k;
}

-- with the groups, they are the credential of the words
pub joined : (ws head gs : List ℕ) → head ≡ take GROUPS ws → gs ≡ (credential_in ws).groups → record (credential_in head) { groups = gs } ≡ credential_in ws
joined ws head gs is same = (λ k. record (credential_in (is k)) { groups = same k }) ∙ head-but ws (credential_in ws).groups

take-none : (n : ℕ) → take {A = ℕ} n [] ≡ []
take-none zero = refl
take-none (suc n) = refl

head-groups : (ws : List ℕ) → (credential_in (take GROUPS ws)).groups ≡ []
unfolding credential_in
head-groups ws =
    let n = group_count (slice_index (take GROUPS ws) FLAGS) in
    ap (λ (xs : List ℕ). take n (unpaired xs)) (drop-take GROUPS 0 ws) ∙ take-none n

no-groups : AllGroups []
unfolding in_order
no-groups = record { ordered = refl; each = tt; few = omega arith }

-- they are a credential's with no groups
pub head-is : (ws : List ℕ) → are_words ws ≡ true → IsCredential (credential_in (take GROUPS ws))
head-is ws is =
    let v = credential-is (credential_in ws) (words-are ws is).0 in
    let gs = (credential_in (take GROUPS ws)).groups in
    let bare : Credential = record (credential_in ws) { groups = gs } in
    let valid : IsValid bare = record {
      uid = v.uid;
      gid = v.gid;
      groups = subst AllGroups (sym (head-groups ws)) no-groups;
      sets = record { perm = v.sets.perm; inh = v.sets.inh; eff = v.sets.eff; bound = v.sets.bound; amb = v.sets.amb; valid = v.sets.valid };
      bits = v.bits;
      ns = v.ns;
      root = v.root;
    } in
    subst IsCredential (sym (head-but ws gs)) (credential-test bare valid)
