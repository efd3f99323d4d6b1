-- A credential with other parts, and its words.
use Rattle.std.proofs.Common.{◌≡◌, ℕ, ◌+◌, ◌-◌, ◌*◌, ◌%◌, ◌^◌, ◌<◌, ◌≤◌, List, ◌∷◌, [], length, take, slice_index, Option, Some, None, true, refl, sym, ap, ◌∙◌}
use Rattle.std.proofs.Common.{arith}
use Rattle.std.specs.Prelude.{IfSome}
use Rattle.cred_ids.specs.Groups.{IsGroupList}
use Rattle.cred_ids.specs.Limits.{GROUP_LIMIT}
use Rattle.cred_record.specs.Credential.{Credential, AreValidSets}
use Rattle.cred_record.specs.Words.{pair, flags_word, group_count, are_ids, are_words, credential_in, words_of, IsCredential}
use Rattle.cred_record.specs.declared.layout.TheConstants.{WORDS, INHERITABLE, BOUNDING, FLAGS, NAMESPACE, ROOT, GROUPS}
use Rattle.cred_record.proofs.WordLemmas.{credential-is, credential-test, ids-are, all-groups, AllGroups, at_group, words-are, from_bool-small}
use Rattle.cred_setid.specs.declared.parts.IdParts.{IdParts}
use Rattle.cred_setid.specs.Parts.{with_parts, changed}

-- the three sets have no other bits
pub record AreCaps (own : IdParts) : Type 0 where
  pub perm : own.perm < 2 ^ 41
  pub eff : own.eff < 2 ^ 41
  pub amb : own.amb < 2 ^ 41

with-groups : (c : Credential) (own : IdParts) (gs : List ℕ) → IsCredential c → are_ids own.uid ≡ true → are_ids own.gid ≡ true → AreCaps own
    → AreValidSets own.perm c.inh own.eff own.amb → AllGroups gs → IsCredential (record (with_parts c own) { groups = gs })
with-groups c own gs is uid gid caps valid groups =
    let v = credential-is c is in
    credential-test _ record {
      uid = ids-are own.uid uid;
      gid = ids-are own.gid gid;
      groups = groups;
      sets = record { perm = caps.perm; inh = v.sets.inh; eff = caps.eff; bound = v.sets.bound; amb = caps.amb; valid = valid };
      bits = v.bits;
      ns = v.ns;
      root = v.root;
    }

pub changed-is : (c : Credential) (own : IdParts) (groups : Option (List ℕ)) → IsCredential c → are_ids own.uid ≡ true → are_ids own.gid ≡ true → AreCaps own
    → AreValidSets own.perm c.inh own.eff own.amb → IfSome groups IsGroupList → IsCredential (changed c own groups)
changed-is c own None is uid gid caps valid groups = with-groups c own c.groups is uid gid caps valid (credential-is c is).groups
changed-is c own (Some gs) is uid gid caps valid groups = with-groups c own gs is uid gid caps valid (all-groups gs groups)

-- the word of flags with another number of groups
pub flags-changed : (c : Credential) (own : IdParts) (gs : List ℕ) (n flags : ℕ) → IsCredential c → flags ≡ flags_word c → n ≡ length gs
    → n * 2 ^ 16 + flags % 2 ^ 16 ≡ flags_word (changed c own (Some gs))
flags-changed c own gs n flags is flags_is n_is =
    let bits = (credential-is c is).bits in
    let nnp = from_bool-small c.nnp in
    omega arith

-- the words that are copied
pub record Copied (ws : List ℕ) : Type 0 where
  pub inh : slice_index ws INHERITABLE ≡ (credential_in ws).inh
  pub bound : slice_index ws BOUNDING ≡ (credential_in ws).bound
  pub flags : slice_index ws FLAGS ≡ flags_word (credential_in ws)
  pub ns : slice_index ws NAMESPACE ≡ (credential_in ws).ns
  pub root : slice_index ws ROOT ≡ (credential_in ws).root

flags-there : (c : Credential) → slice_index (words_of c) FLAGS ≡ flags_word c
unfolding words_of
flags-there c = refl

pub copied : (ws : List ℕ) → are_words ws ≡ true → Copied ws
unfolding credential_in
copied ws is = record {
  inh = refl;
  bound = refl;
  flags = ap (λ (xs : List ℕ). slice_index xs FLAGS) (words-are ws is).1 ∙ flags-there (credential_in ws);
  ns = refl;
  root = refl;
}

-- the words before those of groups
pub head-changed : (c : Credential) (own : IdParts) (groups : Option (List ℕ))
    → take GROUPS (words_of (changed c own groups))
    ≡ pair own.uid.real own.uid.effective ∷ pair own.uid.saved own.uid.fs ∷ pair own.gid.real own.gid.effective ∷ pair own.gid.saved own.gid.fs ∷ own.perm
    ∷ c.inh ∷ own.eff ∷ c.bound ∷ own.amb ∷ flags_word (changed c own groups) ∷ c.ns ∷ c.root ∷ []
unfolding words_of
head-changed c own None = refl
head-changed c own (Some gs) = refl

-- the words of groups that are copied
pub group-copied : (ws : List ℕ) (own : IdParts) (i : ℕ) → are_words ws ≡ true → i < WORDS - GROUPS
    → slice_index ws (GROUPS + i) ≡ slice_index (words_of (changed (credential_in ws) own None)) (GROUPS + i)
group-copied ws own i is within =
    ap (λ (xs : List ℕ). slice_index xs (GROUPS + i)) (words-are ws is).1 ∙
    at_group (credential_in ws) i within ∙
    sym (at_group (changed (credential_in ws) own None) i within)

-- the number of groups by the words before those of groups
count-there : (d : Credential) → IsCredential d → group_count (flags_word d) ≡ length d.groups
count-there d is =
    let bits = (credential-is d is).bits in
    let nnp = from_bool-small d.nnp in
    omega arith

pub count-changed : (d : Credential) (first : List ℕ) → IsCredential d → first ≡ take GROUPS (words_of d)
    → (group_count (slice_index first FLAGS) ≡ length d.groups) × (length d.groups ≤ GROUP_LIMIT)
unfolding words_of
count-changed d first is first_is = (
  ap (λ (xs : List ℕ). group_count (slice_index xs FLAGS)) first_is ∙ count-there d is,
  (credential-is d is).groups.few,
)

pub valid-known : (ws : List ℕ) → are_words ws ≡ true
    → AreValidSets (credential_in ws).perm (credential_in ws).inh (credential_in ws).eff (credential_in ws).amb
valid-known ws is = (credential-is (credential_in ws) (words-are ws is).0).sets.valid
