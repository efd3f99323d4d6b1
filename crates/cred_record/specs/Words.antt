-- A credential laid out in words of 64 bits, and what words are a credential's.
use Rattle.std.specs.Prelude.{◌≡◌, ◌==◌, ℕ, zero, suc, ◌+◌, ◌-◌, ◌*◌, ◌/◌, ◌%◌, ◌^◌, Bool, true}
use Rattle.std.specs.Prelude.{◌&&◌, nat_eq, nat_lt, nat_le, List, [], ◌∷◌, length, take, drop}
use Rattle.std.specs.Prelude.{slice_index, if◌then◌else◌}
use Rattle.std.specs.Int.{from_bool}
use Rattle.std.specs.List.{list_all}
use Rattle.std.specs.Cmp.Lexicographic.{pointwise}
use Rattle.cred_ids.specs.declared.id.Ids4.{Ids4}
use Rattle.cred_ids.specs.Id.{NO_ID}
use Rattle.cred_ids.specs.Ordered.{in_order}
use Rattle.cred_ids.specs.Limits.{GROUP_LIMIT}
use Rattle.cred_caps.specs.Caps.{Caps, is_within}
use Rattle.cred_caps.specs.Secure.{LAST_BITS}
use Rattle.cred_record.specs.Credential.{Credential, AreValidSets}
use Rattle.cred_record.specs.declared.layout.TheConstants.{WORDS, USER, SAVED_USER, GROUP}
use Rattle.cred_record.specs.declared.layout.TheConstants.{SAVED_GROUP, PERMITTED, INHERITABLE}
use Rattle.cred_record.specs.declared.layout.TheConstants.{EFFECTIVE, BOUNDING, AMBIENT, FLAGS}
use Rattle.cred_record.specs.declared.layout.TheConstants.{NAMESPACE, ROOT, GROUPS}

-- ---- the layout

-- two numbers in one word: the first in bits 0 to 31, the second in bits 32 to 63
abbrev pub pair : ℕ → ℕ → ℕ
pair low high = high * 2 ^ 32 + low

-- the securebits in bits 0 to 7, as many as `LAST_BITS` has, no_new_privs in bit 8, the number of
-- groups in bits 16 to 31
abbrev pub flags_word : Credential → ℕ
flags_word c = length c.groups * 2 ^ 16 + (from_bool c.nnp * 2 ^ 8 + c.bits)

-- that many words with two groups each, 0 where no group is left
abbrev pub group_words : ℕ → List ℕ → List ℕ
group_words zero gs = []
group_words (suc n) [] = 0 ∷ group_words n []
group_words (suc n) (g ∷ []) = pair g 0 ∷ group_words n []
group_words (suc n) (g ∷ h ∷ gs) = pair g h ∷ group_words n gs

-- the words of a credential, in the order of the places that `layout.rt` names
unfoldable pub words_of : Credential → List ℕ
words_of c =
    pair c.uid.real c.uid.effective ∷
    pair c.uid.saved c.uid.fs ∷
    pair c.gid.real c.gid.effective ∷
    pair c.gid.saved c.gid.fs ∷
    c.perm ∷
    c.inh ∷
    c.eff ∷
    c.bound ∷
    c.amb ∷
    flags_word c ∷
    c.ns ∷
    c.root ∷
    group_words (WORDS - GROUPS) c.groups

-- ---- a credential

-- each is an id
abbrev pub are_ids : Ids4 → Bool
are_ids i =
    nat_lt i.real NO_ID && nat_lt i.effective NO_ID && nat_lt i.saved NO_ID && nat_lt i.fs NO_ID

-- sorted, each an id, and not too many
abbrev pub are_groups : List ℕ → Bool
are_groups gs =
    pointwise nat_eq (in_order gs) gs &&
    list_all (λ g. nat_lt g NO_ID) gs &&
    nat_le (length gs) GROUP_LIMIT

-- no bit above the last capability
abbrev pub is_caps : Caps → Bool
is_caps s = nat_lt s (2 ^ 41)

-- the sets have no other bits, no capability is effective that is not permitted, and none ambient
-- that is not permitted and inheritable
abbrev pub are_sets : Credential → Bool
are_sets c =
    is_caps c.perm &&
    is_caps c.inh &&
    is_caps c.eff &&
    is_caps c.bound &&
    is_caps c.amb &&
    is_within c.eff c.perm &&
    is_within c.amb c.perm &&
    is_within c.amb c.inh

-- the record is a credential's: what every value of `Cred` meets
unfoldable pub is_credential : Credential → Bool
is_credential c =
    are_ids c.uid &&
    are_ids c.gid &&
    are_groups c.groups &&
    are_sets c &&
    nat_le c.bits LAST_BITS &&
    nat_lt c.ns (2 ^ 32) &&
    nat_lt c.root NO_ID

abbrev pub IsCredential : Credential → Type 0
IsCredential c = is_credential c ≡ true

-- ---- words read

-- what is in bits 0 to 31 of a word, and what is above
abbrev pub low : ℕ → ℕ
low word = word % 2 ^ 32

abbrev pub high : ℕ → ℕ
high word = word / 2 ^ 32

-- the four ids in two words
abbrev pub ids_of : ℕ → ℕ → Ids4
ids_of first second = record {
  real = low first;
  effective = high first;
  saved = low second;
  fs = high second;
}

-- the numbers in words that hold two each
abbrev pub unpaired : List ℕ → List ℕ
unpaired [] = []
unpaired (word ∷ words) = low word ∷ high word ∷ unpaired words

-- the number at a place among those in words that hold two each, by the word where it stands
abbrev pub half : ℕ → ℕ → ℕ
half word place = if place % 2 == 0 then low word else high word

-- the number of groups, by the word of flags
abbrev pub group_count : ℕ → ℕ
group_count word = word / 2 ^ 16

-- what stands in the words, at the places of a credential's parts
unfoldable pub credential_in : List ℕ → Credential
credential_in ws = record {
  uid = ids_of (slice_index ws USER) (slice_index ws SAVED_USER);
  gid = ids_of (slice_index ws GROUP) (slice_index ws SAVED_GROUP);
  groups = take (group_count (slice_index ws FLAGS)) (unpaired (drop GROUPS ws));
  perm = slice_index ws PERMITTED;
  inh = slice_index ws INHERITABLE;
  eff = slice_index ws EFFECTIVE;
  bound = slice_index ws BOUNDING;
  amb = slice_index ws AMBIENT;
  bits = slice_index ws FLAGS % 2 ^ 8;
  nnp = (slice_index ws FLAGS / 2 ^ 8 % 2 == 1);
  ns = slice_index ws NAMESPACE;
  root = slice_index ws ROOT;
}

-- the five sets stand in the words, and are those of a credential
pub record AreSetsOf (ws : List ℕ) (perm inh eff bound amb : Caps) : Type 0 where
  pub perm_is : perm ≡ slice_index ws PERMITTED
  pub inh_is : inh ≡ slice_index ws INHERITABLE
  pub eff_is : eff ≡ slice_index ws EFFECTIVE
  pub bound_is : bound ≡ slice_index ws BOUNDING
  pub amb_is : amb ≡ slice_index ws AMBIENT
  pub valid : AreValidSets perm inh eff amb

-- the words are a credential's: what stands in them is a credential, and has these words
unfoldable pub are_words : List ℕ → Bool
are_words ws = is_credential (credential_in ws) && pointwise nat_eq (words_of (credential_in ws)) ws
