-- The words of a credential give the credential again.
use Rattle.std.proofs.Common.{◌≡◌, ℕ, zero, suc, ◌+◌, ◌-◌, ◌*◌, ◌/◌, ◌%◌, ◌^◌, ◌<◌, ◌≤◌, Bool, true, false, true≢false, ◌&&◌, ◌==◌, nat_eq, nat_lt, List, []}
use Rattle.std.proofs.Common.{◌∷◌, length, take, drop, slice_index, All, refl, sym, ap, ◌∙◌, subst, arith, add-one, bit_and, bit_or, set, ◌++◌}
use Rattle.std.specs.Int.{from_bool}
use Rattle.std.proofs.lemmas.List.{get_or-drop, get_or-take, take_all, take_more, take_more_set}
use Rattle.std.proofs.lemmas.Nat.{and_mask, or_shifted, shl_whole}
use Rattle.std.specs.Prelude.{Option, Some, None, IfNone}
use Rattle.std.specs.List.{list_all, AllByRecursion}
use Rattle.std.specs.Cmp.Derive.{both_true}
use Rattle.std.specs.Cmp.Lexicographic.{pointwise, same_text}
use Rattle.std.proofs.lemmas.Bool.{ltb-true, lt-ltb, leb-true, le-leb, eqb-true, eq-eqb}
use Rattle.std.proofs.lemmas.List.Sorted.{IsPermutation-refl}
use Rattle.cred_ids.specs.declared.id.Ids4.{Ids4}
use Rattle.cred_ids.specs.Id.{NO_ID, IsId}
use Rattle.cred_ids.specs.Groups.{IsGroupList}
use Rattle.cred_ids.specs.Ordered.{in_order}
use Rattle.cred_ids.proofs.InOrder.{in_order-is}
use Rattle.cred_ids.specs.Limits.{GROUP_LIMIT}
use Rattle.cred_caps.specs.Secure.{LAST_BITS}
use Rattle.cred_record.specs.Credential.{Credential, AreValidSets}
use Rattle.cred_record.specs.Words.{pair, low, high, group_words, unpaired, words_of, credential_in, ids_of, group_count, are_ids, are_groups, are_sets}
use Rattle.cred_record.specs.Words.{is_credential, IsCredential, are_words}
use Rattle.cred_record.specs.WordLaws.{NoWordsSpellTwo, WordsAreTested}
use Rattle.cred_record.specs.declared.layout.TheConstants.{WORDS, USER, SAVED_USER, GROUP, SAVED_GROUP, PERMITTED, INHERITABLE, EFFECTIVE, BOUNDING, AMBIENT}
use Rattle.cred_record.specs.declared.layout.TheConstants.{FLAGS, NAMESPACE, ROOT, GROUPS}

-- ---- two numbers in a word

pub low-pair : (a b : ℕ) → a < 2 ^ 32 → low (pair a b) ≡ a
low-pair a b small = omega arith

pub high-pair : (a b : ℕ) → a < 2 ^ 32 → high (pair a b) ≡ b
high-pair a b small = omega arith

-- ---- the words of groups

pub length-group_words : (n : ℕ) (gs : List ℕ) → length (group_words n gs) ≡ n
length-group_words zero gs = refl
length-group_words (suc n) [] = ap suc (length-group_words n [])
length-group_words (suc n) (g ∷ []) = ap suc (length-group_words n [])
length-group_words (suc n) (g ∷ h ∷ gs) = ap suc (length-group_words n gs)

at-twice : (n i j : ℕ) (gs : List ℕ) → i < n → j ≡ 2 * i → slice_index (group_words n gs) i ≡ pair (slice_index gs j) (slice_index gs (suc j))
at-twice zero i j gs small is = absurd (omega arith)
at-twice (suc n) zero zero [] small is = refl
at-twice (suc n) zero zero (g ∷ []) small is = refl
at-twice (suc n) zero zero (g ∷ h ∷ gs) small is = refl
at-twice (suc n) zero (suc j) gs small is = absurd (omega arith)
at-twice (suc n) (suc i) zero gs small is = absurd (omega arith)
at-twice (suc n) (suc i) (suc zero) gs small is = absurd (omega arith)
at-twice (suc n) (suc i) (suc (suc j)) [] small is = at-twice n i j [] (omega arith) (omega arith)
at-twice (suc n) (suc i) (suc (suc j)) (g ∷ []) small is = at-twice n i j [] (omega arith) (omega arith)
at-twice (suc n) (suc i) (suc (suc j)) (g ∷ h ∷ gs) small is = at-twice n i j gs (omega arith) (omega arith)

abbrev AllSmall : List ℕ → Type 0
AllSmall gs = AllByRecursion (λ g. g < 2 ^ 32) gs

pub unpaired-group_words : (n : ℕ) (gs : List ℕ) → length gs ≤ 2 * n → AllSmall gs → take (length gs) (unpaired (group_words n gs)) ≡ gs
unpaired-group_words n [] few small = refl
unpaired-group_words zero (g ∷ gs) few small = absurd (omega arith)
unpaired-group_words (suc n) (g ∷ []) few small = ap (λ x. x ∷ []) (low-pair g 0 small.0)
unpaired-group_words (suc n) (g ∷ h ∷ gs) few small =
    ap (λ x. x ∷ high (pair g h) ∷ take (length gs) (unpaired (group_words n gs))) (low-pair g h small.0) ∙
    ap (λ x. g ∷ x ∷ take (length gs) (unpaired (group_words n gs))) (high-pair g h small.0) ∙
    ap (λ xs. g ∷ h ∷ xs) (unpaired-group_words n gs (omega arith) small.1.1)

-- the words of a credential from the first one of groups on
pub at_group : (c : Credential) (i : ℕ) → i < WORDS - GROUPS
    → slice_index (words_of c) (GROUPS + i) ≡ pair (slice_index c.groups (2 * i)) (slice_index c.groups (2 * i + 1))
unfolding words_of
at_group c i within =
    sym (get_or-drop GROUPS (words_of c) i 0) ∙
    at-twice (WORDS - GROUPS) i (2 * i) c.groups within refl ∙
    ap (λ (k : ℕ). pair (slice_index c.groups (2 * i)) (slice_index c.groups k)) (sym (add-one (2 * i)))

pub length-words_of : (c : Credential) → length (words_of c) ≡ WORDS
unfolding words_of
length-words_of c = omega (arith, length-group_words (WORDS - GROUPS) c.groups)

-- ---- the word of flags

pub or-flags : (count nnp bits : ℕ) → count ≤ GROUP_LIMIT → nnp < 2 → bits ≤ LAST_BITS
    → bit_or (count * 2 ^ 16 % 2 ^ 64) (bit_or (nnp * 2 ^ 8 % 2 ^ 64) bits) ≡ count * 2 ^ 16 + (nnp * 2 ^ 8 + bits)
or-flags count nnp bits few one small =
    ap (λ x. bit_or x (bit_or (nnp * 2 ^ 8 % 2 ^ 64) bits)) (shl_whole count 16 16 64 (omega arith) (omega arith)) ∙
    ap (λ x. bit_or (count * 2 ^ 16) (bit_or x bits)) (shl_whole nnp 1 8 64 (omega arith) (omega arith)) ∙
    ap (λ x. bit_or (count * 2 ^ 16) x) (or_shifted nnp 8 bits (omega arith)) ∙
    or_shifted count 16 (nnp * 2 ^ 8 + bits) (omega arith)

pub from_bool-small : (b : Bool) → from_bool b < 2
from_bool-small true = omega arith
from_bool-small false = omega arith

-- ---- a loop that fills a list, place by place

pub filled : (words ws : List ℕ) (i r : ℕ) → i < length words → i < length ws → take i words ≡ take i ws → r ≡ slice_index ws i
    → take (i + 1) (set words i r) ≡ take (i + 1) ws
filled words ws i r a b same is =
    take_more_set words i r a ∙
    ap (λ l. l ++ r ∷ []) same ∙
    ap (λ x. take i ws ++ x ∷ []) is ∙
    sym (take_more ws i 0 b)

pub whole : (words ws : List ℕ) (i : ℕ) → length words ≤ i → length ws ≤ i → take i words ≡ take i ws → words ≡ ws
whole words ws i a b same = sym (take_all i words a) ∙ same ∙ take_all i ws b

-- ---- what a test of a credential says

both : (a b : Bool) → (a && b) ≡ true → (a ≡ true) × (b ≡ true)
both true b is = (refl, is)
both false b is = absurd (true≢false (sym is))

-- the four numbers are ids
pub record AllIds (i : Ids4) : Type 0 where
  pub real : i.real < NO_ID
  pub effective : i.effective < NO_ID
  pub saved : i.saved < NO_ID
  pub fs : i.fs < NO_ID

pub ids-are : (i : Ids4) → are_ids i ≡ true → AllIds i
ids-are i is =
    let three = both _ _ is in
    let two = both _ _ three.0 in
    let one = both _ _ two.0 in
    record { real = ltb-true _ _ one.0; effective = ltb-true _ _ one.1; saved = ltb-true _ _ two.1; fs = ltb-true _ _ three.1 }

pub ids-test : (i : Ids4) → AllIds i → are_ids i ≡ true
ids-test i h = both_true (both_true (both_true (lt-ltb _ _ h.real) (lt-ltb _ _ h.effective)) (lt-ltb _ _ h.saved)) (lt-ltb _ _ h.fs)

-- the numbers are the groups of a credential
pub record AllGroups (gs : List ℕ) : Type 0 where
  pub ordered : in_order gs ≡ gs
  pub each : AllByRecursion (λ g. g < NO_ID) gs
  pub few : length gs ≤ GROUP_LIMIT

each-are : (gs : List ℕ) → list_all (λ g. nat_lt g NO_ID) gs ≡ true → AllByRecursion (λ g. g < NO_ID) gs
each-are [] is = tt
each-are (g ∷ gs) is = let h = both (nat_lt g NO_ID) (list_all (λ g. nat_lt g NO_ID) gs) is in (ltb-true g NO_ID h.0, each-are gs h.1)

each-test : (gs : List ℕ) → AllByRecursion (λ g. g < NO_ID) gs → list_all (λ g. nat_lt g NO_ID) gs ≡ true
each-test [] h = refl
each-test (g ∷ gs) h = both_true (lt-ltb g NO_ID h.0) (each-test gs h.1)

same : (xs : List ℕ) → pointwise nat_eq xs xs ≡ true
same [] = refl
same (x ∷ xs) = both_true (eq-eqb x x refl) (same xs)

pub groups-are : (gs : List ℕ) → are_groups gs ≡ true → AllGroups gs
groups-are gs is =
    let two = both _ _ is in
    let one = both _ _ two.0 in
    record { ordered = same_text _ _ (sym one.0); each = each-are gs one.1; few = leb-true _ _ two.1 }

pub groups-test : (gs : List ℕ) → AllGroups gs → are_groups gs ≡ true
groups-test gs h =
    both_true (both_true (subst (λ xs. pointwise nat_eq xs gs ≡ true) (sym h.ordered) (same gs)) (each-test gs h.each)) (le-leb _ _ h.few)

-- the sets of a credential
pub record AllSets (c : Credential) : Type 0 where
  pub perm : c.perm < 2 ^ 41
  pub inh : c.inh < 2 ^ 41
  pub eff : c.eff < 2 ^ 41
  pub bound : c.bound < 2 ^ 41
  pub amb : c.amb < 2 ^ 41
  pub valid : AreValidSets c.perm c.inh c.eff c.amb

pub sets-are : (c : Credential) → are_sets c ≡ true → AllSets c
sets-are c is =
    let h7 = both _ _ is in
    let h6 = both _ _ h7.0 in
    let h5 = both _ _ h6.0 in
    let h4 = both _ _ h5.0 in
    let h3 = both _ _ h4.0 in
    let h2 = both _ _ h3.0 in
    let h1 = both _ _ h2.0 in
    record {
      perm = ltb-true _ _ h1.0;
      inh = ltb-true _ _ h1.1;
      eff = ltb-true _ _ h2.1;
      bound = ltb-true _ _ h3.1;
      amb = ltb-true _ _ h4.1;
      valid = record { effective = eqb-true _ _ h5.1; ambient = eqb-true _ _ h6.1; inheritable = eqb-true _ _ h7.1 };
    }

pub sets-test : (c : Credential) → AllSets c → are_sets c ≡ true
sets-test c h =
    both_true
    (both_true
    (both_true (both_true (both_true (both_true (both_true (lt-ltb _ _ h.perm) (lt-ltb _ _ h.inh)) (lt-ltb _ _ h.eff)) (lt-ltb _ _ h.bound)) (lt-ltb _ _ h.amb))
    (eq-eqb _ _ h.valid.effective))
    (eq-eqb _ _ h.valid.ambient))
    (eq-eqb _ _ h.valid.inheritable)

pub record IsValid (c : Credential) : Type 0 where
  pub uid : AllIds c.uid
  pub gid : AllIds c.gid
  pub groups : AllGroups c.groups
  pub sets : AllSets c
  pub bits : c.bits ≤ LAST_BITS
  pub ns : c.ns < 2 ^ 32
  pub root : c.root < NO_ID

pub credential-is : (c : Credential) → IsCredential c → IsValid c
unfolding is_credential
credential-is c is =
    let h6 = both _ _ is in
    let h5 = both _ _ h6.0 in
    let h4 = both _ _ h5.0 in
    let h3 = both _ _ h4.0 in
    let h2 = both _ _ h3.0 in
    let h1 = both _ _ h2.0 in
    record {
      uid = ids-are _ h1.0;
      gid = ids-are _ h1.1;
      groups = groups-are _ h2.1;
      sets = sets-are c h3.1;
      bits = leb-true _ _ h4.1;
      ns = ltb-true _ _ h5.1;
      root = ltb-true _ _ h6.1;
    }

pub credential-test : (c : Credential) → IsValid c → IsCredential c
unfolding is_credential
credential-test c h =
    both_true
    (both_true
    (both_true (both_true (both_true (both_true (ids-test _ h.uid) (ids-test _ h.gid)) (groups-test _ h.groups)) (sets-test c h.sets)) (le-leb _ _ h.bits))
    (lt-ltb _ _ h.ns))
    (lt-ltb _ _ h.root)

-- ---- the words of a credential read again

all_small : (gs : List ℕ) → AllByRecursion (λ g. g < NO_ID) gs → AllSmall gs
all_small [] h = tt
all_small (g ∷ gs) h = (omega (arith, h.0), all_small gs h.1)

ids-again : (i : Ids4) → AllIds i → ids_of (pair i.real i.effective) (pair i.saved i.fs) ≡ i
ids-again i h k = record {
  real = low-pair i.real i.effective (omega (arith, h.real)) k;
  effective = high-pair i.real i.effective (omega (arith, h.real)) k;
  saved = low-pair i.saved i.fs (omega (arith, h.saved)) k;
  fs = high-pair i.saved i.fs (omega (arith, h.saved)) k;
}

bits-again : (n f b : ℕ) → b ≤ LAST_BITS → (n * 2 ^ 16 + (f * 2 ^ 8 + b)) % 2 ^ 8 ≡ b
bits-again n f b small = omega arith

nnp-again : (n b : ℕ) (f : Bool) → b ≤ LAST_BITS → ((n * 2 ^ 16 + (from_bool f * 2 ^ 8 + b)) / 2 ^ 8 % 2 == 1) ≡ f
nnp-again n b true small = let is : (n * 2 ^ 16 + (1 * 2 ^ 8 + b)) / 2 ^ 8 % 2 ≡ 1 = omega arith in eq-eqb _ _ is
nnp-again n b false small = let is : (n * 2 ^ 16 + (0 * 2 ^ 8 + b)) / 2 ^ 8 % 2 ≡ 0 = omega arith in ap (λ k. k == 1) is

count-again : (n f b : ℕ) → f < 2 → b ≤ LAST_BITS → (n * 2 ^ 16 + (f * 2 ^ 8 + b)) / 2 ^ 16 ≡ n
count-again n f b one small = omega arith

pub again : (c : Credential) → IsValid c → credential_in (words_of c) ≡ c
unfolding words_of credential_in
again c h k = record {
  uid = ids-again c.uid h.uid k;
  gid = ids-again c.gid h.gid k;
  groups =
      (ap (λ (n : ℕ). take n (unpaired (group_words (WORDS - GROUPS) c.groups)))
      (count-again (length c.groups) (from_bool c.nnp) c.bits (from_bool-small c.nnp) h.bits) ∙
      unpaired-group_words (WORDS - GROUPS) c.groups (omega (arith, h.groups.few)) (all_small c.groups h.groups.each)) k;
  perm = c.perm;
  inh = c.inh;
  eff = c.eff;
  bound = c.bound;
  amb = c.amb;
  bits = bits-again (length c.groups) (from_bool c.nnp) c.bits h.bits k;
  nnp = nnp-again (length c.groups) c.bits c.nnp h.bits k;
  ns = c.ns;
  root = c.root;
}

pub words-again : (c : Credential) → IsCredential c → credential_in (words_of c) ≡ c
words-again c is = again c (credential-is c is)

-- ---- the test of words

pub words-test : (c : Credential) → IsCredential c → are_words (words_of c) ≡ true
unfolding are_words
words-test c is =
    subst (λ (d : Credential). (is_credential d && pointwise nat_eq (words_of d) (words_of c)) ≡ true) (sym (words-again c is))
    (both_true is (same (words_of c)))

pub words-are : (ws : List ℕ) → are_words ws ≡ true → IsCredential (credential_in ws) × (ws ≡ words_of (credential_in ws))
unfolding are_words
words-are ws is = let h = both _ _ is in (h.0, sym (same_text _ _ (sym h.1)))

pub no_words_spell_two : NoWordsSpellTwo
no_words_spell_two a b is is' one = sym (words-again a is) ∙ ap credential_in one ∙ words-again b is'

pub words_are_tested : WordsAreTested
words_are_tested ws = (
  (λ is. let h = words-are ws is in (credential_in ws, h.0, h.1)),
  (λ h. subst (λ xs. are_words xs ≡ true) (sym h.2) (words-test h.0 h.1)),
)

-- ---- the words of groups read

pub unpaired-low : (ws : List ℕ) (i j : ℕ) → j ≡ 2 * i → slice_index (unpaired ws) j ≡ low (slice_index ws i)
unpaired-low [] i j is = refl
unpaired-low (w ∷ ws) zero zero is = refl
unpaired-low (w ∷ ws) zero (suc j) is = absurd (omega arith)
unpaired-low (w ∷ ws) (suc i) zero is = absurd (omega arith)
unpaired-low (w ∷ ws) (suc i) (suc zero) is = absurd (omega arith)
unpaired-low (w ∷ ws) (suc i) (suc (suc j)) is = unpaired-low ws i j (omega arith)

pub unpaired-high : (ws : List ℕ) (i j : ℕ) → j ≡ 2 * i + 1 → slice_index (unpaired ws) j ≡ high (slice_index ws i)
unpaired-high [] i j is = refl
unpaired-high (w ∷ ws) i zero is = absurd (omega arith)
unpaired-high (w ∷ ws) zero (suc zero) is = refl
unpaired-high (w ∷ ws) zero (suc (suc j)) is = absurd (omega arith)
unpaired-high (w ∷ ws) (suc i) (suc zero) is = absurd (omega arith)
unpaired-high (w ∷ ws) (suc i) (suc (suc j)) is = unpaired-high ws i j (omega arith)

pub length-unpaired : (ws : List ℕ) → length (unpaired ws) ≡ 2 * length ws
length-unpaired [] = refl
length-unpaired (w ∷ ws) = omega (arith, length-unpaired ws)

-- ---- what a test of words says of each word

all-each : (gs : List ℕ) → All IsId gs → AllByRecursion (λ g. g < NO_ID) gs
all-each [] h = tt
all-each (g ∷ gs) h = (h 0 0 (omega arith), all-each gs (λ k d below. h (suc k) d (omega arith)))

pub all-groups : (gs : List ℕ) → IsGroupList gs → AllGroups gs
all-groups gs h = record {
  ordered = sym (in_order-is gs gs (IsPermutation-refl gs) h.ordered);
  each = all-each gs h.each;
  few = h.few;
}

pub each-at : (gs : List ℕ) (k : ℕ) → AllByRecursion (λ g. g < NO_ID) gs → k < length gs → slice_index gs k < NO_ID
each-at [] k h below = absurd (omega arith)
each-at (g ∷ gs) zero h below = h.0
each-at (g ∷ gs) (suc k) h below = each-at gs k h.1 (omega arith)

pub record WordFacts (ws : List ℕ) : Type 0 where
  pub uid : are_ids (ids_of (slice_index ws USER) (slice_index ws SAVED_USER)) ≡ true
  pub gid : are_ids (ids_of (slice_index ws GROUP) (slice_index ws SAVED_GROUP)) ≡ true
  pub perm : slice_index ws PERMITTED < 2 ^ 41
  pub inh : slice_index ws INHERITABLE < 2 ^ 41
  pub eff : slice_index ws EFFECTIVE < 2 ^ 41
  pub bound : slice_index ws BOUNDING < 2 ^ 41
  pub amb : slice_index ws AMBIENT < 2 ^ 41
  pub valid : AreValidSets (slice_index ws PERMITTED) (slice_index ws INHERITABLE) (slice_index ws EFFECTIVE) (slice_index ws AMBIENT)
  pub ns : slice_index ws NAMESPACE < 2 ^ 32
  pub root : slice_index ws ROOT < NO_ID

pub head-facts : (ws : List ℕ) → IsCredential (credential_in ws) → WordFacts ws
unfolding credential_in
head-facts ws is =
    let h = credential-is (credential_in ws) is in
    record {
      uid = ids-test _ h.uid;
      gid = ids-test _ h.gid;
      perm = h.sets.perm;
      inh = h.sets.inh;
      eff = h.sets.eff;
      bound = h.sets.bound;
      amb = h.sets.amb;
      valid = h.sets.valid;
      ns = h.ns;
      root = h.root;
    }

pub word-facts : (ws : List ℕ) → are_words ws ≡ true → WordFacts ws
word-facts ws is = head-facts ws (words-are ws is).0

-- the number of groups that stands in the words
pub count-is : (ws : List ℕ) → are_words ws ≡ true → group_count (slice_index ws FLAGS) ≡ length (credential_in ws).groups
unfolding words_of
count-is ws is =
    let h = words-are ws is in
    let d = credential_in ws in
    let v = credential-is d h.0 in
    ap (λ (xs : List ℕ). group_count (slice_index xs FLAGS)) h.1 ∙ count-again (length d.groups) (from_bool d.nnp) d.bits (from_bool-small d.nnp) v.bits

pub none-is : {T : Type 0} (o : Option T) (ws : List ℕ) → (IsCredential (credential_in ws) → ⊥) → IfNone o (IsCredential (credential_in ws) → ⊥)
none-is None ws p = p
none-is (Some x) ws p = tt

pub last_bit : (n : ℕ) → bit_and n 1 ≡ n % 2
last_bit n = and_mask n 1

-- ---- the groups in words

pub group-at : (ws : List ℕ) (k : ℕ) → are_words ws ≡ true → k < group_count (slice_index ws FLAGS) → slice_index (unpaired (drop GROUPS ws)) k < NO_ID
unfolding credential_in
group-at ws k is below =
    let h = (credential-is (credential_in ws) (words-are ws is).0).groups in
    let n = group_count (slice_index ws FLAGS) in
    let count = count-is ws is in
    let at = each-at (take n (unpaired (drop GROUPS ws))) k h.each (omega arith) in
    subst (λ (g : ℕ). g < NO_ID) (get_or-take n (unpaired (drop GROUPS ws)) k 0 below) at

pub groups-sorted : (ws : List ℕ) (n : ℕ) → are_words ws ≡ true → n ≡ group_count (slice_index ws FLAGS)
    → in_order (take n (unpaired (drop GROUPS ws))) ≡ (credential_in ws).groups
unfolding credential_in
groups-sorted ws n is same =
    ap (λ (m : ℕ). in_order (take m (unpaired (drop GROUPS ws)))) same ∙
    (credential-is (credential_in ws) (words-are ws is).0).groups.ordered

-- no more than a credential has
pub groups-few : (ws : List ℕ) → are_words ws ≡ true → group_count (slice_index ws FLAGS) ≤ GROUP_LIMIT
groups-few ws is =
    let few = (credential-is (credential_in ws) (words-are ws is).0).groups.few in
    omega (arith, count-is ws is)

-- words that are said to be a credential's
pub spelled : (ws : List ℕ) (d : Credential) → IsCredential d → ws ≡ words_of d → (are_words ws ≡ true) × (credential_in ws ≡ d)
spelled ws d is same = (ap are_words same ∙ words-test d is, ap credential_in same ∙ words-again d is)
