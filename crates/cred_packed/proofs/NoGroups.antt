-- The words before those of groups, of a credential that has none.
use Rattle.std.proofs.Common.{◌≡◌, ℕ, List, [], length, take, drop, slice_index, true, refl, sym, ap, ◌∙◌, arith}
use Rattle.std.proofs.lemmas.List.{get_or-take}
use Rattle.cred_record.specs.Credential.{Credential}
use Rattle.cred_record.specs.Words.{are_words, credential_in, group_count, unpaired, words_of, IsCredential}
use Rattle.cred_record.specs.declared.layout.TheConstants.{FLAGS, GROUPS}
use Rattle.cred_record.proofs.HalfWords.{joined}
use Rattle.cred_record.proofs.WordLemmas.{count-is, words-again, words-are, words-test}

pub groups-none : (ws : List ℕ) → group_count (slice_index ws FLAGS) ≡ 0 → (credential_in ws).groups ≡ []
unfolding credential_in
groups-none ws none = ap (λ (n : ℕ). take n (unpaired (drop GROUPS ws))) none

-- they have its number of groups
pub head-count : (ws head : List ℕ) → are_words ws ≡ true → head ≡ take GROUPS ws
    → group_count (slice_index head FLAGS) ≡ length (credential_in ws).groups
head-count ws head are is =
    ap (λ (xs : List ℕ). group_count (slice_index xs FLAGS)) is ∙ ap group_count (get_or-take GROUPS ws FLAGS 0 (omega arith)) ∙ count-is ws are

-- where that is 0, they say all of the credential
pub head-whole : (ws head : List ℕ) → are_words ws ≡ true → head ≡ take GROUPS ws → group_count (slice_index head FLAGS) ≡ 0
    → credential_in head ≡ credential_in ws
head-whole ws head are is none =
    let bare = groups-none head none in
    let count = sym (count-is ws are) ∙ sym (ap group_count (get_or-take GROUPS ws FLAGS 0 (omega arith)))
    ∙ sym (ap (λ (xs : List ℕ). group_count (slice_index xs FLAGS)) is) ∙ none in
    let whole = groups-none ws (count-is ws are ∙ count) in
    (λ k. record (credential_in head) { groups = bare k }) ∙ joined ws head [] is (sym whole)

-- and are its words
pub head-words : (ws head : List ℕ) → are_words ws ≡ true → head ≡ take GROUPS ws → group_count (slice_index head FLAGS) ≡ 0
    → take GROUPS (words_of (credential_in head)) ≡ head
head-words ws head are is none =
    ap (λ c. take GROUPS (words_of c)) (head-whole ws head are is none) ∙ ap (take GROUPS) (sym (words-are ws are).1) ∙ sym is

-- so no other credential has the words of one that has no groups
pub same-head : (c d : Credential) → IsCredential c → IsCredential d → d.groups ≡ [] → take GROUPS (words_of c) ≡ take GROUPS (words_of d) → c ≡ d
same-head c d c_is d_is bare same =
    let ws = words_of c in
    let xs = words_of d in
    let again = words-again d d_is in
    let none = head-count xs (take GROUPS xs) (words-test d d_is) refl ∙ ap (λ (e : Credential). length e.groups) again ∙ ap length bare in
    sym (words-again c c_is) ∙ sym (head-whole ws (take GROUPS xs) (words-test c c_is) (sym same) none)
    ∙ head-whole xs (take GROUPS xs) (words-test d d_is) refl none ∙ again
