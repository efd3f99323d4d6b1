-- Words that are 0 past a credential's last group, and the groups of words that are known to be one's.
use Rattle.std.proofs.Common.{◌≡◌, ℕ, zero, suc, ◌+◌, ◌-◌, ◌*◌, ◌<◌, ◌≤◌, true, List, [], ◌∷◌, length, take, drop, replicate, slice_index, set, All, ⊎_elim}
use Rattle.std.proofs.Common.{refl, sym, ◌∙◌, subst, arith}
use Rattle.std.specs.List.{AllByRecursion}
use Rattle.std.specs.List.Sorted.{IsNonDecreasing}
use Rattle.std.proofs.lemmas.Bool.{cases_lt}
use Rattle.std.proofs.lemmas.List.{get_or-set_other}
use Rattle.cred_ids.specs.Id.{NO_ID, IsId}
use Rattle.cred_ids.specs.Groups.{IsGroupList}
use Rattle.cred_ids.proofs.InOrder.{in_order-rises}
use Rattle.cred_record.specs.Credential.{Credential}
use Rattle.cred_record.specs.Words.{pair, unpaired, words_of, credential_in, group_count, are_words}
use Rattle.cred_record.specs.declared.layout.TheConstants.{WORDS, FLAGS, GROUPS}
use Rattle.cred_record.proofs.WordLemmas.{AllGroups, at_group, length-words_of, credential-is, words-are}

abbrev pub Blank : ℕ → List ℕ → Type 0
Blank from ws = (k : ℕ) → from ≤ k → slice_index ws k ≡ 0

pub blank-replicate : (n : ℕ) → Blank 0 (replicate n 0)
blank-replicate zero k from = refl
blank-replicate (suc n) zero from = refl
blank-replicate (suc n) (suc k) from = blank-replicate n k (omega arith)

pub blank-set : (ws : List ℕ) (i r : ℕ) → Blank i ws → Blank (i + 1) (set ws i r)
blank-set ws i r blank k from = get_or-set_other ws i k r 0 (λ same. omega (arith, same)) ∙ blank k (omega arith)

-- two lists that are the same up to a place, and 0 from there on
pub completed : (xs ys : List ℕ) (i : ℕ) → length xs ≡ length ys → take i xs ≡ take i ys → Blank i xs → Blank i ys → xs ≡ ys
completed [] [] i long alike bx by = refl
completed [] (y ∷ ys) i long alike bx by = absurd (omega arith)
completed (x ∷ xs) [] i long alike bx by = absurd (omega arith)
completed (x ∷ xs) (y ∷ ys) zero long alike bx by =
    let head = bx 0 (omega arith) ∙ sym (by 0 (omega arith)) in
    let rest = completed xs ys zero (omega arith) refl (λ n from. bx (suc n) (omega arith)) (λ n from. by (suc n) (omega arith)) in
    (λ k. head k ∷ rest k)
completed (x ∷ xs) (y ∷ ys) (suc i) long alike bx by =
    let head : x ≡ y = cc in
    let more : take i xs ≡ take i ys = cc in
    let rest = completed xs ys i (omega arith) more (λ n from. bx (suc n) (omega arith)) (λ n from. by (suc n) (omega arith)) in
    (λ k. head k ∷ rest k)

pub past : (gs : List ℕ) (k : ℕ) → length gs ≤ k → slice_index gs k ≡ 0
past [] k few = refl
past (g ∷ gs) zero few = absurd (omega arith)
past (g ∷ gs) (suc k) few = past gs k (omega arith)

blank-group : (c : Credential) (i : ℕ) → length c.groups ≤ 2 * i → i < WORDS - GROUPS → slice_index (words_of c) (GROUPS + i) ≡ 0
blank-group c i few within =
    at_group c i within ∙
    (λ j. pair (past c.groups (2 * i) few j) (past c.groups (2 * i + 1) (omega arith) j))

-- the words of a credential past its last group
pub blank-words_of : (c : Credential) (i : ℕ) → length c.groups ≤ 2 * i → Blank (GROUPS + i) (words_of c)
blank-words_of c i few k from =
    ⊎_elim
    (λ (within : k < WORDS).
    let n : ℕ = k - GROUPS in
    let at : GROUPS + n ≡ k = omega arith in
    subst (λ (m : ℕ). slice_index (words_of c) m ≡ 0) at (blank-group c n (omega arith) (omega arith)))
    (λ (out : WORDS ≤ k). let wide = length-words_of c in past (words_of c) k (omega arith))
    (cases_lt k WORDS)

-- ---- the groups of words that are known to be a credential's

each-list : (gs : List ℕ) → AllByRecursion (λ g. g < NO_ID) gs → All IsId gs
each-list [] h k d below = absurd (omega arith)
each-list (g ∷ gs) h zero d below = h.0
each-list (g ∷ gs) h (suc k) d below = each-list gs h.1 k d (omega arith)

pub group-list : (gs : List ℕ) → AllGroups gs → IsGroupList gs
group-list gs h = record {
  ordered = subst IsNonDecreasing h.ordered (in_order-rises gs);
  each = each-list gs h.each;
  few = h.few;
}

pub groups-there : (ws : List ℕ) → take (group_count (slice_index ws FLAGS)) (unpaired (drop GROUPS ws)) ≡ (credential_in ws).groups
unfolding credential_in
groups-there ws = refl

pub groups-listed : (ws : List ℕ) → are_words ws ≡ true → IsGroupList (credential_in ws).groups
groups-listed ws is = group-list _ (credential-is (credential_in ws) (words-are ws is).0).groups
