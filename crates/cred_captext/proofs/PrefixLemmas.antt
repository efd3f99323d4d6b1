-- The first bytes of a name, as the code compares them.
use Rattle.std.proofs.Common.{◌≡◌, ◌↔◌, ℕ, ◌+◌, ◌<◌, ◌≤◌, Bool, true, false, IsTrue, List, [], ◌∷◌}
use Rattle.std.proofs.Common.{◌++◌, map, length, take, drop, get_or, slice_get, Some, None, refl}
use Rattle.std.proofs.Common.{sym, ap, ◌∙◌, arith}
use Rattle.std.specs.Char.{to_ascii_lowercase}
use Rattle.std.proofs.lemmas.Bool.{false_from_ne_true, both_ways}
use Rattle.std.proofs.lemmas.List.{take-map, take_more, take_all, take_at, take-take}
use Rattle.std.proofs.lemmas.List.{take-append-drop, drop_more, length_push, length-take}
use Rattle.std.proofs.lemmas.List.{length-take-le, length-map, get_or-take, get_or_push}
use Rattle.std.proofs.lemmas.List.{get_or_default}
use Rattle.std.proofs.lemmas.List.Folds.{list_any_at, list_any_none}
use Rattle.std.proofs.lemmas.Option.{slice_get_within, get_or_from_slice_get, slice_get-get_or}
use Rattle.std.proofs.lemmas.Slice.Eq.{bytes_eq-Decides}
use Rattle.cred_caps.specs.Caps.{IsCap}
use Rattle.cred_captext.specs.Names.{lowercase_names, lowercase_name, cap_of_lowercase_name, begins_with, begins_name}
use Rattle.cred_captext.proofs.NameLemmas.{names-count, in-table, named, unfinished}

-- ---- two tests that hold together

pub same_tests : (r t : Bool) → (r ≡ true → t ≡ true) → (t ≡ true → r ≡ true) → r ≡ t
same_tests true true to back = refl
same_tests false false to back = refl
same_tests true false to back = sym (to refl)
same_tests false true to back = back refl

-- ---- the same first bytes

pub shares : (one other capitals others : List ℕ) (k : ℕ) (r : Bool)
    → map to_ascii_lowercase capitals ≡ one → map to_ascii_lowercase others ≡ other
    → (IsTrue r ↔
    (map to_ascii_lowercase (take k capitals) ≡ map to_ascii_lowercase (take k others)))
    → IsTrue r ↔ (take k other ≡ take k one)
shares one other capitals others k r one_is other_is is =
    let left : map to_ascii_lowercase (take k capitals) ≡ take k one =
    sym (take-map to_ascii_lowercase k capitals) ∙ ap (take k) one_is in
    let right : map to_ascii_lowercase (take k others) ≡ take k other =
    sym (take-map to_ascii_lowercase k others) ∙ ap (take k) other_is in
    (λ holds. sym right ∙ sym (is.0 holds) ∙ left, λ same. is.1 (left ∙ sym same ∙ sym right))

-- ---- whole names

pub whole : (n k : ℕ) (w capitals : List ℕ) → IsCap n → take k (lowercase_name n) ≡ w
    → map to_ascii_lowercase capitals ≡ lowercase_name n → k ≡ length capitals → Some n ≡ cap_of_lowercase_name w
whole n k w capitals cap prefix is end =
    let size : length (lowercase_name n) ≡ length capitals = ap length (sym is)
    ∙ length-map capitals to_ascii_lowercase in
    let all : w ≡ lowercase_name n = sym prefix ∙ take_all k (lowercase_name n) (omega arith) in
    sym (ap cap_of_lowercase_name all ∙ named n cap)

pub part : (n k : ℕ) (w capitals : List ℕ) → IsCap n → take k (lowercase_name n) ≡ w
    → map to_ascii_lowercase capitals ≡ lowercase_name n → k ≤ length (lowercase_name n)
    → (k ≡ length capitals → ⊥) → None ≡ cap_of_lowercase_name w
part n k w capitals cap prefix is within other =
    let size : length (lowercase_name n) ≡ length capitals = ap length (sym is)
    ∙ length-map capitals to_ascii_lowercase in
    let lt : k < length (lowercase_name n) = omega arith in
    let parts : w ++ get_or (lowercase_name n) k 0 ∷ drop (k + 1) (lowercase_name n) ≡ lowercase_name n =
    ap (λ x. x ++ get_or (lowercase_name n) k 0 ∷ drop (k + 1) (lowercase_name n)) (sym prefix)
    ∙ ap (λ x. take k (lowercase_name n) ++ x) (sym (drop_more (lowercase_name n) k 0 lt))
    ∙ take-append-drop k (lowercase_name n) in
    sym (unfinished n (get_or (lowercase_name n) k 0) w (drop (k + 1) (lowercase_name n)) cap parts)

-- ---- a byte more

-- the name begins with w, and the test is of the byte behind it
pub goes-on : (name w : List ℕ) (b k : ℕ) (r : Bool) → length w ≡ k → take k name ≡ w
    → (IsTrue r ↔ (slice_get name k ≡ Some b)) → r ≡ begins_with name (w ++ b ∷ [])
goes-on name w b k r size prefix is =
    let decides = bytes_eq-Decides (take (length (w ++ b ∷ [])) name) (w ++ b ∷ []) in
    let more : length (w ++ b ∷ []) ≡ k + 1 = length_push w b ∙ ap (λ n. n + 1) size in
    same_tests r (begins_with name (w ++ b ∷ []))
    (λ holds.
    let at : slice_get name k ≡ Some b = is.0 holds in
    let within = slice_get_within name k b at in
    decides.1 (ap (λ n. take n name) more ∙ take_more name k 0 within
    ∙ ap (λ x. x ++ get_or name k 0 ∷ []) prefix
    ∙ ap (λ y. w ++ y ∷ []) (get_or_from_slice_get name k b 0 at)))
    (λ holds.
    let same : take (k + 1) name ≡ w ++ b ∷ [] = ap (λ n. take n name) (sym more)
    ∙ decides.0 holds in
    let fits : length (take (k + 1) name) ≡ k + 1 = ap length same ∙ more in
    let cut = length-take (k + 1) name in
    let within : k < length name = omega arith in
    let byte : get_or name k 0 ≡ b =
    sym (get_or-take (k + 1) name k 0 (omega arith)) ∙ ap (λ x. get_or x k 0) same
    ∙ get_or_push w b 0 k size in
    is.1 (slice_get-get_or name k 0 within ∙ ap Some byte))

-- what begins with more begins with w
begins-less : (name w : List ℕ) (b : ℕ) → begins_with name (w ++ b ∷ []) ≡ true
    → take (length w) name ≡ w
begins-less name w b holds =
    let same = (bytes_eq-Decides (take (length (w ++ b ∷ [])) name) (w ++ b ∷ [])).0 holds in
    let le : length w ≤ length (w ++ b ∷ []) = omega (arith, length_push w b) in
    sym (take-take (length w) (length (w ++ b ∷ [])) name le)
    ∙ ap (take (length w)) same ∙ take_at w (b ∷ []) (length w) refl

pub goes-off : (name w : List ℕ) (b k : ℕ) (r : Bool) → length w ≡ k
    → (IsTrue r ↔ (take k name ≡ w)) → r ≡ false → r ≡ begins_with name (w ++ b ∷ [])
goes-off name w b k r size is off =
    off ∙ sym (false_from_ne_true (begins_with name (w ++ b ∷ [])) (λ holds.
    both_ways r off (is.1 (ap (λ n. take n name) (sym size) ∙ begins-less name w b holds))))

-- ---- some name goes on so

pub prefix-size : (n k : ℕ) (w : List ℕ) → take k (lowercase_name n) ≡ w → k ≤ length (lowercase_name n)
    → length w ≡ k
prefix-size n k w prefix within = ap length (sym prefix) ∙ length-take-le k (lowercase_name n) within

-- the bytes of the name that goes on
pub record GoesOn (n k : ℕ) (word : List ℕ) : Type 0 where
  pub prefix : take (k + 1) (lowercase_name n) ≡ word
  pub within : k + 1 ≤ length (lowercase_name n)
  pub begins : begins_name word ≡ true

pub found : (n b k : ℕ) (w : List ℕ) → IsCap n → length w ≡ k
    → begins_with (lowercase_name n) (w ++ b ∷ []) ≡ true → GoesOn n k (w ++ b ∷ [])
found n b k w cap size holds =
    let more : length (w ++ b ∷ []) ≡ k + 1 = length_push w b ∙ ap (λ j. j + 1) size in
    let prefix : take (k + 1) (lowercase_name n) ≡ w ++ b ∷ [] =
    ap (λ j. take j (lowercase_name n)) (sym more)
    ∙ (bytes_eq-Decides (take (length (w ++ b ∷ [])) (lowercase_name n)) (w ++ b ∷ [])).0 holds in
    let cut = length-take (k + 1) (lowercase_name n) in
    let fits : length (take (k + 1) (lowercase_name n)) ≡ k + 1 = ap length prefix ∙ more in
    record {
      prefix = prefix;
      within = omega arith;
      begins = list_any_at (λ name. begins_with name (w ++ b ∷ [])) lowercase_names n []
          (in-table n cap) holds;
    }

pub not-found : (word : List ℕ) → ((k : ℕ) → k < 41 → begins_with (lowercase_name k) word ≡ false)
    → begins_name word ≡ false
not-found word none =
    list_any_none (λ name. begins_with name word) lowercase_names (λ k d within.
    let small : k < 41 = omega (arith, names-count) in
    ap (λ name. begins_with name word) (get_or_default lowercase_names k d [] within) ∙ none k small)
