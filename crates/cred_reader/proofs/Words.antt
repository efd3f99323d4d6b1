-- Words with a space before each, split again.
use Rattle.std.proofs.Common.{◌≡◌, ℕ, suc, ◌+◌, Bool, true, false, not, ◌&&◌, ◌==◌, nat_lt, Some, List, [], ◌∷◌, ◌++◌, length, filter, position, codes, All}
use Rattle.std.proofs.Common.{refl, ap, ◌∙◌, append_assoc, length-append, arith}
use Rattle.std.specs.List.{list_all, slice_split, position_or_len}
use Rattle.std.proofs.lemmas.Bool.Decides.{nat_tests}
use Rattle.std.proofs.lemmas.List.{append-nil}
use Rattle.std.proofs.lemmas.List.Elements.{All-cons}
use Rattle.std.proofs.lemmas.List.Splits.{slice_split_none, slice_split_at}
use Rattle.cred_spelling.specs.Words.{line_words}
use Rattle.cred_reader.specs.Entry.{is_arrow}

-- a byte that is no space, and none before it, as LF
abbrev pub is_inner : ℕ → Bool
is_inner byte = nat_lt 32 byte

-- a word: some bytes that are no spaces
abbrev pub is_whole : List ℕ → Bool
is_whole [] = false
is_whole (first ∷ rest) = list_all is_inner (first ∷ rest)

-- a word that is no arrow
abbrev pub is_plain : List ℕ → Bool
is_plain [] = false
is_plain (first ∷ rest) = list_all is_inner (first ∷ rest) && not (is_arrow (first ∷ rest))

-- words, with a space before each
abbrev pub spaced : List (List ℕ) → List ℕ
spaced [] = []
spaced (word ∷ words) = 32 ∷ (word ++ spaced words)

pub spaced-append : (ws vs : List (List ℕ)) → spaced (ws ++ vs) ≡ spaced ws ++ spaced vs
spaced-append [] vs = refl
spaced-append (w ∷ ws) vs = rw (spaced-append ws vs) (rw append_assoc refl)

-- both parts of a test
pub both : (a b : Bool) → (a && b) ≡ true → (a ≡ true) × (b ≡ true)
both true b h = (refl, h)
both false b h = absurd (cc)

inner_no_space : (word : List ℕ) → list_all is_inner word ≡ true → All (λ byte. (byte == 32) ≡ false) word
inner_no_space [] h = λ k d inside. absurd (omega arith)
inner_no_space (b ∷ bs) h =
    let parts = both (is_inner b) _ h in
    let other : (b == 32) ≡ false = let inner = parts.0 in grind (arith, nat_tests) in
    All-cons (λ byte. (byte == 32) ≡ false) b bs other (inner_no_space bs parts.1)

pub whole_inner : (word : List ℕ) → is_whole word ≡ true → list_all is_inner word ≡ true
whole_inner [] h = absurd (cc)
whole_inner (b ∷ bs) h = h

pub plain_whole : (word : List ℕ) → is_plain word ≡ true → is_whole word ≡ true
plain_whole [] h = absurd (cc)
plain_whole (b ∷ bs) h = (both (list_all is_inner (b ∷ bs)) _ h).0

pub all_whole : (words : List (List ℕ)) → list_all is_plain words ≡ true → list_all is_whole words ≡ true
all_whole [] h = refl
all_whole (w ∷ ws) h =
    let parts = both (is_plain w) _ h in
    rw (plain_whole w parts.0, all_whole ws parts.1) refl

split_spaced : (w : List ℕ) (ws : List (List ℕ)) → is_whole w ≡ true → list_all is_whole ws ≡ true
    → slice_split (λ b. b == 32) (w ++ spaced ws) ≡ w ∷ ws
split_spaced w [] h hs = rw append-nil (slice_split_none (λ b. b == 32) w (inner_no_space w (whole_inner w h)))
split_spaced w (v ∷ vs) h hs =
    let parts = both (is_whole v) _ hs in
    slice_split_at (λ b. b == 32) w 32 (v ++ spaced vs) (inner_no_space w (whole_inner w h)) refl
    ∙ ap (λ (l : List (List ℕ)). w ∷ l) (split_spaced v vs parts.0 parts.1)

some_bytes : (ws : List (List ℕ)) → list_all is_whole ws ≡ true → filter (λ word. not (length word == 0)) ws ≡ ws
some_bytes [] h = refl
some_bytes ([] ∷ ws) h = absurd (cc)
some_bytes ((b ∷ bs) ∷ ws) h =
    let parts = both (is_whole (b ∷ bs)) _ h in
    let test : (suc (length bs) == 0) ≡ false = grind (arith, nat_tests) in
    rw test (rw (some_bytes ws parts.1) refl)

-- words that are joined by spaces are those that splitting gives
pub words_back : (w : List ℕ) (ws : List (List ℕ)) → is_whole w ≡ true → list_all is_whole ws ≡ true → line_words (w ++ spaced ws) ≡ w ∷ ws
words_back w ws h hs =
    ap (filter (λ word. not (length word == 0))) (split_spaced w ws h hs)
    ∙ some_bytes (w ∷ ws) (rw h hs)

no_arrow : (word : List ℕ) → is_plain word ≡ true → is_arrow word ≡ false
no_arrow [] h = absurd (cc)
no_arrow (b ∷ bs) h = no (is_arrow (b ∷ bs)) (both (list_all is_inner (b ∷ bs)) _ h).1
  where
    no : (t : Bool) → not t ≡ true → t ≡ false
    no true e = absurd (cc)
    no false e = refl

arrow_after : (ws vs : List (List ℕ)) → list_all is_plain ws ≡ true → position_or_len is_arrow (ws ++ (codes "->" ∷ vs)) ≡ length ws
arrow_after [] vs h = refl
arrow_after (w ∷ ws) vs h =
    let parts = both (is_plain w) _ h in
    rw (no_arrow w parts.0) (rw (arrow_after ws vs parts.1) (omega arith))

-- the arrow stands after the words of the event
pub arrow_back : (ws vs : List (List ℕ)) → list_all is_plain ws ≡ true → position is_arrow (ws ++ (codes "->" ∷ vs)) ≡ Some (length ws)
arrow_back ws vs h =
    let place = arrow_after ws vs h in
    let long : length (ws ++ (codes "->" ∷ vs)) ≡ length ws + suc (length vs) = length-append ws (codes "->" ∷ vs) in
    let test : nat_lt (length ws) (length (ws ++ (codes "->" ∷ vs))) ≡ true = grind (arith, nat_tests) in
    rw (place, test) refl
