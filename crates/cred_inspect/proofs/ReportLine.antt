-- Where the line `report` stands in an input.
use Rattle.std.proofs.Common.{◌≡◌, ℕ, suc, ◌+◌, ◌-◌, ◌<◌, Bool, true, false, cond, ◌==◌, List, [], ◌∷◌, ◌++◌, length, take, drop, map, not, Some, None, ◌||◌}
use Rattle.std.proofs.Common.{refl, sym, ap, ◌∙◌, add-one, append_assoc, length-append, arith}
use Rattle.std.specs.List.{onto_first, concat, list_any, before_first, position_or_len}
use Rattle.std.proofs.lemmas.Bool.Decides.{nat_tests}
use Rattle.std.proofs.lemmas.List.{append-nil, take_at, drop_at, drop-drop}
use Rattle.std.proofs.lemmas.List.Folds.{list_any-append}
use Rattle.std.proofs.lemmas.Slice.Eq.{bytes_eq-Decides}
use Rattle.cred_spelling.specs.Lines.{lines_of}
use Rattle.cred_inspect.specs.Parts.{REPORT, is_report, with_line_feed, before_report, input_parts}

-- what the first line and its LF leave
pub record IsFirst (bytes line : List ℕ) (more : List (List ℕ)) : Type 0 where
  pub more_is : more ≡ lines_of (drop (suc (length line)) bytes)
  pub bytes_are : 0 < length (drop (suc (length line)) bytes) → bytes ≡ with_line_feed line ++ drop (suc (length line)) bytes

some_line : (test : Bool) (b : ℕ) (lines : List (List ℕ)) → (let l : List (List ℕ) = cond test ([] ∷ lines) (onto_first b lines) in l) ≡ [] → ⊥
some_line true b lines none = cc
some_line false b [] none = cc
some_line false b (l ∷ ls) none = cc

no_lines : (bytes : List ℕ) → lines_of bytes ≡ [] → bytes ≡ []
no_lines [] none = refl
no_lines (b ∷ bs) none = absurd (some_line (b == 10) b (lines_of bs) none)

first_is_at : (b : ℕ) (bs line : List ℕ) (more lines : List (List ℕ)) (test : Bool) → (b == 10) ≡ test → lines ≡ lines_of bs
    → ((line : List ℕ) (more : List (List ℕ)) → lines_of bs ≡ line ∷ more → IsFirst bs line more)
    → (lines_of bs ≡ [] → bs ≡ [])
    → (let l : List (List ℕ) = cond test ([] ∷ lines) (onto_first b lines) in l) ≡ line ∷ more → IsFirst (b ∷ bs) line more
first_is_at b bs line more lines true test are below none is =
    let line_is : line ≡ [] = cc in
    let more_is : more ≡ lines_of bs = cc in
    let b_is : b ≡ 10 = grind (arith, nat_tests) in
    rw line_is (record { more_is = more_is; bytes_are = λ some. ap (λ x. x ∷ bs) b_is })
first_is_at b bs line more [] false test are below none is =
    let line_is : line ≡ b ∷ [] = cc in
    let more_is : more ≡ [] = cc in
    let bs_is : bs ≡ [] = none (sym are) in
    rw (line_is, bs_is, more_is) (record { more_is = refl; bytes_are = λ some. absurd (omega arith) })
first_is_at b bs line more (l ∷ ls) false test are below none is =
    let line_is : line ≡ b ∷ l = cc in
    let more_is : more ≡ ls = cc in
    let first : IsFirst bs l ls = below l ls (sym are) in
    rw (line_is, more_is) (record { more_is = first.more_is; bytes_are = λ some. ap (λ z. b ∷ z) (first.bytes_are some) })

pub first_is : (bytes line : List ℕ) (more : List (List ℕ)) → lines_of bytes ≡ line ∷ more → IsFirst bytes line more
first_is [] line more is = absurd cc
first_is (b ∷ bs) line more is = first_is_at b bs line more (lines_of bs) (b == 10) refl refl (first_is bs) (no_lines bs) is

-- The lines that were passed before the rest, and none of them is `report`.
pub record Passed (input rest : List ℕ) : Type 0 where
  pub lines : List (List ℕ)
  pub all : lines_of input ≡ lines ++ lines_of rest
  pub none : list_any is_report lines ≡ false
  pub bytes : 0 < length rest → input ≡ concat (map with_line_feed lines) ++ rest

-- before the first line
pub passed_nothing : (input : List ℕ) → Passed input input
passed_nothing input = record { lines = []; all = refl; none = refl; bytes = λ some. refl }

none_more : (p : List ℕ → Bool) (lines : List (List ℕ)) (line : List ℕ) → list_any p lines ≡ false → p line ≡ false → list_any p (lines ++ line ∷ []) ≡ false
none_more p lines line none other = rw (list_any-append p lines (line ∷ [])) (rw (none, other) refl)

some_more : (p : List ℕ → Bool) (lines : List (List ℕ)) (line : List ℕ) (more : List (List ℕ)) → p line ≡ true → list_any p (lines ++ line ∷ more) ≡ true
some_more p [] line more found = rw found refl
some_more p (l ∷ ls) line more found = rw (some_more p ls line more found) (or_true (p l))
  where
    or_true : (b : Bool) → (b || true) ≡ true
    or_true true = refl
    or_true false = refl

first_at : (b : Bool) (n : ℕ) (l : List ℕ) (ls some : List (List ℕ)) (any : Bool) → (b || any) ≡ false → (any ≡ false → take n some ≡ ls)
    → take (cond (not b) (1 + n) 0) (l ∷ some) ≡ l ∷ ls
first_at true n l ls some any none below = absurd cc
first_at false n l ls some any none below =
    let one : 1 + n ≡ suc n = omega arith in
    rw one (ap (λ z. l ∷ z) (below none))

-- what stands before the first that passes
first_passing : (p : List ℕ → Bool) (lines : List (List ℕ)) (line : List ℕ) (more : List (List ℕ)) → list_any p lines ≡ false → p line ≡ true
    → before_first p (lines ++ line ∷ more) ≡ lines
first_passing p [] line more none found = rw found refl
first_passing p (l ∷ ls) line more none found =
    first_at (p l) (position_or_len p (ls ++ line ∷ more)) l ls (ls ++ line ∷ more) (list_any p ls) none
    (λ below. first_passing p ls line more below found)

bytes_more : (lines : List (List ℕ)) (line : List ℕ)
    → concat (map with_line_feed (lines ++ line ∷ [])) ≡ concat (map with_line_feed lines) ++ with_line_feed line
bytes_more [] line = append-nil (with_line_feed line)
bytes_more (l ∷ ls) line = rw (bytes_more ls line) (sym (append_assoc (with_line_feed l) (concat (map with_line_feed ls)) (with_line_feed line)))

-- one line more was passed
pub passed_line : (input rest line : List ℕ) (more : List (List ℕ)) → Passed input rest → 0 < length rest → lines_of rest ≡ line ∷ more → is_report line ≡ false
    → Passed input (drop (length line + 1) rest)
passed_line input rest line more before some is other =
    let first = first_is rest line more is in
    let left : List ℕ = drop (suc (length line)) rest in
    let all : lines_of input ≡ (before.lines ++ line ∷ []) ++ lines_of left
    = before.all ∙ ap (λ z. before.lines ++ z) (is ∙ ap (λ z. line ∷ z) first.more_is) ∙ sym (append_assoc before.lines (line ∷ []) (lines_of left)) in
    let bytes : 0 < length left → input ≡ concat (map with_line_feed (before.lines ++ line ∷ [])) ++ left
    = λ more_left. rw (bytes_more before.lines line)
    (before.bytes some ∙ ap (λ z. concat (map with_line_feed before.lines) ++ z) (first.bytes_are more_left)
    ∙ sym (append_assoc (concat (map with_line_feed before.lines)) (with_line_feed line) left)) in
    rw add-one (record {
      lines = before.lines ++ line ∷ [];
      all = all;
      none = none_more is_report before.lines line before.none other;
      bytes = bytes;
    })

-- where no line is left, none is `report`
pub passed_all : (input rest : List ℕ) → Passed input rest → length rest ≡ 0 → input_parts input ≡ None
passed_all input [] before over = rw (before.all ∙ append-nil before.lines, before.none) refl
passed_all input (b ∷ bs) before over = absurd (omega arith)

-- What follows a line of the same length, after the bytes before it.
after_at : (prefix rest line : List ℕ) → length line ≡ length REPORT
    → drop (length (prefix ++ with_line_feed REPORT)) (prefix ++ rest) ≡ drop (length line + 1) rest
after_at prefix rest line same =
    let size : length (prefix ++ with_line_feed REPORT) ≡ length prefix + (length line + 1) =
    omega (arith, length-append prefix (with_line_feed REPORT), length-append REPORT (10 ∷ [])) in
    rw size (sym (drop-drop (length line + 1) (length prefix) (prefix ++ rest)) ∙ ap (drop (length line + 1)) (drop_at prefix rest (length prefix) refl))

-- the line is `report`
pub passed_found : (input rest line : List ℕ) (more : List (List ℕ)) → Passed input rest → 0 < length rest → lines_of rest ≡ line ∷ more → is_report line ≡ true
    → input_parts input ≡ Some (take (length input - length rest) input, drop (length line + 1) rest)
passed_found input rest line more before some is found =
    let prefix : List ℕ = concat (map with_line_feed before.lines) in
    let lines : lines_of input ≡ before.lines ++ line ∷ more = before.all ∙ ap (λ z. before.lines ++ z) is in
    let any : list_any is_report (lines_of input) ≡ true = rw lines (some_more is_report before.lines line more found) in
    let prefix_is : before_report input ≡ prefix =
    ap (λ z. concat (map with_line_feed (before_first is_report z))) lines ∙ ap (λ z. concat (map with_line_feed z))
    (first_passing is_report before.lines line more before.none found) in
    let input_is : input ≡ prefix ++ rest = before.bytes some in
    let line_is : line ≡ REPORT = (bytes_eq-Decides line REPORT).0 found in
    let count : length prefix ≡ length input - length rest = omega (arith, ap length input_is, length-append prefix rest) in
    let first : take (length input - length rest) input ≡ prefix = rw (← count) (rw input_is (take_at prefix rest (length prefix) refl)) in
    let after : drop (length (prefix ++ with_line_feed REPORT)) input ≡ drop (length line + 1) rest =
    rw input_is (after_at prefix rest line (ap length line_is)) in
    rw (any, prefix_is, first) (ap (λ z. Some (prefix, z)) after)
