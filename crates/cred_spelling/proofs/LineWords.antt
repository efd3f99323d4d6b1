-- The words of a line, read one after another.
use Rattle.std.proofs.Common.{◌≡◌, ◌≢◌, ℕ, zero, suc, ◌-◌, ◌<◌, ◌≤◌, ◌&&◌, Bool, true, false, not, List, [], ◌∷◌, ◌++◌, length, filter, take, drop, get_or}
use Rattle.std.proofs.Common.{◌==◌, cond, All, refl, sym, subst, ap, ◌∙◌, append_assoc, length-append, arith}
use Rattle.std.specs.List.{list_all, onto_first, slice_split}
use Rattle.std.proofs.lemmas.Bool.Decides.{nat_tests}
use Rattle.std.proofs.lemmas.List.{append-nil, take_rest, take-append-le, take_all}
use Rattle.std.proofs.lemmas.List.Elements.{All-cons}
use Rattle.std.proofs.lemmas.List.Splits.{slice_split_none, slice_split_at}
use Rattle.cred_spelling.specs.Lines.{lines_of, is_printable, is_printable_byte}
use Rattle.cred_spelling.specs.LineWords.{is_word_byte, some_word, Stops}
use Rattle.cred_spelling.specs.Words.{line_words}

both : (a b : Bool) → (a && b) ≡ true → (a ≡ true) × (b ≡ true)
both true b h = (refl, h)
both false b h = absurd (cc)

no_space : (byte : ℕ) → is_word_byte byte ≡ true → (byte == 32) ≡ false
no_space byte is = grind (arith, nat_tests)

printable_byte : (byte : ℕ) → is_word_byte byte ≡ true → is_printable_byte byte ≡ true
printable_byte byte is = grind (arith, nat_tests)

no_end : (byte : ℕ) → is_printable_byte byte ≡ true → (byte == 10) ≡ false
no_end byte is = grind (arith, nat_tests)

unprintable_byte : (byte : ℕ) → is_word_byte byte ≡ false → byte ≢ 32 → is_printable_byte byte ≡ false
unprintable_byte byte inner other = grind (arith, nat_tests)

no_spaces : (word : List ℕ) → list_all is_word_byte word ≡ true → All (λ byte. (byte == 32) ≡ false) word
no_spaces [] h = λ k d inside. absurd (omega arith)
no_spaces (b ∷ bs) h =
    let parts = both (is_word_byte b) _ h in
    All-cons (λ byte. (byte == 32) ≡ false) b bs (no_space b parts.0) (no_spaces bs parts.1)

printable_word : (word : List ℕ) → list_all is_word_byte word ≡ true → is_printable word ≡ true
printable_word [] h = refl
printable_word (b ∷ bs) h =
    let parts = both (is_word_byte b) _ h in
    rw (printable_byte b parts.0, printable_word bs parts.1) refl

printable_both : (a b : List ℕ) → is_printable a ≡ true → is_printable b ≡ true → is_printable (a ++ b) ≡ true
printable_both [] b h k = k
printable_both (x ∷ xs) b h k =
    let parts = both (is_printable_byte x) _ h in
    rw (parts.0, printable_both xs b parts.1 k) refl

kept : (word : List ℕ) (words : List (List ℕ)) → filter (λ w. not (length w == 0)) (word ∷ words) ≡ some_word word ++ filter (λ w. not (length w == 0)) words
kept [] words = refl
kept (b ∷ bs) words = let test : (suc (length bs) == 0) ≡ false = grind (arith, nat_tests) in rw test refl

pub word_before : (bytes word : List ℕ) (end : ℕ) → word ≡ take end bytes → ((k : ℕ) → k < end → is_word_byte (get_or bytes k 0) ≡ true)
    → list_all is_word_byte word ≡ true
word_before bytes word zero is good = rw is refl
word_before [] word (suc end) is good = rw is refl
word_before (b ∷ bs) word (suc end) is good =
    rw is (rw (good 0 (omega arith)) (word_before bs (take end bs) end refl (λ k lt. good (suc k) (omega arith))))

-- a word, a space, and more
word_then : (word tail : List ℕ) → list_all is_word_byte word ≡ true → line_words (word ++ 32 ∷ tail) ≡ some_word word ++ line_words tail
word_then word tail h =
    ap (filter (λ w. not (length w == 0))) (slice_split_at (λ b. b == 32) word 32 tail (no_spaces word h) refl)
    ∙ kept word (slice_split (λ b. b == 32) tail)

-- the last word
word_last : (word : List ℕ) → list_all is_word_byte word ≡ true → line_words word ≡ some_word word
word_last word h =
    ap (filter (λ w. not (length w == 0))) (slice_split_none (λ b. b == 32) word (no_spaces word h))
    ∙ kept word [] ∙ append-nil (some_word word)

-- Words were read up to a place of the line, at which the last of them ends.
pub record IsPast (bytes behind : List ℕ) (words : List (List ℕ)) : Type 0 where
  pub prefix : List ℕ
  pub joined : bytes ≡ prefix ++ behind
  pub printable : is_printable prefix ≡ true
  pub all : line_words prefix ≡ words
  pub more : (tail : List ℕ) → line_words (prefix ++ 32 ∷ tail) ≡ words ++ line_words tail
  pub stops : Stops behind

pub past_first : (bytes word behind : List ℕ) → bytes ≡ word ++ behind → list_all is_word_byte word ≡ true → Stops behind → IsPast bytes behind (some_word word)
past_first bytes word behind joined h stops = record {
  prefix = word;
  joined = joined;
  printable = printable_word word h;
  all = word_last word h;
  more = λ tail. word_then word tail h;
  stops = stops;
}

pub past_next : (bytes rest word behind : List ℕ) (words : List (List ℕ)) → IsPast bytes (32 ∷ rest) words
    → rest ≡ word ++ behind → list_all is_word_byte word ≡ true → Stops behind → IsPast bytes behind (words ++ some_word word)
past_next bytes rest word behind words past is h stops =
    record {
      prefix = past.prefix ++ 32 ∷ word;
      joined = past.joined ∙ ap (λ (r : List ℕ). past.prefix ++ 32 ∷ r) is ∙ sym (append_assoc past.prefix (32 ∷ word) behind);
      printable = printable_both past.prefix (32 ∷ word) past.printable (printable_word word h);
      all = past.more word ∙ ap (λ (w : List (List ℕ)). words ++ w) (word_last word h);
      more = λ tail.
          ap line_words (append_assoc past.prefix (32 ∷ word) (32 ∷ tail))
          ∙ past.more (word ++ 32 ∷ tail)
          ∙ ap (λ (w : List (List ℕ)). words ++ w) (word_then word tail h)
          ∙ sym (append_assoc words (some_word word) (line_words tail));
      stops = stops;
    }

line_then : (prefix after : List ℕ) → is_printable prefix ≡ true → lines_of (prefix ++ 10 ∷ after) ≡ prefix ∷ lines_of after
line_then [] after h = refl
line_then (b ∷ bs) after h =
    let parts = both (is_printable_byte b) _ h in
    rw (no_end b parts.0, line_then bs after parts.1) refl

line_last : (b : ℕ) (bs : List ℕ) → is_printable (b ∷ bs) ≡ true → lines_of (b ∷ bs) ≡ (b ∷ bs) ∷ []
line_last b [] h = let parts = both (is_printable_byte b) _ h in rw (no_end b parts.0) refl
line_last b (c ∷ bs) h =
    let parts = both (is_printable_byte b) _ h in
    rw (no_end b parts.0, line_last c bs parts.1) refl

pub at_first : (behind : List ℕ) (b : ℕ) → 1 ≤ length behind → get_or behind 0 0 ≡ b → behind ≡ b ∷ take (length behind - 1) (drop 1 behind)
at_first [] b some is = absurd (omega arith)
at_first (x ∷ xs) b some is = rw (take_rest (x ∷ xs) 1) (ap (λ (y : ℕ). y ∷ xs) is)

-- the first line is all that there is
pub whole_line : (bytes behind : List ℕ) (words : List (List ℕ)) → 0 < length bytes → length behind < 1 → IsPast bytes behind words
    → lines_of bytes ≡ bytes ∷ lines_of behind
whole_line [] behind words some none past = absurd (omega arith)
whole_line (b ∷ bs) [] words some none past =
    let all : b ∷ bs ≡ past.prefix = past.joined ∙ append-nil past.prefix in
    line_last b bs (subst (λ (l : List ℕ). is_printable l ≡ true) (sym all) past.printable)
whole_line bytes (x ∷ xs) words some none past = absurd (omega arith)

take_prefix : (prefix rest : List ℕ) (n : ℕ) → n ≡ length prefix → take n (prefix ++ rest) ≡ prefix
take_prefix prefix rest n is = grind (arith, take-append-le, take_all)

-- the first line ends with LF
pub ended_line : (bytes behind : List ℕ) (words : List (List ℕ)) → 1 ≤ length behind → get_or behind 0 0 ≡ 10 → IsPast bytes behind words
    → lines_of bytes ≡ take (length bytes - length behind) bytes ∷ lines_of (take (length behind - 1) (drop 1 behind))
ended_line bytes behind words some is past =
    let long = ap length past.joined ∙ length-append past.prefix behind in
    let prefix : take (length bytes - length behind) bytes ≡ past.prefix =
    ap (take (length bytes - length behind)) past.joined ∙ take_prefix past.prefix behind _ (omega arith) in
    let joined = past.joined ∙ ap (λ (l : List ℕ). past.prefix ++ l) (at_first behind 10 some is) in
    rw prefix (ap lines_of joined ∙ line_then past.prefix _ past.printable)

-- what stands before the first line feed is the first line, or a part of it
some_line : (b : ℕ) (texts : List (List ℕ)) (line : List ℕ) (lines : List (List ℕ)) → onto_first b texts ≡ line ∷ lines → is_printable_byte b ≡ false
    → is_printable line ≡ false
some_line b [] line lines is bad = let e : line ≡ b ∷ [] = cc in rw (e, bad) refl
some_line b (l ∷ ls) line lines is bad = let e : line ≡ b ∷ l = cc in rw (e, bad) refl

some_text : (prefix : List ℕ) (b : ℕ) (more : List ℕ) → lines_of (prefix ++ b ∷ more) ≢ []
some_text [] b more is = none (b == 10) (lines_of more) is
  where
    none : (t : Bool) (texts : List (List ℕ)) → cond t ([] ∷ texts) (onto_first b texts) ≢ []
    none true texts is = absurd (cc)
    none false [] is = absurd (cc)
    none false (l ∷ ls) is = absurd (cc)
some_text (x ∷ xs) b more is = none (x == 10) (lines_of (xs ++ b ∷ more)) is
  where
    none : (t : Bool) (texts : List (List ℕ)) → cond t ([] ∷ texts) (onto_first x texts) ≢ []
    none true texts is = absurd (cc)
    none false [] is = absurd (cc)
    none false (l ∷ ls) is = absurd (cc)

more_bytes : (x : ℕ) (texts : List (List ℕ)) (line : List ℕ) (lines : List (List ℕ))
    → ((l : List ℕ) (ls : List (List ℕ)) → texts ≡ l ∷ ls → is_printable l ≡ false)
    → texts ≢ [] → onto_first x texts ≡ line ∷ lines → is_printable line ≡ false
more_bytes x [] line lines next some is = absurd (some refl)
more_bytes x (l ∷ ls) line lines next some is =
    let same : line ≡ x ∷ l = cc in
    rw (same, next l ls refl) (falsely (is_printable_byte x))
  where
    falsely : (t : Bool) → (t && false) ≡ false
    falsely true = refl
    falsely false = refl

-- a byte that isn't printable stands in the first line, where no line ends before it
unprintable : (prefix : List ℕ) (b : ℕ) (more line : List ℕ) (lines : List (List ℕ)) → is_printable prefix ≡ true → is_printable_byte b ≡ false
    → (b == 10) ≡ false
    → lines_of (prefix ++ b ∷ more) ≡ line ∷ lines → is_printable line ≡ false
unprintable [] b more line lines h bad inner is =
    some_line b (lines_of more) line lines (sym (ap (λ (t : Bool). cond t ([] ∷ lines_of more) (onto_first b (lines_of more))) inner) ∙ is) bad
unprintable (x ∷ xs) b more line lines h bad inner is =
    let parts = both (is_printable_byte x) _ h in
    let next : (l : List ℕ) (ls : List (List ℕ)) → lines_of (xs ++ b ∷ more) ≡ l ∷ ls → is_printable l ≡ false
    = λ l ls e. unprintable xs b more l ls parts.1 bad inner e in
    more_bytes x (lines_of (xs ++ b ∷ more)) line lines next (some_text xs b more)
    (sym (ap (λ (t : Bool). cond t ([] ∷ lines_of (xs ++ b ∷ more)) (onto_first x (lines_of (xs ++ b ∷ more)))) (no_end x parts.0)) ∙ is)

-- a byte that isn't printable stands in the first line
pub bad_line : (bytes behind line after : List ℕ) (words : List (List ℕ)) → 1 ≤ length behind → get_or behind 0 0 ≢ 32 → get_or behind 0 0 ≢ 10
    → IsPast bytes behind words → lines_of bytes ≡ line ∷ lines_of after → is_printable line ≡ false
bad_line bytes [] line after words some other ended past is = absurd (omega arith)
bad_line bytes (b ∷ more) line after words some other ended past is =
    let test : (b == 10) ≡ false = grind (arith, nat_tests) in
    unprintable past.prefix b more line (lines_of after) past.printable (unprintable_byte b past.stops other) test (ap lines_of (sym past.joined) ∙ is)
