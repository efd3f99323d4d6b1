-- No two files of a script have one name.
use Rattle.std.proofs.Common.{◌≡◌, ℕ, ◌<◌, ◌==◌, not, nat_lt, Bool, true, false, cond, List, [], ◌∷◌, ◌++◌, length, slice_get, Some, None, refl, sym, ap, ◌∙◌}
use Rattle.std.proofs.Common.{subst, inl, inr, length-append, arith}
use Rattle.std.specs.Prelude.{IsTrue}
use Rattle.std.specs.List.{All, position, prefix_len}
use Rattle.std.specs.Str.{bytes_eq}
use Rattle.std.proofs.lemmas.Bool.{cases_lt}
use Rattle.std.proofs.lemmas.Bool.Decides.{nat_tests}
use Rattle.std.proofs.lemmas.List.Elements.{All-nil, All-push}
use Rattle.std.proofs.lemmas.List.Folds.{prefix_len-append}
use Rattle.std.proofs.lemmas.List.Sums.{prefix_len-le-length}
use Rattle.std.proofs.lemmas.Option.{slice_get_within}
use Rattle.cred_model.proofs.Lists.{All-at, slice_get_at, slice_get-left, slice_get-last}
use Rattle.cred_model.specs.Script.{NamedFile, Script}
use Rattle.cred_spelling.specs.Spellings.{is_name}
use Rattle.cred_script.specs.Files.{file_place}
use Rattle.cred_report.specs.Questions.{file_text, name_text}
use Rattle.cred_reader.specs.Fits.{IsFile}

-- ---- places in lists

-- what is found in a list is found there in a longer one
found_still : {A : Type 0} (p : A → Bool) (xs ys : List A) (k : ℕ) → position p xs ≡ Some k → position p (xs ++ ys) ≡ Some k
found_still p xs ys k is = by (nat_lt (prefix_len (λ x. not (p x)) xs) (length xs)) refl is
  where
    by : (b : Bool) → nat_lt (prefix_len (λ x. not (p x)) xs) (length xs) ≡ b → cond b (Some (prefix_len (λ x. not (p x)) xs)) None ≡ Some k
        → position p (xs ++ ys) ≡ Some k
    by true test is =
        let here : prefix_len (λ x. not (p x)) xs ≡ k = cc in
        let below : prefix_len (λ x. not (p x)) xs < length xs = grind (arith, nat_tests) in
        let other : (prefix_len (λ x. not (p x)) xs == length xs) ≡ false = grind (arith, nat_tests) in
        let after : prefix_len (λ x. not (p x)) (xs ++ ys) ≡ prefix_len (λ x. not (p x)) xs = prefix_len-append (λ x. not (p x)) xs ys ∙ rw other refl in
        let within : nat_lt (prefix_len (λ x. not (p x)) xs) (length (xs ++ ys)) ≡ true = let long = length-append xs ys in grind (arith, nat_tests) in
        rw (after, within) (ap (λ n. Some n) here)
    by false test is = absurd (cc)

-- what isn't found in a list, and passes, is found at its end
found_last : {A : Type 0} (p : A → Bool) (xs : List A) (x : A) → position p xs ≡ None → p x ≡ true → position p (xs ++ x ∷ []) ≡ Some (length xs)
found_last p xs x none passes = by (nat_lt (prefix_len (λ x. not (p x)) xs) (length xs)) refl none
  where
    by : (b : Bool) → nat_lt (prefix_len (λ x. not (p x)) xs) (length xs) ≡ b → cond b (Some (prefix_len (λ x. not (p x)) xs)) None ≡ None
        → position p (xs ++ x ∷ []) ≡ Some (length xs)
    by true test is = absurd (cc)
    by false test is =
        let most = prefix_len-le-length (λ x. not (p x)) xs in
        let all : (prefix_len (λ x. not (p x)) xs == length xs) ≡ true = grind (arith, nat_tests) in
        let stop : prefix_len (λ x. not (p x)) (x ∷ []) ≡ 0 = rw passes refl in
        let after : prefix_len (λ x. not (p x)) (xs ++ x ∷ []) ≡ length xs
        = prefix_len-append (λ x. not (p x)) xs (x ∷ []) ∙ rw (all, stop) (omega arith) in
        let within : nat_lt (length xs) (length (xs ++ x ∷ [])) ≡ true = let long = length-append xs (x ∷ []) in grind (arith, nat_tests) in
        rw (after, within) refl

-- ---- files

same_bytes : (word : List ℕ) → bytes_eq word word ≡ true
same_bytes [] = refl
same_bytes (b ∷ word) = let same : (b == b) ≡ true = grind (arith, nat_tests) in rw (same, same_bytes word) refl

-- each file has a name, and is the first of it
pub record AreNamed (files : List NamedFile) : Type 0 where
  pub names : All (λ file. IsTrue (is_name file.name)) files
  pub own : (place : ℕ) (file : NamedFile) → slice_get files place ≡ Some file → file_place files file.name ≡ Some place

pub none_named : AreNamed []
none_named = record {
  names = All-nil (λ (file : NamedFile). IsTrue (is_name file.name));
  own = λ place file is. absurd (cc);
}

-- a file more, of a new name
pub named_more : (files : List NamedFile) (file : NamedFile) → AreNamed files → file_place files file.name ≡ None → IsTrue (is_name file.name)
    → AreNamed (files ++ file ∷ [])
named_more files file old new name = record {
  names = All-push (λ (f : NamedFile). IsTrue (is_name f.name)) files file old.names name;
  own = λ place f is.
      elim (cases_lt place (length files)) [
        | inl lt ↦
            found_still (λ (g : NamedFile). bytes_eq f.name g.name) files (file ∷ []) place
            (old.own place f (sym (slice_get-left files (file ∷ []) place lt) ∙ is))
        | inr past ↦
            let within = slice_get_within (files ++ file ∷ []) place f is in
            let long = length-append files (file ∷ []) in
            let last : place ≡ length files = omega (arith, within, long, past) in
            let there : Some file ≡ Some f = sym (slice_get-last files file) ∙ ap (slice_get (files ++ file ∷ [])) (sym last) ∙ is in
            let same : file ≡ f = cc in
            subst (λ (g : NamedFile). file_place (files ++ file ∷ []) g.name ≡ Some place) same
            (found_last (λ (g : NamedFile). bytes_eq file.name g.name) files file new (same_bytes file.name) ∙ ap (λ n. Some n) (sym last))
      ];
}

-- the file of a place is the script's
pub is_file : (script : Script) (place : ℕ) → AreNamed script.files → place < length script.files → IsFile script place
is_file script place named lt =
    let at = slice_get_at script.files place lt in
    let text : file_text script place ≡ at.0.name = ap name_text at.1 in
    record {
      own = ap (file_place script.files) text ∙ named.own place at.0 at.1;
      name = subst (λ name. IsTrue (is_name name)) (sym text) (All-at (λ (f : NamedFile). IsTrue (is_name f.name)) script.files place at.0 at.1 named.names);
    }
