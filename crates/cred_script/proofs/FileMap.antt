-- What a map from names gives and leaves, as a list of named files.
use Rattle.std.proofs.Common.{◌≡◌, ℕ, zero, ◌+◌, ◌<◌, nat_lt, true, false, not, cond, List, [], ◌∷◌, ◌++◌, length, position, slice_get, Option, None, Some}
use Rattle.std.proofs.Common.{Global, String, string_bytes, refl, sym, ap, ◌∙◌, subst, arith, suc}
use Rattle.std.specs.List.{AllByRecursion, IsDistinct, prefix_len}
use Rattle.std.specs.Map.{keys_of}
use Rattle.std.specs.Str.{bytes_eq}
use Rattle.std.proofs.lemmas.Bool.Decides.{nat_tests}
use Rattle.std.proofs.lemmas.List.{map-append}
use Rattle.std.proofs.lemmas.Option.{slice_get_within}
use Rattle.std.specs.String.{string_eq, string_eq_equiv}
use Rattle.indexmap.specs.IndexMap.{insert_entry}
use Rattle.std.proofs.lemmas.Map.Keys.{IsDistinct-head, IsDistinct-tail}
use Rattle.indexmap.proofs.MapLemmas.{Missing-position, insert_entry-absent}
use Rattle.cred_record.specs.File.{File}
use Rattle.cred_script.specs.Files.{file_place}
use Rattle.cred_script.specs.Kept.{named_file, files_of}

before : (name : List ℕ) (es : List (String Global × File))
    → prefix_len (λ key. not (bytes_eq name (string_bytes key))) (keys_of es) ≡ prefix_len (λ file. not (bytes_eq name file.name)) (files_of es)
before name [] = refl
before name (e ∷ es) = ap (λ (n : ℕ). cond (not (bytes_eq name (string_bytes e.0))) (1 + n) 0) (before name es)

pub lengths : (es : List (String Global × File)) → length (keys_of es) ≡ length (files_of es)
lengths [] = refl
lengths (e ∷ es) = ap suc (lengths es)

-- the place that a name has in the map
pub place_by_name : (name : List ℕ) (es : List (String Global × File))
    → position (λ key. bytes_eq name (string_bytes key)) (keys_of es) ≡ file_place (files_of es) name
place_by_name name es = rw (before name es, lengths es) refl

-- a file of a new name goes last
pub added : (name : String Global) (info : File) (es more : List (String Global × File)) → file_place (files_of es) (string_bytes name) ≡ None
    → more ≡ insert_entry string_eq es name info → files_of more ≡ files_of es ++ named_file (name, info) ∷ []
added name info es more new is =
    let absent = Missing-position (string_eq name) es (place_by_name (string_bytes name) es ∙ new) in
    ap files_of (is ∙ insert_entry-absent string_eq name info es absent.absent) ∙ map-append named_file es ((name, info) ∷ [])

-- what holds of each key holds of the one at a place
at_place : {K : Type 0} (P : K → Type 0) (ks : List K) (i : ℕ) (k : K) → AllByRecursion P ks → slice_get ks i ≡ Some k → P k
at_place P [] i k all is = absurd (cc)
at_place P (x ∷ xs) zero k all is = let same : x ≡ k = cc in subst P same all.0
at_place P (x ∷ xs) (suc i) k all is = at_place P xs i k all.1 is

key_at : (es : List (String Global × File)) (i : ℕ) (e : String Global × File) → slice_get es i ≡ Some e → slice_get (keys_of es) i ≡ Some e.0
key_at [] i e is = absurd (cc)
key_at (x ∷ es) zero e is = let same : x ≡ e = cc in ap (λ (y : String Global × File). let o : Option (String Global) = Some y.0 in o) same
key_at (x ∷ es) (suc i) e is = key_at es i e is

-- where no two names are one, an entry is the first of its name
before_own : (es : List (String Global × File)) (i : ℕ) (e : String Global × File) → IsDistinct string_eq (keys_of es) → slice_get es i ≡ Some e
    → prefix_len (λ key. not (string_eq e.0 key)) (keys_of es) ≡ i
before_own [] i e apart is = absurd (cc)
before_own (x ∷ es) zero e apart is =
    let same : x ≡ e = cc in
    let test : string_eq e.0 x.0 ≡ true = subst (λ (y : String Global × File). string_eq e.0 y.0 ≡ true) (sym same) (string_eq_equiv.refl e.0) in
    rw test refl
before_own (x ∷ es) (suc i) e apart is =
    let other : string_eq e.0 x.0 ≡ false
    = string_eq_equiv.symm e.0 x.0
    ∙ at_place (λ key. string_eq x.0 key ≡ false) (keys_of es) i e.0 (IsDistinct-head string_eq x.0 (keys_of es) apart) (key_at es i e is) in
    rw (other, before_own es i e (IsDistinct-tail string_eq x.0 (keys_of es) apart) is) (omega arith)

-- the name of an entry has the entry's place
pub own_place : (es : List (String Global × File)) (i : ℕ) (e : String Global × File) → IsDistinct string_eq (keys_of es) → slice_get es i ≡ Some e
    → file_place (files_of es) (string_bytes e.0) ≡ Some i
own_place es i e apart is =
    let within : i < length (keys_of es) = slice_get_within (keys_of es) i e.0 (key_at es i e is) in
    let test : nat_lt i (length (keys_of es)) ≡ true = grind (arith, nat_tests) in
    sym (place_by_name (string_bytes e.0) es) ∙ rw (before_own es i e apart is, test) refl
