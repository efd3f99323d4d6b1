-- The files of a script up to a place, and the one there.
use Rattle.std.proofs.Common.{◌≡◌, ℕ, zero, suc, ◌<◌, List, [], ◌∷◌, ◌++◌, length, map, take, slice_get, Option, Some, None, refl, sym, ap, ◌∙◌}
use Rattle.std.specs.Option.{option_map}
use Rattle.std.proofs.lemmas.Option.{slice_get-map}
use Rattle.cred_record.specs.File.{File}
use Rattle.cred_model.specs.Script.{NamedFile, Script, inodes_of}
use Rattle.cred_model.proofs.Lists.{slice_get_at}

takes : {X : Type 0} (xs : List X) (k : ℕ) (x : X) → slice_get xs k ≡ Some x → take (suc k) xs ≡ take k xs ++ x ∷ []
takes [] k x is = cc
takes (y ∷ ys) zero x is =
    let same : y ≡ x = cc in
    ap (λ z. z ∷ []) same
takes (y ∷ ys) (suc k) x is = ap (λ zs. y ∷ zs) (takes ys k x is)

-- with the file at the place
pub takes_file : (script : Script) (place : ℕ) (file : File) (found : Option File)
    → found ≡ option_map (λ f. f.info) (slice_get script.files place) → found ≡ Some file
    → take (suc place) (inodes_of script) ≡ take place (inodes_of script) ++ file ∷ []
takes_file script place file found is some =
    takes (inodes_of script) place file
    (slice_get-map (λ (f : NamedFile). f.info) script.files place ∙ sym is ∙ some)

-- there is one before the last
pub none_past : (script : Script) (place : ℕ) (found : Option File)
    → found ≡ option_map (λ f. f.info) (slice_get script.files place) → found ≡ None
    → place < length script.files → ⊥
none_past script place found is none within =
    let at = slice_get_at script.files place within in
    let both : None ≡ Some at.0.info
    = sym none ∙ is ∙ ap (option_map (λ (f : NamedFile). f.info)) at.1 in
    cc
