-- Lists of ids that were printed, read back.
use Rattle.std.proofs.Common.{◌≡◌, ℕ, true, List, [], ◌∷◌, ◌++◌, All, map, Ok, refl, ap, decimal}
use Rattle.std.specs.List.{list_all}
use Rattle.std.proofs.lemmas.List.Elements.{All-head, All-tail}
use Rattle.cred_ids.specs.Id.{IsId}
use Rattle.cred_grammar.specs.IdCalls.{ids}
use Rattle.cred_report.specs.Numbers.{ids_text}
use Rattle.cred_reader.proofs.Words.{is_plain, spaced}
use Rattle.cred_reader.proofs.Numbers.{long_number, id_number, id_back, decimal_plain}

pub ids_spaced : (list : List ℕ) → ids_text list ≡ spaced (map decimal list)
ids_spaced [] = refl
ids_spaced (id ∷ list) = ap (λ (text : List ℕ). 32 ∷ (decimal id ++ text)) (ids_spaced list)

pub ids_plain : (list : List ℕ) → All IsId list → list_all is_plain (map decimal list) ≡ true
ids_plain [] fits = refl
ids_plain (id ∷ list) fits =
    rw (decimal_plain id (long_number id (id_number id (All-head IsId id list fits))), ids_plain list (All-tail IsId id list fits)) refl

pub ids_back : (list : List ℕ) → All IsId list → ids (map decimal list) ≡ Ok list
ids_back [] fits = refl
ids_back (id ∷ list) fits =
    rw (id_back id (All-head IsId id list fits), ids_back list (All-tail IsId id list fits)) refl
