-- Where the arrow stands among words, wherever they lie.
use Rattle.std.proofs.Common.{◌≡◌, ℕ, List, [], ◌∷◌, Bor, length, position, refl}
use Rattle.std.specs.List.{position_or_len}
use Rattle.std.proofs.lemmas.List.{length-map}
use Rattle.cred_spelling.specs.Read.{nows}
use Rattle.cred_reader.specs.Entry.{is_arrow}

arrow_nows : (words : List (Bor (List ℕ))) → position_or_len is_arrow (nows words) ≡ position_or_len (λ (word : Bor (List ℕ)). is_arrow word.now) words
arrow_nows [] = refl
arrow_nows (word ∷ words) = rw (arrow_nows words) refl

pub position_nows : (words : List (Bor (List ℕ))) → position is_arrow (nows words) ≡ position (λ (word : Bor (List ℕ)). is_arrow word.now) words
position_nows words =
    let place = arrow_nows words in
    let long : length (nows words) ≡ length words = length-map words (λ (word : Bor (List ℕ)). word.now) in
    rw (place, long) refl
