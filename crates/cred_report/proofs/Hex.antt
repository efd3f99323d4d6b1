-- Bytes in hexadecimal digits, from the last one.
use Rattle.std.proofs.Common.{◌≡◌, ℕ, ◌/◌, ◌%◌, List, [], ◌∷◌, ◌++◌, length, slice_index, refl, ap, append_assoc}
use Rattle.std.specs.List.{push}
use Rattle.hex.specs.Hex.{lower_digits, encode_with, encode_lower}

encode_push : (bytes : List ℕ) (byte : ℕ)
    → encode_lower (push bytes byte) ≡ encode_lower bytes ++ slice_index lower_digits (byte / 16) ∷ slice_index lower_digits (byte % 16) ∷ []
unfolding encode_with
encode_push [] byte = refl
encode_push (first ∷ bytes) byte =
    ap (λ rest. slice_index lower_digits (first / 16) ∷ slice_index lower_digits (first % 16) ∷ rest) (encode_push bytes byte)

-- the last byte is written before the text
pub last_written : (bytes : List ℕ) (byte : ℕ) (text : List ℕ)
    → encode_lower bytes ++ slice_index lower_digits (byte / 16) ∷ slice_index lower_digits (byte % 16) ∷ text ≡ encode_lower (push bytes byte) ++ text
last_written bytes byte text =
    rw (encode_push bytes byte) (rw append_assoc refl)

-- no byte is left
pub none_left : (bytes text : List ℕ) → length bytes ≡ 0 → encode_lower bytes ++ text ≡ text
unfolding encode_with
none_left [] text none = refl
none_left (byte ∷ bytes) text none = cc
