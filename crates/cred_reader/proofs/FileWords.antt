-- The words of a mode and of the bytes of an attribute spell what fits.
use Rattle.std.proofs.Common.{◌≡◌, ℕ, suc, ◌≤◌, ◌<◌, Bool, true, false, ◌&&◌, nat_le, cond, List, [], ◌∷◌, length, Option, Some, None, Result, Ok, Err, refl}
use Rattle.std.proofs.Common.{arith}
use Rattle.std.specs.List.{All}
use Rattle.std.specs.Option.{IfSome}
use Rattle.std.specs.Result.{result_ok}
use Rattle.std.proofs.lemmas.Bool.Decides.{nat_tests}
use Rattle.std.proofs.lemmas.List.Elements.{All-nil, All-cons}
use Rattle.hex.specs.Hex.{IsBytes, decode_of}
use Rattle.hex.specs.declared.error.FromHexError.{FromHexError}
use Rattle.hex.proofs.HexLemmas.{decode_of-ok}
use Rattle.cred_record.specs.File.{IsMode}
use Rattle.cred_spelling.specs.Spellings as spelling
use Rattle.cred_spelling.specs.Spellings.{without_0x}
use Rattle.cred_grammar.proofs.ModeWords.{mode_is}
use Rattle.cred_reader.specs.Fits.{AreBytes}
use Rattle.cred_reader.proofs.Spelled.{HoldsSome, OfAll}

-- ---- a mode

some_holds : {A : Type 0} (P : A → Type 0) (o : Option A) → IfSome o P → HoldsSome P o
some_holds P (Some x) h = h
some_holds P None h = tt

pub mode_fits : OfAll (λ mode. IsMode mode) spelling.mode_of
mode_fits word = some_holds (λ mode. IsMode mode) (spelling.mode_of word) (mode_is word)

-- ---- an attribute: 2 to 128 hexadecimal digits

all_bytes : (xs : List ℕ) → IsBytes xs → All (λ byte. byte < 256) xs
all_bytes [] h = All-nil (λ byte. byte < 256)
all_bytes (b ∷ xs) h = All-cons (λ byte. byte < 256) b xs (h 0) (all_bytes xs (λ k. h (suc k)))

decoded : (digits : List ℕ) (r : Result (List ℕ) FromHexError) → decode_of digits ≡ r → 2 ≤ length digits → length digits ≤ 128
    → HoldsSome AreBytes (result_ok r)
decoded digits (Err e) is least most = tt
decoded digits (Ok bytes) is least most =
    let read = decode_of-ok digits bytes is in
    let twice = read.2 in
    record {
      some = omega (arith, least, twice);
      few = omega (arith, most, twice);
      each = all_bytes bytes read.3;
    }

sized : (digits : List ℕ) (a b : Bool) → nat_le 2 (length digits) ≡ a → nat_le (length digits) 128 ≡ b
    → HoldsSome AreBytes (cond (a && b) (result_ok (decode_of digits)) None)
sized digits true true least most = decoded digits (decode_of digits) refl (grind (arith, nat_tests)) (grind (arith, nat_tests))
sized digits true false least most = tt
sized digits false b least most = tt

pub attr_fits : OfAll AreBytes spelling.bytes_of
attr_fits word = let digits = without_0x word in sized digits (nat_le 2 (length digits)) (nat_le (length digits) 128) refl refl
