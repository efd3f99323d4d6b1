-- Bytes are an attribute exactly where `decode` reads one.
use Rattle.std.proofs.Common.{◌≡◌, Bool, true, List, ℕ, Option, Some, None, Result, Ok, Err, refl}
use Rattle.std.proofs.Common.{sym, ap}
use Rattle.std.specs.Option.{is_some}
use Rattle.std.specs.Result.{is_ok, IfOk}
use Rattle.cred_filecap.specs.declared.refusal.AttrRefusal.{AttrRefusal}
use Rattle.cred_rules.specs.Attribute.{Attribute, Spells, attribute_of}
use Rattle.cred_filecap.proofs.AttributeOf.{attribute_of_is_spelled}

abbrev Reads : List ℕ → Result Attribute AttrRefusal → Type 0
Reads bytes r = (a : Attribute) → Spells bytes a → r ≡ Ok a

none-spelled : (bytes : List ℕ) (e : AttrRefusal) (o : Option Attribute) → attribute_of bytes ≡ o
    → Reads bytes (Err e) → is_ok {T = Attribute} (Err e) ≡ is_some o
none-spelled bytes e None is reads = refl
none-spelled bytes e (Some a) is reads =
    let same : ◌≡◌ {A = Result Attribute AttrRefusal} (Err e) (Ok a) =
    reads a ((attribute_of_is_spelled bytes a).0 is) in
    cc

pub decided : (bytes : List ℕ) (r : Result Attribute AttrRefusal) → IfOk r (λ a. Spells bytes a)
    → Reads bytes r → is_ok r ≡ is_some (attribute_of bytes)
decided bytes (Ok a) spells reads = sym (ap is_some ((attribute_of_is_spelled bytes a).1 spells))
decided bytes (Err e) spells reads = none-spelled bytes e (attribute_of bytes) refl reads
