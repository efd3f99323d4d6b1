-- What is said of a word is one text.
use Rattle.std.proofs.Common.{◌≡◌, ◌⊎◌, inl, inr, ℕ, ◌≤◌, ◌++◌, List, codes, refl, sym, ap, subst, ◌∙◌, arith}
use Rattle.hex.specs.Hex.{encode_lower}
use Rattle.cred_captext.specs.Reading.{AreNone, IsRefused}
use Rattle.cred_captext.specs.declared.refusal.TextRefusal.{TextRefusal}
use Rattle.cred_captext.specs.declared.refusal.TextRefusal.TheVariants.{Bad, Mixed}
use Rattle.cred_captext.proofs.Read.{no_text_says_two}
use Rattle.cred_capdata.proofs.RecordLaws.{no_bytes_spell_two}
use Rattle.cred_output.specs.declared.status.Status.{Status}
use Rattle.cred_output.specs.declared.status.Status.TheVariants as status
use Rattle.cred_inspect.specs.Operands.{SaysEither}
use Rattle.cred_inspect.specs.Encoding.{AreBytesOf, IsDigitsOf, IsTextFault, text_refusal}
use Rattle.cred_inspect.specs.Records.{AreBytesAs3, IsRecordText, IsRecordFault, record_text}
use Rattle.cred_inspect.specs.Laws.{NoTextGetsTwoLines, NoRecordGetsTwoLines}
use Rattle.cred_inspect.proofs.OneSpelling.{one_bytes, one_record}

-- ---- one of two texts

-- what was said, with the status that goes with it
abbrev Message : (List ℕ → Type 0) → (List ℕ → Type 0) → Status → List ℕ → Type 0
Message Good Other answer text = ((answer ≡ status.Done) × Good text) ⊎ ((answer ≡ status.Bad) × Other text)

said : (Good Other : List ℕ → Type 0) (answer : Status) (text : List ℕ) → SaysEither Good Other answer text → Message Good Other answer text
said Good Other status.Done text says = inl (refl, says)
said Good Other status.Usage text says = absurd says
said Good Other status.Bad text says = inr (refl, says)
said Good Other status.ReadFault text says = absurd says
said Good Other status.WriteFault text says = absurd says
said Good Other status.Memory text says = absurd says
said Good Other status.TooLarge text says = absurd says
said Good Other status.NotLegal text says = absurd says

-- each of the two kinds has one text, and they have none in common
one-said : (Good Other : List ℕ → Type 0) (first second : Status) (one other : List ℕ)
    → (Good one → Good other → one ≡ other) → (Other one → Other other → one ≡ other)
    → ((x y : List ℕ) → Good x → Other y → ⊥)
    → SaysEither Good Other first one → SaysEither Good Other second other → (first ≡ second) × (one ≡ other)
one-said Good Other first second one other good bad apart says says' =
    elim (said Good Other first one says) [
      | inl done ↦ elim (said Good Other second other says') [
        | inl again ↦ (done.0 ∙ sym again.0, good done.1 again.1)
        | inr refused ↦ absurd (apart one other done.1 refused.1)
      ]
      | inr refused ↦ elim (said Good Other second other says') [
        | inl done ↦ absurd (apart other one done.1 refused.1)
        | inr again ↦ (refused.0 ∙ sym again.0, bad refused.1 again.1)
      ]
    ]

-- ---- texts

one-digits : (text one other : List ℕ) → IsDigitsOf text one → IsDigitsOf text other → one ≡ other
one-digits text one other x y =
    let same = no_text_says_two text x.0 y.0 x.1 y.1 in
    let bytes = one_bytes x.0 x.2.0 y.2.0 x.2.1 (subst (λ a. AreBytesOf a y.2.0) (sym same) y.2.1) in
    x.2.2 ∙ ap (λ (b : List ℕ). encode_lower b ++ codes "\n") bytes ∙ sym y.2.2

one-place : (text : List ℕ) (j k : ℕ) → AreNone text j → AreNone text k → j ≡ k
one-place text j k one other =
    let low : j ≤ k = other.longest j one.within one.begins in
    let high : k ≤ j = one.longest k other.within other.begins in
    omega arith

one-refusal : (text : List ℕ) (d e : TextRefusal) → IsRefused text d → IsRefused text e → d ≡ e
one-refusal text (Bad j) (Bad k) one other = ap Bad (one-place text j k one other)
one-refusal text (Bad j) Mixed one other = absurd (one.none other.clauses other.spells)
one-refusal text Mixed (Bad k) one other = absurd (other.none one.clauses one.spells)
one-refusal text Mixed Mixed one other = refl

one-fault : (text one other : List ℕ) → IsTextFault text one → IsTextFault text other → one ≡ other
one-fault text one other x y =
    x.1.2 ∙ ap text_refusal (one-refusal text x.1.0 y.1.0 x.1.1 y.1.1) ∙ sym y.1.2

pub no_text_gets_two_lines : NoTextGetsTwoLines
no_text_gets_two_lines text one other first second says says' =
    one-said (IsDigitsOf text) (IsTextFault text) first second one other
    (one-digits text one other) (one-fault text one other)
    (λ x y digits fault. fault.0 (digits.0, digits.1)) says says'

-- ---- records

one-text : (bytes one other : List ℕ) → IsRecordText bytes one → IsRecordText bytes other → one ≡ other
one-text bytes one other x y =
    let same = no_bytes_spell_two bytes x.0 y.0 x.1 y.1 in
    let third = one_record x.0 x.2.0 y.2.0 x.2.1 (subst (λ d. AreBytesAs3 d y.2.0) (sym same) y.2.1) in
    x.2.2 ∙ ap (record_text x.0) third ∙ ap (λ d. record_text d y.2.0) same ∙ sym y.2.2

pub no_record_gets_two_lines : NoRecordGetsTwoLines
no_record_gets_two_lines bytes one other first second says says' =
    one-said (IsRecordText bytes) (IsRecordFault bytes) first second one other
    (one-text bytes one other) (λ x y. x.1 ∙ sym y.1)
    (λ x y record' fault. fault.0 (record'.0, record'.1)) says says'
