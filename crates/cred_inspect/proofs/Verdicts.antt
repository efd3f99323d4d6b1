-- What is said of an input of `audit`, and the status that it has.
use Rattle.std.proofs.Common.{◌≡◌, ℕ, List, Option, Some, None, sym, subst}
use Rattle.std.proofs.Common.{Result}
use Rattle.std.specs.Prelude.{IfOk, MatchOption}
use Rattle.std.proofs.lemmas.Result.{IfOk-weaker}
use Rattle.cred_inspect.specs.Auditing.{AuditSuits, IsAuditWithin, Judges, SaysVerdict, no_report_text}
use Rattle.cred_output.specs.Ends.{IsWhole}
use Rattle.cred_inspect.specs.Parts.{input_parts}
use Rattle.cred_output.specs.declared.status.Status.{Status}
use Rattle.cred_output.specs.declared.status.Status.TheVariants as status
use Rattle.cred_output.specs.Messages.{WritesMessage}
use Rattle.cred_output.specs.declared.message.Message.{Message}
use Rattle.cred_output.proofs.Messages.{WroteOne, by_ends, told_one}

judges_whole : (bytes report : List ℕ) (answer : Status) (text : List ℕ) → Judges bytes report answer text → IsWhole answer
judges_whole bytes report status.Done text judged = tt
judges_whole bytes report status.Usage text judged = absurd judged
judges_whole bytes report status.Bad text judged = tt
judges_whole bytes report status.ReadFault text judged = absurd judged
judges_whole bytes report status.WriteFault text judged = absurd judged
judges_whole bytes report status.Memory text judged = absurd judged
judges_whole bytes report status.TooLarge text judged = absurd judged
judges_whole bytes report status.NotLegal text judged = tt

says_by : (parts : Option (List ℕ × List ℕ)) (input : List ℕ) (answer : Status) (text : List ℕ)
    → MatchOption parts ((answer ≡ status.Bad) × (text ≡ no_report_text input)) (λ p. Judges p.0 p.1 answer text) → IsWhole answer
says_by None input answer text says = subst IsWhole (sym says.0) tt
says_by (Some p) input answer text says = judges_whole p.0 p.1 answer text says

-- whatever is said is a whole text
pub says_whole : (input : List ℕ) (answer : Status) (text : List ℕ) → SaysVerdict input answer text → IsWhole answer
says_whole input answer text says = says_by (input_parts input) input answer text says

-- and its status suits the input
pub says_suits : (input : List ℕ) (answer : Status) (text : List ℕ) → IsAuditWithin input → SaysVerdict input answer text → AuditSuits input answer
says_suits input status.Done text within says = (within, (text, says))
says_suits input status.Usage text within says = (within, (text, says))
says_suits input status.Bad text within says = (within, (text, says))
says_suits input status.ReadFault text within says = tt
says_suits input status.WriteFault text within says = within
says_suits input status.Memory text within says = tt
says_suits input status.TooLarge text within says = absurd (says_whole input status.TooLarge text says)
says_suits input status.NotLegal text within says = (within, (text, says))

pub said_verdict : {E : Type 0} (input : List ℕ) (said : Result Message E) (answer : Status) (a b : Option (List ℕ)) (untouched : Type 0)
    → IfOk said (λ s. SaysVerdict input s.status s.text.items) → WritesMessage said answer a b untouched → WroteOne (SaysVerdict input) answer a b untouched
said_verdict input said answer a b untouched says tells =
    told_one (SaysVerdict input) said answer a b untouched says (IfOk-weaker said _ _ (λ s is. says_whole input s.status s.text.items is) says) tells

pub said_suits : (input : List ℕ) (answer : Status) (a b : Option (List ℕ)) (untouched : Type 0) → IsAuditWithin input
    → WroteOne (SaysVerdict input) answer a b untouched → AuditSuits input answer
said_suits input answer a b untouched within said =
    by_ends (AuditSuits input) answer said.ends (λ one. says_suits input answer one.0 within one.1) within tt
