-- What is left where one of two texts was to be said of a word.
use Rattle.std.proofs.Common.{◌≡◌, ℕ, ◌⊎◌, inl, inr, List, Option, Result, sym, subst}
use Rattle.std.specs.Prelude.{IfOk}
use Rattle.std.proofs.lemmas.Result.{IfOk-weaker}
use Rattle.cred_inspect.specs.Operands.{LeavesEither, SaysEither, SuitsOperand}
use Rattle.cred_output.specs.Ends.{IsWhole}
use Rattle.cred_output.specs.Messages.{WritesMessage}
use Rattle.cred_output.specs.declared.message.Message.{Message}
use Rattle.cred_output.specs.declared.status.Status.{Status}
use Rattle.cred_output.specs.declared.status.Status.TheVariants as status
use Rattle.cred_output.proofs.Messages.{WroteOne, by_ends, same_or_so, told_one}

-- whatever is said is a whole text
pub either_whole : (Good Bad : List ℕ → Type 0) (answer : Status) (text : List ℕ) → SaysEither Good Bad answer text → IsWhole answer
either_whole Good Bad status.Done text says = tt
either_whole Good Bad status.Usage text says = absurd says
either_whole Good Bad status.Bad text says = tt
either_whole Good Bad status.ReadFault text says = absurd says
either_whole Good Bad status.WriteFault text says = absurd says
either_whole Good Bad status.Memory text says = absurd says
either_whole Good Bad status.TooLarge text says = absurd says
either_whole Good Bad status.NotLegal text says = absurd says

-- and so of what may be said
pub said_whole : {E : Type 0} (Good Bad : List ℕ → Type 0) (said : Result Message E) → IfOk said (λ s. SaysEither Good Bad s.status s.text.items)
    → IfOk said (λ s. IsWhole s.status)
said_whole Good Bad said says = IfOk-weaker said _ _ (λ s is. either_whole Good Bad s.status s.text.items is) says

either_suits : (Good Bad : List ℕ → Type 0) (answer : Status) (text : List ℕ) → SaysEither Good Bad answer text → SuitsOperand Good Bad answer
either_suits Good Bad status.Done text says = (text, says)
either_suits Good Bad status.Usage text says = absurd says
either_suits Good Bad status.Bad text says = (text, says)
either_suits Good Bad status.ReadFault text says = absurd says
either_suits Good Bad status.WriteFault text says = tt
either_suits Good Bad status.Memory text says = tt
either_suits Good Bad status.TooLarge text says = absurd says
either_suits Good Bad status.NotLegal text says = absurd says

is_either : (Good Bad : List ℕ → Type 0) (answer : Status) (text : List ℕ) → SaysEither Good Bad answer text → Good text ⊎ Bad text
is_either Good Bad status.Done text says = inl says
is_either Good Bad status.Usage text says = absurd says
is_either Good Bad status.Bad text says = inr says
is_either Good Bad status.ReadFault text says = absurd says
is_either Good Bad status.WriteFault text says = absurd says
is_either Good Bad status.Memory text says = absurd says
is_either Good Bad status.TooLarge text says = absurd says
is_either Good Bad status.NotLegal text says = absurd says

by_one : (Good Bad : List ℕ → Type 0) (answer : Status) (a b : Option (List ℕ)) (untouched : Type 0) → (untouched → b ≡ a)
    → WroteOne (SaysEither Good Bad) answer a b untouched → LeavesEither Good Bad answer a b
by_one Good Bad answer a b untouched same said = record {
  done = λ done.
      let all = said.whole (subst IsWhole (sym done) tt) in
      (all.0, subst (λ s. SaysEither Good Bad s all.0) done all.1, all.2);
  bad = λ bad.
      let all = said.whole (subst IsWhole (sym bad) tt) in
      (all.0, subst (λ s. SaysEither Good Bad s all.0) bad all.1, all.2);
  suits = by_ends (SuitsOperand Good Bad) answer said.ends (λ one. either_suits Good Bad answer one.0 one.1) tt tt;
  prefix = same_or_so same (λ one. (one.1, is_either Good Bad one.0 one.1 one.2, one.3)) said.prefix;
}

-- what is left of what may be said
pub leaves_either : {E : Type 0} (Good Bad : List ℕ → Type 0) (said : Result Message E) (answer : Status) (a b : Option (List ℕ)) (untouched : Type 0)
    → (untouched → b ≡ a) → IfOk said (λ s. SaysEither Good Bad s.status s.text.items) → WritesMessage said answer a b untouched → LeavesEither Good Bad answer a b
leaves_either Good Bad said answer a b untouched same says tells =
    by_one Good Bad answer a b untouched same (told_one (SaysEither Good Bad) said answer a b untouched says (said_whole Good Bad said says) tells)
