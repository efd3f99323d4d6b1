-- What is left at the sink of a text that was to be said.
use Rattle.std.proofs.Common.{◌≡◌, ℕ, ◌⊎◌, inl, inr, List, Option, Result, Ok, Err, sym, subst, ◌∙◌}
use Rattle.std.specs.Prelude.{IfOk}
use Rattle.std.specs.Result.{OnOk, OnErr}
use Rattle.std.specs.Io.KnownBytes.{Appends}
use Rattle.cred_io.specs.Ends.{AppendsPrefix}
use Rattle.cred_io.specs.declared.sink.SinkRefusal.{SinkRefusal}
use Rattle.cred_io.specs.declared.sink.SinkRefusal.TheVariants as sink
use Rattle.cred_output.specs.Ends.{IsWhole, status_after}
use Rattle.cred_output.specs.Messages.{EndsAs, WritesShortText, WritesMessage}
use Rattle.cred_output.specs.declared.message.Message.{Message}
use Rattle.cred_output.specs.declared.status.Status.{Status}
use Rattle.cred_output.specs.declared.status.Status.TheVariants as status
use Rattle.cred_output.proofs.Prefixes.{whole}

-- by what the writing of the text answered
pub told : (its : Status) (text : List ℕ) (r : Result (Unit {0}) SinkRefusal) (answer : Status) (a b : Option (List ℕ)) → IsWhole its
    → OnOk r (Appends a b text) → OnErr r (AppendsPrefix a b text) → answer ≡ status_after r its → WritesShortText its text answer a b
told its text (Ok done) answer a b is all prefix same = record { whole = λ e. all; ends = inl same; prefix = whole a b text all }
told its text (Err sink.Failed) answer a b is all prefix same = record {
  whole = λ e. absurd (subst IsWhole (sym e ∙ same) is);
  ends = inr (inl same);
  prefix = prefix;
}
told its text (Err sink.Memory) answer a b is all prefix same = record {
  whole = λ e. absurd (subst IsWhole (sym e ∙ same) is);
  ends = inr (inr same);
  prefix = prefix;
}

-- what holds of the text's status, and of a fault and of running out of memory
pub by_end : (P : Status → Type 0) (its answer : Status) → EndsAs its answer → P its → P status.WriteFault → P status.Memory → P answer
by_end P its answer (inl e) own fault memory = subst P (sym e) own
by_end P its answer (inr (inl e)) own fault memory = subst P (sym e) fault
by_end P its answer (inr (inr e)) own fault memory = subst P (sym e) memory

-- The same, where it isn't known which status the text has.
pub by_ends : {A : Type 0} (P : Status → Type 0) (answer : Status) → A ⊎ ((answer ≡ status.WriteFault) ⊎ (answer ≡ status.Memory))
    → (A → P answer) → P status.WriteFault → P status.Memory → P answer
by_ends P answer (inl some) own fault memory = own some
by_ends P answer (inr (inl e)) own fault memory = subst P (sym e) fault
by_ends P answer (inr (inr e)) own fault memory = subst P (sym e) memory

pub or_so : {U A B : Type 0} → (A → B) → U ⊎ A → U ⊎ B
or_so f (inl u) = inl u
or_so f (inr some) = inr (f some)

pub same_or_so : {U V A B : Type 0} → (U → V) → (A → B) → U ⊎ A → V ⊎ B
same_or_so g f (inl u) = inl (g u)
same_or_so g f (inr some) = inr (f some)

-- What is left where one of these texts was to be said, each with its status.
pub record WroteOne (P : Status → List ℕ → Type 0) (answer : Status) (a b : Option (List ℕ)) (untouched : Type 0) : Type 0 where
  pub whole : IsWhole answer → (text : List ℕ) × P answer text × Appends a b text
  pub ends : ((text : List ℕ) × P answer text) ⊎ ((answer ≡ status.WriteFault) ⊎ (answer ≡ status.Memory))
  pub no_read_fault : answer ≡ status.ReadFault → ⊥
  pub no_too_large : answer ≡ status.TooLarge → ⊥
  pub prefix : untouched ⊎ ((its : Status) × (text : List ℕ) × P its text × AppendsPrefix a b text)

pub told_one : {E : Type 0} (P : Status → List ℕ → Type 0) (said : Result Message E) (answer : Status) (a b : Option (List ℕ)) (untouched : Type 0)
    → IfOk said (λ s. P s.status s.text.items) → IfOk said (λ s. IsWhole s.status) → WritesMessage said answer a b untouched → WroteOne P answer a b untouched
told_one P (Ok said) answer a b untouched is has tells = record {
  whole = λ all. elim tells.ends [
    | inl e ↦ (said.text.items, subst (λ s. P s said.text.items) (sym e) is, tells.whole e)
    | inr (inl e) ↦ absurd (subst IsWhole e all)
    | inr (inr e) ↦ absurd (subst IsWhole e all)
  ];
  ends = elim tells.ends [ inl e ↦ inl (said.text.items, subst (λ s. P s said.text.items) (sym e) is) | inr other ↦ inr other ];
  no_read_fault = by_end (λ s. s ≡ status.ReadFault → ⊥) said.status answer tells.ends (λ e. subst IsWhole e has) (λ e. cc) (λ e. cc);
  no_too_large = by_end (λ s. s ≡ status.TooLarge → ⊥) said.status answer tells.ends (λ e. subst IsWhole e has) (λ e. cc) (λ e. cc);
  prefix = inr (said.status, said.text.items, is, tells.prefix);
}
told_one P (Err none) answer a b untouched is has tells = record {
  whole = λ all. absurd (subst IsWhole tells.0 all);
  ends = inr (inr tells.0);
  no_read_fault = λ e. let same : status.Memory ≡ status.ReadFault = sym tells.0 ∙ e in cc;
  no_too_large = λ e. let same : status.Memory ≡ status.TooLarge = sym tells.0 ∙ e in cc;
  prefix = inl tells.1;
}
