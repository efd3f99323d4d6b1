-- What the status after a text says of the writing of the text.
use Rattle.std.proofs.Common.{◌≡◌, ℕ, Result, Ok, Err, OnOk, sym, subst}
use Rattle.cred_io.specs.Causes.{CountsFaults}
use Rattle.cred_io.specs.declared.sink.SinkRefusal.{SinkRefusal}
use Rattle.cred_io.specs.declared.sink.SinkRefusal.TheVariants as sink
use Rattle.cred_output.specs.Ends.{status_after, IsForText, IsWhole}
use Rattle.cred_output.specs.declared.status.Status.{Status}
use Rattle.cred_output.specs.declared.status.Status.TheVariants as status

-- the status is that of a fault just where the sink failed
pub finished_counts : (r : Result (Unit {0}) SinkRefusal) (answer result : Status) (before now : ℕ) → (answer ≡ status.WriteFault → ⊥)
    → result ≡ status_after r answer → CountsFaults (r ≡ Err sink.Failed) before now → CountsFaults (result ≡ status.WriteFault) before now
finished_counts (Ok done) answer result before now other is counts = record {
  rose = λ fault. absurd (other cc);
  stayed = λ no_fault. counts.stayed (λ failed. cc);
  later = counts.later;
}
finished_counts (Err sink.Failed) answer result before now other is counts = record {
  rose = λ fault. counts.rose cc;
  stayed = λ no_fault. absurd (no_fault is);
  later = counts.later;
}
finished_counts (Err sink.Memory) answer result before now other is counts = record {
  rose = λ fault. cc;
  stayed = λ no_fault. counts.stayed (λ failed. cc);
  later = counts.later;
}

pub finished_for_text : (r : Result (Unit {0}) SinkRefusal) (result : Status) → result ≡ status_after r status.Done → IsForText result
finished_for_text (Ok done) result is = subst IsForText (sym is) tt
finished_for_text (Err sink.Failed) result is = subst IsForText (sym is) tt
finished_for_text (Err sink.Memory) result is = subst IsForText (sym is) tt

-- a status of a text is none that no text has
pub for_text_apart : (result other : Status) → IsForText result → (IsForText other → ⊥) → result ≡ other → ⊥
for_text_apart result other text none same = none (subst IsForText same text)

pub finished_whole : {P : Type 0} (r : Result (Unit {0}) SinkRefusal) (answer result : Status) → OnOk r P → result ≡ status_after r answer → IsWhole result → P
finished_whole (Ok done) answer result handed is whole = handed
finished_whole (Err sink.Failed) answer result handed is whole = absurd (subst IsWhole is whole)
finished_whole (Err sink.Memory) answer result handed is whole = absurd (subst IsWhole is whole)
