-- What reading the words of a line, and what reading a script may answer.
use Rattle.std.specs.Prelude.{◌≡◌, ℕ, Result, Ok, Err, ⊤}
use Rattle.cred_spelling.specs.declared.reason.Reason.{Reason}
use Rattle.cred_grammar.specs.declared.refusal.LineRefusal.{LineRefusal}
use Rattle.cred_grammar.specs.declared.refusal.LineRefusal.TheVariants as line
use Rattle.cred_grammar.specs.declared.refusal.ScriptRefusal.{ScriptRefusal}
use Rattle.cred_grammar.specs.declared.refusal.ScriptRefusal.TheVariants.{Bad, Memory}

-- what was answered is what the definition gives, unless memory ran out
abbrev pub GivesLine : {V A : Type 0} → (V → A) → Result V LineRefusal → Result A Reason → Type 0
GivesLine view (Ok v) given = given ≡ Ok (view v)
GivesLine view (Err (line.Bad reason)) given = given ≡ Err reason
GivesLine view (Err line.Memory) given = ⊤

-- the same of a script
abbrev pub ReadsAs : {V A : Type 0} → (V → A) → Result V ScriptRefusal → Result A (ℕ × Reason)
    → Type 0
ReadsAs view (Ok v) given = given ≡ Ok (view v)
ReadsAs view (Err (Bad number reason)) given = given ≡ Err (number, reason)
ReadsAs view (Err Memory) given = ⊤
