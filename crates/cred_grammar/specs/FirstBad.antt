-- What is reported of a text that is no script: its first bad line.
use Rattle.std.specs.Prelude.{◌≡◌, ℕ, ◌-◌, ◌≤◌, true, List, length, take, Result, Ok, Err, ⊤}
use Rattle.std.specs.Result.{is_ok}
use Rattle.cred_model.specs.Script.{Script}
use Rattle.cred_spelling.specs.declared.reason.Reason.{Reason}
use Rattle.cred_grammar.specs.declared.refusal.ScriptRefusal.{ScriptRefusal}
use Rattle.cred_grammar.specs.declared.refusal.ScriptRefusal.TheVariants.{Bad, Memory}
use Rattle.cred_grammar.specs.Reading.{nothing}
use Rattle.cred_grammar.specs.Grammar.{add_lines}

-- The lines before it are good by themselves, and with it they are bad, for this reason.
pub record IsFirstBad (texts : List (List ℕ)) (line : ℕ) (reason : Reason) : Type 0 where
  pub above : 1 ≤ line
  pub within : line ≤ length texts
  pub before : is_ok (add_lines nothing (take (line - 1) texts)) ≡ true
  pub bad : add_lines nothing (take line texts) ≡ Err (line, reason)

-- a line that is reported is the first bad one
abbrev pub ReportsFirstBad : List (List ℕ) → Result Script ScriptRefusal → Type 0
ReportsFirstBad texts (Ok script) = ⊤
ReportsFirstBad texts (Err (Bad line reason)) = IsFirstBad texts line reason
ReportsFirstBad texts (Err Memory) = ⊤
