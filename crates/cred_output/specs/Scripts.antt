-- What a command has read that runs a script.
use Rattle.std.specs.Prelude.{◌≡◌, ◌≤◌, ℕ, length, List, Ok}
use Rattle.std.specs.declared.option.Option.{Option}
use Rattle.cred_ids.specs.Limits.{LINE_LIMIT}
use Rattle.cred_io.specs.Ends.{ReadsAll}
use Rattle.cred_event.specs.declared.entry.Entry.{Entry}
use Rattle.cred_model.specs.Script.{Script, SetupFirst}
use Rattle.cred_grammar.specs.Grammar.{script_of}
use Rattle.cred_output.specs.Ends.{IsWithinLimits}

-- The bytes are within both limits and are this script. The setup's lines come first.
pub record IsScript (bytes : List ℕ) (script : Script) : Type 0 where
  pub within : IsWithinLimits bytes
  pub few : length script.lines ≤ LINE_LIMIT
  pub read : script_of bytes ≡ Ok script
  pub setup : SetupFirst script

-- all that was left was read, and it is this script
pub record ReadsScript (before after : Option (List ℕ)) (script : Script) : Type 0 where
  pub input : List ℕ
  pub read : ReadsAll before after input
  pub is : IsScript input script

-- no journal may come about, since no script was read
abbrev pub NoJournal : Script → List Entry → Type 0
NoJournal script journal = ⊥
