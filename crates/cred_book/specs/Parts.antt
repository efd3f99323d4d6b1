-- A journal that is written in parts.
use Rattle.std.specs.Prelude.{List, ◌++◌}
use Rattle.cred_event.specs.declared.entry.Entry.{Entry}
use Rattle.cred_model.specs.Script.{Script}
use Rattle.cred_model.specs.Journal.{IsLegal}

-- the journal begins one that is legal for the script
pub record BeginsLegal (script : Script) (journal : List Entry) : Type 0 where
  pub more : List Entry
  pub legal : IsLegal script (journal ++ more)
