-- What a text says is said once.
use Rattle.std.specs.Prelude.{◌≡◌, List, All}
use Rattle.cred_event.specs.declared.entry.Entry.{Entry}
use Rattle.cred_model.specs.Script.{Script}
use Rattle.cred_report.specs.Text.{entry_text, text}
use Rattle.cred_reader.specs.Fits.{Fits}

-- fitting entries with one text are one
abbrev pub TextsDiffer : Type 0
TextsDiffer =
    (script : Script) → (a b : Entry) → Fits script a → Fits script b
    → entry_text script a ≡ entry_text script b → a ≡ b

-- lists of fitting entries with one text are one
abbrev pub ListsDiffer : Type 0
ListsDiffer =
    (script : Script) → (a b : List Entry) → All (Fits script) a → All (Fits script) b
    → text script a ≡ text script b → a ≡ b
